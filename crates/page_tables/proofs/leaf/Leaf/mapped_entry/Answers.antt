use Rattle.std.proofs.Common.{◌≡◌, None, Option, IsTrue, is_some, false, get_or, sym, ap, subst, ◌∙◌, arith}
use Rattle.page_tables.specs.declared.leaf.Entry.{Entry}
use Rattle.page_tables.specs.Leaf.{Leaf}
use Rattle.page_tables.specs.Slots.{entry_of}
use Rattle.page_tables.proofs.SlotsLemmas.{entries-at, entry-there}
use Rattle.page_tables.proofs.leaf.Leaf.mapped_entry.Goals as goal

pub returns : goal.returns
returns c =
    let fs = c.self.inside.frames in
    let ws = c.self.inside.written in
    let i = c.args.slot in
    let at : get_or c.args.self.now.entries i None ≡ entry_of (get_or fs i 0) (get_or ws i false) =
    sym (ap (λ (l : Leaf). get_or l.entries i None) c.self.view_is)
    ∙ entries-at fs ws i (omega (arith, c.self.invariant.frame_len, c.self.invariant.flag_len)) (omega (arith, c.requires.within, c.self.invariant.frame_len)) in
    at ∙ entry-there (get_or fs i 0) (get_or ws i false) (subst (λ (o : Option Entry). IsTrue (is_some o)) at c.requires.mapped)
