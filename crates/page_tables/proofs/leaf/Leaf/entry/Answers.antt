use Rattle.std.proofs.Common.{List, None, Option, get_or, sym, ap, ◌∙◌, arith}
use Rattle.page_tables.specs.Leaf.{Leaf}
use Rattle.page_tables.proofs.SlotsLemmas.{entries-at, entry_of-none, entry_of-some}
use Rattle.page_tables.proofs.leaf.Leaf.entry.Goals as goal

pub returns-then-frame : goal.returns-then-frame
returns-then-frame c =
    let fs = c.self.inside.frames in
    let ws = c.self.inside.written in
    let at = entries-at fs ws c.args.slot (omega (arith, c.self.invariant.frame_len, c.self.invariant.flag_len)) (omega (arith, c.requires, c.self.invariant.frame_len)) in
    sym (sym (ap (λ (l : Leaf). get_or l.entries c.args.slot None) c.self.view_is) ∙ at ∙ entry_of-none (get_or fs c.args.slot 0) (get_or ws c.args.slot Rattle.std.proofs.Common.false) c.if-frame.true)

pub returns : goal.returns
returns c =
    let fs = c.self.inside.frames in
    let ws = c.self.inside.written in
    let at = entries-at fs ws c.args.slot (omega (arith, c.self.invariant.frame_len, c.self.invariant.flag_len)) (omega (arith, c.requires, c.self.invariant.frame_len)) in
    sym (sym (ap (λ (l : Leaf). get_or l.entries c.args.slot None) c.self.view_is) ∙ at ∙ entry_of-some (get_or fs c.args.slot 0) (get_or ws c.args.slot Rattle.std.proofs.Common.false) c.if-frame.false)
