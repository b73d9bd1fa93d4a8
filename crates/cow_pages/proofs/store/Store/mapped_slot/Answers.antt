use Rattle.std.proofs.Common.{List, Option, None, IsTrue, is_some, get_or, ap, subst, ◌∙◌}
use Rattle.page_tables.specs.declared.leaf.Entry.{Entry}
use Rattle.page_tables.proofs.ListLemmas.{entry_read}
use Rattle.cow_pages.proofs.store.Store.mapped_slot.Goals as goal

pub mapped_entry-requires-clause-mapped : goal.mapped_entry-requires-clause-mapped
mapped_entry-requires-clause-mapped c =
    let read = entry_read c.args.self.now.leaves.items c.args.leaf c.index.result.now c.requires.leaf c.index.ensures in
    subst (λ (es : List (Option Entry)). IsTrue (is_some (get_or es c.args.slot None))) read c.requires.mapped

pub returns : goal.returns
returns c =
    ap (λ (es : List (Option Entry)). get_or es c.args.slot None) (entry_read c.args.self.now.leaves.items c.args.leaf c.index.result.now c.requires.leaf c.index.ensures)
    ∙ c.mapped_entry.ensures
