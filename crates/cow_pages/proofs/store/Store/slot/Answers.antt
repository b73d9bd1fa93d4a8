use Rattle.std.proofs.Common.{List, Option, None, get_or, sym, ap, ◌∙◌}
use Rattle.page_tables.specs.declared.leaf.Entry.{Entry}
use Rattle.page_tables.proofs.ListLemmas.{entry_read}
use Rattle.cow_pages.proofs.store.Store.slot.Goals as goal

pub returns : goal.returns
returns c = c.entry.ensures ∙ ap (λ (es : List (Option Entry)). get_or es c.args.slot None) (sym (entry_read c.args.self.now.leaves.items c.args.leaf c.index.result.now c.requires.leaf c.index.ensures))
