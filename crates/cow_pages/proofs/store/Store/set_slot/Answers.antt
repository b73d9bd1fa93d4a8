use Rattle.std.proofs.Common.{List, Option, length, set, map, sym, ap, ◌∙◌}
use Rattle.std.proofs.lemmas.List.{map-set}
use Rattle.page_tables.specs.declared.leaf.Entry.{Entry}
use Rattle.page_tables.specs.Leaf.{Leaf, present}
use Rattle.page_tables.proofs.ListLemmas.{entry_read, field-was, field-other, slots-set}
use Rattle.cow_pages.proofs.store.Store.set_slot.Goals as goal

pub set-requires-clause-len : goal.set-requires-clause-len
set-requires-clause-len c =
    let x = c.index_mut.result.now in
    sym (ap (λ (es : List (Option Entry)). length es) (entry_read c.args.self.now.leaves.items c.args.leaf x c.requires.within c.index_mut.ensures.value)) ∙ c.requires.len

pub set-requires-clause-mapped : goal.set-requires-clause-mapped
set-requires-clause-mapped c =
    let x = c.index_mut.result.now in
    sym (field-was (λ (it : Leaf). it.mapped) c.args.self.now.leaves.items c.args.leaf x 0 c.requires.within c.index_mut.ensures.value) ∙ c.requires.slots c.args.leaf
    ∙ ap present (entry_read c.args.self.now.leaves.items c.args.leaf x c.requires.within c.index_mut.ensures.value)

pub returns-clause-grid : goal.returns-clause-grid
returns-clause-grid c =
    let x = c.index_mut.result.now in
    let leaves = c.args.self.now.leaves.items in
    map-set (λ (it : Leaf). it.entries) leaves c.args.leaf c.set.new.self
    ∙ ap (λ (es : List (Option Entry)). set (map (λ (it : Leaf). it.entries) leaves) c.args.leaf es)
    (c.set.ensures.entries ∙ ap (λ (es : List (Option Entry)). set es c.args.slot c.args.entry) (sym (entry_read leaves c.args.leaf x c.requires.within c.index_mut.ensures.value)))

pub returns-clause-slots : goal.returns-clause-slots
returns-clause-slots c = slots-set c.args.self.now.leaves.items c.args.leaf c.set.new.self c.requires.within c.set.ensures.mapped c.requires.slots

pub returns-clause-pages : goal.returns-clause-pages
returns-clause-pages c = λ l off. field-other (λ (it : Leaf). it.mapped) c.args.self.now.leaves.items c.args.leaf l c.set.new.self 0 off
