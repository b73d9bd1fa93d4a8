use Rattle.std.proofs.Common.{◌≡◌, List, Option, set, map, sym, ap, ◌∙◌}
use Rattle.std.proofs.lemmas.List.{map-set}
use Rattle.page_tables.specs.declared.leaf.Entry.{Entry}
use Rattle.page_tables.specs.Leaf.{Leaf, present}
use Rattle.page_tables.proofs.ListLemmas.{entry_read, field-was, field-other, slots-set}
use Rattle.cow_pages.proofs.store.Store.copy_entries.Goals as goal

pub returns-clause-grid : goal.returns-clause-grid
returns-clause-grid c =
    let leaves = c.args.self.now.leaves.items in
    map-set (λ (it : Leaf). it.entries) leaves c.args.to c.copied-copy.result
    ∙ ap (λ (es : List (Option Entry)). set (map (λ (it : Leaf). it.entries) leaves) c.args.to es)
    (ap (λ (l : Leaf). l.entries) c.copied-copy.ensures ∙ sym (entry_read leaves c.args.from c.index.result.now c.requires.from_within c.index.ensures))

pub returns-clause-slots : goal.returns-clause-slots
returns-clause-slots c = λ slots.
    let leaves = c.args.self.now.leaves.items in
    let copy = c.copied-copy.result in
    let mapped = field-was (λ (it : Leaf). it.mapped) leaves c.args.from c.index.result.now 0 c.requires.from_within c.index.ensures in
    let entries = entry_read leaves c.args.from c.index.result.now c.requires.from_within c.index.ensures in
    let counted : copy.mapped ≡ present copy.entries =
    ap (λ (l : Leaf). l.mapped) c.copied-copy.ensures ∙ sym mapped ∙ slots c.args.from ∙ ap present entries ∙ sym (ap (λ (l : Leaf). present l.entries) c.copied-copy.ensures) in
    slots-set leaves c.args.to copy c.requires.to_within counted slots

pub returns-clause-pages : goal.returns-clause-pages
returns-clause-pages c = λ l off. field-other (λ (it : Leaf). it.mapped) c.args.self.now.leaves.items c.args.to l c.copied-copy.result 0 off
