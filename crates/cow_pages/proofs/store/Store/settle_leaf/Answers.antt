use Rattle.std.proofs.Common.{◌≡◌, List, Option, [], get_or, set, map, refl, sym, ap, ◌∙◌, inl, inr}
use Rattle.std.proofs.lemmas.List.{map-set}
use Rattle.std.proofs.lemmas.Bool.{cases_eq}
use Rattle.page_tables.specs.declared.leaf.Entry.{Entry}
use Rattle.page_tables.specs.Leaf.{Leaf, present, cleared}
use Rattle.page_tables.proofs.LeafLemmas.{present-cleared}
use Rattle.page_tables.proofs.ListLemmas.{entry_read, field-was, field-here, field-other, slots-set}
use Rattle.cow_pages.proofs.store.Store.settle_leaf.Goals as goal

pub returns-then-holders-eq1 : goal.returns-then-holders-eq1
returns-then-holders-eq1 c =
    let leaves = c.args.self.now.leaves.items in
    let l = c.args.leaf in
    let x = c.index_mut.result.now in
    let y = c.settle.new.self in
    let entries = entry_read leaves l x c.requires.within c.index_mut.ensures.value in
    let mapped = field-was (λ (it : Leaf). it.mapped) leaves l x 0 c.requires.within c.index_mut.ensures.value in
    let settled : y.entries ≡ map cleared (get_or (map (λ (it : Leaf). it.entries) leaves) l []) = c.settle.ensures.entries ∙ ap (λ (es : List (Option Entry)). map cleared es) (sym entries) in
    record {
      own = λ one. map-set (λ (it : Leaf). it.entries) leaves l y ∙ ap (λ (es : List (Option Entry)). set (map (λ (it : Leaf). it.entries) leaves) l es) settled;
      shared = λ more. absurd (more (sym c.holders.ensures ∙ c.if-holders-eq1.true));
      slots = λ slots. slots-set leaves l y c.requires.within (c.settle.ensures.mapped ∙ sym mapped ∙ slots l ∙ sym (ap present settled ∙ present-cleared (get_or (map (λ (it : Leaf). it.entries) leaves) l []))) slots;
      kept = λ k. elim (cases_eq k l) [
        | inl here ↦
            ap (λ n. get_or (map (λ (it : Leaf). it.mapped) (set leaves l y)) n 0) here ∙ field-here (λ (it : Leaf). it.mapped) leaves l y 0 c.requires.within ∙ c.settle.ensures.mapped
            ∙ sym (ap (λ n. get_or (map (λ (it : Leaf). it.mapped) leaves) n 0) here ∙ mapped)
        | inr off ↦ field-other (λ (it : Leaf). it.mapped) leaves l k y 0 off
      ];
      rest = refl;
    }

pub returns-else-holders-eq1 : goal.returns-else-holders-eq1
returns-else-holders-eq1 c = record {
  own = λ one. absurd (c.if-holders-eq1.false (c.holders.ensures ∙ one));
  shared = λ more. refl;
  slots = λ slots. slots;
  kept = λ k. refl;
  rest = refl;
}
