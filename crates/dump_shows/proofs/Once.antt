-- Objects that stand at different addresses: each address finds one.
use Rattle.std.proofs.Common.{◌≡◌, ℕ, suc, ◌<◌, Bool, List, [], ◌∷◌, Some, map, filter, nat_eq, slice_get, refl, sym, ap, ◌∙◌, inl, inr, arith}
use Rattle.std.proofs.lemmas.Bool.{eq-eqb, ne_eqb}
use Rattle.class_layout.specs.Placing.{IsIn}
use Rattle.heap_graph.specs.Graph.{Object}
use Rattle.dump_shows.proofs.ListParts.{filter-no, filter-yes}

at-index : {X : Type 0} (xs : List X) (x : X) → IsIn x xs → (k : ℕ) × (slice_get xs k ≡ Some x)
at-index [] x there = absurd there
at-index (y ∷ xs) x (inl e) = (0, ap (λ z. Some z) e)
at-index (y ∷ xs) x (inr there) = let r = at-index xs x there in (suc r.0, r.1)

-- elements that stand at different places
abbrev pub AreApart : {X : Type 0} → (X → ℕ) → List X → Type 0
AreApart at [] = Unit {0}
AreApart {X} at (x ∷ xs) = ((y : X) → IsIn y xs → at x ≡ at y → ⊥) × AreApart at xs

module _ {X Y : Type 0} (at : X → ℕ) (show : X → Y) (test : ℕ → Y → Bool) (tests : (id : ℕ) (x : X) → test id (show x) ≡ nat_eq (at x) id) where
  pub none-at : (id : ℕ) (xs : List X) → ((y : X) → IsIn y xs → at y ≡ id → ⊥) → filter (test id) (map show xs) ≡ []
  none-at id [] ne = refl
  none-at id (x ∷ xs) ne =
      filter-no (test id) (show x) (map show xs) (tests id x ∙ ne_eqb (at x) id (ne x (inl refl))) ∙ none-at id xs (λ y there. ne y (inr there))

  pub one-at : (xs : List X) (x : X) → AreApart at xs → IsIn x xs → filter (test (at x)) (map show xs) ≡ show x ∷ []
  one-at [] x apart there = absurd there
  one-at (y ∷ xs) x apart (inl same) =
      filter-yes (test (at x)) (show y) (map show xs) (tests (at x) y ∙ eq-eqb (at y) (at x) (ap at same))
      ∙ ap (λ l. show y ∷ l) (none-at (at x) xs (λ z there e. apart.0 z there (ap at same ∙ sym e))) ∙ ap (λ z. show z ∷ []) same
  one-at (y ∷ xs) x apart (inr there) =
      filter-no (test (at x)) (show y) (map show xs) (tests (at x) y ∙ ne_eqb (at y) (at x) (apart.0 x there)) ∙ one-at xs x apart.1 there

-- by rising numbers, each object stands at an address of its own
pub rising-apart : (table : ℕ → ℕ) (all : List Object) → ((a b : Object) → IsIn a all → IsIn b all → table a.number ≡ table b.number → a ≡ b)
    → (os : List Object) → ((a : Object) → IsIn a os → IsIn a all) → ((i j : ℕ) (a b : Object) → i < j → slice_get os i ≡ Some a → slice_get os j ≡ Some b → a.number < b.number)
    → AreApart (λ (o : Object). table o.number) os
rising-apart table all apart [] within rising = tt
rising-apart table all apart (o ∷ os) within rising = (
  λ b there e.
      let same : o ≡ b = apart o b (within o (inl refl)) (within b (inr there)) e in
      let i = at-index os b there in
      let less : o.number < b.number = rising 0 (suc i.0) o b (omega arith) refl i.1 in
      absurd (omega (arith, ap (λ (x : Object). x.number) same)),
  rising-apart table all apart os (λ a there. within a (inr there)) (λ i j a b less ha hb. rising (suc i) (suc j) a b (omega arith) ha hb),
)
