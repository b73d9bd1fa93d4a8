-- What a view says of its graph and table, for a formed graph.
use Rattle.std.proofs.Common.{◌≡◌, ◌≢◌, ℕ, zero, suc, ◌+◌, ◌<◌, ◌≤◌, inl, inr, true, false, true≢false, List, [], ◌∷◌, Some, length, get_or, nat_eq, slice_get, refl, sym, ap, subst, ◌∙◌, arith}
use Rattle.std.specs.Prelude.{IsSomeAnd}
use Rattle.std.proofs.lemmas.Bool.{or_cases, eqb-true}
use Rattle.std.proofs.lemmas.Option.{same_Some, none-some}
use Rattle.class_layout.specs.ClassList.{Class}
use Rattle.class_layout.specs.Placing.{IsIn}
use Rattle.heap_graph.specs.declared.names.Held.{Held}
use Rattle.heap_graph.specs.declared.names.Held.TheVariants as held
use Rattle.heap_graph.specs.declared.names.Root.{Root}
use Rattle.heap_graph.specs.declared.names.Shape.{Shape}
use Rattle.heap_graph.specs.declared.names.Shape.TheVariants.{Instance, Array}
use Rattle.heap_graph.specs.Graph.{Graph, Object}
use Rattle.heap_graph.specs.Paths.{numbers}
use Rattle.heap_graph.specs.Reach.{is_among}
use Rattle.heap_graph.specs.Sizes.{is_too_large}
use Rattle.heap_graph.specs.Table.{Fits}
use Rattle.heap_graph.specs.Values.{slot_of}
use Rattle.heap_graph.specs.Formed.{AreRising, IsFormed, IsShape}
use Rattle.heap_world.proofs.FormedAims.{Aims, RootsAim, closed_roots}
use Rattle.address_table.specs.Computed.{first_homes}
use Rattle.address_table.proofs.Fitting.{fits, object-not-null}
use Rattle.address_table.proofs.Homes.{suffice}
use Rattle.object_view.specs.Objects.{IsKnown}
use Rattle.heap_graph.proofs.Places.{object-in}
use Rattle.object_view.specs.Seen.{root_address, IsShown}
use Rattle.plain_view.specs.Viewed.{first_table}

-- numbers that rise from one on
rises-from : (low next : ℕ) (os : List Object) (j : ℕ) (b : Object) → AreRising low next os → slice_get os j ≡ Some b → low ≤ b.number
rises-from low next [] j b rising e = absurd (none-some b e)
rises-from low next (o ∷ os) zero b rising e = subst (λ (x : Object). low ≤ x.number) (same_Some o b e) rising.0
rises-from low next (o ∷ os) (suc j) b rising e = let rest = rises-from (o.number + 1) next os j b rising.1 e in omega (arith, rest, rising.0)

rises : (low next : ℕ) (os : List Object) (i j : ℕ) (a b : Object) → AreRising low next os → i < j → slice_get os i ≡ Some a → slice_get os j ≡ Some b → a.number < b.number
rises low next [] i j a b rising less at_i at_j = absurd (none-some a at_i)
rises low next (o ∷ os) i zero a b rising less at_i at_j = absurd (omega (arith, less))
rises low next (o ∷ os) zero (suc j) a b rising less at_i at_j =
    let above = rises-from (o.number + 1) next os j b rising.1 at_j in
    subst (λ (x : Object). x.number < b.number) (same_Some o a at_i) (omega (arith, above))
rises low next (o ∷ os) (suc i) (suc j) a b rising less at_i at_j = rises (o.number + 1) next os i j a b rising.1 (omega (arith, less)) at_i at_j

known : (cs : List Class) (shape : Shape) → IsShape cs shape → IsKnown cs shape
known cs (Instance class) h = h.0
known cs (Array kind count) h = tt

small : (cs : List Class) (shape : Shape) → IsShape cs shape → is_too_large cs shape ≡ false
small cs (Instance class) h = h.1
small cs (Array kind count) h = h

pub first-fits : (g : Graph) → IsFormed g → Fits (first_table g) g
first-fits g formed = fits (first_homes g.budget) g formed (suffice g formed)

pub first-not-null : (g : Graph) → IsFormed g → (o : Object) → IsIn o g.objects → first_table g o.number ≢ 0
first-not-null g formed = object-not-null (first_homes g.budget) g formed (suffice g formed)

pub shown : (g : Graph) → IsFormed g → IsShown g (first_table g)
shown g formed = record {
  rising = λ i j a b. rises 0 g.next g.objects i j a b formed.numbers;
  known = λ o h. known g.classes o.shape (object-in g.classes g.objects o formed.objects h).0;
  small = λ o h. small g.classes o.shape (object-in g.classes g.objects o formed.objects h).0;
  not_null = first-not-null g formed;
  fits = first-fits g formed;
}

-- an object has a number that is among the numbers
numbered : (os : List Object) (n : ℕ) → is_among (numbers os) n ≡ true → (o : Object) × (IsIn o os × (o.number ≡ n))
numbered [] n h = absurd (true≢false (sym h))
numbered (x ∷ os) n h = elim (or_cases (nat_eq n x.number) (is_among (numbers os) n) h) [
  | inl here ↦ (x, (inl refl, sym (eqb-true n x.number here)))
  | inr later ↦ let rest : (o : Object) × (IsIn o os × (o.number ≡ n)) = numbered os n later in (rest.0, (inr rest.1.0, rest.1.1))
]

-- what one root holds
root-aims : (ns : List ℕ) (rs : List Root) (k : ℕ) (r : Root) → RootsAim ns rs → slice_get rs k ≡ Some r → Aims ns (slot_of r.holds)
root-aims ns [] k r aims e = absurd (none-some r e)
root-aims ns (x ∷ rs) zero r aims e = subst (λ (y : Root). Aims ns (slot_of y.holds)) (same_Some x r e) aims.0
root-aims ns (x ∷ rs) (suc k) r aims e = root-aims ns rs k r aims.1 e

-- a root whose address is 0 holds nothing
null-root : (g : Graph) (k : ℕ) (r : Root) → IsFormed g → slice_get g.roots k ≡ Some r → root_address (first_table g) r.holds ≡ 0 → r.holds ≡ held.Null
null-root g k r formed at = by r.holds (root-aims (numbers g.objects) g.roots k r (closed_roots g formed.closed) at)
  where
    by : (h : Held) → Aims (numbers g.objects) (slot_of h) → root_address (first_table g) h ≡ 0 → h ≡ held.Null
    by held.Null aims e = refl
    by (held.Object n) aims e =
        let o = numbered g.objects n aims in
        absurd (first-not-null g formed o.0 o.1.0 (ap (first_table g) o.1.1 ∙ e))

-- what a root holds is told of the root at its place
some-root : (rs : List Root) (k : ℕ) (d : Root) (h : Held) (Q : Root → Type 0) → k < length rs → (get_or rs k d).holds ≡ h
    → ((r : Root) → slice_get rs k ≡ Some r → r.holds ≡ h → Q r) → IsSomeAnd (slice_get rs k) Q
some-root [] k d h Q less e q = absurd (omega (arith, less))
some-root (r ∷ rs) zero d h Q less e q = q r refl e
some-root (r ∷ rs) (suc k) d h Q less e q = some-root rs k d h Q (omega (arith, less)) e q

module _ (g : Graph) (k n at : ℕ) (xs : List Root) (d : Root) (xs-is : xs ≡ g.roots) (less : k < length g.roots) (e : (get_or xs k d).holds ≡ held.Object n)
    (at-is : at ≡ first_table g n) where
  holds : (get_or g.roots k d).holds ≡ held.Object n
  holds = ap (λ (ys : List Root). (get_or ys k d).holds) (sym xs-is) ∙ e

  address : (r : Root) → r.holds ≡ held.Object n → at ≡ root_address (first_table g) r.holds
  address r h = at-is ∙ ap (root_address (first_table g)) (sym h)

  -- the address of a root that holds an object
  pub root-value : IsSomeAnd (slice_get g.roots k) (λ r. at ≡ root_address (first_table g) r.holds)
  root-value = some-root g.roots k d (held.Object n) (λ r. at ≡ root_address (first_table g) r.holds) less holds (λ r there h. address r h)

  pub root-null : IsFormed g → IsSomeAnd (slice_get g.roots k) (λ r. at ≡ 0 → r.holds ≡ held.Null)
  root-null formed =
      some-root g.roots k d (held.Object n) (λ r. at ≡ 0 → r.holds ≡ held.Null) less holds (λ r there h zero_at. null-root g k r formed there (sym (address r h) ∙ zero_at))
