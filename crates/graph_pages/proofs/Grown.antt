-- A graph with one object more, under the computed table.
use Rattle.std.proofs.Common.{◌≡◌, ◌∙◌, ℕ, ◌+◌, ◌<◌, List, [], ◌∷◌, refl, sym, ap, inl, inr, arith}
use Rattle.std.specs.Prelude.{nat_eq}
use Rattle.std.proofs.lemmas.Bool.{cases_order, eqb-true}
use Rattle.class_layout.specs.declared.kind.FieldAt.{FieldAt}
use Rattle.class_layout.specs.Placing.{IsIn}
use Rattle.heap_graph.specs.declared.names.Content.{Content}
use Rattle.heap_graph.specs.declared.names.Content.TheVariants as content
use Rattle.heap_graph.specs.declared.names.Place.{Place}
use Rattle.heap_graph.specs.declared.names.Shape.{Shape}
use Rattle.heap_graph.specs.declared.names.Stored.{Stored}
use Rattle.heap_graph.specs.Allocation.{with_object}
use Rattle.heap_graph.specs.Graph.{Graph, Object}
use Rattle.heap_graph.specs.Reach.{is_among}
use Rattle.heap_graph.specs.Sizes.{size_in}
use Rattle.heap_graph.specs.Values.{targets, value_at}
use Rattle.heap_graph.proofs.Lists.{any-flat_map, any-map}
use Rattle.heap_graph.specs.Formed.{AreRising, IsFormed}
use Rattle.object_view.specs.Seen.{seen_value}
use Rattle.address_table.specs.Computed.{table_of, Homes, HouseAll}
use Rattle.address_table.proofs.Beside.{computed-apart}
use Rattle.address_table.proofs.Fitting.{fits}
use Rattle.graph_pages.specs.Holds.{IsBeside, SameTable}
use Rattle.graph_pages.proofs.Collects.{held-target}
use Rattle.graph_pages.proofs.Computed.{table-grown}
use Rattle.graph_pages.proofs.Lists.{any-from, any-to, in-front, in-last}

-- numbers lie below the next one
rising-below : (low next : ℕ) (os : List Object) (o : Object) → AreRising low next os → IsIn o os → o.number < next
rising-below low next [] o h there = absurd there
rising-below low next (p ∷ []) o h (inl e) = let same : p.number ≡ o.number = ap (λ (q : Object). q.number) e in omega (arith, h.1, same)
rising-below low next (p ∷ q ∷ os) o h (inl e) =
    let same : p.number ≡ o.number = ap (λ (q : Object). q.number) e in
    let rest = rising-below (p.number + 1) next (q ∷ os) q h.1 (inl refl) in
    omega (arith, same, rest, h.1.0)
rising-below low next (p ∷ os) o h (inr there) = rising-below (p.number + 1) next os o h.1 there

-- what a slot holds is there
target-below : (g : Graph) (o : Object) (p : FieldAt) (n : ℕ) → IsFormed g → IsIn o g.objects → value_at o.slots p ≡ content.Object n → n < g.next
target-below g o p n formed o_in is =
    let among = formed.closed.slots n (any-flat_map (λ q. targets q.slots) (nat_eq n) g.objects ∙ any-to (λ q. is_among (targets q.slots) n) g.objects o o_in (held-target o.slots p n is)) in
    let it = any-from (λ q. nat_eq n q.number) g.objects (sym (any-map (λ q. q.number) (nat_eq n) g.objects) ∙ among) in
    let same : n ≡ it.0.number = eqb-true n it.0.number it.2 in
    let below = rising-below 0 g.next g.objects it.0 formed.numbers it.1 in
    omega (arith, same, below)

-- the others stay where they are
pub grown-same : (homes : Homes) (g : Graph) (shape : Shape) (slots : List Stored) (place : Place) → IsFormed g → SameTable (table_of homes g) (table_of homes (with_object g shape slots place)) g.objects
grown-same homes g shape slots place formed = record {
  numbers = λ o there. stays o.number (rising-below 0 g.next g.objects o formed.numbers there);
  values = λ o p there. by (value_at o.slots p) (λ n is. target-below g o p n formed there is);
}
  where
    stays : (k : ℕ) → k < g.next → table_of homes (with_object g shape slots place) k ≡ table_of homes g k
    stays k less = table-grown homes g.classes k (record { number = g.next; shape = shape; slots = slots; place = place }) 0 0 g.objects (λ e. omega (arith, less, e))

    by : (c : Content) → ((n : ℕ) → c ≡ content.Object n → n < g.next) → seen_value (table_of homes (with_object g shape slots place)) c ≡ seen_value (table_of homes g) c
    by (content.Number z) below = refl
    by content.Null below = refl
    by (content.Object n) below = ap (λ m. seen_value (λ k. m) (content.Object n)) (stays n (below n refl))

-- and the new one lies beside them
pub new-beside : (homes : Homes) (g : Graph) (shape : Shape) (slots : List Stored) (place : Place) → IsFormed g → IsFormed (with_object g shape slots place) → HouseAll homes (with_object g shape slots place)
    → SameTable (table_of homes g) (table_of homes (with_object g shape slots place)) g.objects
    → IsBeside g.classes (table_of homes g) g.objects (table_of homes (with_object g shape slots place) g.next) (size_in g.classes shape)
new-beside homes g shape slots place formed after house same o there =
    let h : Graph = with_object g shape slots place in
    let new : Object = record { number = g.next; shape = shape; slots = slots; place = place } in
    let at : table_of homes h o.number ≡ table_of homes g o.number = same.numbers o there in
    let o_in : IsIn o h.objects = in-front g.objects new o there in
    let new_in : IsIn new h.objects = in-last g.objects new in
    elim (cases_order (table_of homes h o.number) (table_of homes h g.next)) [
      | inl e ↦ absurd (let one : o ≡ new = (fits homes h after house).apart o new o_in new_in e in
          let number : o.number ≡ g.next = ap (λ (q : Object). q.number) one in
          omega (arith, number, rising-below 0 g.next g.objects o formed.numbers there))
      | inr two ↦ elim two [
        | inl low ↦ inl (let it = computed-apart homes h after house o new o_in new_in low in omega (arith, it, at))
        | inr high ↦ inr (let it = computed-apart homes h after house new o new_in o_in high in omega (arith, it, at))
      ]
    ]
