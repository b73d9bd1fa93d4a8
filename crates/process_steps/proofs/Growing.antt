-- A graph with one object more: its addresses, its young objects, and its rows.
use Rattle.std.proofs.Common.{◌≡◌, ◌∙◌, ℕ, ◌<◌, ◌≤◌, cond, List, [], ◌∷◌, ◌++◌, nat_eq, refl, ap, arith}
use Rattle.class_layout.specs.ClassList.{Class}
use Rattle.heap_graph.specs.declared.names.Place.{Place}
use Rattle.heap_graph.specs.declared.names.Place.TheVariants as place
use Rattle.heap_graph.specs.Graph.{size_of_object, Object}
use Rattle.heap_graph.specs.Packing as packing
use Rattle.heap_graph.proofs.Sizes.{size-least}
use Rattle.address_table.specs.Computed.{address_in, end_behind, large_behind, large_count, packed_at, slot_at, table_from, Homes}
use Rattle.large_objects.specs.declared.rows.LargeRow.{LargeRow}
use Rattle.evacuate.specs.Stands.{rows_from, with_row}
use Rattle.address_table.proofs.Behind.{count-rises, last-rises, last_end}

-- in homes that agree on packing places below an end, and on so many slots, objects have the same addresses
module _ (one two : Homes) (cs : List Class) (last most : ℕ) (packed : (p : ℕ) → p < last → packed_at two.regions p ≡ packed_at one.regions p)
    (slots : (k : ℕ) → k < most → slot_at two.slots k ≡ slot_at one.slots k) where
  address-same : (end large : ℕ) (o : Object) (at : Place) → end_behind cs end o at ≤ last → large_behind large at ≤ most → address_in two cs end large o at ≡ address_in one cs end large o at
  address-same end large o (place.Image spot) low few = refl
  address-same end large o (place.Zygote spot) low few = refl
  address-same end large o place.Young low few = packed (packing.place end (size_of_object cs o)) (omega (arith, low, size-least cs o))
  address-same end large o place.Large low few = slots large (omega (arith, few))
  address-same end large o place.Promoted low few = slots large (omega (arith, few))

  pub table-same : (end large : ℕ) (os : List Object) (n : ℕ) → last_end cs end os ≤ last → large_count large os ≤ most → table_from two cs end large os n ≡ table_from one cs end large os n
  table-same end large [] n low few = refl
  table-same end large (o ∷ os) n low few =
      let behind : ℕ = end_behind cs end o o.place in
      let more : ℕ = large_behind large o.place in
      ap (λ a. cond (nat_eq o.number n) a (table_from two cs behind more os n))
      (address-same end large o o.place (omega (arith, low, last-rises cs behind os)) (omega (arith, few, count-rises more os)))
      ∙ ap (λ a. cond (nat_eq o.number n) (address_in one cs end large o o.place) a) (table-same behind more os n low few)

-- the slots of the last object have no part in its address
pub table-last : (homes : Homes) (cs : List Class) (n : ℕ) (one two : Object) → two.number ≡ one.number
    → ((end large : ℕ) → address_in homes cs end large two two.place ≡ address_in homes cs end large one one.place) → (end large : ℕ) (os : List Object)
    → table_from homes cs end large (os ++ two ∷ []) n ≡ table_from homes cs end large (os ++ one ∷ []) n
table-last homes cs n one two number same end large [] = ap (λ m. cond (nat_eq m n) (address_in homes cs end large two two.place) 0) number ∙ ap (λ a. cond (nat_eq one.number n) a 0) (same end large)
table-last homes cs n one two number same end large (o ∷ os) =
    ap (λ a. cond (nat_eq o.number n) (address_in homes cs end large o o.place) a) (table-last homes cs n one two number same (end_behind cs end o o.place) (large_behind large o.place) os)

-- how many large ones there are
pub count-push : (large : ℕ) (os : List Object) (o : Object) → large_count large (os ++ o ∷ []) ≡ large_behind (large_count large os) o.place
count-push large [] o = refl
count-push large (x ∷ os) o = count-push (large_behind large x.place) os o

-- a last one without a slot has no row
pub rows-push : (cs : List Class) (slots : List ℕ) (k : ℕ) (os : List Object) (o : Object) → ((j : ℕ) (rows : List LargeRow) → with_row cs slots j o o.place rows ≡ rows) → rows_from cs slots k (os ++ o ∷ []) ≡ rows_from cs slots k os
rows-push cs slots k [] o none = none k []
rows-push cs slots k (x ∷ os) o none = ap (λ rows. with_row cs slots k x x.place rows) (rows-push cs slots (large_behind k x.place) os o none)
