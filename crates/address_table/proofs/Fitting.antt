-- The computed table follows the rules of the heap.
use Rattle.std.proofs.Common.{◌≡◌, ◌≢◌, ◌↔◌, ℕ, ◌+◌, ◌*◌, ◌/◌, ◌^◌, ◌<◌, ◌≤◌, ◌⊎◌, inl, inr, Bool, true, false, cond, nat_eq, List, [], ◌∷◌, None, Some, length, slice_index, refl, sym, ap, ◌∙◌, subst, arith}
use Rattle.std.specs.List.{find}
use Rattle.std.proofs.lemmas.Bool.{eqb-true}
use Rattle.model_numbers.specs.Numbers.{region_bytes}
use Rattle.class_layout.specs.ClassList.{Class}
use Rattle.class_layout.specs.Placing.{IsIn}
use Rattle.heap_graph.specs.declared.names.Place.{Place}
use Rattle.heap_graph.specs.declared.names.Place.TheVariants as place
use Rattle.heap_graph.specs.Graph.{Graph, Object, object_at}
use Rattle.heap_graph.specs.Table.{packing, region_of, Fits, IsPackedAt, IsPlacedAt}
use Rattle.heap_graph.specs.Formed.{IsFormed}
use Rattle.heap_world.proofs.Placed.{placed_of, used-is, young_end, young_next}
use Rattle.address_table.specs.Computed.{address_in, end_behind, large_behind, packed_at, table_from, table_of, Homes, HouseAll}
use Rattle.address_table.proofs.Behind.{all-behind, last_end, region-below, Behind, Rest}
use Rattle.address_table.proofs.Apart.{all-apart}
use Rattle.address_table.proofs.Packed.{all-packed, IsPacked}

-- both words for the end of the young objects say the same
next-is : (cs : List Class) (end : ℕ) (o : Object) (at : Place) → young_next cs end o at ≡ end_behind cs end o at
next-is cs end o (place.Image spot) = refl
next-is cs end o (place.Zygote spot) = refl
next-is cs end o place.Young = refl
next-is cs end o place.Large = refl
next-is cs end o place.Promoted = refl

last-is : (cs : List Class) (end : ℕ) (os : List Object) → young_end cs end os ≡ last_end cs end os
last-is cs end [] = refl
last-is cs end (o ∷ os) = ap (λ n. young_end cs n os) (next-is cs end o o.place) ∙ last-is cs (end_behind cs end o o.place) os

-- an address is 0 or an object's
pub found : (homes : Homes) (cs : List Class) (end large : ℕ) (os : List Object) (n : ℕ)
    → (table_from homes cs end large os n ≡ 0) ⊎ ((o : Object) × (IsIn o os × (o.number ≡ n)))
found homes cs end large [] n = inl refl
found homes cs end large (x ∷ os) n = by (nat_eq x.number n) refl (found homes cs (end_behind cs end x x.place) (large_behind large x.place) os n)
  where
    by : (b : Bool) → nat_eq x.number n ≡ b → (table_from homes cs (end_behind cs end x x.place) (large_behind large x.place) os n ≡ 0) ⊎ ((o : Object) × (IsIn o os × (o.number ≡ n)))
        → (cond b (address_in homes cs end large x x.place) (table_from homes cs (end_behind cs end x x.place) (large_behind large x.place) os n) ≡ 0)
        ⊎ ((o : Object) × (IsIn o (x ∷ os) × (o.number ≡ n)))
    by true e rest = inr (x, (inl refl, eqb-true x.number n e))
    by false e (inl none) = inl none
    by false e (inr (o, h)) = inr (o, (inr h.0, h.1))

-- a number that no object has has the address 0
no-object : (homes : Homes) (cs : List Class) (end large : ℕ) (os : List Object) (n : ℕ) → find (λ o. nat_eq o.number n) os ≡ None → table_from homes cs end large os n ≡ 0
no-object homes cs end large [] n none = refl
no-object homes cs end large (x ∷ os) n none = by (nat_eq x.number n) none (no-object homes cs (end_behind cs end x x.place) (large_behind large x.place) os n)
  where
    by : (b : Bool) → cond b (Some x) (find (λ o. nat_eq o.number n) os) ≡ None
        → (find (λ o. nat_eq o.number n) os ≡ None → table_from homes cs (end_behind cs end x x.place) (large_behind large x.place) os n ≡ 0)
        → cond b (address_in homes cs end large x x.place) (table_from homes cs (end_behind cs end x x.place) (large_behind large x.place) os n) ≡ 0
    by true none rest = cc
    by false none rest = rest none

pub none-at-null : (homes : Homes) (g : Graph) (n : ℕ) → object_at g n ≡ None → table_of homes g n ≡ 0
none-at-null homes g n none = no-object homes g.classes 0 0 g.objects n none

-- the young objects end within the regions that the process may use
pub young-fits : (g : Graph) → IsFormed g → last_end g.classes 0 g.objects ≤ region_bytes * g.budget
young-fits g formed = let within = formed.regions in omega (arith, used-is g, last-is g.classes 0 g.objects, within)

module _ (homes : Homes) (g : Graph) (formed : IsFormed g) (house : HouseAll homes g) where
  cs : List Class
  cs = g.classes

  last : ℕ
  last = last_end g.classes 0 g.objects

  pub roomy : (last_end g.classes 0 g.objects + 262143) / 262144 ≤ length homes.regions
  roomy = omega (arith, used-is g, last-is g.classes 0 g.objects, house.for_young)

  few : g.budget ≤ 512
  few = formed.budget

  pub rest : Rest homes g.classes g.budget (last_end g.classes 0 g.objects) 0 0 0 0 g.objects
  rest =
      let placed = placed_of g formed in
      record {
        image_fills = placed.image;
        image_fits = let fits = placed.image_fits in omega (arith, fits);
        zygote_fills = placed.zygote;
        zygote_fits = placed.zygote_fits;
        young_fits = omega arith;
        large_fits = house.for_large;
      }

  behind : (o : Object) → IsIn o g.objects → Behind homes g.classes g.budget (last_end g.classes 0 g.objects) 0 0 0 0 o o.place (table_of homes g o.number)
  behind o h = all-behind homes g.classes g.budget (last_end g.classes 0 g.objects) house.regions house.slots few roomy 0 g.next 0 0 0 0 g.objects formed.numbers rest o h

  in-window : (o : Object) (at : Place) (address : ℕ) → Behind homes g.classes g.budget (last_end g.classes 0 g.objects) 0 0 0 0 o at address → address < 2 ^ 32
  in-window o (place.Image spot) address h = omega (arith, h.0, h.2)
  in-window o (place.Zygote spot) address h = omega (arith, h.0, h.2)
  in-window o place.Young address (p, h) = omega (arith, h.4)
  in-window o place.Large address (k, h) = omega (arith, h.4)
  in-window o place.Promoted address (k, h) = omega (arith, h.4)

  below : (n : ℕ) → table_of homes g n < 2 ^ 32
  below n = by (found homes g.classes 0 0 g.objects n)
    where
      by : (table_of homes g n ≡ 0) ⊎ ((o : Object) × (IsIn o g.objects × (o.number ≡ n))) → table_of homes g n < 2 ^ 32
      by (inl none) = omega (arith, none)
      by (inr (o, h)) = subst (λ (m : ℕ). table_of homes g m < 2 ^ 32) h.1 (in-window o o.place (table_of homes g o.number) (behind o h.0))

  not-null : (o : Object) (at : Place) (address : ℕ) → Behind homes g.classes g.budget (last_end g.classes 0 g.objects) 0 0 0 0 o at address → address ≡ 0 → ⊥
  not-null o (place.Image spot) address h e = omega (arith, h.0, h.1, e)
  not-null o (place.Zygote spot) address h e = omega (arith, h.0, h.1, e)
  not-null o place.Young address (p, h) e = omega (arith, h.3, e)
  not-null o place.Large address (k, h) e = omega (arith, h.3, e)
  not-null o place.Promoted address (k, h) e = omega (arith, h.3, e)

  -- no object stands at address 0
  pub object-not-null : (o : Object) → IsIn o g.objects → table_of homes g o.number ≢ 0
  object-not-null o h = not-null o o.place (table_of homes g o.number) (behind o h)

  in-place : (o : Object) (at : Place) (address : ℕ) → Behind homes g.classes g.budget (last_end g.classes 0 g.objects) 0 0 0 0 o at address → IsPlacedAt at address
  in-place o (place.Image spot) address h = h.0
  in-place o (place.Zygote spot) address h = h.0
  in-place o place.Young address h = tt
  in-place o place.Large address (k, h) = (slice_index homes.slots k, house.slots.0 k h.2, h.0)
  in-place o place.Promoted address (k, h) = (slice_index homes.slots k, house.slots.0 k h.2, h.0)

  packed : (p : ℕ × ℕ) → IsIn p (packing g) → IsPacked homes g.classes (last_end g.classes 0 g.objects) 0 0 g.objects p
  packed p h = all-packed homes g.classes (last_end g.classes 0 g.objects) 0 g.next 0 0 g.objects formed.numbers (omega arith) p h

  region-of : (p : ℕ) → p < last_end g.classes 0 g.objects → region_of (packed_at homes.regions p) ≡ slice_index homes.regions (p / 262144)
  region-of p less = omega arith

  packed-place : (p : ℕ × ℕ) → IsIn p (packing g) → IsPackedAt g.budget p.1 (table_of homes g p.0)
  packed-place p h = by (packed p h)
    where
      by : IsPacked homes g.classes (last_end g.classes 0 g.objects) 0 0 g.objects p → IsPackedAt g.budget p.1 (table_of homes g p.0)
      by (o, is) =
          let below = region-below homes g.classes g.budget (last_end g.classes 0 g.objects) house.regions house.slots few roomy p.1 is.3 in
          (slice_index homes.regions (p.1 / 262144), below.1, is.2)

  one-region : (p q : ℕ × ℕ) → IsIn p (packing g) → IsIn q (packing g) → (region_of (table_of homes g p.0) ≡ region_of (table_of homes g q.0)) ↔ (p.1 / 262144 ≡ q.1 / 262144)
  one-region p q p-in q-in = by (packed p p-in) (packed q q-in)
    where
      by : IsPacked homes g.classes (last_end g.classes 0 g.objects) 0 0 g.objects p → IsPacked homes g.classes (last_end g.classes 0 g.objects) 0 0 g.objects q
          → (region_of (table_of homes g p.0) ≡ region_of (table_of homes g q.0)) ↔ (p.1 / 262144 ≡ q.1 / 262144)
      by (a, p-is) (b, q-is) =
          let p-region = region-below homes g.classes g.budget (last_end g.classes 0 g.objects) house.regions house.slots few roomy p.1 p-is.3 in
          let q-region = region-below homes g.classes g.budget (last_end g.classes 0 g.objects) house.regions house.slots few roomy q.1 q-is.3 in
          let p-of : region_of (table_of homes g p.0) ≡ slice_index homes.regions (p.1 / 262144) = ap region_of p-is.2 ∙ region-of p.1 p-is.3 in
          let q-of : region_of (table_of homes g q.0) ≡ slice_index homes.regions (q.1 / 262144) = ap region_of q-is.2 ∙ region-of q.1 q-is.3 in (
            (λ e. house.regions.1 (p.1 / 262144) (q.1 / 262144) p-region.0 q-region.0 (sym p-of ∙ e ∙ q-of)),
            (λ e. p-of ∙ ap (λ i. slice_index homes.regions i) e ∙ sym q-of),
          )

  pub fits : Fits (table_of homes g) g
  fits = record {
    below = below;
    apart = all-apart homes g.classes g.budget (last_end g.classes 0 g.objects) house.regions house.slots few roomy 0 g.next 0 0 0 0 g.objects formed.numbers rest;
    placed = λ o h. in-place o o.place (table_of homes g o.number) (behind o h);
    packed = packed-place;
    together = one-region;
  }
