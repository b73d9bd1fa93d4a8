-- Where the objects of a graph stand, and which of them a process takes for immune.
use Rattle.std.proofs.Common.{◌≡◌, ◌∙◌, ◌⊎◌, ℕ, ◌<◌, ◌≤◌, true, false, not, List, Some, refl, ap, subst, inl, inr, arith}
use Rattle.std.specs.Prelude.{◌||◌}
use Rattle.std.proofs.lemmas.Bool.{cases_Bool, or_left, or_right}
use Rattle.class_layout.specs.Placing.{IsIn}
use Rattle.heap_graph.specs.declared.names.Place.{Place}
use Rattle.heap_graph.specs.declared.names.Place.TheVariants as place
use Rattle.heap_graph.specs.Formed.{IsFormed}
use Rattle.heap_graph.specs.Graph.{is_immune, is_young, Graph, Object}
use Rattle.heap_graph.proofs.Sizes.{not-large, size-least, unrounded-least}
use Rattle.address_table.specs.Computed.{table_of, Homes, HouseAll}
use Rattle.address_table.proofs.Behind.{all-behind, last_end, Behind}
use Rattle.address_table.proofs.Beside.{not-too-large, shape-in}
use Rattle.address_table.proofs.Fitting.{rest, roomy}
use Rattle.raw_objects.specs.References.{in_regions}
use Rattle.large_objects.specs.declared.rows.LargeRow.{LargeRow}
use Rattle.large_objects.specs.Rows.{row_at, AreRows, IsBytes}
use Rattle.large_objects.proofs.LawLemmas.{row-of}
use Rattle.live_objects.specs.Reach.{in_large, is_mortal, waits_in}
use Rattle.live_objects.proofs.MarkLemmas.{immune-off, in-large, large-span}
use Rattle.live_objects.proofs.OrderLemmas.{in-regions, regions-span}
use Rattle.world_laws.specs.Named.{has_slot}
use Rattle.evacuate.specs.Stands.{row_of, rows_from}
use Rattle.evacuate.proofs.Members.{all-from, in-contains}
use Rattle.evacuate.proofs.Rows.{object-there, row-there, rows-apart, rows-rise}

pub off-regions : (a : ℕ) → (a < 0x40000000) ⊎ (0x50000000 ≤ a) → in_regions a ≡ false
off-regions a off = elim (cases_Bool (in_regions a)) [
  | inl inside ↦ let span = regions-span a inside in elim off [ inl low ↦ absurd (omega (arith, low, span.low)) | inr high ↦ absurd (omega (arith, high, span.high)) ]
  | inr outside ↦ outside
]

pub off-large : (a : ℕ) → a < 0x80000000 → in_large a ≡ false
off-large a off = elim (cases_Bool (in_large a)) [ inl inside ↦ absurd (omega (arith, off, (large-span a inside).low)) | inr outside ↦ outside ]

module _ (homes : Homes) (g : Graph) (formed : IsFormed g) (house : HouseAll homes g) where
  abbrev table : ℕ → ℕ
  table = table_of homes g

  abbrev rows : List LargeRow
  rows = rows_from g.classes homes.slots 0 g.objects

  abbrev pub Stand : Object → Place → ℕ → Type 0
  Stand o at address = Behind homes g.classes g.budget (last_end g.classes 0 g.objects) 0 0 0 0 o at address

  pub stand : (o : Object) → IsIn o g.objects → Stand o o.place (table_of homes g o.number)
  stand o there =
      all-behind homes g.classes g.budget (last_end g.classes 0 g.objects) house.regions house.slots formed.budget (roomy homes g formed house) 0 g.next 0 0 0 0 g.objects formed.numbers
      (rest homes g formed house) o there

  regions-by : (o : Object) (at : Place) (address : ℕ) → Stand o at address → in_regions address ≡ is_young at
  regions-by o (place.Image spot) address h = off-regions address (inl (omega (arith, h.0, h.2)))
  regions-by o (place.Zygote spot) address h = off-regions address (inl (omega (arith, h.0, h.2, size-least g.classes o)))
  regions-by o place.Young address (p, h) = in-regions address (record { low = h.3; high = h.4 })
  regions-by o place.Large address (k, h) = off-regions address (inr (omega (arith, h.3)))
  regions-by o place.Promoted address (k, h) = off-regions address (inr (omega (arith, h.3)))

  large-by : (o : Object) (at : Place) (address : ℕ) → Stand o at address → in_large address ≡ has_slot at
  large-by o (place.Image spot) address h = off-large address (omega (arith, h.0, h.2))
  large-by o (place.Zygote spot) address h = off-large address (omega (arith, h.0, h.2))
  large-by o place.Young address (p, h) = off-large address (omega (arith, h.4))
  large-by o place.Large address (k, h) = in-large address (record { low = h.3; high = h.4 })
  large-by o place.Promoted address (k, h) = in-large address (record { low = h.3; high = h.4 })

  -- the young objects lie in the regions, and those with a slot in the large window
  pub in-regions-is : (o : Object) → IsIn o g.objects → in_regions (table_of homes g o.number) ≡ is_young o.place
  in-regions-is o there = regions-by o o.place (table o.number) (stand o there)

  pub in-large-is : (o : Object) → IsIn o g.objects → in_large (table_of homes g o.number) ≡ has_slot o.place
  in-large-is o there = large-by o o.place (table o.number) (stand o there)

  pub are-rows : AreRows (rows_from g.classes homes.slots 0 g.objects)
  are-rows = record {
    rising = rows-rise g.classes homes 0 g.next 0 g.objects formed.numbers;
    apart = rows-apart g.classes homes house.slots 0 g.objects house.for_large;
    within = all-from _ rows (λ row there.
        let it = object-there g.classes homes 0 g.next 0 0 g.objects formed.numbers row there in
        subst (λ (r : LargeRow). r.slot < 512) it.row_is (house.slots.0 it.index (omega (arith, it.high, house.for_large))));
    bytes = all-from _ rows (λ row there.
        let it = object-there g.classes homes 0 g.next 0 0 g.objects formed.numbers row there in
        subst (λ (r : LargeRow). IsBytes r.bytes) it.row_is (record {
          some = omega (arith, unrounded-least g.classes it.object.shape);
          most = not-large g.classes it.object.shape (not-too-large g.classes it.object.shape (shape-in g.classes g.objects it.object it.is_in formed.objects));
        }));
  }

  -- an object with a slot has its row there
  pub row-at : (o : Object) → IsIn o g.objects → has_slot o.place ≡ true
      → (j : ℕ) × (row_at (rows_from g.classes homes.slots 0 g.objects) (table_of homes g o.number) ≡ Some (row_of g.classes homes.slots j o (is_immune true o.place)))
  row-at o there is =
      let it = row-there g.classes homes 0 g.next 0 0 g.objects formed.numbers o there is in
      let c = in-contains rows _ it.there in
      (it.index, ap (row_at rows) it.at_is ∙ row-of rows c.0 (row_of g.classes homes.slots it.index o (is_immune true o.place)) are-rows.apart c.1 c.2)

  -- an object isn't immune exactly where it is taken for one that isn't
  pub mortal-is : (o : Object) → IsIn o g.objects → is_mortal (rows_from g.classes homes.slots 0 g.objects) (table_of homes g o.number) ≡ not (is_immune true o.place)
  mortal-is o there = by o.place refl (in-regions-is o there) (in-large-is o there) (row-at o there)
    where
      by : (at : Place) → o.place ≡ at → in_regions (table o.number) ≡ is_young at → in_large (table o.number) ≡ has_slot at
          → (has_slot at ≡ true → (j : ℕ) × (row_at rows (table o.number) ≡ Some (row_of g.classes homes.slots j o (is_immune true at)))) → is_mortal rows (table o.number) ≡ not (is_immune true at)
      by (place.Image spot) same young large row = immune-off rows (table o.number) are-rows young large
      by (place.Zygote spot) same young large row = immune-off rows (table o.number) are-rows young large
      by place.Young same young large row = or_left _ _ young
      by place.Large same young large row = or_right (in_regions (table o.number)) _ (ap waits_in (row refl).1)
      by place.Promoted same young large row = ap (λ b. b || waits_in (row_at rows (table o.number))) young ∙ ap waits_in (row refl).1
