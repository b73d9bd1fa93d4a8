-- Two objects stand at two addresses.
use Rattle.std.proofs.Common.{◌≡◌, ℕ, ◌+◌, ◌*◌, ◌/◌, ◌<◌, ◌≤◌, inl, inr, List, [], ◌∷◌, length, slice_index, sym, ap, ◌∙◌, arith}
use Rattle.class_layout.specs.ClassList.{Class}
use Rattle.class_layout.specs.Placing.{IsIn}
use Rattle.heap_graph.specs.declared.names.Place.{Place}
use Rattle.heap_graph.specs.declared.names.Place.TheVariants as place
use Rattle.heap_graph.specs.Graph.{Object, image_size, size_of_object}
use Rattle.heap_graph.specs.Packing as packing
use Rattle.heap_graph.proofs.Sizes.{after-above, size-least}
use Rattle.heap_graph.specs.Formed.{AreRising, IsBehindImage, IsBehindZygote, zygote_next}
use Rattle.address_table.specs.Computed.{address_in, end_behind, large_behind, packed_at, slot_at, table_from, AreNumbers, Homes}
use Rattle.address_table.proofs.Behind.{all-behind, first-behind, region-below, rest-tail, rising-in, table-first, table-later, Behind, Rest}

module _ (homes : Homes) (cs : List Class) (budget last : ℕ) (regions : AreNumbers (2 * budget) homes.regions) (slots : AreNumbers 512 homes.slots) (few : budget ≤ 512)
    (house : (last + 262143) / 262144 ≤ length homes.regions) where
  -- equal addresses are of one packing place
  pub packed-once : (p q : ℕ) → p < last → q < last → packed_at homes.regions p ≡ packed_at homes.regions q → p ≡ q
  packed-once p q p-below q-below e =
      let p-region = region-below homes cs budget last regions slots few house p p-below in
      let q-region = region-below homes cs budget last regions slots few house q q-below in
      let same : slice_index homes.regions (p / 262144) ≡ slice_index homes.regions (q / 262144) = omega (arith, e) in
      let index : p / 262144 ≡ q / 262144 = regions.1 (p / 262144) (q / 262144) p-region.0 q-region.0 same in
      omega (arith, e, same, index)

  -- and of one slot
  slot-once : (j k : ℕ) → j < length homes.slots → k < length homes.slots → slot_at homes.slots j ≡ slot_at homes.slots k → j ≡ k
  slot-once j k j-below k-below e = slots.1 j k j-below k-below (omega (arith, e))

  -- an object stands elsewhere than each one behind it
  first-apart : (image zygote end large : ℕ) (x o : Object) (address : ℕ) → IsBehindImage image x.place → IsBehindZygote zygote x.place
      → Behind homes cs budget last image zygote end large x x.place (address_in homes cs end large x x.place)
      → Behind homes cs budget last (image + image_size cs x x.place) (zygote_next cs zygote x x.place) (end_behind cs end x x.place) (large_behind large x.place) o o.place address
      → address_in homes cs end large x x.place ≡ address → ⊥
  first-apart image zygote end large x o address in_image in_zygote first later e = by x.place o.place in_image in_zygote first later e
    where
      some : 8 ≤ size_of_object cs x
      some = size-least cs x

      more : 8 ≤ size_of_object cs o
      more = size-least cs o

      slot : (k : ℕ) → large < length homes.slots → large + 1 ≤ k → k < length homes.slots → slot_at homes.slots large ≡ slot_at homes.slots k → ⊥
      slot k here above there same = let once = slot-once large k here there same in omega (arith, once, above)

      by : (p q : Place) → IsBehindImage image p → IsBehindZygote zygote p → Behind homes cs budget last image zygote end large x p (address_in homes cs end large x p)
          → Behind homes cs budget last (image + image_size cs x p) (zygote_next cs zygote x p) (end_behind cs end x p) (large_behind large p) o q address
          → address_in homes cs end large x p ≡ address → ⊥
      by (place.Image s) (place.Image t) i z h l e = omega (arith, i, some, h.1, l.0, l.1, e)
      by (place.Image s) (place.Zygote t) i z h l e = omega (arith, some, more, h.2, l.0, l.1, e)
      by (place.Image s) place.Young i z h (q, l) e = omega (arith, some, h.2, l.3, e)
      by (place.Image s) place.Large i z h (k, l) e = omega (arith, some, h.2, l.3, e)
      by (place.Image s) place.Promoted i z h (k, l) e = omega (arith, some, h.2, l.3, e)
      by (place.Zygote s) (place.Image t) i z h l e = omega (arith, some, more, h.1, l.0, l.2, e)
      by (place.Zygote s) (place.Zygote t) i z h l e = omega (arith, some, h.1, l.0, l.1, e)
      by (place.Zygote s) place.Young i z h (q, l) e = omega (arith, some, h.2, l.3, e)
      by (place.Zygote s) place.Large i z h (k, l) e = omega (arith, some, h.2, l.3, e)
      by (place.Zygote s) place.Promoted i z h (k, l) e = omega (arith, some, h.2, l.3, e)
      by place.Young (place.Image t) i z (p, h) l e = omega (arith, more, h.3, l.0, l.2, e)
      by place.Young (place.Zygote t) i z (p, h) l e = omega (arith, more, h.3, l.0, l.2, e)
      by place.Young place.Young i z (p, h) (q, l) e =
          let above = after-above end (size_of_object cs x) in
          let at : ℕ = packing.place end (size_of_object cs x) in
          let here : at < last = omega (arith, some, more, above, l.1, l.2) in
          let once = packed-once at q here (omega (arith, more, l.2)) (e ∙ l.0) in
          omega (arith, once, l.1, some)
      by place.Young place.Large i z (p, h) (k, l) e = omega (arith, h.4, l.3, e)
      by place.Young place.Promoted i z (p, h) (k, l) e = omega (arith, h.4, l.3, e)
      by place.Large (place.Image t) i z (k, h) l e = omega (arith, more, h.3, l.0, l.2, e)
      by place.Large (place.Zygote t) i z (k, h) l e = omega (arith, more, h.3, l.0, l.2, e)
      by place.Large place.Young i z (k, h) (q, l) e = omega (arith, h.3, l.4, e)
      by place.Large place.Large i z (j, h) (k, l) e = slot k (omega (arith, l.1, l.2)) l.1 l.2 (e ∙ l.0)
      by place.Large place.Promoted i z (j, h) (k, l) e = slot k (omega (arith, l.1, l.2)) l.1 l.2 (e ∙ l.0)
      by place.Promoted (place.Image t) i z (k, h) l e = omega (arith, more, h.3, l.0, l.2, e)
      by place.Promoted (place.Zygote t) i z (k, h) l e = omega (arith, more, h.3, l.0, l.2, e)
      by place.Promoted place.Young i z (k, h) (q, l) e = omega (arith, h.3, l.4, e)
      by place.Promoted place.Large i z (j, h) (k, l) e = slot k (omega (arith, l.1, l.2)) l.1 l.2 (e ∙ l.0)
      by place.Promoted place.Promoted i z (j, h) (k, l) e = slot k (omega (arith, l.1, l.2)) l.1 l.2 (e ∙ l.0)

  -- of two objects, the one behind
  behind-first : (low next image zygote end large : ℕ) (x : Object) (os : List Object) → AreRising low next (x ∷ os) → Rest homes cs budget last image zygote end large (x ∷ os)
      → (o : Object) → IsIn o os → table_from homes cs end large (x ∷ os) x.number ≡ table_from homes cs end large (x ∷ os) o.number → ⊥
  behind-first low next image zygote end large x os rising h o later e =
      let above = rising-in (x.number + 1) next os o rising.1 later in
      first-apart image zygote end large x o
      (table_from homes cs (end_behind cs end x x.place) (large_behind large x.place) os o.number)
      h.image_fills.0 h.zygote_fills.0
      (first-behind homes cs budget last regions slots few house image zygote end large x os h)
      (all-behind homes cs budget last regions slots few house (x.number + 1) next (image + image_size cs x x.place) (zygote_next cs zygote x x.place) (end_behind cs end x x.place) (large_behind large x.place) os rising.1
      (rest-tail homes cs budget last image zygote end large x os h) o later)
      (sym (table-first homes cs end large x os) ∙ e ∙ table-later homes cs end large x os o.number (omega (arith, above)))

  -- equal addresses are of one object
  pub all-apart : (low next image zygote end large : ℕ) (os : List Object) → AreRising low next os → Rest homes cs budget last image zygote end large os
      → (a b : Object) → IsIn a os → IsIn b os → table_from homes cs end large os a.number ≡ table_from homes cs end large os b.number → a ≡ b
  all-apart low next image zygote end large [] rising h a b none _ e = absurd none
  all-apart low next image zygote end large (x ∷ os) rising h a b (inl f) (inl g) e = sym f ∙ g
  all-apart low next image zygote end large (x ∷ os) rising h a b (inl f) (inr later) e =
      absurd (behind-first low next image zygote end large x os rising h b later (ap (λ (y : Object). table_from homes cs end large (x ∷ os) y.number) f ∙ e))
  all-apart low next image zygote end large (x ∷ os) rising h a b (inr later) (inl g) e =
      absurd (behind-first low next image zygote end large x os rising h a later (ap (λ (y : Object). table_from homes cs end large (x ∷ os) y.number) g ∙ sym e))
  all-apart low next image zygote end large (x ∷ os) rising h a b (inr i) (inr j) e =
      let above-a = rising-in (x.number + 1) next os a rising.1 i in
      let above-b = rising-in (x.number + 1) next os b rising.1 j in
      all-apart (x.number + 1) next (image + image_size cs x x.place) (zygote_next cs zygote x x.place) (end_behind cs end x x.place) (large_behind large x.place) os rising.1
      (rest-tail homes cs budget last image zygote end large x os h) a b i j
      (sym (table-later homes cs end large x os a.number (omega (arith, above-a))) ∙ e ∙ table-later homes cs end large x os b.number (omega (arith, above-b)))
