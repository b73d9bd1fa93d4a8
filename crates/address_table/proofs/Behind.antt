-- Where the objects of a list stand: in their windows, each behind those before it.
use Rattle.std.proofs.Common.{◌≡◌, ℕ, ◌+◌, ◌-◌, ◌*◌, ◌/◌, ◌<◌, ◌≤◌, inl, inr, cond, List, [], ◌∷◌, length, slice_index, refl, sym, ap, subst, arith}
use Rattle.std.proofs.lemmas.Bool.{eq-eqb, ne_eqb}
use Rattle.class_layout.specs.ClassList.{Class}
use Rattle.class_layout.specs.Placing.{IsIn}
use Rattle.heap_graph.specs.declared.names.Place.{Place}
use Rattle.heap_graph.specs.declared.names.Place.TheVariants as place
use Rattle.heap_graph.specs.Graph.{Object, image_size, size_of_object}
use Rattle.heap_graph.specs.Packing.{after}
use Rattle.heap_graph.specs.Packing as packing
use Rattle.heap_graph.proofs.Sizes.{after-above, size-least}
use Rattle.heap_graph.proofs.Totals.{total}
use Rattle.heap_graph.specs.Formed.{AreRising, FillImage, FillZygote, IsBehindImage, IsBehindZygote, zygote_next}
use Rattle.heap_world.proofs.Placed.{top-max, zygote_top}
use Rattle.address_table.specs.Computed.{address_in, end_behind, large_behind, large_count, packed_at, slot_at, table_from, AreNumbers, Homes}

-- numbers of a list that rises
pub rising-in : (low next : ℕ) (os : List Object) (o : Object) → AreRising low next os → IsIn o os → low ≤ o.number
rising-in low next [] o rising none = absurd none
rising-in low next (x ∷ os) o rising (inl e) = subst (λ (y : Object). low ≤ y.number) e rising.0
rising-in low next (x ∷ os) o rising (inr h) = let rest = rising-in (x.number + 1) next os o rising.1 h in omega (arith, rest, rising.0)

-- the table at the first object's number, and at a greater one
pub table-first : (homes : Homes) (cs : List Class) (end large : ℕ) (o : Object) (os : List Object)
    → table_from homes cs end large (o ∷ os) o.number ≡ address_in homes cs end large o o.place
table-first homes cs end large o os =
    ap (λ b. cond b (address_in homes cs end large o o.place) (table_from homes cs (end_behind cs end o o.place) (large_behind large o.place) os o.number))
    (eq-eqb o.number o.number refl)

pub table-later : (homes : Homes) (cs : List Class) (end large : ℕ) (o : Object) (os : List Object) (n : ℕ) → o.number < n
    → table_from homes cs end large (o ∷ os) n ≡ table_from homes cs (end_behind cs end o o.place) (large_behind large o.place) os n
table-later homes cs end large o os n less =
    ap (λ b. cond b (address_in homes cs end large o o.place) (table_from homes cs (end_behind cs end o o.place) (large_behind large o.place) os n))
    (ne_eqb o.number n (λ (e : o.number ≡ n). omega (arith, e, less)))

-- the young end rises
end-rises : (cs : List Class) (end : ℕ) (o : Object) (at : Place) → end ≤ end_behind cs end o at
end-rises cs end o (place.Image spot) = omega arith
end-rises cs end o (place.Zygote spot) = omega arith
end-rises cs end o place.Young = omega (arith, after-above end (size_of_object cs o))
end-rises cs end o place.Large = omega arith
end-rises cs end o place.Promoted = omega arith

-- where the young objects end behind objects
abbrev pub last_end : List Class → ℕ → List Object → ℕ
last_end cs end [] = end
last_end cs end (o ∷ os) = last_end cs (end_behind cs end o o.place) os

pub last-rises : (cs : List Class) (end : ℕ) (os : List Object) → end ≤ last_end cs end os
last-rises cs end [] = omega arith
last-rises cs end (o ∷ os) = let rest = last-rises cs (end_behind cs end o o.place) os in omega (arith, rest, end-rises cs end o o.place)

large-rises : (large : ℕ) (at : Place) → large ≤ large_behind large at
large-rises large (place.Image spot) = omega arith
large-rises large (place.Zygote spot) = omega arith
large-rises large place.Young = omega arith
large-rises large place.Large = omega arith
large-rises large place.Promoted = omega arith

pub count-rises : (large : ℕ) (os : List Object) → large ≤ large_count large os
count-rises large [] = omega arith
count-rises large (o ∷ os) = let rest = count-rises (large_behind large o.place) os in omega (arith, rest, large-rises large o.place)

zygote-rises : (cs : List Class) (bytes : ℕ) (o : Object) (at : Place) → IsBehindZygote bytes at → bytes ≤ zygote_next cs bytes o at
zygote-rises cs bytes o (place.Image spot) behind = omega arith
zygote-rises cs bytes o (place.Zygote spot) (inl e) = omega (arith, e)
zygote-rises cs bytes o (place.Zygote spot) (inr e) = omega (arith, e)
zygote-rises cs bytes o place.Young behind = omega arith
zygote-rises cs bytes o place.Large behind = omega arith
zygote-rises cs bytes o place.Promoted behind = omega arith

module _ (homes : Homes) (cs : List Class) (budget last : ℕ) where
  -- an object stands at an address: in its window, behind so many bytes of the image, of the zygote window and of packed
  -- ones, and behind so many large objects
  abbrev pub Behind : ℕ → ℕ → ℕ → ℕ → Object → Place → ℕ → Type 0
  Behind image zygote end large o (place.Image spot) at = (at ≡ spot) × (536870912 + image ≤ spot) × (spot + size_of_object cs o ≤ 603979776)
  Behind image zygote end large o (place.Zygote spot) at = (at ≡ spot) × (805306368 + zygote ≤ spot) × (spot + size_of_object cs o ≤ 1073741824)
  Behind image zygote end large o place.Young at =
      (p : ℕ) × ((at ≡ packed_at homes.regions p) × (end ≤ p) × (p + size_of_object cs o ≤ last) × (1073741824 ≤ at) × (at < 1342177280))
  Behind image zygote end large o place.Large at =
      (k : ℕ) × ((at ≡ slot_at homes.slots k) × (large ≤ k) × (k < length homes.slots) × (2147483648 ≤ at) × (at < 2684354560))
  Behind image zygote end large o place.Promoted at =
      (k : ℕ) × ((at ≡ slot_at homes.slots k) × (large ≤ k) × (k < length homes.slots) × (2147483648 ≤ at) × (at < 2684354560))

  -- what is known of objects behind others
  pub record Rest (image zygote end large : ℕ) (os : List Object) : Type 0 where
    pub image_fills : FillImage cs image os
    pub image_fits : image + total (λ o. image_size cs o o.place) os ≤ 67108864
    pub zygote_fills : FillZygote cs zygote os
    pub zygote_fits : zygote_top cs zygote os ≤ 268435456
    pub young_fits : last_end cs end os ≤ last
    pub large_fits : large_count large os ≤ length homes.slots

  pub rest-tail : (image zygote end large : ℕ) (o : Object) (os : List Object) → Rest image zygote end large (o ∷ os)
      → Rest (image + image_size cs o o.place) (zygote_next cs zygote o o.place) (end_behind cs end o o.place) (large_behind large o.place) os
  rest-tail image zygote end large o os h = record {
    image_fills = h.image_fills.1;
    image_fits = let fits = h.image_fits in omega (arith, fits);
    zygote_fills = h.zygote_fills.1;
    zygote_fits = h.zygote_fits;
    young_fits = h.young_fits;
    large_fits = h.large_fits;
  }

  -- behind more is behind less
  pub behind-less : (image zygote end large more_image more_zygote more_end more_large : ℕ) (o : Object) (at : Place) (address : ℕ)
      → image ≤ more_image → zygote ≤ more_zygote → end ≤ more_end → large ≤ more_large
      → Behind more_image more_zygote more_end more_large o at address → Behind image zygote end large o at address
  behind-less image zygote end large mi mz me ml o (place.Image spot) address i z e l h = (h.0, omega (arith, h.1), h.2)
  behind-less image zygote end large mi mz me ml o (place.Zygote spot) address i z e l h = (h.0, omega (arith, h.1), h.2)
  behind-less image zygote end large mi mz me ml o place.Young address i z e l (p, h) = (p, (h.0, omega (arith, h.1), h.2, h.3, h.4))
  behind-less image zygote end large mi mz me ml o place.Large address i z e l (k, h) = (k, (h.0, omega (arith, h.1), h.2, h.3, h.4))
  behind-less image zygote end large mi mz me ml o place.Promoted address i z e l (k, h) = (k, (h.0, omega (arith, h.1), h.2, h.3, h.4))

  module _ (regions : AreNumbers (2 * budget) homes.regions) (slots : AreNumbers 512 homes.slots) (few : budget ≤ 512)
      (house : (last + 262143) / 262144 ≤ length homes.regions) where
    -- a packing place before the end has a region
    pub region-below : (p : ℕ) → p < last → (p / 262144 < length homes.regions) × (slice_index homes.regions (p / 262144) < 2 * budget)
    region-below p less = let inside : p / 262144 < length homes.regions = omega arith in (inside, regions.0 (p / 262144) inside)

    young-behind : (image zygote end large : ℕ) (o : Object) (p : ℕ) → end ≤ p → p + size_of_object cs o ≤ last
        → Behind image zygote end large o place.Young (packed_at homes.regions p)
    young-behind image zygote end large o p above fits =
        let below = region-below p (omega (arith, size-least cs o)) in
        let region = below.1 in
        (p, (refl, above, fits, omega arith, omega (arith, region)))

    slot-behind : (large : ℕ) → large < length homes.slots
        → (k : ℕ) × ((slot_at homes.slots large ≡ slot_at homes.slots k) × (large ≤ k) × (k < length homes.slots) × (2147483648 ≤ slot_at homes.slots large) × (slot_at homes.slots large < 2684354560))
    slot-behind large less = let below = slots.0 large less in (large, (refl, omega arith, less, omega arith, omega (arith, below)))

    -- the first object
    pub first-behind : (image zygote end large : ℕ) (o : Object) (os : List Object) → Rest image zygote end large (o ∷ os)
        → Behind image zygote end large o o.place (address_in homes cs end large o o.place)
    first-behind image zygote end large o os h =
        by o.place h.image_fills.0 h.zygote_fills.0 h.image_fits h.zygote_fills.1 h.zygote_fits h.young_fits h.large_fits
      where
        by : (at : Place) → IsBehindImage image at → IsBehindZygote zygote at → image + (image_size cs o at + total (λ o. image_size cs o o.place) os) ≤ 67108864
            → FillZygote cs (zygote_next cs zygote o at) os → zygote_top cs (zygote_next cs zygote o at) os ≤ 268435456
            → last_end cs (end_behind cs end o at) os ≤ last → large_count (large_behind large at) os ≤ length homes.slots
            → Behind image zygote end large o at (address_in homes cs end large o at)
        by (place.Image spot) behind _ fits _ _ _ _ = (refl, omega (arith, behind), omega (arith, behind, fits))
        by (place.Zygote spot) _ (inl e) _ fill fits _ _ = let top = top-max cs (spot + size_of_object cs o - 805306368) os fill in (refl, omega (arith, e), omega (arith, e, top, fits))
        by (place.Zygote spot) _ (inr e) _ fill fits _ _ = let top = top-max cs (spot + size_of_object cs o - 805306368) os fill in (refl, omega (arith, e), omega (arith, e, top, fits))
        by place.Young _ _ _ _ _ fits _ =
            let s : ℕ = size_of_object cs o in
            let above = after-above end s in
            let rises = last-rises cs (after end s) os in
            young-behind image zygote end large o (packing.place end s) (omega (arith, above)) (omega (arith, rises, fits))
        by place.Large _ _ _ _ _ _ fits = let rises = count-rises (large + 1) os in slot-behind large (omega (arith, rises, fits))
        by place.Promoted _ _ _ _ _ _ fits = let rises = count-rises (large + 1) os in slot-behind large (omega (arith, rises, fits))

    -- every object
    pub all-behind : (low next image zygote end large : ℕ) (os : List Object) → AreRising low next os → Rest image zygote end large os
        → (o : Object) → IsIn o os → Behind image zygote end large o o.place (table_from homes cs end large os o.number)
    all-behind low next image zygote end large [] rising h o none = absurd none
    all-behind low next image zygote end large (x ∷ os) rising h o (inl e) =
        subst (λ (y : Object). Behind image zygote end large y y.place (table_from homes cs end large (x ∷ os) y.number)) e
        (subst (λ (n : ℕ). Behind image zygote end large x x.place n) (sym (table-first homes cs end large x os)) (first-behind image zygote end large x os h))
    all-behind low next image zygote end large (x ∷ os) rising h o (inr later) =
        let above = rising-in (x.number + 1) next os o rising.1 later in
        let rest = all-behind (x.number + 1) next (image + image_size cs x x.place) (zygote_next cs zygote x x.place) (end_behind cs end x x.place) (large_behind large x.place) os rising.1 (rest-tail image zygote end large x os h) o later in
        subst (λ (n : ℕ). Behind image zygote end large o o.place n) (sym (table-later homes cs end large x os o.number (omega (arith, above))))
        (behind-less image zygote end large (image + image_size cs x x.place) (zygote_next cs zygote x x.place) (end_behind cs end x x.place) (large_behind large x.place) o o.place _
        (omega arith) (zygote-rises cs zygote x x.place h.zygote_fills.0) (end-rises cs end x x.place) (large-rises large x.place) rest)
