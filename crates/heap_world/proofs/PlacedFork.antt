-- Promoted objects are placed.
use Rattle.std.proofs.Common.{◌≡◌, ℕ, ◌+◌, ◌-◌, ◌≤◌, ◌⊎◌, true, true≢false, cond, inl, inr, List, [], ◌∷◌, map, filter, max, sum, refl, ap, ◌∙◌, arith}
use Rattle.std.specs.List.{AllByRecursion}
use Rattle.std.proofs.lemmas.List.Sums.{sum_by-cons}
use Rattle.model_numbers.specs.Numbers.{zygote_base, zygote_length, page_bytes}
use Rattle.class_layout.specs.ClassList.{Class}
use Rattle.class_layout.specs.Kinds.{next_multiple}
use Rattle.heap_graph.specs.declared.names.Place.{Place}
use Rattle.heap_graph.specs.declared.names.Place.TheVariants as place
use Rattle.heap_graph.specs.Fork.{next_spot, promoted_from, promoted_place}
use Rattle.heap_graph.specs.Graph.{Object, image_size, is_young, size_of_object}
use Rattle.heap_graph.specs.Packing.{cost}
use Rattle.heap_graph.specs.Formed.{AreInTurn, FillImage, FillZygote, IsBehindImage, IsBehindZygote, SuitsShape, turn, zygote_next}
use Rattle.heap_world.proofs.Placed.{IsPlaced, young_end, young_next, zygote_top}
use Rattle.heap_graph.proofs.Totals.{total, total-promoted}

-- the bytes of a young object
abbrev pub young_size : List Class → Object → Place → ℕ
young_size cs o (place.Image spot) = 0
young_size cs o (place.Zygote spot) = 0
young_size cs o place.Young = size_of_object cs o
young_size cs o place.Large = 0
young_size cs o place.Promoted = 0

pub young-sum : (cs : List Class) (os : List Object) → sum (map (size_of_object cs) (filter (λ o. is_young o.place) os)) ≡ total (λ o. young_size cs o o.place) os
young-sum cs [] = refl
young-sum cs (o ∷ os) = by o.place (young-sum cs os)
  where
    by : (at : Place) → sum (map (size_of_object cs) (filter (λ o. is_young o.place) os)) ≡ total (λ o. young_size cs o o.place) os
        → sum (map (size_of_object cs) (cond (is_young at) (o ∷ filter (λ o. is_young o.place) os) (filter (λ o. is_young o.place) os))) ≡ young_size cs o at + total (λ o. young_size cs o o.place) os
    by (place.Image spot) rest = omega (arith, rest)
    by (place.Zygote spot) rest = omega (arith, rest)
    by place.Young rest = sum_by-cons (λ x. x) (size_of_object cs o) (map (size_of_object cs) (filter (λ o. is_young o.place) os)) ∙ ap (λ n. size_of_object cs o + n) rest
    by place.Large rest = omega (arith, rest)
    by place.Promoted rest = omega (arith, rest)

module _ (cs : List Class) where
  -- an object of the last turn doesn't stand in the zygote window
  last-next : (bytes : ℕ) (o : Object) (at : Place) → 2 ≤ turn at → zygote_next cs bytes o at ≡ bytes
  last-next bytes o (place.Image spot) two = refl
  last-next bytes o (place.Zygote spot) two = absurd (omega (arith, two))
  last-next bytes o place.Young two = refl
  last-next bytes o place.Large two = refl
  last-next bytes o place.Promoted two = refl

  top-last : (bytes least : ℕ) (os : List Object) → 2 ≤ least → AreInTurn least os → zygote_top cs bytes os ≡ bytes
  top-last bytes least [] le h = refl
  top-last bytes least (o ∷ os) le h =
      let two : 2 ≤ turn o.place = omega (arith, le, h.0) in
      ap (λ n. zygote_top cs n os) (last-next bytes o o.place two) ∙ top-last bytes (turn o.place) os two h.1

  -- objects of the last turn, promoted from a place on, where the next object may stand
  last-promoted : (bytes at least : ℕ) (os : List Object) → 2 ≤ least → AreInTurn least os → (at ≡ bytes) ⊎ (at ≡ next_multiple page_bytes bytes) → FillZygote cs bytes (promoted_from cs at os)
  last-promoted bytes at least [] le h next = tt
  last-promoted bytes at least (o ∷ os) le h next =
      let two : 2 ≤ turn o.place = omega (arith, le, h.0) in
      by o.place two (λ b a e. last-promoted b a (turn o.place) os two h.1 e)
    where
      by : (q : Place) → 2 ≤ turn q → ((b a : ℕ) → (a ≡ b) ⊎ (a ≡ next_multiple page_bytes b) → FillZygote cs b (promoted_from cs a os))
          → IsBehindZygote bytes (promoted_place at q) × FillZygote cs (zygote_next cs bytes (record o { place = promoted_place at q }) (promoted_place at q)) (promoted_from cs (next_spot at (size_of_object cs o) q) os)
      by (place.Image spot) two rest = absurd (omega (arith, two))
      by (place.Zygote spot) two rest = absurd (omega (arith, two))
      by place.Young two rest =
          let e : at + size_of_object cs o ≡ zygote_base + at + size_of_object cs o - zygote_base = omega arith in
          (elim next [ inl same ↦ inl (ap (λ n. zygote_base + n) same) | inr page ↦ inr (ap (λ n. zygote_base + n) page) ], rest (zygote_base + at + size_of_object cs o - zygote_base) (at + size_of_object cs o) (inl e))
      by place.Large two rest = (tt, rest bytes at next)
      by place.Promoted two rest = absurd (omega (arith, two))

  -- objects that are promoted behind all of the zygote window
  pub zygote-promoted : (bytes at least : ℕ) (os : List Object) → AreInTurn least os → FillZygote cs bytes os → at ≡ next_multiple page_bytes (zygote_top cs bytes os) → FillZygote cs bytes (promoted_from cs at os)
  zygote-promoted bytes at least [] turns h e = tt
  zygote-promoted bytes at least (o ∷ os) turns h e = by o.place turns.1 h.0 h.1 e (λ b fill e. zygote-promoted b at (turn o.place) os turns.1 fill e)
    where
      by : (q : Place) → AreInTurn (turn q) os → IsBehindZygote bytes q → FillZygote cs (zygote_next cs bytes o q) os → at ≡ next_multiple page_bytes (zygote_top cs (zygote_next cs bytes o q) os)
          → ((b : ℕ) → FillZygote cs b os → at ≡ next_multiple page_bytes (zygote_top cs b os) → FillZygote cs b (promoted_from cs at os))
          → IsBehindZygote bytes (promoted_place at q) × FillZygote cs (zygote_next cs bytes (record o { place = promoted_place at q }) (promoted_place at q)) (promoted_from cs (next_spot at (size_of_object cs o) q) os)
      by (place.Image spot) turns behind fill e rest = (tt, rest bytes fill e)
      by (place.Zygote spot) turns behind fill e rest = (behind, rest (spot + size_of_object cs o - zygote_base) fill e)
      by place.Young turns behind fill e rest =
          let same : at ≡ next_multiple page_bytes bytes = e ∙ ap (next_multiple page_bytes) (top-last bytes 2 os (omega arith) turns) in
          let f : at + size_of_object cs o ≡ zygote_base + at + size_of_object cs o - zygote_base = omega arith in (
            inr (ap (λ n. zygote_base + n) same),
            last-promoted (zygote_base + at + size_of_object cs o - zygote_base) (at + size_of_object cs o) 2 os (omega arith) turns (inl f),
          )
      by place.Large turns behind fill e rest =
          let same : at ≡ next_multiple page_bytes bytes = e ∙ ap (next_multiple page_bytes) (top-last bytes 2 os (omega arith) turns) in
          (tt, last-promoted bytes at 2 os (omega arith) turns (inr same))
      by place.Promoted turns behind fill e rest = (tt, rest bytes fill e)

  -- where the window ends does not depend on where it was before, but for an empty one
  top-from : (b c : ℕ) (os : List Object) → zygote_top cs b os ≤ max b (zygote_top cs c os)
  top-from b c [] = omega arith
  top-from b c (o ∷ os) = by o.place (top-from b c os)
    where
      by : (q : Place) → zygote_top cs b os ≤ max b (zygote_top cs c os) → zygote_top cs (zygote_next cs b o q) os ≤ max b (zygote_top cs (zygote_next cs c o q) os)
      by (place.Image spot) rest = rest
      by (place.Zygote spot) rest = omega arith
      by place.Young rest = rest
      by place.Large rest = rest
      by place.Promoted rest = rest

  -- what is promoted takes no more than its bytes
  pub top-promoted : (bytes at : ℕ) (os : List Object) → zygote_top cs bytes (promoted_from cs at os) ≤ max (zygote_top cs bytes os) (at + total (λ o. young_size cs o o.place) os)
  top-promoted bytes at [] = omega arith
  top-promoted bytes at (o ∷ os) = by o.place (λ b a. top-promoted b a os)
    where
      by : (q : Place) → ((b a : ℕ) → zygote_top cs b (promoted_from cs a os) ≤ max (zygote_top cs b os) (a + total (λ o. young_size cs o o.place) os))
          → zygote_top cs (zygote_next cs bytes (record o { place = promoted_place at q }) (promoted_place at q)) (promoted_from cs (next_spot at (size_of_object cs o) q) os)
          ≤ max (zygote_top cs (zygote_next cs bytes o q) os) (at + (young_size cs o q + total (λ o. young_size cs o o.place) os))
      by (place.Image spot) rest = omega (arith, rest bytes at)
      by (place.Zygote spot) rest = omega (arith, rest (spot + size_of_object cs o - zygote_base) at)
      by place.Young rest =
          let end : ℕ = zygote_base + at + size_of_object cs o - zygote_base in
          omega (arith, rest end (at + size_of_object cs o), top-from end bytes os)
      by place.Large rest = omega (arith, rest bytes at)
      by place.Promoted rest = omega (arith, rest bytes at)

  turns-promoted : (low least at : ℕ) (os : List Object) → low ≤ least → low ≤ 1 → AreInTurn least os → AreInTurn low (promoted_from cs at os)
  turns-promoted low least at [] le one h = tt
  turns-promoted low least at (o ∷ os) le one h =
      by o.place h.0 (λ n a le one. turns-promoted n (turn o.place) a os le one h.1)
    where
      by : (q : Place) → least ≤ turn q → ((n a : ℕ) → n ≤ turn q → n ≤ 1 → AreInTurn n (promoted_from cs a os))
          → (low ≤ turn (promoted_place at q)) × AreInTurn (turn (promoted_place at q)) (promoted_from cs (next_spot at (size_of_object cs o) q) os)
      by (place.Image spot) m rest = (omega (arith, le, m), rest 0 at (omega arith) (omega arith))
      by (place.Zygote spot) m rest = (one, rest 1 at (omega arith) (omega arith))
      by place.Young m rest = (one, rest 1 (at + size_of_object cs o) (omega arith) (omega arith))
      by place.Large m rest = (one, rest 1 at (omega arith) (omega arith))
      by place.Promoted m rest = (one, rest 1 at (omega arith) (omega arith))

  image-promoted : (bytes at : ℕ) (os : List Object) → FillImage cs bytes os → FillImage cs bytes (promoted_from cs at os)
  image-promoted bytes at [] h = tt
  image-promoted bytes at (o ∷ os) h = by o.place h.0 h.1 (λ b a fill. image-promoted b a os fill)
    where
      by : (q : Place) → IsBehindImage bytes q → FillImage cs (bytes + image_size cs o q) os → ((b a : ℕ) → FillImage cs b os → FillImage cs b (promoted_from cs a os))
          → IsBehindImage bytes (promoted_place at q) × FillImage cs (bytes + image_size cs (record o { place = promoted_place at q }) (promoted_place at q)) (promoted_from cs (next_spot at (size_of_object cs o) q) os)
      by (place.Image spot) behind fill rest = (behind, rest (bytes + size_of_object cs o) at fill)
      by (place.Zygote spot) behind fill rest = (tt, rest (bytes + 0) at fill)
      by place.Young behind fill rest = (tt, rest (bytes + 0) (at + size_of_object cs o) fill)
      by place.Large behind fill rest = (tt, rest (bytes + 0) at fill)
      by place.Promoted behind fill rest = (tt, rest (bytes + 0) at fill)

  image_size-promoted : (o : Object) (at : ℕ) → image_size cs (record o { place = promoted_place at o.place }) (promoted_place at o.place) ≡ image_size cs o o.place
  image_size-promoted o at = by o.place
    where
      by : (q : Place) → image_size cs (record o { place = promoted_place at q }) (promoted_place at q) ≡ image_size cs o q
      by (place.Image spot) = refl
      by (place.Zygote spot) = refl
      by place.Young = refl
      by place.Large = refl
      by place.Promoted = refl

  cost-promoted : (o : Object) (at : ℕ) → cost cs (record o { place = promoted_place at o.place }) (promoted_place at o.place) ≡ cost cs o o.place
  cost-promoted o at = by o.place
    where
      by : (q : Place) → cost cs (record o { place = promoted_place at q }) (promoted_place at q) ≡ cost cs o q
      by (place.Image spot) = refl
      by (place.Zygote spot) = refl
      by place.Young = refl
      by place.Large = refl
      by place.Promoted = refl

  places-promoted : (at : ℕ) (os : List Object) → AllByRecursion (λ o. SuitsShape cs o o.place) os → AllByRecursion (λ o. SuitsShape cs o o.place) (promoted_from cs at os)
  places-promoted at [] h = tt
  places-promoted at (o ∷ os) h = (by o.place h.0, places-promoted (next_spot at (size_of_object cs o) o.place) os h.1)
    where
      by : (q : Place) → SuitsShape cs o q → SuitsShape cs (record o { place = promoted_place at q }) (promoted_place at q)
      by (place.Image spot) h = tt
      by (place.Zygote spot) h = h
      by place.Young h = h
      by place.Large h = h
      by place.Promoted h = h

  -- no object is young then
  end-promoted : (end at : ℕ) (os : List Object) → young_end cs end (promoted_from cs at os) ≡ end
  end-promoted end at [] = refl
  end-promoted end at (o ∷ os) = ap (λ n. young_end cs n (promoted_from cs (next_spot at (size_of_object cs o) o.place) os)) (by o.place) ∙ end-promoted end (next_spot at (size_of_object cs o) o.place) os
    where
      by : (q : Place) → young_next cs end (record o { place = promoted_place at q }) (promoted_place at q) ≡ end
      by (place.Image spot) = refl
      by (place.Zygote spot) = refl
      by place.Young = refl
      by place.Large = refl
      by place.Promoted = refl

  -- promoted objects are placed, where the window has room
  pub placed-promoted : (budget at : ℕ) (os : List Object) → at ≡ next_multiple page_bytes (zygote_top cs 0 os) → at + total (λ o. young_size cs o o.place) os ≤ zygote_length → IsPlaced cs true budget os
      → IsPlaced cs true budget (promoted_from cs at os)
  placed-promoted budget at os start fits h = record {
    before_seal = λ e. absurd (true≢false e);
    places = places-promoted at os h.places;
    turns = turns-promoted 0 0 at os (omega arith) (omega arith) h.turns;
    image = image-promoted 0 at os h.image;
    image_fits = omega (arith, total-promoted (λ o. image_size cs o o.place) image_size-promoted cs at os, h.image_fits);
    zygote = zygote-promoted 0 at 0 os h.turns h.zygote start;
    zygote_fits = omega (arith, top-promoted 0 at os, h.zygote_fits, fits);
    regions = omega (arith, end-promoted 0 at os, total-promoted (λ o. cost cs o o.place) cost-promoted cs at os, h.regions);
  }
