-- One more object is placed: in the image before the seal, and in the heap after it.
use Rattle.std.proofs.Common.{◌≡◌, ℕ, ◌+◌, ◌≤◌, Bool, true, false, true≢false, List, [], ◌∷◌, ◌++◌, refl, sym, ap, subst, ◌∙◌, arith}
use Rattle.std.specs.List.{AllByRecursion}
use Rattle.model_numbers.specs.Numbers.{image_base, image_length, region_bytes}
use Rattle.class_layout.specs.ClassList.{Class}
use Rattle.heap_graph.specs.declared.names.Place.{Place}
use Rattle.heap_graph.specs.declared.names.Place.TheVariants as place
use Rattle.heap_graph.specs.Graph.{Object, image_size, size_of_object}
use Rattle.heap_graph.specs.Packing.{cost}
use Rattle.heap_graph.specs.Sizes.{parts_for}
use Rattle.heap_graph.specs.Formed.{AreInTurn, FillImage, FillZygote, IsBehindImage, IsBehindZygote, SuitsShape, is_in_image, turn, zygote_next}
use Rattle.heap_graph.proofs.LaidOut.{all-push}
use Rattle.heap_world.proofs.Placed.{IsPlaced, young_end, young_next, zygote_top}
use Rattle.heap_graph.proofs.Totals.{total, total-push}

-- a turn is one of three
turn-le : (at : Place) → turn at ≤ 2
turn-le (place.Image spot) = omega arith
turn-le (place.Zygote spot) = omega arith
turn-le place.Young = omega arith
turn-le place.Large = omega arith
turn-le place.Promoted = omega arith

-- an object of the last turn
turns-last : (least : ℕ) (os : List Object) (o : Object) → least ≤ 2 → turn o.place ≡ 2 → AreInTurn least os → AreInTurn least (os ++ o ∷ [])
turns-last least [] o le last h = (omega (arith, le, last), tt)
turns-last least (x ∷ os) o le last h = (h.0, turns-last (turn x.place) os o (turn-le x.place) last h.1)

-- before the seal all turns are the first
turn-image : (at : Place) → is_in_image at ≡ true → turn at ≡ 0
turn-image (place.Image spot) e = refl
turn-image (place.Zygote spot) e = cc
turn-image place.Young e = cc
turn-image place.Large e = cc
turn-image place.Promoted e = cc

turns-image : (least : ℕ) (os : List Object) → least ≡ 0 → AllByRecursion (λ o. is_in_image o.place ≡ true) os → AreInTurn least os
turns-image least [] e h = tt
turns-image least (o ∷ os) e h = (omega (arith, e), turns-image (turn o.place) os (turn-image o.place h.0) h.1)

module _ (cs : List Class) where
  -- behind the bytes of the image so far
  image-push : (bytes : ℕ) (os : List Object) (o : Object) → FillImage cs bytes os → IsBehindImage (bytes + total (λ o. image_size cs o o.place) os) o.place → FillImage cs bytes (os ++ o ∷ [])
  image-push bytes [] o h behind =
      let e : bytes + 0 ≡ bytes = omega arith in
      (subst (λ n. IsBehindImage n o.place) e behind, tt)
  image-push bytes (x ∷ os) o h behind =
      let sum : ℕ = total (λ o. image_size cs o o.place) os in
      let e : bytes + (image_size cs x x.place + sum) ≡ bytes + image_size cs x x.place + sum = omega arith in
      (h.0, image-push (bytes + image_size cs x x.place) os o h.1 (subst (λ n. IsBehindImage n o.place) e behind))

  -- behind the end of the zygote window so far
  pub zygote-push : (bytes : ℕ) (os : List Object) (o : Object) → FillZygote cs bytes os → IsBehindZygote (zygote_top cs bytes os) o.place → FillZygote cs bytes (os ++ o ∷ [])
  zygote-push bytes [] o h behind = (behind, tt)
  zygote-push bytes (x ∷ os) o h behind = (h.0, zygote-push (zygote_next cs bytes x x.place) os o h.1 behind)

  pub top-push : (bytes : ℕ) (os : List Object) (o : Object) → zygote_top cs bytes (os ++ o ∷ []) ≡ zygote_next cs (zygote_top cs bytes os) o o.place
  top-push bytes [] o = refl
  top-push bytes (x ∷ os) o = top-push (zygote_next cs bytes x x.place) os o

  end-push : (end : ℕ) (os : List Object) (o : Object) → young_end cs end (os ++ o ∷ []) ≡ young_next cs (young_end cs end os) o o.place
  end-push end [] o = refl
  end-push end (x ∷ os) o = end-push (young_next cs end x x.place) os o

  -- before the seal no region is used
  no_young : (end : ℕ) (os : List Object) → AllByRecursion (λ o. is_in_image o.place ≡ true) os → young_end cs end os ≡ end
  no_young end [] h = refl
  no_young end (o ∷ os) h = ap (λ n. young_end cs n os) (by o.place h.0) ∙ no_young end os h.1
    where
      by : (at : Place) → is_in_image at ≡ true → young_next cs end o at ≡ end
      by (place.Image spot) e = refl
      by (place.Zygote spot) e = cc
      by place.Young e = cc
      by place.Large e = cc
      by place.Promoted e = cc

  -- an object of the image
  pub placed-image : (sealed : Bool) (budget : ℕ) (os : List Object) (o : Object) → sealed ≡ false → o.place ≡ place.Image (image_base + total (λ o. image_size cs o o.place) os)
      → total (λ o. image_size cs o o.place) os + size_of_object cs o ≤ image_length → IsPlaced cs sealed budget os → IsPlaced cs sealed budget (os ++ o ∷ [])
  placed-image sealed budget os o unsealed at fits h =
      let fill : ℕ = total (λ o. image_size cs o o.place) os in
      let size : image_size cs o o.place ≡ size_of_object cs o = ap (image_size cs o) at in
      let cost_none : cost cs o o.place ≡ 0 = ap (cost cs o) at in
      let top : zygote_next cs (zygote_top cs 0 os) o o.place ≡ zygote_top cs 0 os = ap (zygote_next cs (zygote_top cs 0 os) o) at in
      let end : young_next cs (young_end cs 0 os) o o.place ≡ young_end cs 0 os = ap (young_next cs (young_end cs 0 os) o) at in
      let images = all-push (λ o. is_in_image o.place ≡ true) os o (h.before_seal unsealed) (ap is_in_image at) in
      record {
        before_seal = λ e. images;
        places = all-push (λ o. SuitsShape cs o o.place) os o h.places (subst (SuitsShape cs o) (sym at) tt);
        turns = turns-image 0 (os ++ o ∷ []) refl images;
        image = image-push 0 os o h.image (subst (IsBehindImage (0 + fill)) (sym at) (let e : image_base + fill ≡ image_base + (0 + fill) = omega arith in e));
        image_fits = omega (arith, total-push (λ o. image_size cs o o.place) os o, size, fits);
        zygote = zygote-push 0 os o h.zygote (subst (IsBehindZygote (zygote_top cs 0 os)) (sym at) tt);
        zygote_fits = omega (arith, top-push 0 os o, top, h.zygote_fits);
        regions = omega (arith, end-push 0 os o, end, total-push (λ o. cost cs o o.place) os o, cost_none, h.regions);
      }

  -- an object of the heap
  pub placed-heap : (budget : ℕ) (os : List Object) (o : Object) → SuitsShape cs o o.place → turn o.place ≡ 2
      → parts_for region_bytes (young_next cs (young_end cs 0 os) o o.place) + (total (λ o. cost cs o o.place) os + cost cs o o.place) ≤ budget → IsPlaced cs true budget os → IsPlaced cs true budget (os ++ o ∷ [])
  placed-heap budget os o suits last fits h =
      record {
        before_seal = λ e. absurd (true≢false e);
        places = all-push (λ o. SuitsShape cs o o.place) os o h.places suits;
        turns = turns-last 0 os o (omega arith) last h.turns;
        image = image-push 0 os o h.image (behind_image o.place (0 + total (λ o. image_size cs o o.place) os) last);
        image_fits = omega (arith, total-push (λ o. image_size cs o o.place) os o, no_bytes o.place last, h.image_fits);
        zygote = zygote-push 0 os o h.zygote (behind_zygote o.place (zygote_top cs 0 os) last);
        zygote_fits = omega (arith, top-push 0 os o, no_next o.place (zygote_top cs 0 os) last, h.zygote_fits);
        regions = omega (arith, end-push 0 os o, total-push (λ o. cost cs o o.place) os o, fits);
      }
    where
      behind_image : (at : Place) (bytes : ℕ) → turn at ≡ 2 → IsBehindImage bytes at
      behind_image (place.Image spot) bytes e = absurd (omega (arith, e))
      behind_image (place.Zygote spot) bytes e = tt
      behind_image place.Young bytes e = tt
      behind_image place.Large bytes e = tt
      behind_image place.Promoted bytes e = tt

      behind_zygote : (at : Place) (bytes : ℕ) → turn at ≡ 2 → IsBehindZygote bytes at
      behind_zygote (place.Image spot) bytes e = tt
      behind_zygote (place.Zygote spot) bytes e = absurd (omega (arith, e))
      behind_zygote place.Young bytes e = tt
      behind_zygote place.Large bytes e = tt
      behind_zygote place.Promoted bytes e = tt

      no_bytes : (at : Place) → turn at ≡ 2 → image_size cs o at ≡ 0
      no_bytes (place.Image spot) e = absurd (omega (arith, e))
      no_bytes (place.Zygote spot) e = refl
      no_bytes place.Young e = refl
      no_bytes place.Large e = refl
      no_bytes place.Promoted e = refl

      no_next : (at : Place) (bytes : ℕ) → turn at ≡ 2 → zygote_next cs bytes o at ≡ bytes
      no_next (place.Image spot) bytes e = refl
      no_next (place.Zygote spot) bytes e = absurd (omega (arith, e))
      no_next place.Young bytes e = refl
      no_next place.Large bytes e = refl
      no_next place.Promoted bytes e = refl
