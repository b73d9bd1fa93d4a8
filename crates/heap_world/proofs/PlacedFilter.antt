-- What a collection keeps stays placed.
use Rattle.std.proofs.Common.{◌≡◌, ℕ, ◌+◌, ◌≤◌, Bool, true, false, true≢false, cond, List, [], ◌∷◌, ◌++◌, filter, refl, sym, ap, subst, ◌∙◌, arith}
use Rattle.std.specs.List.{AllByRecursion, flat_map}
use Rattle.model_numbers.specs.Numbers.{region_bytes}
use Rattle.class_layout.specs.ClassList.{Class}
use Rattle.heap_graph.specs.declared.names.Place.{Place}
use Rattle.heap_graph.specs.declared.names.Place.TheVariants as place
use Rattle.heap_graph.specs.Graph.{Object, image_size, is_immune}
use Rattle.heap_graph.specs.Packing.{cost}
use Rattle.heap_graph.specs.Sizes.{parts_for}
use Rattle.heap_graph.specs.Formed.{AreInTurn, FillImage, FillZygote, SuitsShape, turn, zygote_next}
use Rattle.heap_world.specs.Pages.{pages_if_promoted}
use Rattle.heap_world.proofs.Placed.{IsPlaced, young_end, zygote_top}
use Rattle.heap_graph.proofs.Totals.{total-filter_le}

-- those of all that are kept
pub all-filter : {X : Type 0} (P : X → Type 0) (keep : X → Bool) (xs : List X) → AllByRecursion P xs → AllByRecursion P (filter keep xs)
all-filter P keep [] h = tt
all-filter P keep (x ∷ xs) h = by (keep x) (all-filter P keep xs h.1)
  where
    by : (b : Bool) → AllByRecursion P (filter keep xs) → AllByRecursion P (cond b (x ∷ filter keep xs) (filter keep xs))
    by true rest = (h.0, rest)
    by false rest = rest

-- a lower turn is no less right
turns-lower : (low least : ℕ) (os : List Object) → low ≤ least → AreInTurn least os → AreInTurn low os
turns-lower low least [] le h = tt
turns-lower low least (o ∷ os) le h = (omega (arith, le, h.0), h.1)

turns-filter : (keep : Object → Bool) (least : ℕ) (os : List Object) → AreInTurn least os → AreInTurn least (filter keep os)
turns-filter keep least [] h = tt
turns-filter keep least (o ∷ os) h = by (keep o) (turns-filter keep (turn o.place) os h.1)
  where
    by : (b : Bool) → AreInTurn (turn o.place) (filter keep os) → AreInTurn least (cond b (o ∷ filter keep os) (filter keep os))
    by true rest = (h.0, rest)
    by false rest = turns-lower least (turn o.place) (filter keep os) h.0 rest

module _ (cs : List Class) (keep : Object → Bool) (immune : (o : Object) → keep o ≡ false → is_immune true o.place ≡ false) where
  -- what isn't kept is neither of the image nor of the zygote window
  pub no_image : (o : Object) → keep o ≡ false → image_size cs o o.place ≡ 0
  no_image o e = by o.place (immune o e)
    where
      by : (at : Place) → is_immune true at ≡ false → image_size cs o at ≡ 0
      by (place.Image spot) e = absurd (true≢false e)
      by (place.Zygote spot) e = refl
      by place.Young e = refl
      by place.Large e = refl
      by place.Promoted e = refl

  no_zygote : (o : Object) (bytes : ℕ) → keep o ≡ false → zygote_next cs bytes o o.place ≡ bytes
  no_zygote o bytes e = by o.place (immune o e)
    where
      by : (at : Place) → is_immune true at ≡ false → zygote_next cs bytes o at ≡ bytes
      by (place.Image spot) e = refl
      by (place.Zygote spot) e = absurd (true≢false e)
      by place.Young e = refl
      by place.Large e = refl
      by place.Promoted e = refl

  image-filter : (bytes : ℕ) (os : List Object) → FillImage cs bytes os → FillImage cs bytes (filter keep os)
  image-filter bytes [] h = tt
  image-filter bytes (o ∷ os) h = by (keep o) refl (image-filter (bytes + image_size cs o o.place) os h.1)
    where
      by : (b : Bool) → keep o ≡ b → FillImage cs (bytes + image_size cs o o.place) (filter keep os) → FillImage cs bytes (cond b (o ∷ filter keep os) (filter keep os))
      by true e rest = (h.0, rest)
      by false e rest =
          let same : bytes + image_size cs o o.place ≡ bytes = omega (arith, no_image o e) in
          subst (λ n. FillImage cs n (filter keep os)) same rest

  pub zygote-filter : (bytes : ℕ) (os : List Object) → FillZygote cs bytes os → FillZygote cs bytes (filter keep os)
  zygote-filter bytes [] h = tt
  zygote-filter bytes (o ∷ os) h = by (keep o) refl (zygote-filter (zygote_next cs bytes o o.place) os h.1)
    where
      by : (b : Bool) → keep o ≡ b → FillZygote cs (zygote_next cs bytes o o.place) (filter keep os) → FillZygote cs bytes (cond b (o ∷ filter keep os) (filter keep os))
      by true e rest = (h.0, rest)
      by false e rest = subst (λ n. FillZygote cs n (filter keep os)) (no_zygote o bytes e) rest

  pub top-filter : (bytes : ℕ) (os : List Object) → zygote_top cs bytes (filter keep os) ≡ zygote_top cs bytes os
  top-filter bytes [] = refl
  top-filter bytes (o ∷ os) = by (keep o) refl (top-filter (zygote_next cs bytes o o.place) os)
    where
      by : (b : Bool) → keep o ≡ b → zygote_top cs (zygote_next cs bytes o o.place) (filter keep os) ≡ zygote_top cs (zygote_next cs bytes o o.place) os
          → zygote_top cs bytes (cond b (o ∷ filter keep os) (filter keep os)) ≡ zygote_top cs (zygote_next cs bytes o o.place) os
      by true e rest = rest
      by false e rest = ap (λ n. zygote_top cs n (filter keep os)) (sym (no_zygote o bytes e)) ∙ rest

  -- nor is it promoted
  no_pages : (o : Object) → keep o ≡ false → pages_if_promoted cs o o.place ≡ []
  no_pages o e = by o.place (immune o e)
    where
      by : (at : Place) → is_immune true at ≡ false → pages_if_promoted cs o at ≡ []
      by (place.Image spot) e = refl
      by (place.Zygote spot) e = refl
      by place.Young e = refl
      by place.Large e = refl
      by place.Promoted e = absurd (true≢false e)

  pub pages-filter : (os : List Object) → flat_map (λ o. pages_if_promoted cs o o.place) (filter keep os) ≡ flat_map (λ o. pages_if_promoted cs o o.place) os
  pages-filter [] = refl
  pages-filter (o ∷ os) = by (keep o) refl (pages-filter os)
    where
      by : (b : Bool) → keep o ≡ b → flat_map (λ o. pages_if_promoted cs o o.place) (filter keep os) ≡ flat_map (λ o. pages_if_promoted cs o o.place) os
          → flat_map (λ o. pages_if_promoted cs o o.place) (cond b (o ∷ filter keep os) (filter keep os)) ≡ pages_if_promoted cs o o.place ++ flat_map (λ o. pages_if_promoted cs o o.place) os
      by true e rest = ap (λ ps. pages_if_promoted cs o o.place ++ ps) rest
      by false e rest = rest ∙ ap (λ ps. ps ++ flat_map (λ o. pages_if_promoted cs o o.place) os) (sym (no_pages o e))

  -- what is kept is placed, where its young objects end no later
  pub placed-filter : (budget : ℕ) (os : List Object) → parts_for region_bytes (young_end cs 0 (filter keep os)) ≤ parts_for region_bytes (young_end cs 0 os) → IsPlaced cs true budget os
      → IsPlaced cs true budget (filter keep os)
  placed-filter budget os fewer h = record {
    before_seal = λ e. absurd (true≢false e);
    places = all-filter (λ o. SuitsShape cs o o.place) keep os h.places;
    turns = turns-filter keep 0 os h.turns;
    image = image-filter 0 os h.image;
    image_fits = omega (arith, total-filter_le keep (λ o. image_size cs o o.place) os, h.image_fits);
    zygote = zygote-filter 0 os h.zygote;
    zygote_fits = omega (arith, top-filter 0 os, h.zygote_fits);
    regions = omega (arith, fewer, total-filter_le keep (λ o. cost cs o o.place) os, h.regions);
  }
