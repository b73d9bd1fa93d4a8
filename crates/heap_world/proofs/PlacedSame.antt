-- Objects of the same places and sizes are placed the same.
use Rattle.std.proofs.Common.{◌≡◌, ℕ, ◌+◌, ◌-◌, Bool, true, false, ◌&&◌, List, [], ◌∷◌, ◌++◌, map, nat_eq, nat_le, refl, sym, ap, subst, ◌∙◌, arith}
use Rattle.std.specs.List.{AllByRecursion, flat_map}
use Rattle.model_numbers.specs.Numbers.{zygote_base, region_bytes, page_bytes, least_large}
use Rattle.class_layout.specs.ClassList.{Class}
use Rattle.class_layout.specs.Kinds.{next_multiple}
use Rattle.class_layout.proofs.Layouts.{layout_of-push_old}
use Rattle.heap_graph.specs.declared.names.Place.{Place}
use Rattle.heap_graph.specs.declared.names.Place.TheVariants as place
use Rattle.heap_graph.specs.declared.names.Shape.{Shape}
use Rattle.heap_graph.specs.declared.names.Shape.TheVariants.{Instance, Array}
use Rattle.heap_graph.specs.declared.names.Stored.{Stored}
use Rattle.heap_graph.specs.Collection.{cleared}
use Rattle.heap_graph.specs.Graph.{Object, image_size, size_of_object}
use Rattle.heap_graph.specs.Packing.{after, cost}
use Rattle.heap_graph.specs.Sizes.{is_large, is_primitive_array, parts_for, unrounded}
use Rattle.heap_world.specs.declared.names.PageName.TheVariants.{Large}
use Rattle.heap_world.specs.Acts.{stored_in, stored_in_if}
use Rattle.heap_world.specs.Pages.{count_from, large_pages, pages_if_promoted}
use Rattle.heap_graph.specs.Formed.{AreInTurn, AreObjects, FillImage, FillZygote, IsBehindImage, IsBehindZygote, IsShape, SuitsShape, is_in_image, turn, zygote_next}
use Rattle.heap_world.proofs.Placed.{IsPlaced, young_end, young_next, zygote_top}
use Rattle.heap_graph.proofs.Totals.{total}

-- an object with one class list, and one with another, have the same place and size
pub record IsSame (cs ds : List Class) (o x : Object) : Type 0 where
  pub number : x.number ≡ o.number
  pub place : x.place ≡ o.place
  pub bytes : unrounded ds x.shape ≡ unrounded cs o.shape
  pub large : is_large ds x.shape ≡ is_large cs o.shape

-- object by object
abbrev pub AreSame : List Class → List Class → List Object → List Object → Type 0
AreSame cs ds [] [] = Unit {0}
AreSame cs ds [] (x ∷ xs) = ⊥
AreSame cs ds (o ∷ os) [] = ⊥
AreSame cs ds (o ∷ os) (x ∷ xs) = IsSame cs ds o x × AreSame cs ds os xs

module _ (cs ds : List Class) (o x : Object) (same : IsSame cs ds o x) where
  size : size_of_object ds x ≡ size_of_object cs o
  size = ap (next_multiple 8) same.bytes

  pub image_size-same : image_size ds x x.place ≡ image_size cs o o.place
  image_size-same = ap (image_size ds x) same.place ∙ by o.place
    where
      by : (at : Place) → image_size ds x at ≡ image_size cs o at
      by (place.Image spot) = size
      by (place.Zygote spot) = refl
      by place.Young = refl
      by place.Large = refl
      by place.Promoted = refl

  pub cost-same : cost ds x x.place ≡ cost cs o o.place
  cost-same = ap (cost ds x) same.place ∙ by o.place
    where
      by : (at : Place) → cost ds x at ≡ cost cs o at
      by (place.Image spot) = refl
      by (place.Zygote spot) = refl
      by place.Young = refl
      by place.Large = ap (parts_for region_bytes) same.bytes
      by place.Promoted = ap (parts_for region_bytes) same.bytes

  pub zygote_next-same : (bytes : ℕ) → zygote_next ds bytes x x.place ≡ zygote_next cs bytes o o.place
  zygote_next-same bytes = ap (zygote_next ds bytes x) same.place ∙ by o.place
    where
      by : (at : Place) → zygote_next ds bytes x at ≡ zygote_next cs bytes o at
      by (place.Image spot) = refl
      by (place.Zygote spot) = ap (λ n. spot + n - zygote_base) size
      by place.Young = refl
      by place.Large = refl
      by place.Promoted = refl

  pub young_next-same : (end : ℕ) → young_next ds end x x.place ≡ young_next cs end o o.place
  young_next-same end = ap (young_next ds end x) same.place ∙ by o.place
    where
      by : (at : Place) → young_next ds end x at ≡ young_next cs end o at
      by (place.Image spot) = refl
      by (place.Zygote spot) = refl
      by place.Young = ap (after end) size
      by place.Large = refl
      by place.Promoted = refl

  pub pages-same : pages_if_promoted ds x x.place ≡ pages_if_promoted cs o o.place
  pages-same = ap (pages_if_promoted ds x) same.place ∙ by o.place
    where
      large : large_pages ds x ≡ large_pages cs o
      large = ap (λ n. map (Large n) (count_from 0 (parts_for page_bytes (unrounded ds x.shape)))) same.number ∙ ap (λ u. map (Large o.number) (count_from 0 (parts_for page_bytes u))) same.bytes

      by : (at : Place) → pages_if_promoted ds x at ≡ pages_if_promoted cs o at
      by (place.Image spot) = refl
      by (place.Zygote spot) = refl
      by place.Young = refl
      by place.Large = refl
      by place.Promoted = large

  suits-same : SuitsShape cs o o.place → SuitsShape ds x x.place
  suits-same h = subst (SuitsShape ds x) (sym same.place) (by o.place h)
    where
      by : (at : Place) → SuitsShape cs o at → SuitsShape ds x at
      by (place.Image spot) h = tt
      by (place.Zygote spot) h = same.large ∙ h
      by place.Young h = same.large ∙ h
      by place.Large h = same.large ∙ h
      by place.Promoted h = same.large ∙ h

module _ (cs ds : List Class) where
  pub total-same : (f g : Object → ℕ) → ((o x : Object) → IsSame cs ds o x → g x ≡ f o) → (os xs : List Object) → AreSame cs ds os xs → total g xs ≡ total f os
  total-same f g each [] [] same = refl
  total-same f g each [] (x ∷ xs) same = absurd same
  total-same f g each (o ∷ os) [] same = absurd same
  total-same f g each (o ∷ os) (x ∷ xs) same = omega (arith, each o x same.0, total-same f g each os xs same.1)

  pub all_pages-same : (os xs : List Object) → AreSame cs ds os xs → flat_map (λ x. pages_if_promoted ds x x.place) xs ≡ flat_map (λ o. pages_if_promoted cs o o.place) os
  all_pages-same [] [] same = refl
  all_pages-same [] (x ∷ xs) same = absurd same
  all_pages-same (o ∷ os) [] same = absurd same
  all_pages-same (o ∷ os) (x ∷ xs) same =
      ap (λ ps. ps ++ flat_map (λ x. pages_if_promoted ds x x.place) xs) (pages-same cs ds o x same.0) ∙ ap (λ ps. pages_if_promoted cs o o.place ++ ps) (all_pages-same os xs same.1)

  in_image-same : (os xs : List Object) → AreSame cs ds os xs → AllByRecursion (λ o. is_in_image o.place ≡ true) os → AllByRecursion (λ o. is_in_image o.place ≡ true) xs
  in_image-same [] [] same h = tt
  in_image-same [] (x ∷ xs) same h = absurd same
  in_image-same (o ∷ os) [] same h = absurd same
  in_image-same (o ∷ os) (x ∷ xs) same h = (ap is_in_image same.0.place ∙ h.0, in_image-same os xs same.1 h.1)

  places-same : (os xs : List Object) → AreSame cs ds os xs → AllByRecursion (λ o. SuitsShape cs o o.place) os → AllByRecursion (λ o. SuitsShape ds o o.place) xs
  places-same [] [] same h = tt
  places-same [] (x ∷ xs) same h = absurd same
  places-same (o ∷ os) [] same h = absurd same
  places-same (o ∷ os) (x ∷ xs) same h = (suits-same cs ds o x same.0 h.0, places-same os xs same.1 h.1)

  turns-same : (least : ℕ) (os xs : List Object) → AreSame cs ds os xs → AreInTurn least os → AreInTurn least xs
  turns-same least [] [] same h = tt
  turns-same least [] (x ∷ xs) same h = absurd same
  turns-same least (o ∷ os) [] same h = absurd same
  turns-same least (o ∷ os) (x ∷ xs) same h =
      let e : turn x.place ≡ turn o.place = ap turn same.0.place in
      (omega (arith, e, h.0), subst (λ n. AreInTurn n xs) (sym e) (turns-same (turn o.place) os xs same.1 h.1))

  image-same : (bytes : ℕ) (os xs : List Object) → AreSame cs ds os xs → FillImage cs bytes os → FillImage ds bytes xs
  image-same bytes [] [] same h = tt
  image-same bytes [] (x ∷ xs) same h = absurd same
  image-same bytes (o ∷ os) [] same h = absurd same
  image-same bytes (o ∷ os) (x ∷ xs) same h = (
    subst (IsBehindImage bytes) (sym same.0.place) h.0,
    subst (λ n. FillImage ds (bytes + n) xs) (sym (image_size-same cs ds o x same.0)) (image-same (bytes + image_size cs o o.place) os xs same.1 h.1),
  )

  pub zygote-same : (bytes : ℕ) (os xs : List Object) → AreSame cs ds os xs → FillZygote cs bytes os → FillZygote ds bytes xs
  zygote-same bytes [] [] same h = tt
  zygote-same bytes [] (x ∷ xs) same h = absurd same
  zygote-same bytes (o ∷ os) [] same h = absurd same
  zygote-same bytes (o ∷ os) (x ∷ xs) same h = (
    subst (IsBehindZygote bytes) (sym same.0.place) h.0,
    subst (λ n. FillZygote ds n xs) (sym (zygote_next-same cs ds o x same.0 bytes)) (zygote-same (zygote_next cs bytes o o.place) os xs same.1 h.1),
  )

  pub top-same : (bytes : ℕ) (os xs : List Object) → AreSame cs ds os xs → zygote_top ds bytes xs ≡ zygote_top cs bytes os
  top-same bytes [] [] same = refl
  top-same bytes [] (x ∷ xs) same = absurd same
  top-same bytes (o ∷ os) [] same = absurd same
  top-same bytes (o ∷ os) (x ∷ xs) same =
      ap (λ n. zygote_top ds n xs) (zygote_next-same cs ds o x same.0 bytes) ∙ top-same (zygote_next cs bytes o o.place) os xs same.1

  pub end-same : (end : ℕ) (os xs : List Object) → AreSame cs ds os xs → young_end ds end xs ≡ young_end cs end os
  end-same end [] [] same = refl
  end-same end [] (x ∷ xs) same = absurd same
  end-same end (o ∷ os) [] same = absurd same
  end-same end (o ∷ os) (x ∷ xs) same =
      ap (λ n. young_end ds n xs) (young_next-same cs ds o x same.0 end) ∙ end-same (young_next cs end o o.place) os xs same.1

  -- they are placed the same
  pub placed-same : (sealed : Bool) (budget : ℕ) (os xs : List Object) → AreSame cs ds os xs → IsPlaced cs sealed budget os → IsPlaced ds sealed budget xs
  placed-same sealed budget os xs same h =
      let fill = total-same (λ o. image_size cs o o.place) (λ x. image_size ds x x.place) (image_size-same cs ds) os xs same in
      let costs = total-same (λ o. cost cs o o.place) (λ x. cost ds x x.place) (cost-same cs ds) os xs same in
      record {
        before_seal = λ e. in_image-same os xs same (h.before_seal e);
        places = places-same os xs same h.places;
        turns = turns-same 0 os xs same h.turns;
        image = image-same 0 os xs same h.image;
        image_fits = omega (arith, fill, h.image_fits);
        zygote = zygote-same 0 os xs same h.zygote;
        zygote_fits = omega (arith, top-same 0 os xs same, h.zygote_fits);
        regions = omega (arith, end-same 0 os xs same, costs, h.regions);
      }

-- an object with other slots
other_slots : (cs : List Class) (o : Object) (ss : List Stored) → IsSame cs cs o (record o { slots = ss })
other_slots cs o ss = record { number = refl; place = refl; bytes = refl; large = refl }

-- after a store
pub stored-same : (cs : List Class) (os : List Object) (n : ℕ) (new : Stored) → AreSame cs cs os (stored_in os n new)
stored-same cs [] n new = tt
stored-same cs (o ∷ os) n new = (by (nat_eq o.number n), stored-same cs os n new)
  where
    by : (b : Bool) → IsSame cs cs o (stored_in_if b o new)
    by true = record { number = refl; place = refl; bytes = refl; large = refl }
    by false = record { number = refl; place = refl; bytes = refl; large = refl }

-- after clearing
pub cleared-same : (cs : List Class) (kept : List ℕ) (os : List Object) → AreSame cs cs os (map (cleared kept) os)
cleared-same cs kept [] = tt
cleared-same cs kept (o ∷ os) = (record { number = refl; place = refl; bytes = refl; large = refl }, cleared-same cs kept os)

-- with more classes
pub bytes-grown : (cs ds : List Class) (shape : Shape) → IsShape cs shape → unrounded (cs ++ ds) shape ≡ unrounded cs shape
bytes-grown cs ds (Instance class) h = ap (λ l. l.end) (layout_of-push_old cs ds class h.0)
bytes-grown cs ds (Array kind count) h = refl

pub grown-same : (cs ds : List Class) (os : List Object) → AreObjects cs os → AreSame cs (cs ++ ds) os os
grown-same cs ds [] h = tt
grown-same cs ds (o ∷ os) h =
    let e = bytes-grown cs ds o.shape h.0 in
    (record { number = refl; place = refl; bytes = e; large = ap (λ n. is_primitive_array o.shape && nat_le least_large n) e }, grown-same cs ds os h.2)
