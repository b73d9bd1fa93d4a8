-- How large what a formed graph holds can be.
use Rattle.std.proofs.Common.{◌≡◌, ℕ, zero, suc, ◌+◌, ◌*◌, ◌<◌, ◌≤◌, Bool, true, false, cond, inl, inr, List, [], ◌∷◌, ◌++◌, filter, length, length-append, sum, nat_eq, All, refl, sym, ap, subst, ◌∙◌, arith}
use Rattle.std.specs.List.{AllByRecursion, flat_map}
use Rattle.std.specs.Cmp.{IsEquivalence}
use Rattle.std.proofs.lemmas.Bool.{eqb-true, eq-eqb, and_parts, and_from, or_cases}
use Rattle.std.proofs.lemmas.Map.Made.{length-le_from_is_member}
use Rattle.std.proofs.lemmas.List.{length-map}
use Rattle.std.proofs.lemmas.List.Sums.{sum_by-cons}
use Rattle.model_numbers.specs.Numbers.{region_bytes, page_bytes, most_array_bytes, most_regions, number_limit}
use Rattle.class_layout.specs.ClassList.{Class}
use Rattle.heap_graph.specs.declared.names.Place.{Place}
use Rattle.heap_graph.specs.declared.names.Place.TheVariants as place
use Rattle.heap_graph.specs.declared.names.Shape.{Shape}
use Rattle.heap_graph.specs.declared.names.Shape.TheVariants.{Instance, Array}
use Rattle.heap_graph.specs.Graph.{Graph, Object, image_fill, image_size, is_young, size_of_object, zygote_fill}
use Rattle.heap_graph.specs.Packing.{after, cost, end_from, places_from, young_sizes}
use Rattle.heap_graph.specs.Paths.{ArePacked, FitsRegion}
use Rattle.heap_graph.specs.Sizes.{is_too_large, parts_for, unrounded}
use Rattle.heap_graph.specs.Formed.{IsFormed, AreObjects, FillZygote, IsBehindZygote, IsShape, SuitsShape, zygote_next}
use Rattle.heap_world.specs.declared.names.PageName.{PageName}
use Rattle.heap_world.specs.declared.names.PageName.TheVariants.{Image, Zygote, Large}
use Rattle.heap_world.specs.Pages.{count_from, image_pages, is_touched, large_pages, pages_if_promoted, promoted_pages, same_page, standing_pages, zygote_pages}
use Rattle.heap_world.specs.Part.{Part}
use Rattle.heap_world.specs.Sound.{IsSound}
use Rattle.heap_graph.proofs.Sizes.{after-above, not-large, size-least, unrounded-least, young-packed}
use Rattle.heap_world.proofs.Placed.{costs-is, placed_of, young_end, young_next, zygote_top}
use Rattle.heap_graph.proofs.Totals.{total}

-- so sizes that are packed end no earlier than if they stood one behind the other
sum-le-end : (p : ℕ) (ss : List ℕ) → p + sum ss ≤ end_from p ss
sum-le-end p [] = omega arith
sum-le-end p (s ∷ ss) = omega (arith, after-above p s, sum-le-end (after p s) ss, sum_by-cons (λ x. x) s ss)

-- the young objects fit the budget
pub young-le : (g : Graph) → IsFormed g → sum (young_sizes g) ≤ most_regions * region_bytes
young-le g formed =
    let placed = formed.regions in
    omega (arith, sum-le-end 0 (young_sizes g), formed.regions, formed.budget)

-- each object takes eight bytes of a window or of the regions, or costs a region
eight-each : (cs : List Class) (bytes end : ℕ) (os : List Object) → FillZygote cs bytes os
    → 8 * length os + bytes + end ≤ total (λ o. image_size cs o o.place) os + zygote_top cs bytes os + young_end cs end os + 8 * total (λ o. cost cs o o.place) os
eight-each cs bytes end [] h = omega arith
eight-each cs bytes end (o ∷ os) h =
    by o.place h.0 (zygote_top cs (zygote_next cs bytes o o.place) os) (young_end cs (young_next cs end o o.place) os)
    (eight-each cs (zygote_next cs bytes o o.place) (young_next cs end o o.place) os h.1)
  where
    by : (at : Place) → IsBehindZygote bytes at → (top young : ℕ)
        → 8 * length os + zygote_next cs bytes o at + young_next cs end o at ≤ total (λ o. image_size cs o o.place) os + top + young + 8 * total (λ o. cost cs o o.place) os
        → 8 * suc (length os) + bytes + end ≤ image_size cs o at + total (λ o. image_size cs o o.place) os + top + young + 8 * (cost cs o at + total (λ o. cost cs o o.place) os)
    by (place.Image spot) behind top young rest = omega (arith, rest, size-least cs o)
    by (place.Zygote spot) (inl e) top young rest = omega (arith, rest, e, size-least cs o)
    by (place.Zygote spot) (inr e) top young rest = omega (arith, rest, e, size-least cs o)
    by place.Young behind top young rest = omega (arith, rest, size-least cs o, after-above end (size_of_object cs o))
    by place.Large behind top young rest = omega (arith, rest, unrounded-least cs o.shape)
    by place.Promoted behind top young rest = omega (arith, rest, unrounded-least cs o.shape)

pub few-objects : (g : Graph) → IsFormed g → length g.objects < number_limit
few-objects g formed =
    let placed = placed_of g formed in
    omega (arith, eight-each g.classes 0 0 g.objects formed.zygote, placed.image_fits, placed.zygote_fits, placed.regions, formed.budget)

-- a shape of a class list
shape-bytes : (cs : List Class) (shape : Shape) → IsShape cs shape → unrounded cs shape ≤ most_array_bytes
shape-bytes cs (Instance class) h = not-large cs (Instance class) h.1
shape-bytes cs (Array kind count) h = not-large cs (Array kind count) h

pub bytes-le : (cs : List Class) (os : List Object) → AreObjects cs os → All (λ o. unrounded cs o.shape ≤ most_array_bytes) os
bytes-le cs [] h k d less = absurd (omega arith)
bytes-le cs (o ∷ os) h zero d less = shape-bytes cs o.shape h.0
bytes-le cs (o ∷ os) h (suc k) d less = bytes-le cs os h.2 k d (omega arith)

-- a young object's shape stands in a region
young-fits : (cs : List Class) (os : List Object) → AreObjects cs os → AllByRecursion (λ o. SuitsShape cs o o.place) os → AllByRecursion (λ o. FitsRegion cs o.shape) (filter (λ o. is_young o.place) os)
young-fits cs [] h suits = tt
young-fits cs (o ∷ os) h suits = by o.place suits.0 (young-fits cs os h.2 suits.1)
  where
    small : (shape : Shape) → IsShape cs shape → is_too_large cs shape ≡ false
    small (Instance class) is = is.1
    small (Array kind count) is = is

    by : (at : Place) → SuitsShape cs o at → AllByRecursion (λ o. FitsRegion cs o.shape) (filter (λ o. is_young o.place) os)
        → AllByRecursion (λ o. FitsRegion cs o.shape) (cond (is_young at) (o ∷ filter (λ o. is_young o.place) os) (filter (λ o. is_young o.place) os))
    by (place.Image spot) suits rest = rest
    by (place.Zygote spot) suits rest = rest
    by place.Young suits rest = ((small o.shape h.0, suits), rest)
    by place.Large suits rest = rest
    by place.Promoted suits rest = rest

pub formed-packed : (g : Graph) → IsFormed g → ArePacked 0 (young_sizes g) (places_from 0 (young_sizes g))
formed-packed g formed = young-packed g (young-fits g.classes g.objects formed.objects formed.places)

-- as many numbers as are counted
pub length-count : (start n : ℕ) → length (count_from start n) ≡ n
length-count start zero = refl
length-count start (suc n) = omega (arith, length-count (start + 1) n)

pub length-large : (cs : List Class) (o : Object) → length (large_pages cs o) ≡ parts_for page_bytes (unrounded cs o.shape)
length-large cs o = length-map (count_from 0 (parts_for page_bytes (unrounded cs o.shape))) (Large o.number) ∙ length-count 0 (parts_for page_bytes (unrounded cs o.shape))

-- a region has 64 pages
pages-le : (cs : List Class) (os : List Object) → length (flat_map (λ o. pages_if_promoted cs o o.place) os) ≤ 64 * total (λ o. cost cs o o.place) os
pages-le cs [] = omega arith
pages-le cs (o ∷ os) = by o.place (pages-le cs os)
  where
    by : (at : Place) → length (flat_map (λ o. pages_if_promoted cs o o.place) os) ≤ 64 * total (λ o. cost cs o o.place) os
        → length (pages_if_promoted cs o at ++ flat_map (λ o. pages_if_promoted cs o o.place) os) ≤ 64 * (cost cs o at + total (λ o. cost cs o o.place) os)
    by (place.Image spot) rest = omega (arith, rest)
    by (place.Zygote spot) rest = omega (arith, rest)
    by place.Young rest = omega (arith, rest)
    by place.Large rest = omega (arith, rest)
    by place.Promoted rest =
        omega (arith, rest, length-append (large_pages cs o) (flat_map (λ o. pages_if_promoted cs o o.place) os), length-large cs o)

pub promoted-le : (g : Graph) → IsFormed g → length (promoted_pages g) ≤ 32768
promoted-le g formed =
    omega (arith, pages-le g.classes g.objects, costs-is g, formed.regions, formed.budget)

-- pages are the same where the test says so
pub page-same : (a b : PageName) → same_page a b ≡ true → a ≡ b
page-same (Image j) (Image k) e = ap Image (eqb-true j k e)
page-same (Image j) (Zygote k) e = cc
page-same (Image j) (Large n k) e = cc
page-same (Zygote j) (Image k) e = cc
page-same (Zygote j) (Zygote k) e = ap Zygote (eqb-true j k e)
page-same (Zygote j) (Large n k) e = cc
page-same (Large m j) (Image k) e = cc
page-same (Large m j) (Zygote k) e = cc
page-same (Large m j) (Large n k) e =
    let parts = and_parts (nat_eq m n) (nat_eq j k) e in
    ap (λ x. Large x j) (eqb-true m n parts.0) ∙ ap (Large n) (eqb-true j k parts.1)

pub page-refl : (a : PageName) → same_page a a ≡ true
page-refl (Image j) = eq-eqb j j refl
page-refl (Zygote j) = eq-eqb j j refl
page-refl (Large n k) = and_from (nat_eq n n) (nat_eq k k) (eq-eqb n n refl) (eq-eqb k k refl)

page-symm : (a b : PageName) → same_page a b ≡ same_page b a
page-symm a b = by (same_page a b) (same_page b a) refl refl
  where
    by : (x y : Bool) → same_page a b ≡ x → same_page b a ≡ y → x ≡ y
    by true true d e = refl
    by false false d e = refl
    by true false d e = sym (sym e ∙ ap (λ c. same_page c a) (sym (page-same a b d)) ∙ page-refl a)
    by false true d e = sym d ∙ ap (λ c. same_page a c) (page-same b a e) ∙ page-refl a

page-congr : (a b c : PageName) → same_page a b ≡ true → same_page a c ≡ same_page b c
page-congr a b c e = ap (λ x. same_page x c) (page-same a b e)

pub page-laws : IsEquivalence same_page
page-laws = record { refl = page-refl; symm = page-symm; congr = page-congr }

-- a page that is among touched ones has what each of them has
among-has : (P : PageName → Type 0) (ps : List PageName) (q : PageName) → AllByRecursion P ps → is_touched ps q ≡ true → P q
among-has P [] q h e = cc
among-has P (p ∷ ps) q h e =
    elim (or_cases (same_page q p) (is_touched ps q) e) [
      | inl here ↦ subst P (sym (page-same q p here)) h.0
      | inr later ↦ among-has P ps q h.1 later
    ]

-- how many pages stand
standing-length : (g : Graph) → length (standing_pages g) ≡ parts_for page_bytes (image_fill g) + parts_for page_bytes (zygote_fill g) + length (promoted_pages g)
standing-length g =
    let image : length (image_pages g) ≡ parts_for page_bytes (image_fill g) =
    length-map (count_from 0 (parts_for page_bytes (image_fill g))) Image ∙ length-count 0 (parts_for page_bytes (image_fill g)) in
    let zygote : length (zygote_pages g) ≡ parts_for page_bytes (zygote_fill g) =
    length-map (count_from 0 (parts_for page_bytes (zygote_fill g))) Zygote ∙ length-count 0 (parts_for page_bytes (zygote_fill g)) in
    let both : length (image_pages g ++ zygote_pages g) ≡ parts_for page_bytes (image_fill g) + parts_for page_bytes (zygote_fill g) =
    length-append (image_pages g) (zygote_pages g) ∙ ap (λ n. n + length (zygote_pages g)) image ∙ ap (λ n. parts_for page_bytes (image_fill g) + n) zygote in
    length-append (image_pages g ++ zygote_pages g) (promoted_pages g) ∙ ap (λ n. n + length (promoted_pages g)) both

pub touched-le : (p : Part) → IsSound p → length p.touched ≤ 131072
touched-le p sound =
    let g : Graph = p.graph in
    let fits : length p.touched ≤ length (standing_pages g) =
    length-le_from_is_member page-laws p.touched (standing_pages g) sound.touched_once (λ q e. among-has (λ page. is_touched (standing_pages g) page ≡ true) p.touched q sound.touched_stand e) in
    let few : parts_for page_bytes (image_fill g) + parts_for page_bytes (zygote_fill g) + length (promoted_pages g) ≤ 131072 =
    omega (arith, promoted-le g sound.formed, sound.formed.image_fits, sound.formed.zygote_fits) in
    omega (arith, fits, standing-length g, few)
