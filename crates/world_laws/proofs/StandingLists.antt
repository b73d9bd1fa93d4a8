-- The lists of pages that stand and wait are those of the tests, and have no page twice.
use Rattle.std.proofs.Common.{◌≡◌, ℕ, zero, suc, ◌+◌, ◌<◌, Bool, true, false, true≢false, cond, ◌&&◌, ◌||◌, inl, inr, List, [], ◌∷◌, ◌++◌, map, nat_eq, nat_lt, refl, sym, ap, subst, ◌∙◌, eq-eqb, arith}
use Rattle.std.specs.List.{AllByRecursion, IsDistinct, flat_map}
use Rattle.std.proofs.lemmas.Bool.{and_from, and_parts, eqb-true, lt-ltb, ltb-true, or_cases, or_left, or_right}
use Rattle.std.proofs.lemmas.List.Folds.{list_any-append}
use Rattle.model_numbers.specs.Numbers.{page_bytes}
use Rattle.class_layout.specs.ClassList.{Class}
use Rattle.heap_graph.specs.declared.names.Place.{Place}
use Rattle.heap_graph.specs.declared.names.Place.TheVariants as place
use Rattle.heap_graph.specs.Graph.{Graph, Object, image_fill, zygote_fill}
use Rattle.heap_graph.specs.Sizes.{parts_for, unrounded}
use Rattle.heap_world.specs.declared.names.PageName.{PageName}
use Rattle.heap_world.specs.declared.names.PageName.TheVariants.{Image, Zygote, Large}
use Rattle.heap_graph.specs.Formed.{AreRising, IsFormed}
use Rattle.heap_world.specs.Pages.{count_from, image_pages, is_touched, large_pages, pages_if_promoted, promoted_pages, same_page, standing_pages, zygote_pages}
use Rattle.heap_world.proofs.Bounds.{page-refl}
use Rattle.heap_world.proofs.SoundParts.{distinct-more, distinct-none}
use Rattle.heap_world.proofs.Standing.{in-count, in-left, in-right}
use Rattle.world_laws.specs.Named.{has_page, has_slot, is_named, is_paged, is_promoted, is_waiting, pages_if_waiting, stands, waiting_pages, waits}
use Rattle.world_laws.proofs.PageLists.{in_count_at, in_either}

-- tests that pass alike
pub same_test : (a b : Bool) → (a ≡ true → b ≡ true) → (b ≡ true → a ≡ true) → a ≡ b
same_test true b to from = sym (to refl)
same_test false true to from = from refl
same_test false false to from = refl

-- what doesn't pass
pub none_from : (b : Bool) → (b ≡ true → ⊥) → b ≡ false
none_from true h = absurd (h refl)
none_from false h = refl

module _ (S : Place → Bool) (L : List Class → Object → Place → List PageName) (is : (cs : List Class) (o : Object) (q : Place) → L cs o q ≡ cond (S q) (large_pages cs o) []) (cs : List Class) where
  abbrev pages_of : List Object → List PageName
  pages_of os = flat_map (λ o. L cs o o.place) os

  -- the pages of one object
  own_at : (o : Object) (a : PageName) → is_touched (L cs o o.place) a ≡ true → (k : ℕ) × (a ≡ Large o.number k) × (has_page S cs o.number k o ≡ true)
  own_at o a h = by (S o.place) refl (subst (λ ps. is_touched ps a ≡ true) (is cs o o.place) h)
    where
      by : (b : Bool) → S o.place ≡ b → is_touched (cond b (large_pages cs o) []) a ≡ true → (k : ℕ) × (a ≡ Large o.number k) × (has_page S cs o.number k o ≡ true)
      by true e h =
          let count : ℕ = parts_for page_bytes (unrounded cs o.shape) in
          let at = in_count_at (Large o.number) 0 count a h in
          (at.0, at.3, and_from (nat_eq o.number o.number) (S o.place && nat_lt at.0 count) (eq-eqb o.number o.number refl) (and_from (S o.place) (nat_lt at.0 count) e (lt-ltb at.0 count (omega (arith, at.2)))))
      by false e h = absurd (true≢false (sym h))

  own_in : (o : Object) (n k : ℕ) → has_page S cs n k o ≡ true → is_touched (L cs o o.place) (Large n k) ≡ true
  own_in o n k h =
      let count : ℕ = parts_for page_bytes (unrounded cs o.shape) in
      let parts = and_parts (nat_eq o.number n) (S o.place && nat_lt k count) h in
      let inner = and_parts (S o.place) (nat_lt k count) parts.1 in
      let number : o.number ≡ n = eqb-true o.number n parts.0 in
      subst (λ ps. is_touched ps (Large n k) ≡ true) (sym (is cs o o.place ∙ ap (λ b. cond b (large_pages cs o) []) inner.0))
      (subst (λ m. is_touched (large_pages cs o) (Large m k) ≡ true) number (in-count (Large o.number) 0 count k (omega arith) (omega (arith, ltb-true k count inner.1))))

  -- the pages of all
  pub paged_at : (os : List Object) (a : PageName) → is_touched (pages_of os) a ≡ true → (n : ℕ) × (k : ℕ) × (a ≡ Large n k) × (is_paged S cs os n k ≡ true)
  paged_at [] a h = absurd (true≢false (sym h))
  paged_at (o ∷ os) a h =
      elim (in_either (L cs o o.place) (pages_of os) a h) [
        | inl here ↦ let at = own_at o a here in (o.number, at.0, at.1, or_left (has_page S cs o.number at.0 o) (is_paged S cs os o.number at.0) at.2)
        | inr later ↦ let at = paged_at os a later in (at.0, at.1, at.2, or_right (has_page S cs at.0 at.1 o) (is_paged S cs os at.0 at.1) at.3)
      ]

  pub paged_in : (os : List Object) (n k : ℕ) → is_paged S cs os n k ≡ true → is_touched (pages_of os) (Large n k) ≡ true
  paged_in [] n k h = absurd (true≢false (sym h))
  paged_in (o ∷ os) n k h =
      elim (or_cases (has_page S cs n k o) (is_paged S cs os n k) h) [
        | inl here ↦ in-left (L cs o o.place) (pages_of os) (Large n k) (own_in o n k here)
        | inr later ↦ in-right (L cs o o.place) (pages_of os) (Large n k) (paged_in os n k later)
      ]

promoted_is : (cs : List Class) (o : Object) (q : Place) → pages_if_promoted cs o q ≡ cond (is_promoted q) (large_pages cs o) []
promoted_is cs o (place.Image spot) = refl
promoted_is cs o (place.Zygote spot) = refl
promoted_is cs o place.Young = refl
promoted_is cs o place.Large = refl
promoted_is cs o place.Promoted = refl

waiting_is : (cs : List Class) (o : Object) (q : Place) → pages_if_waiting cs o q ≡ cond (is_waiting q) (large_pages cs o) []
waiting_is cs o (place.Image spot) = refl
waiting_is cs o (place.Zygote spot) = refl
waiting_is cs o place.Young = refl
waiting_is cs o place.Large = refl
waiting_is cs o place.Promoted = refl

-- a page that stands by the list stands by the test, and the other way round
standing_at : (g : Graph) (a : PageName) → is_touched (standing_pages g) a ≡ true → stands g a ≡ true
standing_at g a h = elim (in_either (image_pages g ++ zygote_pages g) (promoted_pages g) a h) [
  | inl low ↦ elim (in_either (image_pages g) (zygote_pages g) a low) [
    | inl x ↦
        let n : ℕ = parts_for page_bytes (image_fill g) in
        let at = in_count_at Image 0 n a x in
        ap (stands g) at.3 ∙ lt-ltb at.0 n (omega (arith, at.2))
    | inr x ↦
        let n : ℕ = parts_for page_bytes (zygote_fill g) in
        let at = in_count_at Zygote 0 n a x in
        ap (stands g) at.3 ∙ lt-ltb at.0 n (omega (arith, at.2))
  ]
  | inr x ↦ let at = paged_at is_promoted pages_if_promoted promoted_is g.classes g.objects a x in ap (stands g) at.2 ∙ at.3
]

standing_in : (g : Graph) (a : PageName) → stands g a ≡ true → is_touched (standing_pages g) a ≡ true
standing_in g (Image k) h =
    let n : ℕ = parts_for page_bytes (image_fill g) in
    in-left (image_pages g ++ zygote_pages g) (promoted_pages g) (Image k) (in-left (image_pages g) (zygote_pages g) (Image k) (in-count Image 0 n k (omega arith) (omega (arith, ltb-true k n h))))
standing_in g (Zygote k) h =
    let n : ℕ = parts_for page_bytes (zygote_fill g) in
    in-left (image_pages g ++ zygote_pages g) (promoted_pages g) (Zygote k) (in-right (image_pages g) (zygote_pages g) (Zygote k) (in-count Zygote 0 n k (omega arith) (omega (arith, ltb-true k n h))))
standing_in g (Large n k) h =
    in-right (image_pages g ++ zygote_pages g) (promoted_pages g) (Large n k) (paged_in is_promoted pages_if_promoted promoted_is g.classes g.objects n k h)

pub standing_lists : (g : Graph) (a : PageName) → is_touched (standing_pages g) a ≡ stands g a
standing_lists g a = same_test (is_touched (standing_pages g) a) (stands g a) (standing_at g a) (standing_in g a)

waits_in : (g : Graph) (a : PageName) → waits g a ≡ true → is_touched (waiting_pages g) a ≡ true
waits_in g (Image k) h = absurd (true≢false (sym h))
waits_in g (Zygote k) h = absurd (true≢false (sym h))
waits_in g (Large n k) h = paged_in is_waiting pages_if_waiting waiting_is g.classes g.objects n k h

pub waiting_lists : (g : Graph) (a : PageName) → is_touched (waiting_pages g) a ≡ waits g a
waiting_lists g a =
    same_test (is_touched (waiting_pages g) a) (waits g a)
    (λ h. let at = paged_at is_waiting pages_if_waiting waiting_is g.classes g.objects a h in ap (waits g) at.2 ∙ at.3)
    (waits_in g a)

-- an object is in a slot where it is promoted or waits
slot_is : (q : Place) → has_slot q ≡ (is_promoted q || is_waiting q)
slot_is (place.Image spot) = refl
slot_is (place.Zygote spot) = refl
slot_is place.Young = refl
slot_is place.Large = refl
slot_is place.Promoted = refl

or_false_is : (b : Bool) → b ≡ (b || false)
or_false_is true = refl
or_false_is false = refl

paged_both : (cs : List Class) (os : List Object) (n k : ℕ) → is_paged has_slot cs os n k ≡ (is_paged is_promoted cs os n k || is_paged is_waiting cs os n k)
paged_both cs [] n k = refl
paged_both cs (o ∷ os) n k =
    ap (λ s. (nat_eq o.number n && (s && within)) || is_paged has_slot cs os n k) (slot_is o.place)
    ∙ ap (λ b. (nat_eq o.number n && ((is_promoted o.place || is_waiting o.place) && within)) || b) (paged_both cs os n k)
    ∙ regroup (nat_eq o.number n) (is_promoted o.place) (is_waiting o.place) within (is_paged is_promoted cs os n k) (is_paged is_waiting cs os n k)
  where
    within : Bool
    within = nat_lt k (parts_for page_bytes (unrounded cs o.shape))

    regroup : (e p w l r s : Bool) → ((e && ((p || w) && l)) || (r || s)) ≡ (((e && (p && l)) || r) || ((e && (w && l)) || s))
    regroup false p w l r s = refl
    regroup true true true true r s = refl
    regroup true true true false r s = refl
    regroup true true false true r s = refl
    regroup true true false false r s = refl
    regroup true false true true true s = refl
    regroup true false true true false s = refl
    regroup true false true false r s = refl
    regroup true false false l r s = refl

pub named_both : (g : Graph) (a : PageName) → is_named g a ≡ (stands g a || waits g a)
named_both g (Image k) = or_false_is (nat_lt k (parts_for page_bytes (image_fill g)))
named_both g (Zygote k) = or_false_is (nat_lt k (parts_for page_bytes (zygote_fill g)))
named_both g (Large n k) = paged_both g.classes g.objects n k

-- no object of rising numbers has a number below them
pub below_none : (S : Place → Bool) (cs : List Class) (low next n k : ℕ) (os : List Object) → n < low → AreRising low next os → is_paged S cs os n k ≡ false
below_none S cs low next n k [] less rising = refl
below_none S cs low next n k (o ∷ os) less rising =
    ap (λ b. (b && (S o.place && nat_lt k (parts_for page_bytes (unrounded cs o.shape)))) || is_paged S cs os n k) (none_from (nat_eq o.number n) (λ e. omega (arith, eqb-true o.number n e, rising.0, less)))
    ∙ below_none S cs (o.number + 1) next n k os (omega (arith, rising.0, less)) rising.1

-- lists in which no page comes twice
not_among : (p : PageName) (ps : List PageName) → AllByRecursion (λ q. same_page p q ≡ false) ps → is_touched ps p ≡ false
not_among p [] h = refl
not_among p (q ∷ ps) h = ap (λ b. b || is_touched ps p) h.0 ∙ not_among p ps h.1

pub distinct_parts : (p : PageName) (ps : List PageName) → IsDistinct same_page (p ∷ ps) → (is_touched ps p ≡ false) × IsDistinct same_page ps
unfolding IsDistinct
distinct_parts p ps h = (not_among p ps h.0, h.1)

pub page_first : (p : PageName) (ps : List PageName) → is_touched (p ∷ ps) p ≡ true
page_first p ps = or_left (same_page p p) (is_touched ps p) (page-refl p)

distinct_join : (ps qs : List PageName) → IsDistinct same_page ps → IsDistinct same_page qs → ((a : PageName) → is_touched ps a ≡ true → is_touched qs a ≡ true → ⊥) → IsDistinct same_page (ps ++ qs)
distinct_join [] qs d e apart = e
distinct_join (p ∷ ps) qs d e apart =
    let parts = distinct_parts p ps d in
    let here : is_touched qs p ≡ false = none_from (is_touched qs p) (apart p (page_first p ps)) in
    distinct-more same_page (ps ++ qs) p (list_any-append (same_page p) ps qs ∙ ap (λ b. b || is_touched qs p) parts.0 ∙ here)
    (distinct_join ps qs parts.1 e (λ a h. apart a (or_right (same_page a p) (is_touched ps a) h)))

distinct_count : (page : ℕ → PageName) → ((j k : ℕ) → page j ≡ page k → j ≡ k) → (start n : ℕ) → IsDistinct same_page (map page (count_from start n))
distinct_count page apart start zero = distinct-none same_page
distinct_count page apart start (suc n) =
    distinct-more same_page (map page (count_from (start + 1) n)) (page start)
    (none_from (is_touched (map page (count_from (start + 1) n)) (page start)) (λ h. let at = in_count_at page (start + 1) n (page start) h in omega (arith, apart start at.0 at.3, at.1)))
    (distinct_count page apart (start + 1) n)

distinct_promoted : (cs : List Class) (low next : ℕ) (os : List Object) → AreRising low next os → IsDistinct same_page (flat_map (λ o. pages_if_promoted cs o o.place) os)
distinct_promoted cs low next [] rising = distinct-none same_page
distinct_promoted cs low next (o ∷ os) rising =
    let here : List PageName = pages_if_promoted cs o o.place in
    let later : List PageName = flat_map (λ o. pages_if_promoted cs o o.place) os in
    distinct_join here later (own o.place) (distinct_promoted cs (o.number + 1) next os rising.1)
    (λ a h k.
    let first = own_at is_promoted pages_if_promoted promoted_is cs o a h in
    let second = paged_at is_promoted pages_if_promoted promoted_is cs os a k in
    let same : Large o.number first.0 ≡ Large second.0 second.1 = sym first.1 ∙ second.2 in
    let number : o.number ≡ second.0 = cc in
    true≢false (sym second.3 ∙ below_none is_promoted cs (o.number + 1) next second.0 second.1 os (omega (arith, number)) rising.1))
  where
    own : (q : Place) → IsDistinct same_page (pages_if_promoted cs o q)
    own (place.Image spot) = distinct-none same_page
    own (place.Zygote spot) = distinct-none same_page
    own place.Young = distinct-none same_page
    own place.Large = distinct-none same_page
    own place.Promoted = distinct_count (Large o.number) (λ j k e. cc) 0 (parts_for page_bytes (unrounded cs o.shape))

pub standing_once : (g : Graph) → IsFormed g → IsDistinct same_page (standing_pages g)
standing_once g formed =
    distinct_join (image_pages g ++ zygote_pages g) (promoted_pages g)
    (distinct_join (image_pages g) (zygote_pages g)
    (distinct_count Image (λ j k e. cc) 0 (parts_for page_bytes (image_fill g)))
    (distinct_count Zygote (λ j k e. cc) 0 (parts_for page_bytes (zygote_fill g)))
    (λ a h k.
    let first = in_count_at Image 0 (parts_for page_bytes (image_fill g)) a h in
    let second = in_count_at Zygote 0 (parts_for page_bytes (zygote_fill g)) a k in
    no_image first.0 second.0 (sym first.3 ∙ second.3)))
    (distinct_promoted g.classes 0 g.next g.objects formed.numbers)
    (λ a h k.
    let large = paged_at is_promoted pages_if_promoted promoted_is g.classes g.objects a k in
    elim (in_either (image_pages g) (zygote_pages g) a h) [
      | inl x ↦ let at = in_count_at Image 0 (parts_for page_bytes (image_fill g)) a x in no_large at.0 large.0 large.1 (sym at.3 ∙ large.2)
      | inr x ↦ let at = in_count_at Zygote 0 (parts_for page_bytes (zygote_fill g)) a x in no_zygote at.0 large.0 large.1 (sym at.3 ∙ large.2)
    ])
  where
    no_image : (j k : ℕ) → Image j ≡ Zygote k → ⊥
    no_image j k e = cc

    no_large : (j n k : ℕ) → Image j ≡ Large n k → ⊥
    no_large j n k e = cc

    no_zygote : (j n k : ℕ) → Zygote j ≡ Large n k → ⊥
    no_zygote j n k e = cc
