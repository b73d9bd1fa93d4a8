-- Which pages have labels after a change of a graph: those that had, and those that were made.
use Rattle.std.proofs.Common.{◌≡◌, ◌⊎◌, ℕ, ◌+◌, ◌-◌, ◌<◌, ◌≤◌, Bool, true, false, true≢false, cond, ◌&&◌, ◌||◌, inl, inr, List, [], ◌∷◌, ◌++◌, map, filter, nat_eq, nat_lt, max, refl, sym, ap, subst, ◌∙◌, arith}
use Rattle.std.proofs.lemmas.Bool.{and_from, and_parts, eqb-true, cases_lt, lt-ltb, ltb-true, or_cases, or_left, or_right}
use Rattle.std.proofs.lemmas.List.Folds.{list_any-append}
use Rattle.class_layout.specs.ClassList.{Class}
use Rattle.heap_graph.specs.declared.names.Place.{Place}
use Rattle.heap_graph.specs.declared.names.Place.TheVariants as place
use Rattle.heap_graph.specs.declared.names.Shape.{Shape}
use Rattle.heap_graph.specs.declared.names.Stored.{Stored}
use Rattle.heap_graph.specs.Allocation.{heap_place, with_object, with_heap_object}
use Rattle.heap_graph.specs.Collection.{collect, is_kept}
use Rattle.heap_graph.specs.Fork.{next_spot, promoted, promoted_from, promoted_place, promotion_bytes, promotion_start}
use Rattle.heap_graph.specs.Graph.{Graph, Object, image_fill, image_size, size_of_object, zygote_fill}
use Rattle.heap_graph.specs.Reach.{reached}
use Rattle.model_numbers.specs.Numbers.{image_base, page_bytes}
use Rattle.heap_graph.specs.Sizes.{is_large, parts_for, size_in, unrounded}
use Rattle.heap_graph.proofs.Totals.{total-filter, total-promoted, total-push}
use Rattle.heap_world.specs.declared.names.PageName.{PageName}
use Rattle.heap_world.specs.declared.names.PageName.TheVariants.{Image, Zygote, Large}
use Rattle.heap_world.specs.Acts.{fork_pages, image_pages_behind, slot_pages_if}
use Rattle.heap_graph.specs.Formed.{FillZygote, IsBehindZygote, IsFormed, zygote_next}
use Rattle.heap_world.specs.Pages.{is_touched}
use Rattle.heap_world.proofs.FormedKept.{loose-dropped}
use Rattle.heap_world.proofs.Placed.{fill-is, top-is, zygote_top}
use Rattle.heap_world.proofs.PlacedFilter.{no_image, top-filter, zygote-filter}
use Rattle.heap_world.proofs.PlacedFork.{top-promoted, young-sum}
use Rattle.heap_world.proofs.PlacedPush.{top-push, zygote-push}
use Rattle.heap_world.proofs.PlacedSame.{AreSame, cleared-same, image_size-same, top-same, total-same, zygote-same}
use Rattle.heap_world.proofs.Standing.{in-count}
use Rattle.world_laws.specs.Named.{has_page, has_slot, is_named, is_paged, is_waiting, waits}

-- a graph of these classes and objects
abbrev bare : List Class → List Object → Graph
bare cs os = record { classes = cs; next = 0; budget = 0; sealed = false; dumps = 0; roots = []; objects = os }

-- the tests of pages, by classes and objects alone
abbrev pub labels_in : List Class → List Object → PageName → Bool
labels_in cs os a = is_named (bare cs os) a

abbrev pub waiting_in : List Class → List Object → PageName → Bool
waiting_in cs os a = waits (bare cs os) a

-- a page that passes a test afterwards passed it before, or was made
abbrev pub Reaches : (List Class → List Object → PageName → Bool) → Graph → Graph → List PageName → Type 0
Reaches T g h made = (a : PageName) → T h.classes h.objects a ≡ true → (T g.classes g.objects a ≡ true) ⊎ (is_touched made a ≡ true)

pub reaches-then : (T : List Class → List Object → PageName → Bool) (g h k : Graph) (made : List PageName) → Reaches T g h [] → Reaches T h k made → Reaches T g k made
reaches-then T g h k made first second a x = elim (second a x) [
  | inl y ↦ elim (first a y) [ inl z ↦ inl z | inr z ↦ absurd (true≢false (sym z)) ]
  | inr y ↦ inr y
]

-- by the fills and the pages of slots
reaches-from : (g h : Graph) (made : List PageName)
    → ((k : ℕ) → k < parts_for page_bytes (image_fill h) → (k < parts_for page_bytes (image_fill g)) ⊎ (is_touched made (Image k) ≡ true))
    → ((k : ℕ) → k < parts_for page_bytes (zygote_fill h) → (k < parts_for page_bytes (zygote_fill g)) ⊎ (is_touched made (Zygote k) ≡ true))
    → ((n k : ℕ) → is_paged has_slot h.classes h.objects n k ≡ true → (is_paged has_slot g.classes g.objects n k ≡ true) ⊎ (is_touched made (Large n k) ≡ true)) → Reaches labels_in g h made
reaches-from g h made image zygote large (Image k) x = elim (image k (ltb-true k (parts_for page_bytes (image_fill h)) x)) [
  | inl y ↦ inl (lt-ltb k (parts_for page_bytes (image_fill g)) y)
  | inr y ↦ inr y
]
reaches-from g h made image zygote large (Zygote k) x = elim (zygote k (ltb-true k (parts_for page_bytes (zygote_fill h)) x)) [
  | inl y ↦ inl (lt-ltb k (parts_for page_bytes (zygote_fill g)) y)
  | inr y ↦ inr y
]
reaches-from g h made image zygote large (Large n k) x = large n k x

-- objects of the same numbers, places and sizes
paged-same : (S : Place → Bool) (cs ds : List Class) (os xs : List Object) → AreSame cs ds os xs → (n k : ℕ) → is_paged S ds xs n k ≡ is_paged S cs os n k
paged-same S cs ds [] [] same n k = refl
paged-same S cs ds [] (x ∷ xs) same n k = absurd same
paged-same S cs ds (o ∷ os) [] same n k = absurd same
paged-same S cs ds (o ∷ os) (x ∷ xs) same n k =
    ap (λ m. (nat_eq m n && (S x.place && nat_lt k (parts_for page_bytes (unrounded ds x.shape)))) || is_paged S ds xs n k) same.0.number
    ∙ ap (λ q. (nat_eq o.number n && (S q && nat_lt k (parts_for page_bytes (unrounded ds x.shape)))) || is_paged S ds xs n k) same.0.place
    ∙ ap (λ b. (nat_eq o.number n && (S o.place && nat_lt k (parts_for page_bytes b))) || is_paged S ds xs n k) same.0.bytes
    ∙ ap (λ b. has_page S cs n k o || b) (paged-same S cs ds os xs same.1 n k)

-- such objects fill as much
pub fills-same : (g h : Graph) → AreSame g.classes h.classes g.objects h.objects → FillZygote g.classes 0 g.objects → (image_fill h ≡ image_fill g) × (zygote_fill h ≡ zygote_fill g)
fills-same g h same zygote =
    let cs : List Class = g.classes in
    let ds : List Class = h.classes in (
      fill-is h ∙ total-same cs ds (λ o. image_size cs o o.place) (λ x. image_size ds x x.place) (image_size-same cs ds) g.objects h.objects same ∙ sym (fill-is g),
      sym (top-is ds h.objects (zygote-same cs ds 0 g.objects h.objects same zygote)) ∙ top-same cs ds 0 g.objects h.objects same ∙ top-is cs g.objects zygote,
    )

pub reaches-same : (g h : Graph) (made : List PageName) → AreSame g.classes h.classes g.objects h.objects → FillZygote g.classes 0 g.objects → Reaches labels_in g h made
reaches-same g h made same zygote =
    let fills = fills-same g h same zygote in
    reaches-from g h made
    (λ k x. inl (subst (λ n. k < parts_for page_bytes n) fills.0 x))
    (λ k x. inl (subst (λ n. k < parts_for page_bytes n) fills.1 x))
    (λ n k x. inl (sym (paged-same has_slot g.classes h.classes g.objects h.objects same n k) ∙ x))

-- a collection
paged-filter : (S : Place → Bool) (cs : List Class) (keep : Object → Bool) (os : List Object) (n k : ℕ) → is_paged S cs (filter keep os) n k ≡ true → is_paged S cs os n k ≡ true
paged-filter S cs keep [] n k x = x
paged-filter S cs keep (o ∷ os) n k x = by (keep o) x (paged-filter S cs keep os n k)
  where
    by : (b : Bool) → is_paged S cs (cond b (o ∷ filter keep os) (filter keep os)) n k ≡ true → (is_paged S cs (filter keep os) n k ≡ true → is_paged S cs os n k ≡ true) → is_paged S cs (o ∷ os) n k ≡ true
    by true x rest = elim (or_cases (has_page S cs n k o) (is_paged S cs (filter keep os) n k) x) [
      | inl y ↦ or_left (has_page S cs n k o) (is_paged S cs os n k) y
      | inr y ↦ or_right (has_page S cs n k o) (is_paged S cs os n k) (rest y)
    ]
    by false x rest = or_right (has_page S cs n k o) (is_paged S cs os n k) (rest x)

-- a collection leaves the fills
fills-filter : (g : Graph) → g.sealed ≡ true → IsFormed g → (image_fill (record g { objects = filter (is_kept g.sealed (reached g)) g.objects }) ≡ image_fill g) × (zygote_fill (record g { objects = filter (is_kept g.sealed (reached g)) g.objects }) ≡ zygote_fill g)
fills-filter g sealed formed =
    let cs : List Class = g.classes in
    let keep : Object → Bool = is_kept g.sealed (reached g) in
    let kept : List Object = filter keep g.objects in
    let loose = loose-dropped g sealed in
    let left : Graph = record g { objects = kept } in
    let whole : FillZygote cs 0 kept = zygote-filter cs keep loose 0 g.objects formed.zygote in (
      fill-is left ∙ total-filter keep (λ o. image_size cs o o.place) (no_image cs keep loose) g.objects ∙ sym (fill-is g),
      sym (top-is cs kept whole) ∙ top-filter cs keep loose 0 g.objects ∙ top-is cs g.objects formed.zygote,
    )

pub fills-collect : (g : Graph) → g.sealed ≡ true → IsFormed g → (image_fill (collect g) ≡ image_fill g) × (zygote_fill (collect g) ≡ zygote_fill g)
fills-collect g sealed formed =
    let cs : List Class = g.classes in
    let keep : Object → Bool = is_kept g.sealed (reached g) in
    let kept : List Object = filter keep g.objects in
    let left : Graph = record g { objects = kept } in
    let whole : FillZygote cs 0 kept = zygote-filter cs keep (loose-dropped g sealed) 0 g.objects formed.zygote in
    let first = fills-filter g sealed formed in
    let second = fills-same left (collect g) (cleared-same cs (map (λ o. o.number) kept) kept) whole in
    (second.0 ∙ first.0, second.1 ∙ first.1)

pub reaches-collect : (g : Graph) → g.sealed ≡ true → IsFormed g → Reaches labels_in g (collect g) []
reaches-collect g sealed formed =
    let cs : List Class = g.classes in
    let keep : Object → Bool = is_kept g.sealed (reached g) in
    let kept : List Object = filter keep g.objects in
    let loose = loose-dropped g sealed in
    let left : Graph = record g { objects = kept } in
    let whole : FillZygote cs 0 kept = zygote-filter cs keep loose 0 g.objects formed.zygote in
    let fills = fills-filter g sealed formed in
    reaches-then labels_in g left (collect g) []
    (reaches-from g left []
    (λ k x. inl (subst (λ n. k < parts_for page_bytes n) fills.0 x))
    (λ k x. inl (subst (λ n. k < parts_for page_bytes n) fills.1 x))
    (λ n k x. inl (paged-filter has_slot cs keep g.objects n k x)))
    (reaches-same left (collect g) [] (cleared-same cs (map (λ o. o.number) kept) kept) whole)

-- one more object
paged-push : (S : Place → Bool) (cs : List Class) (os : List Object) (o : Object) (n k : ℕ) → is_paged S cs (os ++ o ∷ []) n k ≡ true
    → (is_paged S cs os n k ≡ true) ⊎ (has_page S cs n k o ≡ true)
paged-push S cs os o n k x =
    elim (or_cases (is_paged S cs os n k) (is_paged S cs (o ∷ []) n k) (sym (list_any-append (has_page S cs n k) os (o ∷ [])) ∙ x)) [
      | inl y ↦ inl y
      | inr y ↦ elim (or_cases (has_page S cs n k o) false y) [ inl z ↦ inr z | inr z ↦ absurd (true≢false (sym z)) ]
    ]

-- one more object leaves the zygote window, and fills the image by its bytes there
fills-push : (g : Graph) (n : ℕ) (made : Object) → FillZygote g.classes 0 g.objects → IsBehindZygote (zygote_top g.classes 0 g.objects) made.place
    → zygote_next g.classes (zygote_top g.classes 0 g.objects) made made.place ≡ zygote_top g.classes 0 g.objects
    → (image_fill (record g { next = n; objects = g.objects ++ made ∷ [] }) ≡ image_fill g + image_size g.classes made made.place) × (zygote_fill (record g { next = n; objects = g.objects ++ made ∷ [] }) ≡ zygote_fill g)
fills-push g n made zygote behind next =
    let cs : List Class = g.classes in
    let h : Graph = record g { next = n; objects = g.objects ++ made ∷ [] } in (
      omega (arith, fill-is h, fill-is g, total-push (λ o. image_size cs o o.place) g.objects made),
      sym (top-is cs h.objects (zygote-push cs 0 g.objects made zygote behind)) ∙ top-push cs 0 g.objects made ∙ next ∙ top-is cs g.objects zygote,
    )

pub fills-heap : (g : Graph) (shape : Shape) (slots : List Stored) (b : Bool) → FillZygote g.classes 0 g.objects
    → (image_fill (with_object g shape slots (heap_place b)) ≡ image_fill g) × (zygote_fill (with_object g shape slots (heap_place b)) ≡ zygote_fill g)
fills-heap g shape slots true zygote =
    let fills = fills-push g (g.next + 1) (record { number = g.next; shape = shape; slots = slots; place = heap_place true }) zygote tt refl in (omega (arith, fills.0), fills.1)
fills-heap g shape slots false zygote =
    let fills = fills-push g (g.next + 1) (record { number = g.next; shape = shape; slots = slots; place = heap_place false }) zygote tt refl in (omega (arith, fills.0), fills.1)

pub fills-image : (g : Graph) (shape : Shape) (slots : List Stored) (spot : ℕ) → FillZygote g.classes 0 g.objects
    → (image_fill (with_object g shape slots (place.Image spot)) ≡ image_fill g + size_in g.classes shape) × (zygote_fill (with_object g shape slots (place.Image spot)) ≡ zygote_fill g)
fills-image g shape slots spot zygote = fills-push g (g.next + 1) (record { number = g.next; shape = shape; slots = slots; place = place.Image spot }) zygote tt refl

pub reaches-heap : (g : Graph) (shape : Shape) (slots : List Stored) → FillZygote g.classes 0 g.objects → Reaches labels_in g (with_heap_object g shape slots) (slot_pages_if (is_large g.classes shape) g shape)
reaches-heap g shape slots zygote = by (is_large g.classes shape)
  where
    made_page : (b : Bool) (n k : ℕ) → has_page has_slot g.classes n k (record { number = g.next; shape = shape; slots = slots; place = heap_place b }) ≡ true
        → is_touched (slot_pages_if b g shape) (Large n k) ≡ true
    made_page true n k x =
        let count : ℕ = parts_for page_bytes (unrounded g.classes shape) in
        let parts = and_parts (nat_eq g.next n) (nat_lt k count) x in
        ap (λ m. is_touched (slot_pages_if true g shape) (Large m k)) (sym (eqb-true g.next n parts.0))
        ∙ in-count (Large g.next) 0 count k (omega arith) (omega (arith, ltb-true k count parts.1))
    made_page false n k x = absurd (true≢false (sym (and_parts (nat_eq g.next n) false x).1))

    by : (b : Bool) → Reaches labels_in g (with_object g shape slots (heap_place b)) (slot_pages_if b g shape)
    by b =
        let made : Object = record { number = g.next; shape = shape; slots = slots; place = heap_place b } in
        let h : Graph = with_object g shape slots (heap_place b) in
        let fills = fills-heap g shape slots b zygote in
        reaches-from g h (slot_pages_if b g shape)
        (λ k x. inl (subst (λ n. k < parts_for page_bytes n) fills.0 x))
        (λ k x. inl (subst (λ n. k < parts_for page_bytes n) fills.1 x))
        (λ n k x. elim (paged-push has_slot g.classes g.objects made n k x) [ inl y ↦ inl y | inr y ↦ inr (made_page b n k y) ])

pub reaches-image : (g : Graph) (shape : Shape) (slots : List Stored) → FillZygote g.classes 0 g.objects
    → Reaches labels_in g (with_object g shape slots (place.Image (image_base + image_fill g))) (image_pages_behind (image_fill g) (size_in g.classes shape))
reaches-image g shape slots zygote =
    let cs : List Class = g.classes in
    let made : Object = record { number = g.next; shape = shape; slots = slots; place = place.Image (image_base + image_fill g) } in
    let h : Graph = with_object g shape slots (place.Image (image_base + image_fill g)) in
    let fills = fills-image g shape slots (image_base + image_fill g) zygote in
    let low : ℕ = parts_for page_bytes (image_fill g) in
    let high : ℕ = parts_for page_bytes (image_fill g + size_in cs shape) in
    reaches-from g h (image_pages_behind (image_fill g) (size_in cs shape))
    (λ k x.
    let below : k < high = subst (λ n. k < parts_for page_bytes n) fills.0 x in
    elim (cases_lt k low) [ inl y ↦ inl y | inr y ↦ inr (in-count Image low (high - low) k y (omega arith)) ])
    (λ k x. inl (subst (λ n. k < parts_for page_bytes n) fills.1 x))
    (λ n k x. elim (paged-push has_slot cs g.objects made n k x) [ inl y ↦ inl y | inr y ↦ absurd (true≢false (sym (and_parts (nat_eq g.next n) false y).1)) ])

-- a promotion
paged-promoted : (S : Place → Bool) → ((at : ℕ) (q : Place) → S (promoted_place at q) ≡ true → S q ≡ true) → (cs : List Class) (at : ℕ) (os : List Object) (n k : ℕ)
    → is_paged S cs (promoted_from cs at os) n k ≡ true → is_paged S cs os n k ≡ true
paged-promoted S back cs at [] n k x = x
paged-promoted S back cs at (o ∷ os) n k x =
    elim (or_cases (has_page S cs n k (record o { place = promoted_place at o.place })) (is_paged S cs (promoted_from cs (next_spot at (size_of_object cs o) o.place) os) n k) x) [
      | inl y ↦
          let within : Bool = nat_lt k (parts_for page_bytes (unrounded cs o.shape)) in
          let parts = and_parts (nat_eq o.number n) (S (promoted_place at o.place) && within) y in
          let inner = and_parts (S (promoted_place at o.place)) within parts.1 in
          or_left (has_page S cs n k o) (is_paged S cs os n k) (and_from (nat_eq o.number n) (S o.place && within) parts.0 (and_from (S o.place) within (back at o.place inner.0) inner.1))
      | inr y ↦ or_right (has_page S cs n k o) (is_paged S cs os n k) (paged-promoted S back cs (next_spot at (size_of_object cs o) o.place) os n k y)
    ]

slot-back : (at : ℕ) (q : Place) → has_slot (promoted_place at q) ≡ true → has_slot q ≡ true
slot-back at (place.Image spot) x = x
slot-back at (place.Zygote spot) x = x
slot-back at place.Young x = x
slot-back at place.Large x = refl
slot-back at place.Promoted x = refl

image-promoted : (cs : List Class) (o : Object) (at : ℕ) → image_size cs (record o { place = promoted_place at o.place }) (promoted_place at o.place) ≡ image_size cs o o.place
image-promoted cs o at = by o.place
  where
    by : (q : Place) → image_size cs (record o { place = promoted_place at q }) (promoted_place at q) ≡ image_size cs o q
    by (place.Image spot) = refl
    by (place.Zygote spot) = refl
    by place.Young = refl
    by place.Large = refl
    by place.Promoted = refl

pub reaches-promoted : (g : Graph) → IsFormed g → IsFormed (promoted g) → Reaches labels_in g (promoted g) (fork_pages g)
reaches-promoted g formed after =
    let cs : List Class = g.classes in
    let h : Graph = promoted g in
    let fill : image_fill h ≡ image_fill g = fill-is h ∙ total-promoted (λ o. image_size cs o o.place) (image-promoted cs) cs (promotion_start g) g.objects ∙ sym (fill-is g) in
    let top : zygote_fill h ≤ max (zygote_fill g) (promotion_start g + promotion_bytes g) =
    omega (arith, top-is cs h.objects after.zygote, top-is cs g.objects formed.zygote, top-promoted cs 0 (promotion_start g) g.objects, young-sum cs g.objects) in
    let low : ℕ = parts_for page_bytes (zygote_fill g) in
    reaches-from g h (fork_pages g)
    (λ k x. inl (subst (λ n. k < parts_for page_bytes n) fill x))
    (λ k x. elim (cases_lt k low) [ inl y ↦ inl y | inr y ↦ inr (in-count Zygote low (parts_for page_bytes (promotion_bytes g)) k y (omega (arith, top, x))) ])
    (λ n k x. inl (paged-promoted has_slot slot-back cs (promotion_start g) g.objects n k x))

-- the same of pages that wait for a promotion

waiting-from : (g h : Graph) (made : List PageName)
    → ((n k : ℕ) → is_paged is_waiting h.classes h.objects n k ≡ true → (is_paged is_waiting g.classes g.objects n k ≡ true) ⊎ (is_touched made (Large n k) ≡ true)) → Reaches waiting_in g h made
waiting-from g h made large (Image k) x = absurd (true≢false (sym x))
waiting-from g h made large (Zygote k) x = absurd (true≢false (sym x))
waiting-from g h made large (Large n k) x = large n k x

pub waiting-same : (g h : Graph) (made : List PageName) → AreSame g.classes h.classes g.objects h.objects → FillZygote g.classes 0 g.objects → Reaches waiting_in g h made
waiting-same g h made same zygote = waiting-from g h made (λ n k x. inl (sym (paged-same is_waiting g.classes h.classes g.objects h.objects same n k) ∙ x))

pub waiting-collect : (g : Graph) → g.sealed ≡ true → IsFormed g → Reaches waiting_in g (collect g) []
waiting-collect g sealed formed =
    let keep : Object → Bool = is_kept g.sealed (reached g) in
    let kept : List Object = filter keep g.objects in
    waiting-from g (collect g) []
    (λ n k x. inl (paged-filter is_waiting g.classes keep g.objects n k (sym (paged-same is_waiting g.classes g.classes kept (collect g).objects (cleared-same g.classes (map (λ o. o.number) kept) kept) n k) ∙ x)))

pub waiting-heap : (g : Graph) (shape : Shape) (slots : List Stored) → FillZygote g.classes 0 g.objects → Reaches waiting_in g (with_heap_object g shape slots) (slot_pages_if (is_large g.classes shape) g shape)
waiting-heap g shape slots zygote = by (is_large g.classes shape)
  where
    made_page : (b : Bool) (n k : ℕ) → has_page is_waiting g.classes n k (record { number = g.next; shape = shape; slots = slots; place = heap_place b }) ≡ true
        → is_touched (slot_pages_if b g shape) (Large n k) ≡ true
    made_page true n k x =
        let count : ℕ = parts_for page_bytes (unrounded g.classes shape) in
        let parts = and_parts (nat_eq g.next n) (nat_lt k count) x in
        ap (λ m. is_touched (slot_pages_if true g shape) (Large m k)) (sym (eqb-true g.next n parts.0))
        ∙ in-count (Large g.next) 0 count k (omega arith) (omega (arith, ltb-true k count parts.1))
    made_page false n k x = absurd (true≢false (sym (and_parts (nat_eq g.next n) false x).1))

    by : (b : Bool) → Reaches waiting_in g (record g { next = g.next + 1; objects = g.objects ++ record { number = g.next; shape = shape; slots = slots; place = heap_place b } ∷ [] }) (slot_pages_if b g shape)
    by b =
        let made : Object = record { number = g.next; shape = shape; slots = slots; place = heap_place b } in
        waiting-from g (record g { next = g.next + 1; objects = g.objects ++ made ∷ [] }) (slot_pages_if b g shape)
        (λ n k x. elim (paged-push is_waiting g.classes g.objects made n k x) [ inl y ↦ inl y | inr y ↦ inr (made_page b n k y) ])

pub waiting-image : (g : Graph) (shape : Shape) (slots : List Stored) → FillZygote g.classes 0 g.objects
    → Reaches waiting_in g (with_object g shape slots (place.Image (image_base + image_fill g))) (image_pages_behind (image_fill g) (size_in g.classes shape))
waiting-image g shape slots zygote =
    let made : Object = record { number = g.next; shape = shape; slots = slots; place = place.Image (image_base + image_fill g) } in
    waiting-from g (with_object g shape slots (place.Image (image_base + image_fill g))) (image_pages_behind (image_fill g) (size_in g.classes shape))
    (λ n k x. elim (paged-push is_waiting g.classes g.objects made n k x) [ inl y ↦ inl y | inr y ↦ absurd (true≢false (sym (and_parts (nat_eq g.next n) false y).1)) ])

waits-back : (at : ℕ) (q : Place) → is_waiting (promoted_place at q) ≡ true → is_waiting q ≡ true
waits-back at (place.Image spot) x = x
waits-back at (place.Zygote spot) x = x
waits-back at place.Young x = x
waits-back at place.Large x = refl
waits-back at place.Promoted x = x

pub waiting-promoted : (g : Graph) → IsFormed g → IsFormed (promoted g) → Reaches waiting_in g (promoted g) (fork_pages g)
waiting-promoted g formed after = waiting-from g (promoted g) (fork_pages g) (λ n k x. inl (paged-promoted is_waiting waits-back g.classes (promotion_start g) g.objects n k x))
