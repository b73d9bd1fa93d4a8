-- The pages that stand: what changes them, and which page of an object is one of them.
use Rattle.std.proofs.Common.{◌≡◌, ℕ, zero, suc, ◌+◌, ◌-◌, ◌*◌, ◌/◌, ◌<◌, ◌≤◌, Bool, true, false, true≢false, cond, inl, inr, List, [], ◌∷◌, ◌++◌, Some, IfSome, map, nat_eq, sym, ap, subst, ◌∙◌, arith}
use Rattle.std.specs.List.{AllByRecursion, find, flat_map}
use Rattle.std.proofs.lemmas.Bool.{cases_eq, or_left, or_right}
use Rattle.std.proofs.lemmas.List.Folds.{list_any-append}
use Rattle.std.proofs.lemmas.Option.{same_Some, none-some}
use Rattle.model_numbers.specs.Numbers.{image_base, zygote_base, page_bytes}
use Rattle.class_layout.specs.declared.kind.Kind.{Kind}
use Rattle.class_layout.specs.declared.kind.Kind.TheVariants.{Ref}
use Rattle.class_layout.specs.declared.kind.FieldAt.{FieldAt}
use Rattle.class_layout.specs.ClassList.{Class, layout_of}
use Rattle.class_layout.specs.Kinds.{first_element, kind_bytes}
use Rattle.heap_graph.specs.declared.names.Place.{Place}
use Rattle.heap_graph.specs.declared.names.Place.TheVariants as place
use Rattle.heap_graph.specs.declared.names.Shape.{Shape}
use Rattle.heap_graph.specs.declared.names.Shape.TheVariants.{Instance, Array}
use Rattle.heap_graph.specs.Graph.{Graph, Object, image_fill, image_size, is_immune, object_at, size_of_object, zygote_fill}
use Rattle.heap_graph.specs.Sizes.{parts_for, unrounded}
use Rattle.heap_world.specs.declared.names.PageName.{PageName}
use Rattle.heap_world.specs.declared.names.PageName.TheVariants.{Image, Zygote, Large}
use Rattle.heap_graph.specs.Formed.{IsFormed, FillImage, FillZygote, HasSlot, IsBehindImage, IsBehindZygote, zygote_next}
use Rattle.heap_world.specs.Pages.{count_from, image_pages, is_touched, page_in, pages_if_promoted, promoted_pages, same_page, standing_pages, zygote_pages}
use Rattle.heap_world.proofs.Bounds.{page-refl}
use Rattle.heap_graph.proofs.LaidOut.{found-all, lie-within}
use Rattle.heap_world.proofs.Placed.{fill-is, top-is, top-max, zygote_top}
use Rattle.heap_graph.proofs.Totals.{total}

-- graphs of the same fills and promoted pages have the same standing pages
pub standing-is : (g h : Graph) → FillZygote g.classes 0 g.objects → FillZygote h.classes 0 h.objects
    → total (λ o. image_size h.classes o o.place) h.objects ≡ total (λ o. image_size g.classes o o.place) g.objects
    → zygote_top h.classes 0 h.objects ≡ zygote_top g.classes 0 g.objects
    → promoted_pages h ≡ promoted_pages g → standing_pages h ≡ standing_pages g
standing-is g h before after image zygote promoted =
    let fill : image_fill h ≡ image_fill g = fill-is h ∙ image ∙ sym (fill-is g) in
    let top : zygote_fill h ≡ zygote_fill g = sym (top-is h.classes h.objects after) ∙ zygote ∙ top-is g.classes g.objects before in
    ap (λ n. map Image (count_from 0 (parts_for page_bytes n)) ++ zygote_pages h ++ promoted_pages h) fill
    ∙ ap (λ n. image_pages g ++ map Zygote (count_from 0 (parts_for page_bytes n)) ++ promoted_pages h) top
    ∙ ap (λ ps. image_pages g ++ zygote_pages g ++ ps) promoted

-- a slot lies behind the header and before the object's end
array-within : (k : Kind) (i count : ℕ) → i < count → (8 ≤ first_element k + i * kind_bytes k) × (first_element k + i * kind_bytes k + kind_bytes k ≤ first_element k + count * kind_bytes k)
array-within k i count less =
    elim k as (λ k. (8 ≤ first_element k + i * kind_bytes k) × (first_element k + i * kind_bytes k + kind_bytes k ≤ first_element k + count * kind_bytes k)) [ Ref ↦ (omega arith, omega arith) | _ ↦ (omega arith, omega arith) ]

bytes-least : (k : Kind) → 1 ≤ kind_bytes k
bytes-least k = elim k as (λ k. 1 ≤ kind_bytes k) [ Ref ↦ omega arith | _ ↦ omega arith ]

pub slot-lies : (cs : List Class) (shape : Shape) (at : FieldAt) → HasSlot cs shape at → (8 ≤ at.offset) × (at.offset + kind_bytes at.kind ≤ unrounded cs shape)
slot-lies cs (Instance class) at has =
    let end : ℕ = (layout_of cs class).end in
    found-all (λ at. (8 ≤ at.offset) × (at.offset + kind_bytes at.kind ≤ end)) (layout_of cs class).fields has.0 at (lie-within cs class).1 has.1
slot-lies cs (Array kind count) at has =
    subst (λ (x : FieldAt). (8 ≤ x.offset) × (x.offset + kind_bytes x.kind ≤ first_element kind + count * kind_bytes kind)) (sym has.2) (array-within kind has.0 count has.1)

slot-within : (cs : List Class) (shape : Shape) (at : FieldAt) → HasSlot cs shape at → at.offset < unrounded cs shape
slot-within cs shape at has = let lies = slot-lies cs shape at has in omega (arith, lies.1, bytes-least at.kind)

-- a counted page is one of those that are counted
pub in-count : (page : ℕ → PageName) (start n m : ℕ) → start ≤ m → m < start + n → is_touched (map page (count_from start n)) (page m) ≡ true
in-count page start zero m low high = absurd (omega arith)
in-count page start (suc n) m low high =
    elim (cases_eq m start) [
      | inl same ↦ or_left _ (is_touched (map page (count_from (start + 1) n)) (page m)) (ap (λ k. same_page (page m) (page k)) (sym same) ∙ page-refl (page m))
      | inr other ↦ or_right _ (is_touched (map page (count_from (start + 1) n)) (page m)) (in-count page (start + 1) n m (omega arith) (omega arith))
    ]

-- of lists joined end to end
pub in-left : (ps qs : List PageName) (page : PageName) → is_touched ps page ≡ true → is_touched (ps ++ qs) page ≡ true
in-left ps qs page h = list_any-append _ ps qs ∙ or_left (is_touched ps page) (is_touched qs page) h

pub in-right : (ps qs : List PageName) (page : PageName) → is_touched qs page ≡ true → is_touched (ps ++ qs) page ≡ true
in-right ps qs page h = list_any-append _ ps qs ∙ or_right (is_touched ps page) (is_touched qs page) h

-- what all objects are, the one that is found is
pub object-all : (P : Object → Type 0) (os : List Object) (n : ℕ) (o : Object) → AllByRecursion P os → find (λ x. nat_eq x.number n) os ≡ Some o → P o
object-all P [] n o h e = absurd (none-some o e)
object-all P (x ∷ os) n o h e = by (nat_eq x.number n) e (object-all P os n o h.1)
  where
    by : (b : Bool) → cond b (Some x) (find (λ x. nat_eq x.number n) os) ≡ Some o → (find (λ x. nat_eq x.number n) os ≡ Some o → P o) → P o
    by true e rest = subst P (same_Some x o e) h.0
    by false e rest = rest e

module _ (cs : List Class) (limit : ℕ) where
  -- an object of the image, or of the zygote window, lies within so many bytes of it
  abbrev pub LiesInImage : Object → Place → Type 0
  LiesInImage o (place.Image spot) = (image_base ≤ spot) × (spot + size_of_object cs o ≤ image_base + limit)
  LiesInImage o (place.Zygote spot) = Unit {0}
  LiesInImage o place.Young = Unit {0}
  LiesInImage o place.Large = Unit {0}
  LiesInImage o place.Promoted = Unit {0}

  abbrev pub LiesInZygote : Object → Place → Type 0
  LiesInZygote o (place.Image spot) = Unit {0}
  LiesInZygote o (place.Zygote spot) = (zygote_base ≤ spot) × (spot + size_of_object cs o ≤ zygote_base + limit)
  LiesInZygote o place.Young = Unit {0}
  LiesInZygote o place.Large = Unit {0}
  LiesInZygote o place.Promoted = Unit {0}

  pub lie-image : (bytes : ℕ) (os : List Object) → FillImage cs bytes os → bytes + total (λ o. image_size cs o o.place) os ≤ limit → AllByRecursion (λ o. LiesInImage o o.place) os
  lie-image bytes [] h le = tt
  lie-image bytes (o ∷ os) h le = (by o.place h.0 le, lie-image (bytes + image_size cs o o.place) os h.1 (omega (arith, le)))
    where
      by : (at : Place) → IsBehindImage bytes at → bytes + (image_size cs o at + total (λ o. image_size cs o o.place) os) ≤ limit → LiesInImage o at
      by (place.Image spot) behind le = (omega (arith, behind), omega (arith, behind, le))
      by (place.Zygote spot) behind le = tt
      by place.Young behind le = tt
      by place.Large behind le = tt
      by place.Promoted behind le = tt

  pub lie-zygote : (bytes : ℕ) (os : List Object) → FillZygote cs bytes os → zygote_top cs bytes os ≤ limit → AllByRecursion (λ o. LiesInZygote o o.place) os
  lie-zygote bytes [] h le = tt
  lie-zygote bytes (o ∷ os) h le = (by o.place h.0 (omega (arith, le, top-max cs (zygote_next cs bytes o o.place) os h.1)), lie-zygote (zygote_next cs bytes o o.place) os h.1 le)
    where
      by : (at : Place) → IsBehindZygote bytes at → zygote_next cs bytes o at ≤ limit → LiesInZygote o at
      by (place.Image spot) behind le = tt
      by (place.Zygote spot) (inl e) le = (omega (arith, e), omega (arith, e, le))
      by (place.Zygote spot) (inr e) le = (omega (arith, e), omega (arith, e, le))
      by place.Young behind le = tt
      by place.Large behind le = tt
      by place.Promoted behind le = tt

-- a page of a promoted object that is found is one of the promoted pages
promoted-found : (cs : List Class) (os : List Object) (n : ℕ) (o : Object) (page : PageName) → find (λ x. nat_eq x.number n) os ≡ Some o → is_touched (pages_if_promoted cs o o.place) page ≡ true
    → is_touched (flat_map (λ o. pages_if_promoted cs o o.place) os) page ≡ true
promoted-found cs [] n o page e h = absurd (none-some o e)
promoted-found cs (x ∷ os) n o page e h = by (nat_eq x.number n) e (λ e. promoted-found cs os n o page e h)
  where
    by : (b : Bool) → cond b (Some x) (find (λ x. nat_eq x.number n) os) ≡ Some o
        → (find (λ x. nat_eq x.number n) os ≡ Some o → is_touched (flat_map (λ o. pages_if_promoted cs o o.place) os) page ≡ true)
        → is_touched (pages_if_promoted cs x x.place ++ flat_map (λ o. pages_if_promoted cs o o.place) os) page ≡ true
    by true e rest =
        in-left (pages_if_promoted cs x x.place) (flat_map (λ o. pages_if_promoted cs o o.place) os) page
        (subst (λ (y : Object). is_touched (pages_if_promoted cs y y.place) page ≡ true) (sym (same_Some x o e)) h)
    by false e rest = in-right (pages_if_promoted cs x x.place) (flat_map (λ o. pages_if_promoted cs o o.place) os) page (rest e)

-- the page of a slot of an immune object stands
pub slot-stands : (g : Graph) (o : Object) (at : FieldAt) → IsFormed g → object_at g o.number ≡ Some o → HasSlot g.classes o.shape at → is_immune g.sealed o.place ≡ true
    → IfSome (page_in o o.place at.offset) (λ page. is_touched (standing_pages g) page ≡ true)
slot-stands g o at formed found has immune =
    let cs : List Class = g.classes in
    let image = object-all (λ o. LiesInImage cs (image_fill g) o o.place) g.objects o.number o (lie-image cs (image_fill g) 0 g.objects formed.image (omega (arith, fill-is g))) found in
    let zygote = object-all (λ o. LiesInZygote cs (zygote_fill g) o o.place) g.objects o.number o (lie-zygote cs (zygote_fill g) 0 g.objects formed.zygote (omega (arith, top-is cs g.objects formed.zygote))) found in
    by o.place immune image zygote (λ page h. promoted-found cs g.objects o.number o page found h)
  where
    within : at.offset < unrounded g.classes o.shape
    within = slot-within g.classes o.shape at has

    by : (q : Place) → is_immune g.sealed q ≡ true → LiesInImage g.classes (image_fill g) o q → LiesInZygote g.classes (zygote_fill g) o q
        → ((page : PageName) → is_touched (pages_if_promoted g.classes o q) page ≡ true → is_touched (promoted_pages g) page ≡ true)
        → IfSome (page_in o q at.offset) (λ page. is_touched (standing_pages g) page ≡ true)
    by (place.Image spot) immune image zygote promoted =
        let k : ℕ = (spot + at.offset - image_base) / page_bytes in
        in-left (image_pages g ++ zygote_pages g) (promoted_pages g) (Image k)
        (in-left (image_pages g) (zygote_pages g) (Image k) (in-count Image 0 (parts_for page_bytes (image_fill g)) k (omega arith) (omega (arith, image.0, image.1, within))))
    by (place.Zygote spot) immune image zygote promoted =
        let k : ℕ = (spot + at.offset - zygote_base) / page_bytes in
        in-left (image_pages g ++ zygote_pages g) (promoted_pages g) (Zygote k)
        (in-right (image_pages g) (zygote_pages g) (Zygote k) (in-count Zygote 0 (parts_for page_bytes (zygote_fill g)) k (omega arith) (omega (arith, zygote.0, zygote.1, within))))
    by place.Young immune image zygote promoted = tt
    by place.Large immune image zygote promoted = absurd (true≢false (sym immune))
    by place.Promoted immune image zygote promoted =
        let k : ℕ = at.offset / page_bytes in
        in-right (image_pages g ++ zygote_pages g) (promoted_pages g) (Large o.number k)
        (promoted (Large o.number k) (in-count (Large o.number) 0 (parts_for page_bytes (unrounded g.classes o.shape)) k (omega arith) (omega (arith, within))))
