-- The bytes of immune objects lie on pages and cards of their windows.
use Rattle.std.proofs.Common.{◌≡◌, ℕ, ◌+◌, ◌-◌, ◌/◌, ◌<◌, true, true≢false, inl, inr, List, [], ◌∷◌, Some, refl, sym, subst, ◌∙◌, arith}
use Rattle.std.specs.List.{AllByRecursion}
use Rattle.std.proofs.lemmas.Bool.{lt-ltb}
use Rattle.model_numbers.specs.Numbers.{card_bytes, image_base, page_bytes, zygote_base}
use Rattle.class_layout.specs.Placing.{IsIn}
use Rattle.heap_graph.specs.declared.names.Place.{Place}
use Rattle.heap_graph.specs.declared.names.Place.TheVariants as place
use Rattle.heap_graph.specs.Graph.{Graph, Object, image_fill, is_immune, zygote_fill}
use Rattle.heap_graph.specs.Sizes.{parts_for, unrounded}
use Rattle.heap_world.specs.declared.names.PageName.{PageName}
use Rattle.heap_world.specs.declared.names.PageName.TheVariants.{Image, Zygote, Large}
use Rattle.heap_world.specs.Cards.{cards_in}
use Rattle.heap_graph.specs.Formed.{IsFormed}
use Rattle.heap_world.specs.Pages.{is_touched, page_in, standing_pages}
use Rattle.heap_world.proofs.Placed.{fill-is, top-is}
use Rattle.heap_world.proofs.Standing.{LiesInImage, LiesInZygote, lie-image, lie-zygote}
use Rattle.world_laws.specs.Named.{is_paged, is_promoted}
use Rattle.world_laws.specs.Outward.{LieIn, LieWithin, is_card_of, page_start, start_of}
use Rattle.world_laws.proofs.Behaving.{has_own}
use Rattle.world_laws.proofs.StandingLists.{standing_lists}

-- what all elements have, one of them has
pub all_in : {X : Type 0} (P : X → Type 0) (xs : List X) (x : X) → AllByRecursion P xs → IsIn x xs → P x
all_in P [] x all there = absurd there
all_in P (y ∷ xs) x all (inl e) = subst P e all.0
all_in P (y ∷ xs) x all (inr there) = all_in P xs x all.1 there

-- where an object lies
pub lies_image : (g : Graph) (o : Object) → IsFormed g → IsIn o g.objects → LiesInImage g.classes (image_fill g) o o.place
lies_image g o formed there = all_in (λ o. LiesInImage g.classes (image_fill g) o o.place) g.objects o (lie-image g.classes (image_fill g) 0 g.objects formed.image (omega (arith, fill-is g))) there

pub lies_zygote : (g : Graph) (o : Object) → IsFormed g → IsIn o g.objects → LiesInZygote g.classes (zygote_fill g) o o.place
lies_zygote g o formed there =
    all_in (λ o. LiesInZygote g.classes (zygote_fill g) o o.place) g.objects o (lie-zygote g.classes (zygote_fill g) 0 g.objects formed.zygote (omega (arith, top-is g.classes g.objects formed.zygote))) there

-- each of its bytes lies on a page that stands
pub object_stands : (g : Graph) (o : Object) (offset : ℕ) → IsFormed g → IsIn o g.objects → is_immune g.sealed o.place ≡ true → offset < unrounded g.classes o.shape
    → (page : PageName) × (page_in o o.place offset ≡ Some page) × (is_touched (standing_pages g) page ≡ true) × LieIn page o offset 1
object_stands g o offset formed there immune within =
    by o.place immune (lies_image g o formed there) (lies_zygote g o formed there) (λ e k less. has_own is_promoted g.classes g.objects o k there e less)
  where
    by : (q : Place) → is_immune g.sealed q ≡ true → LiesInImage g.classes (image_fill g) o q → LiesInZygote g.classes (zygote_fill g) o q
        → (is_promoted q ≡ true → (k : ℕ) → k < parts_for page_bytes (unrounded g.classes o.shape) → is_paged is_promoted g.classes g.objects o.number k ≡ true)
        → (page : PageName) × (page_in o q offset ≡ Some page) × (is_touched (standing_pages g) page ≡ true) × ((table : ℕ → ℕ) → LieWithin (page_start table page) page_bytes (start_of table o q + offset) 1)
    by (place.Image spot) immune image zygote promoted =
        let k : ℕ = (spot + offset - image_base) / page_bytes in (
          Image k,
          refl,
          standing_lists g (Image k) ∙ lt-ltb k (parts_for page_bytes (image_fill g)) (omega (arith, image.0, image.1, within)),
          λ table. (omega (arith, image.0), omega (arith, image.0)),
        )
    by (place.Zygote spot) immune image zygote promoted =
        let k : ℕ = (spot + offset - zygote_base) / page_bytes in (
          Zygote k,
          refl,
          standing_lists g (Zygote k) ∙ lt-ltb k (parts_for page_bytes (zygote_fill g)) (omega (arith, zygote.0, zygote.1, within)),
          λ table. (omega (arith, zygote.0), omega (arith, zygote.0)),
        )
    by place.Young immune image zygote promoted = absurd (true≢false (sym immune))
    by place.Large immune image zygote promoted = absurd (true≢false (sym immune))
    by place.Promoted immune image zygote promoted =
        let k : ℕ = offset / page_bytes in
        (Large o.number k, refl, standing_lists g (Large o.number k) ∙ promoted refl k (omega (arith, within)), λ table. (omega arith, omega arith))

-- and lies on a card below the fill
pub cards_within : (g : Graph) (o : Object) (offset : ℕ) → IsFormed g → IsIn o g.objects → offset < unrounded g.classes o.shape → AllByRecursion (λ c. is_card_of g c ≡ true) (cards_in o.place offset)
cards_within g o offset formed there within = by o.place (lies_image g o formed there) (lies_zygote g o formed there)
  where
    by : (q : Place) → LiesInImage g.classes (image_fill g) o q → LiesInZygote g.classes (zygote_fill g) o q → AllByRecursion (λ c. is_card_of g c ≡ true) (cards_in q offset)
    by (place.Image spot) image zygote =
        let k : ℕ = (spot + offset - image_base) / card_bytes in
        (lt-ltb k (parts_for card_bytes (image_fill g)) (omega (arith, image.0, image.1, within)), tt)
    by (place.Zygote spot) image zygote =
        let k : ℕ = (spot + offset - zygote_base) / card_bytes in
        (lt-ltb k (parts_for card_bytes (zygote_fill g)) (omega (arith, zygote.0, zygote.1, within)), tt)
    by place.Young image zygote = tt
    by place.Large image zygote = tt
    by place.Promoted image zygote = tt
