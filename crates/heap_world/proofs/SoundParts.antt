-- What is marked in a process, apart from its graph: the touched pages, and the noted cards.
use Rattle.std.proofs.Common.{◌≡◌, ℕ, ◌+◌, Bool, true, false, true≢false, ◌||◌, inl, inr, List, [], ◌∷◌, ◌++◌, Option, None, Some, IfSome, filter, refl, sym, ap, subst, ◌∙◌, arith, append-nil}
use Rattle.std.specs.List.{AllByRecursion, IsDistinct, flat_map, list_any}
use Rattle.std.proofs.lemmas.Bool.{or_cases, or_left, or_parts, or_right}
use Rattle.std.proofs.lemmas.Grind.{flat_map-append}
use Rattle.class_layout.specs.declared.kind.FieldAt.{FieldAt}
use Rattle.class_layout.specs.ClassList.{Class}
use Rattle.class_layout.specs.Kinds.{is_ref}
use Rattle.heap_graph.specs.declared.names.Place.{Place}
use Rattle.heap_graph.specs.declared.names.Place.TheVariants as place
use Rattle.heap_graph.specs.declared.names.Shape.{Shape}
use Rattle.heap_graph.specs.declared.names.Content.{Content}
use Rattle.heap_graph.specs.declared.names.Content.TheVariants as content
use Rattle.heap_graph.specs.declared.names.Stored.{Stored}
use Rattle.heap_graph.specs.Allocation.{heap_place, with_heap_object}
use Rattle.heap_graph.specs.Collection.{collect, is_kept}
use Rattle.heap_graph.specs.Graph.{Graph, Object, image_size, is_immune, object_at}
use Rattle.heap_graph.specs.Paths.{numbers}
use Rattle.heap_graph.specs.Reach.{reached}
use Rattle.heap_graph.specs.Sizes.{is_large}
use Rattle.heap_world.specs.declared.names.Card.{Card}
use Rattle.heap_world.specs.declared.names.PageName.{PageName}
use Rattle.heap_world.specs.Acts.{first_if, first_touch, store_effect, store, stored_cards_if, with_slot}
use Rattle.heap_world.specs.Cards.{add_card, add_card_if, add_cards, cards_in, held_cards, is_card_among, is_outward, outward_cards, same_card, is_noted}
use Rattle.heap_graph.specs.Formed.{IsFormed, FillZygote, FitsKind, HasSlot, IsBehindZygote, is_in_image, zygote_next}
use Rattle.heap_world.specs.Pages.{is_touched, page_in, pages_if_promoted, same_page, standing_pages}
use Rattle.heap_world.specs.Part.{Part, with_collected}
use Rattle.heap_world.specs.Sound.{IsSound}
use Rattle.heap_world.proofs.FormedDefine.{IsGrown}
use Rattle.heap_world.proofs.FormedKept.{loose-dropped}
use Rattle.heap_world.proofs.Noted.{has-cards, outward-stored, stays-cards}
use Rattle.heap_world.proofs.Placed.{zygote_top}
use Rattle.heap_world.proofs.PlacedFilter.{no_image, pages-filter, top-filter, zygote-filter}
use Rattle.heap_world.proofs.PlacedPush.{top-push, zygote-push}
use Rattle.heap_world.proofs.PlacedSame.{AreSame, all_pages-same, cleared-same, grown-same, image_size-same, stored-same, top-same, total-same, zygote-same}
use Rattle.heap_world.proofs.Standing.{object-all, slot-stands, standing-is}
use Rattle.heap_graph.proofs.LaidOut.{all-weaken}
use Rattle.heap_graph.proofs.Totals.{total-filter, total-push}

-- what a sound part says, but for its graph
pub record IsMarked (p : Part) : Type 0 where
  pub before_seal : p.graph.sealed ≡ false → p.touched ≡ []
  pub touched_stand : AllByRecursion (λ page. is_touched (standing_pages p.graph) page ≡ true) p.touched
  pub touched_once : IsDistinct same_page p.touched
  pub stored_once : IsDistinct same_card p.stored
  pub held_once : IsDistinct same_card p.held
  pub outward_noted : AllByRecursion (λ card. is_noted p.stored p.held card ≡ true) (outward_cards p.graph)

pub marked_of : (p : Part) → IsSound p → IsMarked p
marked_of p sound = record {
  before_seal = sound.before_seal;
  touched_stand = sound.touched_stand;
  touched_once = sound.touched_once;
  stored_once = sound.stored_once;
  held_once = sound.held_once;
  outward_noted = sound.outward_noted;
}

pub sound_from : (p : Part) → IsFormed p.graph → IsMarked p → IsSound p
sound_from p formed marked = record {
  formed = formed;
  before_seal = marked.before_seal;
  touched_stand = marked.touched_stand;
  touched_once = marked.touched_once;
  stored_once = marked.stored_once;
  held_once = marked.held_once;
  outward_noted = marked.outward_noted;
}

-- where no element passes, each fails
none-all : {X : Type 0} (p : X → Bool) (xs : List X) → list_any p xs ≡ false → AllByRecursion (λ x. p x ≡ false) xs
none-all p [] e = tt
none-all p (x ∷ xs) e =
    let parts = or_parts (p x) (list_any p xs) e in
    (parts.0, none-all p xs parts.1)

-- lists in which nothing comes twice: none, and with one more that is not there
pub distinct-none : {X : Type 0} (same : X → X → Bool) → IsDistinct same []
unfolding IsDistinct
distinct-none same = tt

pub distinct-more : {X : Type 0} (same : X → X → Bool) (xs : List X) (x : X) → list_any (same x) xs ≡ false → IsDistinct same xs → IsDistinct same (x ∷ xs)
unfolding IsDistinct
distinct-more same xs x e d = (none-all (same x) xs e, d)

-- sets of cards
distinct-card : (card : Card) (cards : List Card) → IsDistinct same_card cards → IsDistinct same_card (add_card card cards)
distinct-card card cards d = by (is_card_among cards card) refl
  where
    by : (b : Bool) → is_card_among cards card ≡ b → IsDistinct same_card (add_card_if b card cards)
    by true e = d
    by false e = distinct-more same_card cards card e d

pub distinct-cards : (more cards : List Card) → IsDistinct same_card cards → IsDistinct same_card (add_cards more cards)
distinct-cards [] cards d = d
distinct-cards (c ∷ more) cards d = distinct-card c (add_cards more cards) (distinct-cards more cards d)

-- another graph in which the same pages stand
pub marked-graph : (p : Part) (g : Graph) → g.sealed ≡ p.graph.sealed → standing_pages g ≡ standing_pages p.graph → AllByRecursion (λ card. is_noted p.stored p.held card ≡ true) (outward_cards g) → IsMarked p
    → IsMarked (record p { graph = g })
marked-graph p g sealed same noted m = record {
  before_seal = λ e. m.before_seal (sym sealed ∙ e);
  touched_stand = subst (λ ps. AllByRecursion (λ page. is_touched ps page ≡ true) p.touched) (sym same) m.touched_stand;
  touched_once = m.touched_once;
  stored_once = m.stored_once;
  held_once = m.held_once;
  outward_noted = noted;
}

-- before the seal, any graph
pub marked-unsealed : (p : Part) (g : Graph) → p.graph.sealed ≡ false → AllByRecursion (λ card. is_noted p.stored p.held card ≡ true) (outward_cards g) → IsMarked p → IsMarked (record p { graph = g })
marked-unsealed p g unsealed noted m = record {
  before_seal = λ e. m.before_seal unsealed;
  touched_stand = subst (λ ps. AllByRecursion (λ page. is_touched (standing_pages g) page ≡ true) ps) (sym (m.before_seal unsealed)) tt;
  touched_once = m.touched_once;
  stored_once = m.stored_once;
  held_once = m.held_once;
  outward_noted = noted;
}

-- after a collection
pub marked-collected : (p : Part) (g : Graph) → g.sealed ≡ p.graph.sealed → standing_pages g ≡ standing_pages p.graph
    → AllByRecursion (λ card. is_card_among (held_cards p.graph) card ≡ true) (outward_cards g) → IsMarked p → IsMarked (with_collected p g)
marked-collected p g sealed same noted m = record {
  before_seal = λ e. m.before_seal (sym sealed ∙ e);
  touched_stand = subst (λ ps. AllByRecursion (λ page. is_touched ps page ≡ true) p.touched) (sym same) m.touched_stand;
  touched_once = m.touched_once;
  stored_once = distinct-none same_card;
  held_once = distinct-cards (outward_cards p.graph) [] (distinct-none same_card);
  outward_noted = noted;
}

-- nothing is marked
pub marked-none : (p : Part) → p.touched ≡ [] → IsDistinct same_card p.stored → IsDistinct same_card p.held → AllByRecursion (λ card. is_noted p.stored p.held card ≡ true) (outward_cards p.graph) → IsMarked p
marked-none p none stored held noted = record {
  before_seal = λ e. none;
  touched_stand = subst (λ ps. AllByRecursion (λ page. is_touched (standing_pages p.graph) page ≡ true) ps) (sym none) tt;
  touched_once = subst (λ ps. IsDistinct same_page ps) (sym none) (distinct-none same_page);
  stored_once = stored;
  held_once = held;
  outward_noted = noted;
}

-- the same pages stand where objects have the same places and sizes
standing-same : (g h : Graph) → AreSame g.classes h.classes g.objects h.objects → FillZygote g.classes 0 g.objects → standing_pages h ≡ standing_pages g
standing-same g h same zygote =
    standing-is g h zygote (zygote-same g.classes h.classes 0 g.objects h.objects same zygote)
    (total-same g.classes h.classes (λ o. image_size g.classes o o.place) (λ x. image_size h.classes x x.place) (image_size-same g.classes h.classes) g.objects h.objects same)
    (top-same g.classes h.classes 0 g.objects h.objects same)
    (all_pages-same g.classes h.classes g.objects h.objects same)

-- with more classes
pub standing-classes : (g : Graph) (ds : List Class) → IsGrown g.classes ds → IsFormed g → standing_pages (record g { classes = ds }) ≡ standing_pages g
standing-classes g ds grown formed =
    let S : List Class → Type 0 = λ cs. AreSame g.classes cs g.objects g.objects in
    standing-same g (record g { classes = ds }) (subst S (sym grown.same) (grown-same g.classes grown.added g.objects formed.objects)) formed.zygote

-- after a store
pub standing-stored : (g : Graph) (n : ℕ) (new : Stored) → IsFormed g → standing_pages (with_slot g n new) ≡ standing_pages g
standing-stored g n new formed = standing-same g (with_slot g n new) (stored-same g.classes g.objects n new) formed.zygote

-- after a collection
pub standing-collect : (g : Graph) → g.sealed ≡ true → IsFormed g → standing_pages (collect g) ≡ standing_pages g
standing-collect g sealed formed =
    let cs : List Class = g.classes in
    let keep : Object → Bool = is_kept g.sealed (reached g) in
    let kept : List Object = filter keep g.objects in
    let same = cleared-same cs (numbers kept) kept in
    let left : Graph = record g { objects = kept } in
    let loose = loose-dropped g sealed in
    let fewer : standing_pages left ≡ standing_pages g =
    standing-is g left formed.zygote (zygote-filter cs keep loose 0 g.objects formed.zygote)
    (total-filter keep (λ o. image_size cs o o.place) (no_image cs keep loose) g.objects)
    (top-filter cs keep loose 0 g.objects)
    (pages-filter cs keep loose g.objects)
    in standing-same left (collect g) same (zygote-filter cs keep loose 0 g.objects formed.zygote) ∙ fewer

-- with one more object of the heap
pub standing-heap : (g : Graph) (shape : Shape) (slots : List Stored) → FillZygote g.classes 0 g.objects → standing_pages (with_heap_object g shape slots) ≡ standing_pages g
standing-heap g shape slots zygote = by (is_large g.classes shape)
  where
    behind : (b : Bool) (bytes : ℕ) → IsBehindZygote bytes (heap_place b)
    behind true bytes = tt
    behind false bytes = tt

    no_bytes : (b : Bool) → image_size g.classes (record { number = g.next; shape = shape; slots = slots; place = heap_place b }) (heap_place b) ≡ 0
    no_bytes true = refl
    no_bytes false = refl

    same_top : (b : Bool) (bytes : ℕ) → zygote_next g.classes bytes (record { number = g.next; shape = shape; slots = slots; place = heap_place b }) (heap_place b) ≡ bytes
    same_top true bytes = refl
    same_top false bytes = refl

    no_pages : (b : Bool) → pages_if_promoted g.classes (record { number = g.next; shape = shape; slots = slots; place = heap_place b }) (heap_place b) ≡ []
    no_pages true = refl
    no_pages false = refl

    by : (b : Bool) → standing_pages (record g { next = g.next + 1; objects = g.objects ++ record { number = g.next; shape = shape; slots = slots; place = heap_place b } ∷ [] }) ≡ standing_pages g
    by b =
        let cs : List Class = g.classes in
        let made : Object = record { number = g.next; shape = shape; slots = slots; place = heap_place b } in
        let f : Object → List PageName = λ o. pages_if_promoted cs o o.place in
        let pages : flat_map f (g.objects ++ made ∷ []) ≡ flat_map f g.objects =
        flat_map-append f g.objects (made ∷ []) ∙ ap (λ ps. flat_map f g.objects ++ (ps ++ [])) (no_pages b) ∙ append-nil (flat_map f g.objects) in
        standing-is g (record g { next = g.next + 1; objects = g.objects ++ made ∷ [] }) zygote
        (zygote-push cs 0 g.objects made zygote (behind b (zygote_top cs 0 g.objects)))
        (omega (arith, total-push (λ o. image_size cs o o.place) g.objects made, no_bytes b))
        (top-push cs 0 g.objects made ∙ same_top b (zygote_top cs 0 g.objects))
        pages

-- a first touch
touch-stands : (P : PageName → Type 0) (touched : List PageName) (page : Option PageName) → IfSome page P → AllByRecursion P touched → AllByRecursion P (first_touch touched page ++ touched)
touch-stands P touched None here h = h
touch-stands P touched (Some page) here h = by (is_touched touched page)
  where
    by : (b : Bool) → AllByRecursion P (first_if b page ++ touched)
    by true = h
    by false = (here, h)

touch-once : (touched : List PageName) (page : Option PageName) → IsDistinct same_page touched → IsDistinct same_page (first_touch touched page ++ touched)
touch-once touched None d = d
touch-once touched (Some page) d = by (is_touched touched page) refl
  where
    by : (b : Bool) → is_touched touched page ≡ b → IsDistinct same_page (first_if b page ++ touched)
    by true e = d
    by false e = distinct-more same_page touched page e d

-- the cards that are noted after a store
module _ (p : Part) (o : Object) (s : FieldAt) where
  abbrev added : List Card
  added = stored_cards_if (is_ref s.kind) (cards_in o.place s.offset)

  abbrev IsStored : Card → Type 0
  IsStored card = (is_card_among (add_cards added p.stored) card || is_card_among p.held card) ≡ true

  -- what was noted is noted
  noted_more : (card : Card) → is_noted p.stored p.held card ≡ true → IsStored card
  noted_more card h =
      elim (or_cases (is_card_among p.stored card) (is_card_among p.held card) h) [
        | inl stored ↦ or_left (is_card_among (add_cards added p.stored) card) (is_card_among p.held card) (stays-cards added card p.stored stored)
        | inr held ↦ or_right (is_card_among (add_cards added p.stored) card) (is_card_among p.held card) held
      ]

  -- so is the card of a reference that is stored
  stored_noted : is_ref s.kind ≡ true → AllByRecursion IsStored (cards_in o.place s.offset)
  stored_noted e =
      let cards : List Card = cards_in o.place s.offset in
      let is : added ≡ cards = ap (λ b. stored_cards_if b cards) e in
      let all : AllByRecursion (λ card. is_card_among (add_cards added p.stored) card ≡ true) cards = subst (λ cs. AllByRecursion (λ card. is_card_among (add_cards cs p.stored) card ≡ true) cards) (sym is) (has-cards cards p.stored) in
      all-weaken _ IsStored (λ card h. or_left (is_card_among (add_cards added p.stored) card) (is_card_among p.held card) h) cards all

  outward_noted : (v : Content) → FitsKind s.kind v → is_outward p.graph v ≡ true → AllByRecursion IsStored (cards_in o.place s.offset)
  outward_noted (content.Number z) fits out = absurd (true≢false (sym out))
  outward_noted content.Null fits out = absurd (true≢false (sym out))
  outward_noted (content.Object n) fits out = stored_noted fits

-- a store
pub store_marked : (p : Part) (o : Object) (s : FieldAt) (v : Content) → IsFormed p.graph → object_at p.graph o.number ≡ Some o → HasSlot p.graph.classes o.shape s → FitsKind s.kind v → IsMarked p
    → IsMarked (store p o s v).part
store_marked p o s v formed found has fits m = by (is_immune p.graph.sealed o.place) refl
  where
    -- before the seal no object is immune
    no_immune : (at : Place) → p.graph.sealed ≡ false → is_immune p.graph.sealed at ≡ true → is_in_image at ≡ true → ⊥
    no_immune (place.Image spot) unsealed immune image = true≢false (sym immune ∙ unsealed)
    no_immune (place.Zygote spot) unsealed immune image = true≢false (sym image)
    no_immune place.Young unsealed immune image = true≢false (sym image)
    no_immune place.Large unsealed immune image = true≢false (sym image)
    no_immune place.Promoted unsealed immune image = true≢false (sym image)

    by : (b : Bool) → is_immune p.graph.sealed o.place ≡ b → IsMarked (store_effect b p (with_slot p.graph o.number (record { at = s; value = v })) o s).part
    by false e =
        marked-graph p (with_slot p.graph o.number (record { at = s; value = v })) refl (standing-stored p.graph o.number (record { at = s; value = v }) formed)
        (outward-stored (λ card. is_noted p.stored p.held card ≡ true) (λ card. is_noted p.stored p.held card ≡ true) (λ card h. h) p.graph o.number (record { at = s; value = v }) o formed.numbers found
        (λ immune out. absurd (true≢false (sym immune ∙ e))) m.outward_noted)
        m
    by true e =
        let same = standing-stored p.graph o.number (record { at = s; value = v }) formed in
        record {
          before_seal = λ unsealed. absurd (no_immune o.place unsealed e (object-all (λ o. is_in_image o.place ≡ true) p.graph.objects o.number o (formed.before_seal unsealed) found));
          touched_stand = subst (λ ps. AllByRecursion (λ page. is_touched ps page ≡ true) (first_touch p.touched (page_in o o.place s.offset) ++ p.touched)) (sym same)
              (touch-stands (λ page. is_touched (standing_pages p.graph) page ≡ true) p.touched (page_in o o.place s.offset) (slot-stands p.graph o s formed found has e) m.touched_stand);
          touched_once = touch-once p.touched (page_in o o.place s.offset) m.touched_once;
          stored_once = distinct-cards (stored_cards_if (is_ref s.kind) (cards_in o.place s.offset)) p.stored m.stored_once;
          held_once = m.held_once;
          outward_noted = outward-stored (λ card. is_noted p.stored p.held card ≡ true) (IsStored p o s) (noted_more p o s) p.graph o.number (record { at = s; value = v }) o formed.numbers found
              (λ immune out. outward_noted p o s v fits out) m.outward_noted;
        }
