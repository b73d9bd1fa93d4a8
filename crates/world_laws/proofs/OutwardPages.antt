-- The page of each outward slot is touched: over cards, of which each lies in one page.
use Rattle.std.proofs.Common.{◌≡◌, ℕ, ◌+◌, ◌-◌, ◌/◌, Bool, true, false, true≢false, not, inl, inr, List, [], ◌∷◌, ◌++◌, Option, None, Some, IfSome, refl, sym, ap, subst, ◌∙◌, arith}
use Rattle.std.specs.List.{AllByRecursion, flat_map}
use Rattle.std.proofs.lemmas.Bool.{and_parts, or_left}
use Rattle.model_numbers.specs.Numbers.{card_bytes, image_base, page_bytes, zygote_base}
use Rattle.class_layout.specs.declared.kind.FieldAt.{FieldAt}
use Rattle.class_layout.specs.Kinds.{is_ref}
use Rattle.class_layout.specs.Placing.{IsIn}
use Rattle.heap_graph.specs.declared.names.Content.{Content}
use Rattle.heap_graph.specs.declared.names.Content.TheVariants as content
use Rattle.heap_graph.specs.declared.names.Place.{Place}
use Rattle.heap_graph.specs.declared.names.Place.TheVariants as place
use Rattle.heap_graph.specs.declared.names.Shape.{Shape}
use Rattle.heap_graph.specs.declared.names.Shape.TheVariants.{Instance, Array}
use Rattle.heap_graph.specs.declared.names.Stored.{Stored}
use Rattle.heap_graph.specs.Allocation.{heap_place, with_heap_object, with_object}
use Rattle.heap_graph.specs.Collection.{collect}
use Rattle.heap_graph.specs.Fork.{promoted, promotion_start}
use Rattle.heap_graph.specs.Graph.{Graph, Object, image_fill, is_immune, object_at}
use Rattle.heap_graph.specs.Sizes.{is_large}
use Rattle.heap_graph.proofs.LaidOut.{all-push, all-weaken}
use Rattle.heap_graph.proofs.Places.{stored-slot}
use Rattle.heap_world.specs.declared.command.Verb.{Verb}
use Rattle.heap_world.specs.declared.names.Card.{Card}
use Rattle.heap_world.specs.declared.names.Card.TheVariants as card
use Rattle.heap_world.specs.declared.names.PageName.{PageName}
use Rattle.heap_world.specs.declared.names.PageName.TheVariants.{Image, Zygote}
use Rattle.heap_world.specs.Acts.{act, first_if, first_touch, fork_part, root_written, store_effect, with_slot}
use Rattle.heap_world.specs.Cards.{cards_if, cards_in, is_outward, object_cards, outward_cards, slot_cards}
use Rattle.heap_world.specs.Effect.{Effect}
use Rattle.heap_graph.specs.Formed.{FitsKind, HasSlot, HoldsValues, IsFormed, SuitsShape, is_in_image}
use Rattle.heap_world.specs.Commands.{HasFewFields}
use Rattle.heap_world.specs.Pages.{is_touched, page_in, same_page}
use Rattle.heap_world.specs.Part.{Part}
use Rattle.heap_world.specs.Sound.{IsSound}
use Rattle.heap_world.proofs.FormedAims.{closed_objects}
use Rattle.heap_world.proofs.Bounds.{page-refl}
use Rattle.heap_world.proofs.FormedKept.{collect_formed}
use Rattle.heap_world.proofs.Noted.{all-immune, objects-loose, outward-collected, outward-pushed, outward-stored}
use Rattle.heap_world.proofs.SoundActs.{act_sound, fork_sound}
use Rattle.heap_world.proofs.Standing.{in-right}
use Rattle.world_laws.specs.Outward.{TouchesOutward}
use Rattle.world_laws.proofs.Promoting.{all_immune}
use Rattle.world_laws.proofs.StandingObjects.{all_in}
use Rattle.world_laws.proofs.Walk.{act_walk, fork_walk}

module _ {X : Type 0} (P : X → Type 0) where
  -- all of two lists joined end to end
  pub all_left : (xs ys : List X) → AllByRecursion P (xs ++ ys) → AllByRecursion P xs
  all_left [] ys h = tt
  all_left (x ∷ xs) ys h = (h.0, all_left xs ys h.1)

  pub all_right : (xs ys : List X) → AllByRecursion P (xs ++ ys) → AllByRecursion P ys
  all_right [] ys h = h
  all_right (x ∷ xs) ys h = all_right xs ys h.1

  pub all_join : (xs ys : List X) → AllByRecursion P xs → AllByRecursion P ys → AllByRecursion P (xs ++ ys)
  all_join [] ys h k = k
  all_join (x ∷ xs) ys h k = (h.0, all_join xs ys h.1 k)

-- the cards of outward slots, slot by slot
module _ (P : Card → Type 0) (g : Graph) where
  slots_all : (at : Place) (ss : List Stored) → ((s : Stored) → IsIn s ss → is_outward g s.value ≡ true → AllByRecursion P (cards_in at s.at.offset)) → AllByRecursion P (slot_cards g at ss)
  slots_all at [] each = tt
  slots_all at (s ∷ ss) each =
      all_join P (cards_if (is_outward g s.value) at s.at.offset) (slot_cards g at ss) (by (is_outward g s.value) (each s (inl refl))) (slots_all at ss (λ t there. each t (inr there)))
    where
      by : (b : Bool) → (b ≡ true → AllByRecursion P (cards_in at s.at.offset)) → AllByRecursion P (cards_if b at s.at.offset)
      by true here = here refl
      by false here = tt

  slots_one : (at : Place) (ss : List Stored) (s : Stored) → AllByRecursion P (slot_cards g at ss) → IsIn s ss → is_outward g s.value ≡ true → AllByRecursion P (cards_in at s.at.offset)
  slots_one at [] s all there out = absurd there
  slots_one at (t ∷ ss) s all (inl e) out =
      let here : AllByRecursion P (cards_if (is_outward g s.value) at s.at.offset) =
      subst (λ u. AllByRecursion P (cards_if (is_outward g u.value) at u.at.offset)) e (all_left P (cards_if (is_outward g t.value) at t.at.offset) (slot_cards g at ss) all) in
      subst (λ b. AllByRecursion P (cards_if b at s.at.offset)) out here
  slots_one at (t ∷ ss) s all (inr there) out = slots_one at ss s (all_right P (cards_if (is_outward g t.value) at t.at.offset) (slot_cards g at ss) all) there out

  abbrev cards_of : List Object → List Card
  cards_of os = flat_map (λ o. object_cards g (is_immune g.sealed o.place) o) os

  pub cards_all : (os : List Object)
      → ((o : Object) (s : Stored) → IsIn o os → IsIn s o.slots → is_immune g.sealed o.place ≡ true → is_outward g s.value ≡ true → AllByRecursion P (cards_in o.place s.at.offset)) → AllByRecursion P (cards_of os)
  cards_all [] each = tt
  cards_all (o ∷ os) each =
      all_join P (object_cards g (is_immune g.sealed o.place) o) (cards_of os) (by (is_immune g.sealed o.place) (λ e s there out. each o s (inl refl) there e out)) (cards_all os (λ x s there. each x s (inr there)))
    where
      by : (b : Bool) → (b ≡ true → (s : Stored) → IsIn s o.slots → is_outward g s.value ≡ true → AllByRecursion P (cards_in o.place s.at.offset)) → AllByRecursion P (object_cards g b o)
      by true here = slots_all o.place o.slots (here refl)
      by false here = tt

  pub cards_one : (os : List Object) (o : Object) (s : Stored) → AllByRecursion P (cards_of os) → IsIn o os → IsIn s o.slots → is_immune g.sealed o.place ≡ true → is_outward g s.value ≡ true
      → AllByRecursion P (cards_in o.place s.at.offset)
  cards_one [] o s all there slot immune out = absurd there
  cards_one (x ∷ os) o s all (inl e) slot immune out =
      let here : AllByRecursion P (object_cards g (is_immune g.sealed o.place) o) =
      subst (λ (y : Object). AllByRecursion P (object_cards g (is_immune g.sealed y.place) y)) e (all_left P (object_cards g (is_immune g.sealed x.place) x) (cards_of os) all) in
      slots_one o.place o.slots s (subst (λ b. AllByRecursion P (object_cards g b o)) immune here) slot out
  cards_one (x ∷ os) o s all (inr there) slot immune out = cards_one os o s (all_right P (object_cards g (is_immune g.sealed x.place) x) (cards_of os) all) there slot immune out

-- the page in which a card lies
abbrev page_of : Card → PageName
page_of (card.Image k) = Image (k / 4)
page_of (card.Zygote k) = Zygote (k / 4)

abbrev CardTouched : List PageName → Card → Type 0
CardTouched touched c = is_touched touched (page_of c) ≡ true

-- where the page of an offset is touched, so is that of its card
card_touched : (touched : List PageName) (o : Object) (offset : ℕ) (page : Option PageName) → page_in o o.place offset ≡ page → IfSome page (λ a. is_touched touched a ≡ true)
    → AllByRecursion (CardTouched touched) (cards_in o.place offset)
card_touched touched o offset page e h = by o.place (subst (λ q. IfSome q (λ a. is_touched touched a ≡ true)) (sym e) h)
  where
    by : (q : Place) → IfSome (page_in o q offset) (λ a. is_touched touched a ≡ true) → AllByRecursion (CardTouched touched) (cards_in q offset)
    by (place.Image spot) h = (subst (λ k. is_touched touched (Image k) ≡ true) (quarter (spot + offset - image_base)) h, tt)
      where
        quarter : (x : ℕ) → x / page_bytes ≡ x / card_bytes / 4
        quarter x = omega arith
    by (place.Zygote spot) h = (subst (λ k. is_touched touched (Zygote k) ≡ true) (quarter (spot + offset - zygote_base)) h, tt)
      where
        quarter : (x : ℕ) → x / page_bytes ≡ x / card_bytes / 4
        quarter x = omega arith
    by place.Young h = tt
    by place.Large h = tt
    by place.Promoted h = tt

-- the page of each outward slot's card is touched
abbrev Outs : Part → Type 0
Outs p = AllByRecursion (CardTouched p.touched) (outward_cards p.graph)

outs_of : (p : Part) → TouchesOutward p → Outs p
outs_of p touches = cards_all (CardTouched p.touched) p.graph p.graph.objects (λ o s there slot immune out.
    let page = touches o s there slot immune out in card_touched p.touched o s.at.offset (Some page.0) page.1 page.2)

-- a promoted object has no references
pub holds_none : (g : Graph) (o : Object) (s : Stored) → IsFormed g → IsIn o g.objects → IsIn s o.slots → o.place ≡ place.Promoted → is_outward g s.value ≡ true → ⊥
holds_none g o s formed there slot at out =
    let fits : FitsKind s.at.kind s.value = all_in (λ s. FitsKind s.at.kind s.value) o.slots s (all_in HoldsValues g.objects o formed.values there) slot in
    let suits : is_large g.classes o.shape ≡ true = subst (λ q. SuitsShape g.classes o q) at (all_in (λ o. SuitsShape g.classes o o.place) g.objects o formed.places there) in
    by o.shape suits (stored-slot g o s formed there slot) (ref s.value fits out)
  where
    ref : (v : Content) → FitsKind s.at.kind v → is_outward g v ≡ true → is_ref s.at.kind ≡ true
    ref (content.Number z) fits out = absurd (true≢false (sym out))
    ref content.Null fits out = fits
    ref (content.Object n) fits out = fits

    by : (shape : Shape) → is_large g.classes shape ≡ true → HasSlot g.classes shape s.at → is_ref s.at.kind ≡ true → ⊥
    by (Instance class) large has is = true≢false (sym large)
    by (Array kind count) large has is =
        let own : s.at.kind ≡ kind = ap (λ (a : FieldAt). a.kind) has.2 in
        true≢false (sym (and_parts (not (is_ref kind)) _ large).0 ∙ ap not (ap is_ref (sym own) ∙ is))

touches_from : (p : Part) → IsFormed p.graph → Outs p → TouchesOutward p
touches_from p formed outs o s there slot immune out =
    by o.place refl immune (cards_one (CardTouched p.touched) p.graph p.graph.objects o s outs there slot immune out)
  where
    quarter : (x : ℕ) → x / card_bytes / 4 ≡ x / page_bytes
    quarter x = omega arith

    by : (q : Place) → o.place ≡ q → is_immune p.graph.sealed q ≡ true → AllByRecursion (CardTouched p.touched) (cards_in q s.at.offset)
        → (page : PageName) × (page_in o q s.at.offset ≡ Some page) × (is_touched p.touched page ≡ true)
    by (place.Image spot) e immune all =
        (Image ((spot + s.at.offset - image_base) / page_bytes), refl, subst (λ k. is_touched p.touched (Image k) ≡ true) (quarter (spot + s.at.offset - image_base)) all.0)
    by (place.Zygote spot) e immune all =
        (Zygote ((spot + s.at.offset - zygote_base) / page_bytes), refl, subst (λ k. is_touched p.touched (Zygote k) ≡ true) (quarter (spot + s.at.offset - zygote_base)) all.0)
    by place.Young e immune all = absurd (true≢false (sym immune))
    by place.Large e immune all = absurd (true≢false (sym immune))
    by place.Promoted e immune all = absurd (holds_none p.graph o s formed there slot e out)

-- a store touches the page
pub touch_has : (touched : List PageName) (page : PageName) → is_touched (first_touch touched (Some page) ++ touched) page ≡ true
touch_has touched page = by (is_touched touched page) refl
  where
    by : (b : Bool) → is_touched touched page ≡ b → is_touched (first_if b page ++ touched) page ≡ true
    by true e = e
    by false e = or_left (same_page page page) (is_touched touched page) (page-refl page)

store_touches : (touched : List PageName) (o : Object) (offset : ℕ) → AllByRecursion (CardTouched (first_touch touched (page_in o o.place offset) ++ touched)) (cards_in o.place offset)
store_touches touched o offset = by (page_in o o.place offset) refl
  where
    by : (page : Option PageName) → page_in o o.place offset ≡ page → AllByRecursion (CardTouched (first_touch touched (page_in o o.place offset) ++ touched)) (cards_in o.place offset)
    by None e = card_touched _ o offset None e tt
    by (Some page) e = card_touched (first_touch touched (page_in o o.place offset) ++ touched) o offset (Some page) e (subst (λ q. is_touched (first_touch touched q ++ touched) page ≡ true) (sym e) (touch_has touched page))

module _ (p : Part) (sound : IsSound p) (outs : Outs p) where
  abbrev g : Graph
  g = p.graph

  abbrev T : Card → Type 0
  T = CardTouched p.touched

  abbrev After : Effect → Type 0
  After e = Outs e.part

  heap_loose : (sealed b : Bool) → is_immune sealed (heap_place b) ≡ false
  heap_loose sealed true = refl
  heap_loose sealed false = refl

  image_loose : (at : Place) → is_in_image at ≡ true → is_immune false at ≡ false
  image_loose (place.Image spot) e = refl
  image_loose (place.Zygote spot) e = absurd (true≢false (sym e))
  image_loose place.Young e = refl
  image_loose place.Large e = refl
  image_loose place.Promoted e = absurd (true≢false (sym e))

  -- one more object of the heap, behind those of a graph
  pushed : (left h : Graph) (shape : Shape) (slots : List Stored) → IsFormed left → h.objects ≡ (with_heap_object left shape slots).objects → h.sealed ≡ left.sealed → AllByRecursion T (outward_cards left) → AllByRecursion T (outward_cards h)
  pushed left h shape slots formed objects sealed all =
      outward-pushed T left h (record { number = left.next; shape = shape; slots = slots; place = heap_place (is_large left.classes shape) }) objects sealed (closed_objects left formed.closed)
      (heap_loose left.sealed (is_large left.classes shape)) all

  act_outs : (v : Verb) → HasFewFields v → Outs (act p v).part
  act_outs v few = act_walk p v After (record {
    telling = λ r told. outs;
    refusing = λ why left. outs;
    define = λ cs grown. outs;
    roots = λ rs r told. outs;
    heap = λ root shape slots sealed. pushed g (root_written (with_heap_object g shape slots) root g.next) shape slots sound.formed refl refl outs;
    again = λ root shape slots sealed. pushed (collect g) (root_written (with_heap_object (collect g) shape slots) root g.next) shape slots (collect_formed g sealed sound.formed) refl refl (outward-collected T g outs);
    full = λ root shape free needed sealed. outward-collected T g outs;
    image = λ root shape slots unsealed.
        let made : Object = record { number = g.next; shape = shape; slots = slots; place = place.Image (image_base + image_fill g) } in
        let images = all-push (λ o. is_in_image o.place ≡ true) g.objects made (sound.formed.before_seal unsealed) refl in
        objects-loose T (root_written (with_object g shape slots made.place) root g.next) g.sealed (g.objects ++ made ∷ []) (all-weaken _ _ (λ o e. ap (λ b. is_immune b o.place) unsealed ∙ image_loose o.place e) (g.objects ++ made ∷ []) images);
    storing = λ o s new found has fits. stored o s new found (is_immune g.sealed o.place) refl;
    seal = λ is unsealed. all-immune _ (record g { sealed = true }) (all-weaken _ _ (λ o e. image_immune o.place e) g.objects (sound.formed.before_seal unsealed));
    gc = λ sealed. outward-collected T g outs;
    exit = outs;
    dump = λ sealed. outs;
  })
    where
      image_immune : (at : Place) → is_in_image at ≡ true → is_immune true at ≡ true
      image_immune (place.Image spot) e = refl
      image_immune (place.Zygote spot) e = refl
      image_immune place.Young e = absurd (true≢false (sym e))
      image_immune place.Large e = absurd (true≢false (sym e))
      image_immune place.Promoted e = refl

      more : (first : List PageName) (c : Card) → T c → CardTouched (first ++ p.touched) c
      more first c h = in-right first p.touched (page_of c) h

      stored : (o : Object) (s : FieldAt) (new : Content) → object_at g o.number ≡ Some o → (b : Bool) → is_immune g.sealed o.place ≡ b
          → Outs (store_effect b p (with_slot g o.number (record { at = s; value = new })) o s).part
      stored o s new found true e =
          let first : List PageName = first_touch p.touched (page_in o o.place s.offset) in
          outward-stored T (CardTouched (first ++ p.touched)) (more first) g o.number (record { at = s; value = new }) o sound.formed.numbers found (λ immune out. store_touches p.touched o s.offset) outs
      stored o s new found false e =
          outward-stored T T (λ c h. h) g o.number (record { at = s; value = new }) o sound.formed.numbers found (λ immune out. absurd (true≢false (sym immune ∙ e))) outs

  fork_outs : g.sealed ≡ true → Outs (fork_part p).part
  fork_outs sealed = fork_walk p After
      (λ room. all-immune _ (promoted (collect g)) (subst (λ b. AllByRecursion (λ o. is_immune b o.place ≡ true) (promoted (collect g)).objects) (sym sealed) (all_immune g.classes (promotion_start (collect g)) (collect g).objects)))
      (λ full. outward-collected T g outs)

pub act_touches : (p : Part) (v : Verb) → HasFewFields v → IsSound p → TouchesOutward p → TouchesOutward (act p v).part
act_touches p v few sound touches = touches_from (act p v).part (act_sound p v few sound).formed (act_outs p sound (outs_of p touches) v few)

pub fork_touches : (p : Part) → p.graph.sealed ≡ true → IsSound p → TouchesOutward p → TouchesOutward (fork_part p).part
fork_touches p sealed sound touches = touches_from (fork_part p).part (fork_sound p sealed sound).formed (fork_outs p sound (outs_of p touches) sealed)
