-- The slots with which a process is collected: each lies on a card that holds what isn't immune, and on a page that was written.
use Rattle.std.proofs.Common.{◌≡◌, ◌∙◌, ◌⊎◌, ℕ, Bool, true, false, not, List, [], refl, sym, ap, subst, inl, inr, arith, true≢false}
use Rattle.std.specs.Prelude.{nat_le}
use Rattle.std.proofs.lemmas.Bool.{and_parts, ltb-true}
use Rattle.std.proofs.lemmas.Option.{same_Some}
use Rattle.model_numbers.specs.Numbers.{least_large}
use Rattle.card_table.specs.CardSet.{card_of}
use Rattle.class_layout.specs.declared.kind.FieldAt.{FieldAt}
use Rattle.class_layout.specs.declared.kind.Kind.{Kind}
use Rattle.class_layout.specs.declared.kind.Kind.TheVariants.{Ref}
use Rattle.class_layout.specs.ClassList.{Class, IsClassList}
use Rattle.class_layout.specs.Kinds.{is_ref}
use Rattle.class_layout.specs.Placing.{IsIn}
use Rattle.page_tables.specs.Address.{page_of}
use Rattle.cow_pages.specs.Memory.{is_written, Memory}
use Rattle.heap_graph.specs.declared.names.Place.{Place}
use Rattle.heap_graph.specs.declared.names.Place.TheVariants as place
use Rattle.heap_graph.specs.declared.names.Shape.{Shape}
use Rattle.heap_graph.specs.declared.names.Shape.TheVariants.{Array, Instance}
use Rattle.heap_graph.specs.Formed.{is_in_image, SuitsShape}
use Rattle.heap_graph.specs.Graph.{is_immune, Graph, Object}
use Rattle.heap_graph.specs.Places.{places_of}
use Rattle.heap_graph.specs.Sizes.{is_large, unrounded}
use Rattle.heap_graph.proofs.Places.{bytes-low, place-slot, stored-slot}
use Rattle.heap_world.specs.declared.names.Card.{Card}
use Rattle.heap_world.specs.declared.names.Card.TheVariants as card
use Rattle.heap_world.specs.declared.names.PageName.{PageName}
use Rattle.heap_world.specs.Cards.{held_cards, is_card_among, outward_cards}
use Rattle.heap_world.specs.Part.{Part}
use Rattle.heap_world.proofs.Noted.{has-cards}
use Rattle.heap_world.proofs.Standing as standing
use Rattle.world_laws.specs.Named.{stands}
use Rattle.world_laws.specs.Outward.{is_card_of}
use Rattle.world_laws.proofs.StandingLists.{standing_lists}
use Rattle.world_laws.proofs.StandingObjects.{object_stands}
use Rattle.object_view.specs.declared.names.Slot.{Slot}
use Rattle.raw_objects.specs.Raws.{Raw, Raws}
use Rattle.address_table.specs.Computed.{Homes}
use Rattle.address_table.proofs.Beside.{all-in}
use Rattle.live_objects.specs.Reach.{is_mortal}
use Rattle.graph_pages.specs.Holds.{raw_under}
use Rattle.graph_pages.specs.Pages.{page_named}
use Rattle.mod_union.specs.ModUnion.{IsOutwardSlot}
use Rattle.object_collection.specs.Collects.{LeadsOut}
use Rattle.evacuate.specs.Stands.{homes_in, raws_of}
use Rattle.evacuate.proofs.Found.{object-at, raw-there}
use Rattle.process_state.specs.Cards.{card_number}
use Rattle.process_state.specs.Slots.{is_in_zygote, raws_in}
use Rattle.process_state.specs.Stands.{StandsIn}
use Rattle.process_state.specs.State.{addresses_in, heap_of, State}
use Rattle.process_state.proofs.Outward.{mortal-of, outside-is, slot-card, slot-lies, stored-out}
use Rattle.process_state.proofs.Spaces.{image-window, place-of, the_image, the_zygote, to-space, zygote-window, IsWindow, SpotWindow}

-- a large object has no references
large-holds-none : (cs : List Class) (shape : Shape) (at : FieldAt) → IsClassList cs → is_large cs shape ≡ true → IsIn at (places_of cs shape) → at.kind ≡ Ref → ⊥
large-holds-none cs (Instance class) at classes large there kind = true≢false (sym large)
large-holds-none cs (Array kind count) at classes large there ref =
    let primitive : not (is_ref kind) ≡ true = (and_parts (not (is_ref kind)) (nat_le least_large (unrounded cs (Array kind count))) large).0 in
    let it = place-slot cs (Array kind count) at classes there in
    let same : at.kind ≡ kind = ap (λ (q : FieldAt). q.kind) it.2 in
    true≢false (sym primitive ∙ ap (λ (x : Kind). not (is_ref x)) (sym same ∙ ref))

module _ (s : State) (m : Memory) (p : Part) (k : StandsIn s m p) (sealed : p.graph.sealed ≡ true) where
  abbrev g : Graph
  g = p.graph

  abbrev homes : Homes
  homes = homes_in s.regions.in_use s.rows

  abbrev table : ℕ → ℕ
  table = addresses_in s p.graph

  abbrev whole : Raws
  whole = raws_of homes p.graph

  abbrev IsOut : (Place → Bool) → Slot → Type 0
  IsOut test slot = IsOutwardSlot s.classes (raws_in test s p.graph) s.rows slot

  -- what leads out is an outward slot of one of the windows
  module _ (slots : List Slot) (slot : Slot) (is : LeadsOut (heap_of s slots) whole slot) where
    out-of : (test : Place → Bool) (o : Object) → IsIn o p.graph.objects → table o.number ≡ is.object → test o.place ≡ true → IsOut test slot
    out-of test o there at here =
        let all : (whole.has is.object ≡ true) × (whole.raw is.object ≡ raw_under table o) =
        subst (λ n. (whole.has n ≡ true) × (whole.raw n ≡ raw_under table o)) at (raw-there homes g k.heap.formed k.heap.house o there) in
        let raw : ((raws_in test s p.graph).has is.object ≡ true) × ((raws_in test s p.graph).raw is.object ≡ raw_under table o) =
        subst (λ n. ((raws_in test s p.graph).has n ≡ true) × ((raws_in test s p.graph).raw n ≡ raw_under table o)) at (to-space s m p k test o there here) in
        let same : whole.raw is.object ≡ (raws_in test s p.graph).raw is.object = all.1 ∙ sym raw.1 in
        record {
          object = is.object;
          place = is.place;
          has = raw.0;
          is_in = subst (λ (r : Raw). IsIn is.place (places_of s.classes r.shape)) same is.is_in;
          kind_is = is.kind_is;
          at_is = is.at_is;
          target_is = is.target_is ∙ ap (λ (r : Raw). r.values is.place) same;
          weak_is = is.weak_is;
          outside = outside-is s m p k sealed slot.target.0 ∙ is.outside;
        }

    out-of-one : IsOut is_in_image slot ⊎ IsOut is_in_zygote slot
    out-of-one =
        let it = object-at homes g k.heap.formed k.heap.house is.object is.has in
        let o : Object = it.object in
        let raw : whole.raw is.object ≡ raw_under table o = subst (λ n. whole.raw n ≡ raw_under table o) it.at_is (raw-there homes g k.heap.formed k.heap.house o it.is_in).1 in
        let immune : not (is_immune true o.place) ≡ false = sym (mortal-of s m p k sealed o it.is_in) ∙ ap (is_mortal s.rows) it.at_is ∙ is.immune in
        let within = place-of s m p k (whole.raw is.object) o is.place raw is.is_in in
        by o o.place immune (all-in (λ (y : Object). SuitsShape g.classes y y.place) g.objects o it.is_in k.heap.formed.places)
        (λ large. large-holds-none g.classes o.shape is.place k.heap.formed.classes large within is.kind_is)
        (out-of is_in_image o it.is_in it.at_is) (out-of is_in_zygote o it.is_in it.at_is)
      where
        by : (o : Object) (at : Place) → not (is_immune true at) ≡ false → SuitsShape g.classes o at → (is_large g.classes o.shape ≡ true → ⊥)
            → (is_in_image at ≡ true → IsOut is_in_image slot) → (is_in_zygote at ≡ true → IsOut is_in_zygote slot) → IsOut is_in_image slot ⊎ IsOut is_in_zygote slot
        by o (place.Image spot) immune suits none image zygote = inl (image refl)
        by o (place.Zygote spot) immune suits none image zygote = inr (zygote refl)
        by o place.Young immune suits none image zygote = absurd (true≢false immune)
        by o place.Large immune suits none image zygote = absurd (true≢false immune)
        by o place.Promoted immune suits none image zygote = absurd (none suits)

  -- its page was written
  page-written : (w : SpotWindow) → IsWindow s m p k w → (slot : Slot) → IsOut w.has slot → is_written m s.page_table (page_of slot.at.0) ≡ true
  page-written w is_window slot is =
      let it = stored-out s m p k sealed w.has slot is in
      let o : Object = it.object in
      let offset : ℕ = it.stored.at.offset in
      let spot = is_window.spots o it.is_in it.here in
      let immune : is_immune g.sealed o.place ≡ true = ap (λ b. is_immune b o.place) sealed ∙ spot.immune in
      let among = k.outward o it.stored it.is_in it.there immune it.out in
      let lies = standing.slot-lies g.classes o.shape it.stored.at (stored-slot g o it.stored k.heap.formed it.is_in it.there) in
      let on = object_stands g o offset k.heap.formed it.is_in immune (omega (arith, lies.1, bytes-low it.stored.at.kind)) in
      let there : stands g among.0 ≡ true =
      subst (λ (page : PageName). stands g page ≡ true) (same_Some on.0 among.0 (sym on.1 ∙ among.1)) (sym (standing_lists g on.0) ∙ on.2) in
      let named = spot.pages table offset in
      let at : page_named table among.0 ≡ page_of slot.at.0 = ap (page_named table) (same_Some among.0 named.0 (sym among.1 ∙ named.1)) ∙ named.2 ∙ ap page_of (sym it.at_is) in
      ap (is_written m s.page_table) (sym at) ∙ k.flags.touched among.0 sealed there ∙ among.2

  -- a card below the fill of its window, on which it lies, is held
  abbrev IsHeld : Card → Type 0
  IsHeld c = is_card_among (held_cards p.graph) c ≡ true

  image-held : (slot : Slot) (c : Card) → IsOut is_in_image slot → card_number c ≡ card_of slot.at.0 → IsHeld c
  image-held slot (card.Image j) is at =
      let it = slot-card s m p k sealed the_image (image-window s m p k) IsHeld slot is (has-cards (outward_cards g) []) in
      let e : it.0 ≡ j = omega (arith, at, it.1) in
      subst (λ i. IsHeld (card.Image i)) e it.2
  image-held slot (card.Zygote j) is at = let lies = slot-lies s m p k sealed the_image (image-window s m p k) slot is in absurd (omega (arith, at, lies.1))

  zygote-held : (slot : Slot) (c : Card) → IsOut is_in_zygote slot → is_card_of p.graph c ≡ true → card_number c ≡ card_of slot.at.0 → IsHeld c
  zygote-held slot (card.Zygote j) is within at =
      let it = slot-card s m p k sealed the_zygote (zygote-window s m p k) IsHeld slot is (has-cards (outward_cards g) []) in
      let e : it.0 ≡ j = omega (arith, at, it.1) in
      subst (λ i. IsHeld (card.Zygote i)) e it.2
  zygote-held slot (card.Image j) is within at =
      let lies = slot-lies s m p k sealed the_zygote (zygote-window s m p k) slot is in
      absurd (omega (arith, at, lies.0, ltb-true j _ within, k.image.fill, k.image_is.bounded))

  module _ (slots : List Slot) (slot : Slot) (is : LeadsOut (heap_of s slots) (raws_of (homes_in s.regions.in_use s.rows) p.graph) slot) where
    pub slot-written : is_written m s.page_table (page_of slot.at.0) ≡ true
    slot-written = elim (out-of-one slots slot is) [
      | inl image ↦ page-written the_image (image-window s m p k) slot image
      | inr zygote ↦ page-written the_zygote (zygote-window s m p k) slot zygote
    ]

    pub slot-held : (c : Card) → is_card_of p.graph c ≡ true → card_number c ≡ card_of slot.at.0 → is_card_among (held_cards p.graph) c ≡ true
    slot-held c within at = elim (out-of-one slots slot is) [ inl image ↦ image-held slot c image at | inr zygote ↦ zygote-held slot c zygote within at ]
