-- The slots that lead out of the image and out of the zygote space are those with which the process keeps its graph.
use Rattle.std.proofs.Common.{◌≡◌, ◌∙◌, ◌⊎◌, ℕ, ◌+◌, ◌<◌, ◌≤◌, Bool, true, false, not, List, [], ◌∷◌, ◌++◌, map, nat_eq, refl, sym, ap, subst, inl, inr, arith, true≢false}
use Rattle.std.specs.Prelude.{nat_le, IsTrue}
use Rattle.std.specs.List.{AllByRecursion, IsDistinct}
use Rattle.std.proofs.lemmas.Bool.{and_parts, ne_eqb}
use Rattle.std.proofs.lemmas.Option.{same_Some}
use Rattle.model_numbers.specs.Numbers.{least_large, zygote_base}
use Rattle.class_layout.specs.declared.kind.FieldAt.{FieldAt}
use Rattle.class_layout.specs.declared.kind.Kind.{Kind}
use Rattle.class_layout.specs.declared.kind.Kind.TheVariants.{Ref}
use Rattle.class_layout.specs.ClassList.{Class, IsClassList}
use Rattle.class_layout.specs.Kinds.{is_ref}
use Rattle.class_layout.specs.Placing.{IsIn}
use Rattle.class_layout.proofs.Places.{IsIn-left, IsIn-right}
use Rattle.page_tables.specs.Address.{page_of}
use Rattle.cow_pages.specs.Memory.{is_written, HasOneSharer, Memory}
use Rattle.heap_graph.specs.declared.names.Place.{Place}
use Rattle.heap_graph.specs.declared.names.Place.TheVariants as place
use Rattle.heap_graph.specs.declared.names.Shape.{Shape}
use Rattle.heap_graph.specs.declared.names.Shape.TheVariants.{Array, Instance}
use Rattle.heap_graph.specs.Formed.{is_in_image, SuitsShape}
use Rattle.heap_graph.specs.Graph.{is_immune, Graph, Object}
use Rattle.heap_graph.specs.Places.{places_of}
use Rattle.heap_graph.specs.Sizes.{is_large, unrounded}
use Rattle.heap_graph.proofs.Places.{bytes-low, place-slot, stored-slot}
use Rattle.heap_world.specs.declared.names.PageName.{PageName}
use Rattle.heap_world.specs.Part.{Part}
use Rattle.heap_world.proofs.Standing as standing
use Rattle.world_laws.specs.Named.{stands}
use Rattle.world_laws.proofs.StandingLists.{standing_lists}
use Rattle.world_laws.proofs.StandingObjects.{object_stands}
use Rattle.object_view.specs.declared.names.Slot.{Slot}
use Rattle.raw_objects.specs.Raws.{Raw, Raws}
use Rattle.address_table.specs.Computed.{Homes}
use Rattle.address_table.proofs.Beside.{all-in}
use Rattle.live_objects.specs.Reach.{is_mortal}
use Rattle.graph_pages.specs.Holds.{raw_under}
use Rattle.graph_pages.specs.Pages.{page_named}
use Rattle.mod_union.specs.Lists.{AreRising}
use Rattle.mod_union.specs.ModUnion.{slot_address, AreOutward, IsOutwardSlot}
use Rattle.object_collection.specs.Collects.{LeadsOut}
use Rattle.evacuate.specs.Stands.{homes_in, raws_of, KeepsGraph}
use Rattle.evacuate.proofs.Found.{object-at, raw-there}
use Rattle.process_state.specs.Slots.{is_in_zygote, raws_in}
use Rattle.process_state.specs.Stands.{StandsIn}
use Rattle.process_state.specs.State.{addresses_in, heap_of, State}
use Rattle.process_state.proofs.Outward.{mortal-of, outside-is, slot-lies, stored-out}
use Rattle.process_state.proofs.Spaces.{image-window, in-space, place-of, the_image, the_zygote, to-space, zygote-window, IsWindow, SpotWindow}

-- LISTS

in-either : (x : Slot) (xs ys : List Slot) → IsIn x (xs ++ ys) → IsIn x xs ⊎ IsIn x ys
in-either x [] ys there = inr there
in-either x (y ∷ xs) ys (inl e) = inl (inl e)
in-either x (y ∷ xs) ys (inr later) = elim (in-either x xs ys later) [ inl one ↦ inl (inr one) | inr other ↦ inr other ]

-- slots that rise below a bound, and others from there on
rising-higher : (bound : ℕ) (ys : List Slot) → AreRising slot_address 0 ys → ((y : Slot) → IsIn y ys → bound ≤ y.at.0) → AreRising slot_address bound ys
rising-higher bound [] rising above = tt
rising-higher bound (y ∷ ys) rising above = (above y (inl refl), rising.1)

rising-lower : (low bound : ℕ) (ys : List Slot) → low ≤ bound → AreRising slot_address bound ys → AreRising slot_address low ys
rising-lower low bound [] less rising = tt
rising-lower low bound (y ∷ ys) less rising = (omega (arith, less, rising.0), rising.1)

rising-joined : (low bound : ℕ) (xs ys : List Slot) → low ≤ bound → AreRising slot_address low xs → ((x : Slot) → IsIn x xs → x.at.0 < bound) → AreRising slot_address bound ys
    → AreRising slot_address low (xs ++ ys)
rising-joined low bound [] ys less rising below others = rising-lower low bound ys less others
rising-joined low bound (x ∷ xs) ys less rising below others =
    (rising.0, rising-joined (x.at.0 + 1) bound xs ys (omega (arith, below x (inl refl))) rising.1 (λ y there. below y (inr there)) others)

slots-apart : (n low : ℕ) (xs : List Slot) → n < low → AreRising slot_address low xs → AllByRecursion (λ y. nat_eq n y ≡ false) (map (λ (slot : Slot). slot.at.0) xs)
slots-apart n low [] less rising = tt
slots-apart n low (x ∷ xs) less rising = (ne_eqb n x.at.0 (λ e. omega (arith, less, rising.0, e)), slots-apart n (x.at.0 + 1) xs (omega (arith, less, rising.0)) rising.1)

slots-once : (low : ℕ) (xs : List Slot) → AreRising slot_address low xs → IsDistinct nat_eq (map (λ (slot : Slot). slot.at.0) xs)
unfolding IsDistinct
slots-once low [] rising = tt
slots-once low (x ∷ xs) rising = (slots-apart x.at.0 (x.at.0 + 1) xs (omega arith) rising.1, slots-once (x.at.0 + 1) xs rising.1)

-- a large object has no references
large-holds-none : (cs : List Class) (shape : Shape) (at : FieldAt) → IsClassList cs → is_large cs shape ≡ true → IsIn at (places_of cs shape) → at.kind ≡ Ref → ⊥
large-holds-none cs (Instance class) at classes large there kind = true≢false (sym large)
large-holds-none cs (Array kind count) at classes large there ref =
    let primitive : not (is_ref kind) ≡ true = (and_parts (not (is_ref kind)) (nat_le least_large (unrounded cs (Array kind count))) large).0 in
    let it = place-slot cs (Array kind count) at classes there in
    let same : at.kind ≡ kind = ap (λ (q : FieldAt). q.kind) it.2 in
    true≢false (sym primitive ∙ ap (λ (x : Kind). not (is_ref x)) (sym same ∙ ref))

module _ (s : State) (m : Memory) (p : Part) (k : StandsIn s m p) (sealed : p.graph.sealed ≡ true) where
  abbrev g : Graph
  g = p.graph

  abbrev homes : Homes
  homes = homes_in s.regions.in_use s.rows

  abbrev table : ℕ → ℕ
  table = addresses_in s p.graph

  abbrev whole : Raws
  whole = raws_of homes p.graph

  abbrev IsOut : (Place → Bool) → Slot → Type 0
  IsOut test slot = IsOutwardSlot s.classes (raws_in test s p.graph) s.rows slot

  whole-at : (o : Object) (a : ℕ) → IsIn o p.graph.objects → table o.number ≡ a → (whole.has a ≡ true) × (whole.raw a ≡ raw_under table o)
  whole-at o a there at = subst (λ n. (whole.has n ≡ true) × (whole.raw n ≡ raw_under table o)) at (raw-there homes g k.heap.formed k.heap.house o there)

  -- an outward slot of a window leads out, and its page has its frame alone
  module _ (w : SpotWindow) (is_window : IsWindow s m p k w) (slots : List Slot) where
    leads-out : (slot : Slot) → IsOut w.has slot → LeadsOut (heap_of s slots) whole slot
    leads-out slot is =
        let it = in-space s m p k w.has is.object is.has in
        let all = whole-at it.object is.object it.is_in it.at_is in
        let same : (raws_in w.has s p.graph).raw is.object ≡ whole.raw is.object = it.raw_is ∙ sym all.1 in
        record {
          object = is.object;
          place = is.place;
          has = all.0;
          immune = ap (is_mortal s.rows) (sym it.at_is) ∙ mortal-of s m p k sealed it.object it.is_in ∙ ap not (is_window.spots it.object it.is_in it.here).immune;
          is_in = subst (λ (r : Raw). IsIn is.place (places_of s.classes r.shape)) same is.is_in;
          kind_is = is.kind_is;
          at_is = is.at_is;
          target_is = is.target_is ∙ ap (λ (r : Raw). r.values is.place) same;
          weak_is = is.weak_is;
          outside = sym (outside-is s m p k sealed slot.target.0) ∙ is.outside;
        }

    page-alone : (slot : Slot) → IsOut w.has slot → HasOneSharer m s.page_table (page_of slot.at.0)
    page-alone slot is =
        let it = stored-out s m p k sealed w.has slot is in
        let o : Object = it.object in
        let offset : ℕ = it.stored.at.offset in
        let spot = is_window.spots o it.is_in it.here in
        let immune : is_immune g.sealed o.place ≡ true = ap (λ b. is_immune b o.place) sealed ∙ spot.immune in
        let among = k.outward o it.stored it.is_in it.there immune it.out in
        let lies = standing.slot-lies g.classes o.shape it.stored.at (stored-slot g o it.stored k.heap.formed it.is_in it.there) in
        let on = object_stands g o offset k.heap.formed it.is_in immune (omega (arith, lies.1, bytes-low it.stored.at.kind)) in
        let there : stands g among.0 ≡ true =
        subst (λ (page : PageName). stands g page ≡ true) (same_Some on.0 among.0 (sym on.1 ∙ among.1)) (sym (standing_lists g on.0) ∙ on.2) in
        let named = spot.pages table offset in
        let at : page_named table among.0 ≡ page_of slot.at.0 =
        ap (page_named table) (same_Some among.0 named.0 (sym among.1 ∙ named.1)) ∙ named.2 ∙ ap page_of (sym it.at_is) in
        let written : IsTrue (is_written m s.page_table (page_named table among.0)) = k.flags.touched among.0 sealed there ∙ among.2 in
        k.heap.sound.written_alone s.page_table (page_of slot.at.0) (subst (λ q. IsTrue (is_written m s.page_table q)) at written)

  -- what leads out is an outward slot of one of the windows
  module _ (slots : List Slot) (slot : Slot) (is : LeadsOut (heap_of s slots) whole slot) where
    out-of : (test : Place → Bool) (o : Object) → IsIn o p.graph.objects → table o.number ≡ is.object → test o.place ≡ true → IsOut test slot
    out-of test o there at here =
        let all = whole-at o is.object there at in
        let raw : ((raws_in test s p.graph).has is.object ≡ true) × ((raws_in test s p.graph).raw is.object ≡ raw_under table o) =
        subst (λ n. ((raws_in test s p.graph).has n ≡ true) × ((raws_in test s p.graph).raw n ≡ raw_under table o)) at (to-space s m p k test o there here) in
        let same : whole.raw is.object ≡ (raws_in test s p.graph).raw is.object = all.1 ∙ sym raw.1 in
        record {
          object = is.object;
          place = is.place;
          has = raw.0;
          is_in = subst (λ (r : Raw). IsIn is.place (places_of s.classes r.shape)) same is.is_in;
          kind_is = is.kind_is;
          at_is = is.at_is;
          target_is = is.target_is ∙ ap (λ (r : Raw). r.values is.place) same;
          weak_is = is.weak_is;
          outside = outside-is s m p k sealed slot.target.0 ∙ is.outside;
        }

    out-of-one : IsOut is_in_image slot ⊎ IsOut is_in_zygote slot
    out-of-one =
        let it = object-at homes g k.heap.formed k.heap.house is.object is.has in
        let o : Object = it.object in
        let all = whole-at o is.object it.is_in it.at_is in
        let immune : not (is_immune true o.place) ≡ false = sym (mortal-of s m p k sealed o it.is_in) ∙ ap (is_mortal s.rows) it.at_is ∙ is.immune in
        let within = place-of s m p k (whole.raw is.object) o is.place all.1 is.is_in in
        by o o.place immune (all-in (λ (y : Object). SuitsShape g.classes y y.place) g.objects o it.is_in k.heap.formed.places)
        (λ large. large-holds-none g.classes o.shape is.place k.heap.formed.classes large within is.kind_is)
        (out-of is_in_image o it.is_in it.at_is) (out-of is_in_zygote o it.is_in it.at_is)
      where
        by : (o : Object) (at : Place) → not (is_immune true at) ≡ false → SuitsShape g.classes o at → (is_large g.classes o.shape ≡ true → ⊥)
            → (is_in_image at ≡ true → IsOut is_in_image slot) → (is_in_zygote at ≡ true → IsOut is_in_zygote slot) → IsOut is_in_image slot ⊎ IsOut is_in_zygote slot
        by o (place.Image spot) immune suits none image zygote = inl (image refl)
        by o (place.Zygote spot) immune suits none image zygote = inr (zygote refl)
        by o place.Young immune suits none image zygote = absurd (true≢false immune)
        by o place.Large immune suits none image zygote = absurd (true≢false immune)
        by o place.Promoted immune suits none image zygote = absurd (none suits)

  module _ (image zygote : List Slot) (of_image : AreOutward s.classes (raws_in is_in_image s p.graph) s.rows image) (of_zygote : AreOutward s.classes (raws_in is_in_zygote s p.graph) s.rows zygote) where
    abbrev slots : List Slot
    slots = image ++ zygote

    -- each slot is of one window
    each : (P : Slot → Type 0) → ((slot : Slot) → IsOut is_in_image slot → P slot) → ((slot : Slot) → IsOut is_in_zygote slot → P slot) → (slot : Slot) → IsIn slot slots → P slot
    each P one other slot there = elim (in-either slot image zygote there) [ inl is ↦ one slot ((of_image.exact slot).0 is) | inr is ↦ other slot ((of_zygote.exact slot).0 is) ]

    pub keeps-graph : KeepsGraph (heap_of s (image ++ zygote)) m s.page_table p.graph
    keeps-graph = record {
      is_sealed = sealed;
      heap = record {
        formed = k.heap.formed;
        house = k.heap.house;
        pages = k.heap.pages;
        stands = record {
          classes = k.heap.stands.classes;
          packed = k.heap.stands.packed;
          objects = k.heap.stands.objects;
          no_from = k.heap.stands.no_from;
          half = k.heap.stands.half;
          count = k.heap.stands.count;
          rows = k.heap.stands.rows;
          roots = k.heap.stands.roots;
        };
        regions = k.heap.regions;
        large = k.heap.large;
        space = k.heap.space;
        sound = k.heap.sound;
        live = k.heap.live;
      };
      out = record {
        exact = λ slot. (
          each (LeadsOut (heap_of s slots) whole) (leads-out the_image (image-window s m p k) slots)
              (leads-out the_zygote (zygote-window s m p k) slots) slot,
          (λ is. elim (out-of-one slots slot is) [
            | inl one ↦ IsIn-left slot image zygote ((of_image.exact slot).1 one)
            | inr other ↦ IsIn-right slot image zygote ((of_zygote.exact slot).1 other)
          ]),
        );
        once = slots-once 0 slots (rising-joined 0 zygote_base image zygote (omega arith) of_image.rising
            (λ slot there. let lies = slot-lies s m p k sealed the_image (image-window s m p k) slot ((of_image.exact slot).0 there) in omega (arith, lies.1))
            (rising-higher zygote_base zygote of_zygote.rising
            (λ slot there. (slot-lies s m p k sealed the_zygote (zygote-window s m p k) slot ((of_zygote.exact slot).0 there)).0)));
      };
      alone = each (λ (slot : Slot). HasOneSharer m s.page_table (page_of slot.at.0)) (page-alone the_image (image-window s m p k) slots)
          (page-alone the_zygote (zygote-window s m p k) slots);
    }
