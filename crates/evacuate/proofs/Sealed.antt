-- A process that has just sealed its graph keeps it.
use Rattle.std.proofs.Common.{◌≡◌, ◌∙◌, ℕ, ◌*◌, Bool, true, false, cond, List, [], ◌∷◌, ◌++◌, map, filter, length, refl, sym, ap, subst, inl, inr, arith, true≢false, pos}
use Rattle.std.specs.Prelude.{nat_eq, ◌||◌}
use Rattle.std.specs.List.{list_any, IsDistinct}
use Rattle.class_layout.specs.ClassList.{Class}
use Rattle.class_layout.specs.declared.kind.Kind.TheVariants.{Ref}
use Rattle.class_layout.specs.declared.kind.FieldAt.{FieldAt}
use Rattle.class_layout.specs.Placing.{IsIn}
use Rattle.cow_pages.specs.Memory.{Memory}
use Rattle.heap_graph.specs.declared.names.Content.{Content}
use Rattle.heap_graph.specs.declared.names.Content.TheVariants as content
use Rattle.heap_graph.specs.declared.names.Place.{Place}
use Rattle.heap_graph.specs.declared.names.Place.TheVariants as place
use Rattle.heap_graph.specs.Formed.{is_in_image, FitsKind}
use Rattle.heap_graph.specs.Graph.{is_young, size_of_object, Graph, Object}
use Rattle.heap_graph.specs.Packing.{end_from, used, young_objects, young_sizes}
use Rattle.heap_graph.specs.Places.{places_of}
use Rattle.heap_graph.specs.Sizes.{parts_for}
use Rattle.heap_graph.specs.Values.{value_at}
use Rattle.heap_graph.proofs.Places.{value-fits}
use Rattle.object_view.specs.declared.names.Slot.{Slot}
use Rattle.object_view.specs.Seen.{root_address, seen_value, value_in}
use Rattle.raw_objects.specs.Raws.{Raw}
use Rattle.raw_objects.specs.References.{in_regions}
use Rattle.address_table.specs.Computed.{large_behind, large_count, table_of, AreNumbers, HouseAll}
use Rattle.region_lists.specs.Rows.{Row}
use Rattle.region_space.specs.Space.{filled, lists_of}
use Rattle.region_space.specs.Space as space
use Rattle.large_objects.specs.declared.rows.LargeRow.{LargeRow}
use Rattle.large_objects.specs.Rows.{waits}
use Rattle.large_objects.specs.Pages as large
use Rattle.graph_pages.specs.Holds.{raw_under}
use Rattle.live_objects.specs.Reach.{is_mortal}
use Rattle.object_moves.specs.Copies.{PacksAt}
use Rattle.object_collection.specs.Collects.{HeapState, LeadsOut}
use Rattle.graph_pages.specs.Pages.{PagesHold}
use Rattle.evacuate.specs.Stands.{home_of, homes_in, homes_of, no_homes, raws_of, rows_from, with_row, young_homes, HasSealed, HasSlotsOut, KeepsGraph, StandsFor}
use Rattle.evacuate.proofs.Found.{object-at, raw-there, target-in}
use Rattle.evacuate.proofs.Stand.{in-regions-is}

not-young : (at : Place) → is_in_image at ≡ true → is_young at ≡ false
not-young (place.Image spot) e = refl
not-young (place.Zygote spot) e = absurd (true≢false (sym e))
not-young place.Young e = absurd (true≢false (sym e))
not-young place.Large e = absurd (true≢false (sym e))
not-young place.Promoted e = absurd (true≢false (sym e))

-- what passes for none leaves none
none-left : (p : Object → Bool) (os : List Object) → ((o : Object) → IsIn o os → p o ≡ false) → filter p os ≡ []
none-left p [] none = refl
none-left p (o ∷ os) none = ap (λ b. cond b (o ∷ filter p os) (filter p os)) (none o (inl refl)) ∙ none-left p os (λ x there. none x (inr there))

module _ (cs : List Class) where
  -- the objects of the image have no rows
  no-rows : (k : ℕ) (os : List Object) → ((o : Object) → IsIn o os → is_in_image o.place ≡ true) → (rows_from cs [] k os ≡ []) × (large_count k os ≡ k)
  no-rows k [] all = (refl, refl)
  no-rows k (o ∷ os) all = by o.place (all o (inl refl)) (λ n. no-rows n os (λ x there. all x (inr there)))
    where
      by : (at : Place) → is_in_image at ≡ true → ((n : ℕ) → (rows_from cs [] n os ≡ []) × (large_count n os ≡ n))
          → (with_row cs [] k o at (rows_from cs [] (large_behind k at) os) ≡ []) × (large_count (large_behind k at) os ≡ k)
      by (place.Image spot) e rest = rest k
      by (place.Zygote spot) e rest = absurd (true≢false (sym e))
      by place.Young e rest = absurd (true≢false (sym e))
      by place.Large e rest = absurd (true≢false (sym e))
      by place.Promoted e rest = absurd (true≢false (sym e))

pub no-numbers : (most : ℕ) → AreNumbers most []
no-numbers most = ((λ i below. absurd (omega (arith, below))), (λ i j below _ same. absurd (omega (arith, below))))

pub no-slots : IsDistinct nat_eq []
unfolding IsDistinct
no-slots = tt

pub packs-none : PacksAt [] [] []
packs-none = record {
  pack = record { end = refl; used = refl; fills = refl };
  places = refl;
  each = λ p i below covered. absurd (omega (arith, below));
  covered = λ p held. absurd (true≢false (sym held));
}

module _ (h : HeapState) (m : Memory) (t : ℕ) (g : Graph) (s : HasSealed h m t g) where
  no-young : young_objects g ≡ []
  no-young = none-left (λ (o : Object). is_young o.place) g.objects (λ o there. not-young o.place (s.in_image o there))

  no-sizes : young_sizes g ≡ []
  no-sizes = ap (map (size_of_object g.classes)) no-young

  house : HouseAll no_homes g
  house = record {
    regions = no-numbers (2 * g.budget);
    slots = no-numbers 512;
    for_young = let is : used g ≡ parts_for 262144 0 = ap (λ ss. parts_for 262144 (end_from 0 ss)) no-sizes in omega (arith, is);
    for_large = omega (arith, (no-rows g.classes 0 g.objects s.in_image).1);
  }

  -- with no region in use and no row nothing stands in several places
  nothing-stands : homes_of h ≡ no_homes
  nothing-stands = ap (λ (rows : List Row). homes_in rows h.rows) s.none_in_use.0 ∙ ap (λ (rows : List LargeRow). homes_in [] rows) s.none_large

  stands : StandsFor h g
  stands = record {
    classes = s.classes;
    packed = subst (λ homes. PacksAt h.regions.in_use (young_sizes g) (young_homes homes g)) (sym nothing-stands)
        (subst (λ rows. PacksAt rows (young_sizes g) (young_homes no_homes g)) (sym s.none_in_use.0)
        (subst (λ ss. PacksAt [] ss (young_homes no_homes g)) (sym no-sizes) (subst (λ os. PacksAt [] [] (map (home_of (table_of no_homes g)) os)) (sym no-young) packs-none)));
    objects = s.none_in_use.2 ∙ sym (ap length no-young);
    no_from = s.none_in_use.1;
    half = omega (arith, ap length s.none_in_use.0);
    count = s.count;
    rows = s.none_large ∙ sym (no-rows g.classes 0 g.objects s.in_image).0 ∙ ap (λ homes. rows_from g.classes homes.slots 0 g.objects) (sym nothing-stands);
    roots = s.roots ∙ ap (λ homes. map (λ r. root_address (table_of homes g) r.holds) g.roots) (sym nothing-stands);
  }

  -- what an object of the image holds is in the image, or null
  held-off : (o : Object) (p : FieldAt) (b : ℕ) → IsIn o g.objects → IsIn p (places_of g.classes o.shape) → p.kind ≡ Ref → value_in (table_of no_homes g) o p ≡ pos b → in_regions b ≡ false
  held-off o p b there within kind value = by (value_at o.slots p) refl value (subst (λ k. FitsKind k (value_at o.slots p)) kind (value-fits g o p s.formed there within))
    where
      by : (x : Content) → value_at o.slots p ≡ x → seen_value (table_of no_homes g) x ≡ pos b → FitsKind Ref x → in_regions b ≡ false
      by (content.Number z) e is fit = absurd (true≢false (sym fit))
      by content.Null e is fit = let zero_is : 0 ≡ b = cc in ap in_regions (sym zero_is)
      by (content.Object n) e is fit =
          let same : table_of no_homes g n ≡ b = cc in
          let it = target-in no_homes g s.formed house o p n there e in
          ap in_regions (sym same) ∙ ap (λ j. in_regions (table_of no_homes g j)) (sym it.2) ∙ in-regions-is no_homes g s.formed house it.0 it.1 ∙ not-young it.0.place (s.in_image it.0 it.1)

  none-leads : (slot : Slot) → LeadsOut h (raws_of no_homes g) slot → ⊥
  none-leads slot leads =
      let from = object-at no_homes g s.formed house leads.object leads.has in
      let o : Object = from.object in
      let raw : (raws_of no_homes g).raw leads.object ≡ raw_under (table_of no_homes g) o = ap (raws_of no_homes g).raw (sym from.at_is) ∙ (raw-there no_homes g s.formed house o from.is_in).1 in
      let within : IsIn leads.place (places_of g.classes o.shape) =
      subst (λ (r : Raw). IsIn leads.place (places_of g.classes r.shape)) raw (subst (λ cs. IsIn leads.place (places_of cs ((raws_of no_homes g).raw leads.object).shape)) s.classes leads.is_in) in
      let off = held-off o leads.place slot.target.0 from.is_in within leads.kind_is (sym (ap (λ (r : Raw). r.values leads.place) raw) ∙ sym leads.target_is) in
      true≢false (sym leads.outside ∙ ap (λ rows. is_mortal rows slot.target.0) s.none_large ∙ ap (λ b. b || false) off)

  out : HasSlotsOut h (raws_of no_homes g)
  out = record {
    exact = λ slot. ((λ there. absurd (subst (λ (ss : List Slot). IsIn slot ss) s.none_out there)), (λ leads. absurd (none-leads slot leads)));
    once = subst (λ (ss : List Slot). IsDistinct nat_eq (map (λ (slot : Slot). slot.at.0) ss)) (sym s.none_out) no-slots;
  }

  none-filled : filled (lists_of h.regions) ≡ []
  none-filled = ap (λ (rows : List Row). rows ++ h.regions.from) s.none_in_use.0 ∙ s.none_in_use.1

  pub sealed-kept : KeepsGraph h m t g
  sealed-kept = record {
    heap = record {
      formed = s.formed;
      house = subst (λ homes. HouseAll homes g) (sym nothing-stands) house;
      pages = subst (λ homes. PagesHold m t homes g) (sym nothing-stands) s.pages;
      stands = stands;
      space = s.space;
      sound = s.sound;
      live = s.live;
      regions = λ p held. absurd (true≢false (sym held ∙ ap (list_any (space.holds_page p)) none-filled));
      large = λ p held. absurd (true≢false (sym held ∙ ap (λ (rows : List LargeRow). list_any (large.holds_page p) (filter waits rows)) s.none_large));
    };
    is_sealed = s.is_sealed;
    out = subst (λ homes. HasSlotsOut h (raws_of homes g)) (sym nothing-stands) out;
    alone = λ slot there. absurd (subst (λ (ss : List Slot). IsIn slot ss) s.none_out there);
  }
