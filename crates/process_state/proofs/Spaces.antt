-- The objects of the image and those of the zygote window, as raw ones, and what their references lead to.
use Rattle.std.proofs.Common.{◌≡◌, ◌∙◌, ◌⊎◌, ℕ, ◌+◌, ◌-◌, ◌/◌, ◌%◌, ◌≤◌, Bool, true, List, [], ◌∷◌, Some, filter, nat_eq, refl, sym, ap, subst, inl, inr, arith, true≢false}
use Rattle.std.specs.Prelude.{is_some, ◌&&◌}
use Rattle.std.specs.List.{list_any}
use Rattle.std.proofs.lemmas.Bool.{eq-eqb, eqb-true}
use Rattle.model_numbers.specs.Numbers.{card_bytes, image_base, image_length, page_bytes, zygote_base, zygote_length}
use Rattle.class_layout.specs.declared.kind.FieldAt.{FieldAt}
use Rattle.class_layout.specs.declared.kind.Kind.TheVariants.{Ref}
use Rattle.class_layout.specs.Placing.{IsIn}
use Rattle.page_tables.specs.Address.{page_of}
use Rattle.cow_pages.specs.Memory.{Memory}
use Rattle.cow_pages.specs.View.{view_of}
use Rattle.heap_graph.specs.declared.names.Content.{Content}
use Rattle.heap_graph.specs.declared.names.Content.TheVariants as content
use Rattle.heap_graph.specs.declared.names.Place.{Place}
use Rattle.heap_graph.specs.declared.names.Place.TheVariants as place
use Rattle.heap_graph.specs.Formed.{is_in_image, FitsKind}
use Rattle.heap_graph.specs.Graph.{is_immune, size_of_object, Graph, Object}
use Rattle.heap_graph.specs.Places.{places_of}
use Rattle.heap_graph.specs.Values.{value_at}
use Rattle.heap_graph.proofs.Lists.{any-filter}
use Rattle.heap_graph.proofs.Places.{value-fits}
use Rattle.heap_world.specs.declared.names.Card.{Card}
use Rattle.heap_world.specs.declared.names.Card.TheVariants as card
use Rattle.heap_world.specs.declared.names.PageName.{PageName}
use Rattle.heap_world.specs.declared.names.PageName.TheVariants as page
use Rattle.heap_world.specs.Cards.{cards_in}
use Rattle.heap_world.specs.Pages.{page_in}
use Rattle.heap_world.specs.Part.{Part}
use Rattle.world_laws.specs.Named.{has_slot}
use Rattle.object_view.specs.Seen.{seen_value, value_in}
use Rattle.raw_objects.specs.Raws.{HoldsRaws, Raw}
use Rattle.address_table.specs.Computed.{Homes}
use Rattle.address_table.proofs.Fitting.{fits}
use Rattle.large_objects.specs.declared.rows.LargeRow.{LargeRow}
use Rattle.large_objects.specs.Rows.{row_at}
use Rattle.graph_pages.specs.Holds.{is_at, object_on, raw_under}
use Rattle.graph_pages.specs.Pages.{page_named}
use Rattle.graph_pages.proofs.Graphs.{found, graph-fits, graph-raws}
use Rattle.graph_pages.proofs.Lists.{any-same, filter-in, in-filter}
use Rattle.mod_union.specs.ModUnion.{IsKnownTarget}
use Rattle.zygote_compact.specs.Spots.{is_spot}
use Rattle.evacuate.specs.Stands.{homes_in}
use Rattle.evacuate.proofs.Found.{target-in}
use Rattle.evacuate.proofs.Left.{same-bool}
use Rattle.evacuate.proofs.Stand.{in-large-is, row-at, stand, Stand}
use Rattle.process_state.specs.Slots.{is_in_zygote, raws_in}
use Rattle.process_state.specs.Stands.{is_image_spot, StandsIn}
use Rattle.process_state.specs.State.{addresses_in, State}

-- an object stands in a window of spots, on cards of it
pub record OnSpot (g : Graph) (o : Object) (at : Place) (address base bytes : ℕ) (make : ℕ → Card) : Type 0 where
  pub low : base ≤ address
  pub high : address + size_of_object g.classes o ≤ base + bytes
  pub immune : is_immune true at ≡ true
  pub cards : (offset : ℕ) → cards_in at offset ≡ make ((address + offset - base) / card_bytes) ∷ []
  pub pages : (table : ℕ → ℕ) (offset : ℕ) → (page : PageName) × (page_in o at offset ≡ Some page) × (page_named table page ≡ page_of (address + offset))

-- a window of spots: which places lie in it, its cards, where it begins, and how long it is
pub record SpotWindow : Type 0 where
  pub has : Place → Bool
  pub card : ℕ → Card
  pub base : ℕ
  pub bytes : ℕ

abbrev pub the_image : SpotWindow
the_image = record { has = is_in_image; card = card.Image; base = image_base; bytes = image_length }

abbrev pub the_zygote : SpotWindow
the_zygote = record { has = is_in_zygote; card = card.Zygote; base = zygote_base; bytes = zygote_length }

same-eq : (a b : ℕ) → nat_eq a b ≡ nat_eq b a
same-eq a b = same-bool (nat_eq a b) (nat_eq b a) (λ e. eq-eqb b a (sym (eqb-true a b e))) (λ e. eq-eqb a b (sym (eqb-true b a e)))

module _ (s : State) (m : Memory) (p : Part) (k : StandsIn s m p) where
  abbrev g : Graph
  g = p.graph

  abbrev homes : Homes
  homes = homes_in s.regions.in_use s.rows

  abbrev table : ℕ → ℕ
  table = addresses_in s p.graph

  abbrev placed : (Place → Bool) → List Object
  placed test = filter (λ (o : Object). test o.place) p.graph.objects

  -- the object of a raw one
  pub record InSpace (test : Place → Bool) (a : ℕ) : Type 0 where
    pub object : Object
    pub is_in : IsIn object p.graph.objects
    pub here : test object.place ≡ true
    pub at_is : addresses_in s p.graph object.number ≡ a
    pub raw_is : (raws_in test s p.graph).raw a ≡ raw_under (addresses_in s p.graph) object

  pub in-space : (test : Place → Bool) (a : ℕ) → (raws_in test s p.graph).has a ≡ true → InSpace test a
  in-space test a has =
      let it = found (is_at table a) (placed test) has in
      let o : Object = object_on table (placed test) a in
      let from = in-filter (λ (o : Object). test o.place) g.objects o it.0 in
      record { object = o; is_in = from.0; here = from.1; at_is = eqb-true (table o.number) a it.1; raw_is = refl }

  -- the raw one of an object
  pub to-space : (test : Place → Bool) (o : Object) → IsIn o p.graph.objects → test o.place ≡ true
      → ((raws_in test s p.graph).has (addresses_in s p.graph o.number) ≡ true) × ((raws_in test s p.graph).raw (addresses_in s p.graph o.number) ≡ raw_under (addresses_in s p.graph) o)
  to-space test o there here =
      let from : (x : Object) → IsIn x (placed test) → IsIn x g.objects = λ x is. (in-filter (λ (o : Object). test o.place) g.objects x is).0 in
      graph-fits g.classes table (placed test) (λ x y x_in y_in. (fits homes g k.heap.formed k.heap.house).apart x y (from x x_in) (from y y_in)) o
      (filter-in (λ (o : Object). test o.place) g.objects o there here)

  -- memory holds them
  pub holds-raws : (test : Place → Bool) → HoldsRaws s.classes (view_of m s.page_table) (raws_in test s p.graph)
  holds-raws test =
      let from : (x : Object) → IsIn x (placed test) → IsIn x g.objects = λ x is. (in-filter (λ (o : Object). test o.place) g.objects x is).0 in
      let all = k.heap.pages.objects in
      subst (λ cs. HoldsRaws cs (view_of m s.page_table) (raws_in test s p.graph)) (sym k.heap.stands.classes)
      (graph-raws g.classes (view_of m s.page_table) table (placed test) (record {
        known = λ o there. all.known o (from o there);
        stands = λ o there. all.stands o (from o there);
        apart = λ o q o_in q_in. all.apart o q (from o o_in) (from q q_in);
      }))

  -- SPOTS

  -- they begin at the spots
  begin-at : (test : Place → Bool) (spot : ℕ → Place → Bool) → ((a : ℕ) (o : Object) → IsIn o p.graph.objects → (test o.place && is_at table a o) ≡ spot a o.place)
      → (a : ℕ) → (raws_in test s p.graph).has a ≡ list_any (λ (o : Object). spot a o.place) p.graph.objects
  begin-at test spot same a = any-filter (is_at table a) (λ (o : Object). test o.place) g.objects ∙ any-same _ _ g.objects (same a)

  abbrev StandsAt : Object → Place → ℕ → Type 0
  StandsAt o at address = Stand homes g k.heap.formed k.heap.house o at address

  stand-at : (o : Object) → IsIn o p.graph.objects → StandsAt o o.place (table o.number)
  stand-at o there = stand homes g k.heap.formed k.heap.house o there

  pub image-begins : (a : ℕ) → (raws_in is_in_image s p.graph).has a ≡ list_any (λ (o : Object). is_image_spot a o.place) p.graph.objects
  image-begins = begin-at is_in_image is_image_spot (λ a o there. by a o o.place (table o.number) (stand-at o there))
    where
      by : (a : ℕ) (o : Object) (at : Place) (address : ℕ) → StandsAt o at address → (is_in_image at && nat_eq address a) ≡ is_image_spot a at
      by a o (place.Image spot) address h = ap (λ n. nat_eq n a) h.0 ∙ same-eq spot a
      by a o (place.Zygote spot) address h = refl
      by a o place.Young address h = refl
      by a o place.Large address h = refl
      by a o place.Promoted address h = refl

  pub zygote-begins : (a : ℕ) → (raws_in is_in_zygote s p.graph).has a ≡ list_any (λ (o : Object). is_spot a o.place) p.graph.objects
  zygote-begins = begin-at is_in_zygote is_spot (λ a o there. by a o o.place (table o.number) (stand-at o there))
    where
      by : (a : ℕ) (o : Object) (at : Place) (address : ℕ) → StandsAt o at address → (is_in_zygote at && nat_eq address a) ≡ is_spot a at
      by a o (place.Image spot) address h = refl
      by a o (place.Zygote spot) address h = ap (λ n. nat_eq n a) h.0 ∙ same-eq spot a
      by a o place.Young address h = refl
      by a o place.Large address h = refl
      by a o place.Promoted address h = refl

  image-spot : (o : Object) → IsIn o p.graph.objects → is_in_image o.place ≡ true → OnSpot p.graph o o.place (addresses_in s p.graph o.number) image_base image_length card.Image
  image-spot o there = by o.place (table o.number) (stand-at o there)
    where
      by : (at : Place) (address : ℕ) → StandsAt o at address → is_in_image at ≡ true → OnSpot p.graph o at address image_base image_length card.Image
      by (place.Image spot) address h e = record {
        low = omega (arith, h.0, h.1);
        high = omega (arith, h.0, h.2);
        immune = refl;
        cards = λ offset. ap (λ a. card.Image ((a + offset - image_base) / card_bytes) ∷ []) (sym h.0);
        pages = λ table offset. (page.Image ((spot + offset - image_base) / page_bytes), refl, omega (arith, h.0, h.1));
      }
      by (place.Zygote spot) address h e = absurd (true≢false (sym e))
      by place.Young address h e = absurd (true≢false (sym e))
      by place.Large address h e = absurd (true≢false (sym e))
      by place.Promoted address h e = absurd (true≢false (sym e))

  zygote-spot : (o : Object) → IsIn o p.graph.objects → is_in_zygote o.place ≡ true → OnSpot p.graph o o.place (addresses_in s p.graph o.number) zygote_base zygote_length card.Zygote
  zygote-spot o there = by o.place (table o.number) (stand-at o there)
    where
      by : (at : Place) (address : ℕ) → StandsAt o at address → is_in_zygote at ≡ true → OnSpot p.graph o at address zygote_base zygote_length card.Zygote
      by (place.Image spot) address h e = absurd (true≢false (sym e))
      by (place.Zygote spot) address h e = record {
        low = omega (arith, h.0, h.1);
        high = omega (arith, h.0, h.2);
        immune = refl;
        cards = λ offset. ap (λ a. card.Zygote ((a + offset - zygote_base) / card_bytes) ∷ []) (sym h.0);
        pages = λ table offset. (page.Zygote ((spot + offset - zygote_base) / page_bytes), refl, omega (arith, h.0, h.1));
      }
      by place.Young address h e = absurd (true≢false (sym e))
      by place.Large address h e = absurd (true≢false (sym e))
      by place.Promoted address h e = absurd (true≢false (sym e))

  -- its objects stand on spots of it, and it begins with a card
  pub record IsWindow (w : SpotWindow) : Type 0 where
    pub spots : (o : Object) → IsIn o p.graph.objects → w.has o.place ≡ true → OnSpot p.graph o o.place (addresses_in s p.graph o.number) w.base w.bytes w.card
    pub aligned : w.base % card_bytes ≡ 0

  pub image-window : IsWindow the_image
  image-window = record { spots = image-spot; aligned = refl }

  pub zygote-window : IsWindow the_zygote
  zygote-window = record { spots = zygote-spot; aligned = refl }

  -- REFERENCES

  -- a place of a raw object is one of its object
  pub place-of : (r : Raw) (o : Object) (at : FieldAt) → r ≡ raw_under (addresses_in s p.graph) o → IsIn at (places_of s.classes r.shape) → IsIn at (places_of p.graph.classes o.shape)
  place-of r o at same is =
      subst (λ (x : Raw). IsIn at (places_of p.graph.classes x.shape)) same (subst (λ cs. IsIn at (places_of cs r.shape)) k.heap.stands.classes is)

  -- a reference holds null, or an object of the graph
  pub reference : (o : Object) (at : FieldAt) → IsIn o p.graph.objects → IsIn at (places_of p.graph.classes o.shape) → at.kind ≡ Ref
      → (value_at o.slots at ≡ content.Null) ⊎ ((q : Object) × IsIn q p.graph.objects × (value_at o.slots at ≡ content.Object q.number))
  reference o at there within kind = by (value_at o.slots at) refl (subst (λ x. FitsKind x (value_at o.slots at)) kind (value-fits g o at k.heap.formed there within))
    where
      by : (v : Content) → value_at o.slots at ≡ v → FitsKind Ref v → (value_at o.slots at ≡ content.Null) ⊎ ((q : Object) × IsIn q p.graph.objects × (value_at o.slots at ≡ content.Object q.number))
      by (content.Number z) e fit = absurd (true≢false (sym fit))
      by content.Null e fit = inl e
      by (content.Object n) e fit =
          let it = target-in homes g k.heap.formed k.heap.house o at n there e in
          inr (it.0, it.1, e ∙ ap (λ j. content.Object j) (sym it.2))

  -- so what it leads to is known
  pub known-target : (o : Object) (at : FieldAt) → IsIn o p.graph.objects → IsIn at (places_of p.graph.classes o.shape) → at.kind ≡ Ref
      → IsKnownTarget s.rows (value_in (addresses_in s p.graph) o at)
  known-target o at there within kind = elim (reference o at there within kind) [
    | inl null ↦ record {
      address = 0;
      is = ap (seen_value table) null;
      below = omega arith;
      large = λ inside. absurd (true≢false (sym inside));
    }
    | inr it ↦ record {
      address = table it.0.number;
      is = ap (seen_value table) it.2;
      below = (fits homes g k.heap.formed k.heap.house).below it.0.number;
      large = λ inside.
          let slot : has_slot it.0.place ≡ true = sym (in-large-is homes g k.heap.formed k.heap.house it.0 it.1) ∙ inside in
          let row = row-at homes g k.heap.formed k.heap.house it.0 it.1 slot in
          ap (λ (rs : List LargeRow). is_some (row_at rs (table it.0.number))) k.heap.stands.rows ∙ ap is_some row.1;
    }
  ]
