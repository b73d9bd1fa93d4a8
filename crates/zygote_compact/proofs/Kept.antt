-- After a promotion the process keeps the promoted graph, and nothing leads out.
use Rattle.std.proofs.Common.{◌≡◌, ◌∙◌, ◌⊎◌, ℕ, ◌+◌, ◌-◌, true, false, not, List, [], ◌∷◌, ◌++◌, map, filter, refl, sym, ap, subst, inl, inr, arith, true≢false, pos}
use Rattle.std.specs.Prelude.{nat_le, ◌||◌, ◌&&◌}
use Rattle.std.specs.List.{list_any}
use Rattle.std.proofs.lemmas.Bool.{and_parts, cases_Bool, leb-true}
use Rattle.std.proofs.lemmas.List.{append-nil}
use Rattle.class_layout.specs.Placing.{IsIn}
use Rattle.class_layout.specs.declared.kind.Kind.TheVariants.{Ref}
use Rattle.class_layout.specs.declared.kind.FieldAt.{FieldAt}
use Rattle.page_tables.specs.declared.address.Addr.{Addr}
use Rattle.page_tables.specs.declared.address.Window.{Window}
use Rattle.page_tables.specs.declared.address.Window.TheVariants as window
use Rattle.page_tables.specs.Address.{is_in, page_of}
use Rattle.cow_pages.specs.Memory.{Memory}
use Rattle.heap_graph.specs.declared.names.Content.{Content}
use Rattle.heap_graph.specs.declared.names.Content.TheVariants as content
use Rattle.heap_graph.specs.declared.names.Place.{Place}
use Rattle.heap_graph.specs.declared.names.Place.TheVariants as place
use Rattle.heap_graph.specs.Fork.{has_zygote_room, promoted, promoted_place, promotion_bytes, promotion_start}
use Rattle.heap_graph.specs.Formed.{FitsKind, IsFormed}
use Rattle.heap_graph.specs.Graph.{is_immune, is_young, Graph, Object}
use Rattle.heap_graph.specs.Packing.{young_sizes}
use Rattle.heap_graph.specs.Places.{places_of}
use Rattle.heap_graph.specs.Sizes.{size_in}
use Rattle.heap_graph.specs.Values.{value_at}
use Rattle.heap_graph.proofs.Places.{value-fits}
use Rattle.object_view.specs.declared.names.Slot.{Slot}
use Rattle.object_view.specs.Seen.{seen_value, value_in}
use Rattle.raw_objects.specs.Raws.{Raw}
use Rattle.address_table.specs.Computed.{table_of, Homes, HouseAll}
use Rattle.region_lists.specs.Rows.{Row}
use Rattle.region_space.specs.Space as space
use Rattle.region_space.specs.Space.{filled, lists_of, Space}
use Rattle.large_objects.specs.declared.rows.LargeRow.{LargeRow}
use Rattle.large_objects.specs.Pages as large
use Rattle.large_objects.specs.Rows.{promoted_row, waits, AreRows}
use Rattle.zygote_space.specs.Space as zygote
use Rattle.zygote_space.specs.Space.{to_page, zygote_spot}
use Rattle.graph_pages.specs.Holds.{raw_under}
use Rattle.graph_pages.specs.Pages.{has_bytes_in, MapsWindow}
use Rattle.graph_pages.proofs.Lists.{any-from, any-to}
use Rattle.live_objects.specs.Reach.{is_mortal}
use Rattle.live_objects.proofs.MarkLemmas.{immune-off}
use Rattle.object_moves.specs.Copies.{PacksAt}
use Rattle.object_collection.specs.Collects.{state_of, HeapState, LeadsOut}
use Rattle.object_promotion.specs.Promotes.{in_segment, IsPromoted, LeavesPages}
use Rattle.evacuate.specs.Stands.{homes_in, homes_of, raws_of, rows_from, young_homes, HasSlotsOut, HoldsHeap, KeepsGraph}
use Rattle.evacuate.proofs.Found.{object-at, raw-there, target-in}
use Rattle.evacuate.proofs.Left.{same-bool}
use Rattle.evacuate.proofs.Pages.{in-window, large-pages, one-window, page-in, region-pages, window_of}
use Rattle.evacuate.proofs.Sealed.{no-slots}
use Rattle.evacuate.proofs.Stand.{are-rows, mortal-is}
use Rattle.zygote_compact.specs.Spots.{HasSpots}
use Rattle.zygote_compact.proofs.Lists.{place-immune, promoted-back, promoted-in, promoted_at}
use Rattle.zygote_compact.proofs.Moved.{fill-is, formed, graph-left, house, old-stays, packed, rows-are, state-left}
use Rattle.zygote_compact.proofs.Spots.{fill-pages, none-first}
use Rattle.heap_world.proofs.Placed.{top-is}
use Rattle.address_table.proofs.Fitting.{fits}
use Rattle.image_space.specs.Space.{holds_first}

-- no promoted row waits
none-waits : (rows : List LargeRow) → filter waits (map promoted_row rows) ≡ []
none-waits [] = refl
none-waits (row ∷ rows) = none-waits rows

-- what stands in the image isn't young, before and after
image-old : (at : Place) → window_of at ≡ window.Image → is_young at ≡ false
image-old (place.Image spot) e = refl
image-old (place.Zygote spot) e = refl
image-old place.Young e = cc
image-old place.Large e = refl
image-old place.Promoted e = refl

image-back : (at : ℕ) (p : Place) → window_of (promoted_place at p) ≡ window.Image → is_young p ≡ false
image-back at (place.Image spot) e = refl
image-back at (place.Zygote spot) e = refl
image-back at place.Young e = cc
image-back at place.Large e = refl
image-back at place.Promoted e = refl

-- the image lies below each segment
image-below : (fill total p : ℕ) → is_in window.Image p ≡ true → in_segment fill total p ≡ false
image-below fill total p is = elim (cases_Bool (in_segment fill total p)) [
  | inl e ↦
      let parts = and_parts (nat_le (page_of (zygote_spot (to_page fill))) p) (nat_le p (page_of (zygote_spot (to_page fill) + total - 1))) e in
      absurd (omega (arith, leb-true _ _ parts.0, (in-window window.Image p is).high))
  | inr e ↦ e
]

module _ (h : HeapState) (old new : Memory) (t : ℕ) (g : Graph) (z : zygote.Space) (regions : Space) (rows : List LargeRow) (roots : List Addr) (after : zygote.Space)
    (k : HoldsHeap h old t g) (s : HasSpots z g) (room : has_zygote_room g ≡ true) (c : IsPromoted h new t (raws_of (homes_of h) g) z regions rows roots after) where
  abbrev left : Graph
  left = promoted g

  abbrev next_homes : Homes
  next_homes = homes_in regions.in_use rows

  abbrev table : ℕ → ℕ
  table = table_of (homes_of h) g

  abbrev next : ℕ → ℕ
  next = table_of (homes_in regions.in_use rows) (promoted g)

  is_formed : IsFormed left
  is_formed = formed h old new t g z regions rows roots after k s room c

  housed : HouseAll next_homes left
  housed = house h old new t g z regions rows roots after k s room c

  packs : PacksAt regions.in_use (young_sizes left) (young_homes next_homes left)
  packs = packed h old new t g z regions rows roots after k s room c

  -- PAGES

  -- a page of the image has the same objects as before
  image-pages : (p : ℕ) → is_in window.Image p ≡ true → list_any (has_bytes_in g.classes table p) g.objects ≡ list_any (has_bytes_in g.classes next p) left.objects
  image-pages p is = same-bool _ _
      (λ e.
      let it = any-from (has_bytes_in g.classes table p) g.objects e in
      let o : Object = it.0 in
      let other = image-old o.place (one-window p (window_of o.place) window.Image (page-in (homes_of h) g k.formed k.house (lists_of h.regions) k.space k.stands.packed p o it.1 it.2) is) in
      let to = promoted-in g.classes (promotion_start g) g.objects o it.1 in
      any-to (has_bytes_in g.classes next p) left.objects (promoted_at to.0 o) to.1
      (ap (λ a. nat_le (page_of a) p && nat_le p (page_of (a + size_in g.classes o.shape - 1))) (old-stays h old new t g z regions rows roots after k s room c o it.1 other) ∙ it.2))
      (λ e.
      let it = any-from (has_bytes_in g.classes next p) left.objects e in
      let q : Object = it.0 in
      let from = promoted-back g.classes (promotion_start g) g.objects q it.1 in
      let o : Object = from.0 in
      let in_image = one-window p (window_of q.place) window.Image (page-in next_homes left is_formed housed (lists_of regions) c.held.space packs p q it.1 it.2) is in
      let other : is_young o.place ≡ false = image-back from.2.0 o.place (ap (λ (x : Object). window_of x.place) from.2.1 ∙ in_image) in
      let has : has_bytes_in g.classes next p (promoted_at from.2.0 o) ≡ true = ap (has_bytes_in g.classes next p) from.2.1 ∙ it.2 in
      any-to (has_bytes_in g.classes table p) g.objects o from.1
      (sym (ap (λ a. nat_le (page_of a) p && nat_le p (page_of (a + size_in g.classes o.shape - 1))) (old-stays h old new t g z regions rows roots after k s room c o from.1 other)) ∙ has))

  zygote-pages : (p : ℕ) → is_in window.Zygote p ≡ true → holds_first window.Zygote after.fill p ≡ list_any (has_bytes_in g.classes next p) left.objects
  zygote-pages p is =
      ap (λ b. holds_first window.Zygote b p) (fill-is h old new t g z regions rows roots after k s room c ∙ sym (top-is g.classes left.objects is_formed.zygote))
      ∙ fill-pages g.classes next p is 0 left.objects is_formed.zygote (λ o there. (fits next_homes left is_formed housed).placed o there)
      (λ o there has. one-window p (window_of o.place) window.Zygote (page-in next_homes left is_formed housed (lists_of regions) c.held.space packs p o there has) is)
      ∙ ap (λ b. b || list_any (has_bytes_in g.classes next p) left.objects) (none-first p)

  -- SLOTS

  -- no reference leads to an object that isn't immune
  mortal-off : (q : Object) (p : FieldAt) (b : ℕ) → IsIn q left.objects → IsIn p (places_of g.classes q.shape) → p.kind ≡ Ref → value_in next q p ≡ pos b → is_mortal rows b ≡ false
  mortal-off q p b there within kind value = by (value_at q.slots p) refl value (subst (λ kd. FitsKind kd (value_at q.slots p)) kind (value-fits left q p is_formed there within))
    where
      are : rows ≡ rows_from g.classes next_homes.slots 0 left.objects
      are = rows-are h old new t g z regions rows roots after k s room c

      by : (x : Content) → value_at q.slots p ≡ x → seen_value next x ≡ pos b → FitsKind Ref x → is_mortal rows b ≡ false
      by (content.Number n) e is fit = absurd (true≢false (sym fit))
      by content.Null e is fit =
          let zero_is : 0 ≡ b = cc in
          ap (is_mortal rows) (sym zero_is) ∙ immune-off rows 0 (subst AreRows (sym are) (are-rows next_homes left is_formed housed)) refl refl
      by (content.Object n) e is fit =
          let same : next n ≡ b = cc in
          let it = target-in next_homes left is_formed housed q p n there e in
          let back = promoted-back g.classes (promotion_start g) g.objects it.0 it.1 in
          ap (is_mortal rows) (sym same) ∙ ap (λ m. is_mortal rows (next m)) (sym it.2) ∙ ap (λ rs. is_mortal rs (next it.0.number)) are
          ∙ mortal-is next_homes left is_formed housed it.0 it.1 ∙ ap (λ (x : Object). not (is_immune true x.place)) (sym back.2.1) ∙ ap not (place-immune back.2.0 back.0.place)

  none-leads : (slots : List Slot) (slot : Slot) → LeadsOut (state_of h.classes regions rows roots slots) (raws_of next_homes left) slot → ⊥
  none-leads slots slot leads =
      let from = object-at next_homes left is_formed housed leads.object leads.has in
      let q : Object = from.object in
      let raw : (raws_of next_homes left).raw leads.object ≡ raw_under next q = ap (raws_of next_homes left).raw (sym from.at_is) ∙ (raw-there next_homes left is_formed housed q from.is_in).1 in
      let within : IsIn leads.place (places_of g.classes q.shape) =
      subst (λ (r : Raw). IsIn leads.place (places_of g.classes r.shape)) raw (subst (λ cs. IsIn leads.place (places_of cs ((raws_of next_homes left).raw leads.object).shape)) k.stands.classes leads.is_in) in
      let off = mortal-off q leads.place slot.target.0 from.is_in within leads.kind_is (sym (ap (λ (r : Raw). r.values leads.place) raw) ∙ sym leads.target_is) in
      true≢false (sym leads.outside ∙ off)

  pub none-out : HasSlotsOut (state_of h.classes regions rows roots []) (raws_of (homes_in regions.in_use rows) (promoted g))
  none-out = record {
    exact = λ slot. ((λ there. absurd there), (λ leads. absurd (none-leads [] slot leads)));
    once = no-slots;
  }

  module _ (leaves : LeavesPages h old new t z.fill (promotion_bytes g)) where
    window-left : (w : Window) → MapsWindow new t w g.classes next left.objects
    window-left window.Image p is =
        leaves.mapped p (off-regions (cases_Bool (is_in window.Regions p))) (image-below z.fill (promotion_bytes g) p is) ∙ k.pages.pages window.Image p is ∙ image-pages p is
      where
        off-regions : (is_in window.Regions p ≡ true) ⊎ (is_in window.Regions p ≡ false) → is_in window.Regions p ≡ false
        off-regions (inl inside) = let no : window.Image ≡ window.Regions = one-window p window.Image window.Regions is inside in cc
        off-regions (inr off) = off
    window-left window.Zygote p is = c.zygote_pages p is ∙ zygote-pages p is
    window-left window.Regions p is =
        c.held.pages p is ∙ ap (λ (rs : List Row). list_any (space.holds_page p) (regions.in_use ++ rs)) c.none_in_use.1 ∙ ap (list_any (space.holds_page p)) (append-nil regions.in_use)
        ∙ region-pages next_homes left is_formed housed (lists_of regions) c.held.space packs p is
    window-left window.Large p is =
        c.large_pages p is ∙ ap (list_any (large.holds_page p)) (rows-are h old new t g z regions rows roots after k s room c)
        ∙ large-pages next_homes left is_formed housed (lists_of regions) c.held.space packs p is

    pub heap-left : (slots : List Slot) → HoldsHeap (state_of h.classes regions rows roots slots) new t (promoted g)
    heap-left slots = record {
      formed = is_formed;
      house = housed;
      pages = record { objects = graph-left h old new t g z regions rows roots after k s room c; pages = window-left };
      stands = state-left h old new t g z regions rows roots after k s room c slots;
      regions = c.held.alone;
      large = λ p holds. absurd (true≢false (sym holds ∙ ap (λ rs. list_any (large.holds_page p) (filter waits rs)) c.rows_promoted ∙ ap (list_any (large.holds_page p)) (none-waits h.rows)));
      space = c.held.space;
      sound = c.held.sound;
      live = c.held.live;
    }

    pub graph-kept : g.sealed ≡ true → KeepsGraph (state_of h.classes regions rows roots []) new t (promoted g)
    graph-kept sealed = record { heap = heap-left []; is_sealed = sealed; out = none-out; alone = λ slot there. absurd there }
