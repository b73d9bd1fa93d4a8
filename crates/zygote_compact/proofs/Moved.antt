-- Where each object of a graph is after a promotion, and what the process keeps then.
use Rattle.std.proofs.Common.{◌≡◌, ◌∙◌, ℕ, ◌+◌, ◌*◌, ◌/◌, ◌<◌, Bool, true, false, cond, List, [], ◌∷◌, map, length, refl, sym, ap, subst, inl, inr, arith, true≢false, pos}
use Rattle.std.specs.Prelude.{max, slice_index_or, ◌||◌, ◌==◌}
use Rattle.std.specs.List.{list_any}
use Rattle.std.proofs.lemmas.Bool.{cases_Bool}
use Rattle.std.proofs.lemmas.List.{get_or-map, length-map}
use Rattle.class_layout.specs.Kinds.{is_ref}
use Rattle.class_layout.specs.Placing.{IsIn}
use Rattle.class_layout.specs.declared.kind.Kind.{Kind}
use Rattle.class_layout.specs.declared.kind.FieldAt.{FieldAt}
use Rattle.page_tables.specs.declared.address.Addr.{Addr}
use Rattle.cow_pages.specs.Memory.{Memory}
use Rattle.cow_pages.specs.View.{view_of}
use Rattle.heap_graph.specs.declared.names.Content.{Content}
use Rattle.heap_graph.specs.declared.names.Content.TheVariants as content
use Rattle.heap_graph.specs.declared.names.Held.{Held}
use Rattle.heap_graph.specs.declared.names.Held.TheVariants as held
use Rattle.heap_graph.specs.declared.names.Root.{Root}
use Rattle.heap_graph.specs.Fork.{has_zygote_room, promoted, promotion_start}
use Rattle.heap_graph.specs.Formed.{FitsKind, IsFormed}
use Rattle.heap_graph.specs.Graph.{is_young, size_of_object, zygote_fill, Graph, Object}
use Rattle.heap_graph.specs.Packing.{end_from, used, young_objects, young_sizes}
use Rattle.heap_graph.specs.Places.{places_of}
use Rattle.heap_graph.specs.Sizes.{parts_for}
use Rattle.heap_graph.specs.Values.{value_at}
use Rattle.heap_graph.proofs.Places.{value-fits}
use Rattle.heap_world.proofs.FormedKept.{promoted_formed}
use Rattle.object_view.specs.declared.names.Slot.{Slot}
use Rattle.object_view.specs.Seen.{root_address, seen_value, value_in}
use Rattle.object_view.proofs.Laid.{ref-kind}
use Rattle.raw_objects.specs.Raws.{HoldsRaws, Raw, SameRaw}
use Rattle.raw_objects.specs.References.{address_in}
use Rattle.address_table.specs.Computed.{table_of, AreNumbers, Homes, HouseAll}
use Rattle.region_lists.specs.Rows.{Row}
use Rattle.region_space.specs.Space.{Space}
use Rattle.large_objects.specs.declared.rows.LargeRow.{LargeRow}
use Rattle.large_objects.specs.Rows.{promoted_row}
use Rattle.image_space.specs.Space.{spots_from}
use Rattle.zygote_space.specs.Space as zygote
use Rattle.zygote_space.specs.Space.{to_page, zygote_spot}
use Rattle.graph_pages.specs.Collected.{turned_by}
use Rattle.graph_pages.specs.Holds.{raw_under, HoldsGraph}
use Rattle.graph_pages.proofs.Graphs.{raws-graph}
use Rattle.graph_pages.proofs.Lists.{filter-in, map-in}
use Rattle.object_moves.specs.Copies.{at_of, sizes_at, PacksAt}
use Rattle.object_collection.specs.Collects.{led, state_of, HeapState}
use Rattle.object_promotion.specs.Promotes.{spots_for, IsPromoted}
use Rattle.evacuate.specs.Stands.{home_of, homes_in, homes_of, raws_of, rows_from, young_homes, HoldsHeap, StandsFor}
use Rattle.evacuate.proofs.Can.{sizes-are}
use Rattle.evacuate.proofs.Found.{held-one, numbered, raw-there, target-in}
use Rattle.evacuate.proofs.Members.{in-contains, map-same, map-twice}
use Rattle.evacuate.proofs.Sealed.{no-numbers, packs-none}
use Rattle.evacuate.proofs.Stand.{in-regions-is}
use Rattle.evacuate.proofs.Turned.{raw-back}
use Rattle.zygote_compact.specs.Spots.{is_spot, HasSpots}
use Rattle.zygote_compact.proofs.Lists.{count-same, ends-more, image-stays, last_end, none-young, promoted-back, promoted_at, rows-promoted, spots, spots-more, stays}
use Rattle.zygote_compact.proofs.Young.{young-are}

-- where a segment begins is the next whole page
start-page : (fill : ℕ) → to_page fill ≡ (fill + 4095) / 4096 * 4096
start-page fill = omega arith

-- the slots of promoted rows are theirs
same-slots : (rows : List LargeRow) → map (λ (row : LargeRow). row.slot) (map promoted_row rows) ≡ map (λ (row : LargeRow). row.slot) rows
same-slots rows = map-twice (λ (row : LargeRow). row.slot) promoted_row rows

-- a promotion leaves the graph formed; before the seal it changes nothing
promoted-formed : (g : Graph) → has_zygote_room g ≡ true → IsFormed g → IsFormed (promoted g)
promoted-formed g room formed = elim (cases_Bool g.sealed) [
  | inl e ↦ promoted_formed g e room formed
  | inr e ↦ subst (λ (os : List Object). IsFormed (record g { objects = os })) (sym (image-stays g.classes (promotion_start g) g.objects (formed.before_seal e))) formed
]

module _ (h : HeapState) (old new : Memory) (t : ℕ) (g : Graph) (z : zygote.Space) (regions : Space) (rows : List LargeRow) (roots : List Addr) (after : zygote.Space)
    (k : HoldsHeap h old t g) (s : HasSpots z g) (room : has_zygote_room g ≡ true) (c : IsPromoted h new t (raws_of (homes_of h) g) z regions rows roots after) where
  abbrev left : Graph
  left = promoted g

  abbrev homes : Homes
  homes = homes_of h

  abbrev next_homes : Homes
  next_homes = homes_in regions.in_use rows

  abbrev table : ℕ → ℕ
  table = table_of (homes_of h) g

  abbrev next : ℕ → ℕ
  next = table_of (homes_in regions.in_use rows) (promoted g)

  pub formed : IsFormed (promoted g)
  formed = promoted-formed g room k.formed

  -- HOMES

  slots-are : next_homes.slots ≡ homes.slots
  slots-are = ap (map (λ (row : LargeRow). row.slot)) c.rows_promoted ∙ same-slots h.rows

  regions-are : next_homes.regions ≡ []
  regions-are = ap (map (λ (row : Row). row.region)) c.none_in_use.0

  pub no-young : young_objects (promoted g) ≡ []
  no-young = none-young g.classes (promotion_start g) g.objects

  no-sizes : young_sizes left ≡ []
  no-sizes = ap (map (size_of_object g.classes)) no-young

  pub house : HouseAll (homes_in regions.in_use rows) (promoted g)
  house = record {
    regions = subst (AreNumbers (2 * g.budget)) (sym regions-are) (no-numbers (2 * g.budget));
    slots = subst (AreNumbers 512) (sym slots-are) k.house.slots;
    for_young = let is : used left ≡ parts_for 262144 0 = ap (λ ss. parts_for 262144 (end_from 0 ss)) no-sizes in omega (arith, is);
    for_large = omega (arith, count-same g.classes (promotion_start g) 0 g.objects, k.house.for_large, ap length slots-are);
  }

  -- WHERE EACH OBJECT GOES

  young-is : c.young ≡ young_homes homes g
  young-is = young-are h old t g k c.young c.are_young

  sizes-is : sizes_at h.classes (raws_of (homes_of h) g) c.young ≡ young_sizes g
  sizes-is = ap (sizes_at h.classes (raws_of (homes_of h) g)) young-is ∙ sym (sizes-are h old t g k)

  spots-are : spots_for z.fill (sizes_at h.classes (raws_of (homes_of h) g) c.young) ≡ map (λ (o : Object). next o.number) (young_objects g)
  spots-are =
      ap (spots_for z.fill) sizes-is
      ∙ ap (λ n. spots_from n (young_sizes g)) (start-of z.fill s.fill)
      ∙ sym (spots g.classes next_homes 0 g.next 0 0 (promotion_start g) g.objects k.formed.numbers)
    where
      start-of : (fill : ℕ) → fill ≡ zygote_fill g → zygote_spot (to_page fill) ≡ 0x30000000 + promotion_start g
      start-of fill e = omega (arith, start-page fill, ap (λ n. (n + 4095) / 4096 * 4096) e)

  young-goes : (o : Object) → IsIn o g.objects → is_young o.place ≡ true → c.go (table o.number) ≡ next o.number
  young-goes o there young =
      let at = in-contains (young_objects g) o (filter-in (λ (o : Object). is_young o.place) g.objects o there young) in
      let i : ℕ = at.0 in
      let below : i < length c.young = omega (arith, at.1, ap length young-is, length-map (young_objects g) (home_of table)) in
      let from : at_of c.young i ≡ table o.number =
      ap (λ as_list. at_of as_list i) young-is
      ∙ ap (λ (a : Addr). a.0) (get_or-map (home_of table) (young_objects g) i o (record { 0 = 0 }) at.1 ∙ ap (home_of table) at.2) in
      let to : slice_index_or (spots_for z.fill (sizes_at h.classes (raws_of (homes_of h) g) c.young)) i 0 ≡ next o.number =
      ap (λ ns. slice_index_or ns i 0) spots-are ∙ get_or-map (λ (o : Object). next o.number) (young_objects g) i o 0 at.1 ∙ ap (λ (o : Object). next o.number) at.2 in
      ap c.go (sym from) ∙ c.leads.moves i below ∙ to

  pub old-stays : (o : Object) → IsIn o g.objects → is_young o.place ≡ false → table_of (homes_in regions.in_use rows) (promoted g) o.number ≡ table_of (homes_of h) g o.number
  old-stays o there other = stays g.classes homes next_homes slots-are 0 g.next 0 0 0 (promotion_start g) g.objects k.formed.numbers o there other

  goes : (o : Object) → IsIn o g.objects → c.go (table o.number) ≡ next o.number
  goes o there = elim (cases_Bool (is_young o.place)) [
    | inl young ↦ young-goes o there young
    | inr other ↦ c.leads.stays (table o.number) (in-regions-is homes g k.formed k.house o there ∙ other) ∙ sym (old-stays o there other)
  ]

  goes-null : c.go 0 ≡ 0
  goes-null = c.leads.stays 0 refl

  -- THE OBJECTS

  value-goes : (o : Object) (p : FieldAt) → IsIn o g.objects → IsIn p (places_of g.classes o.shape) → turned_by c.go p (value_in table o p) ≡ value_in next o p
  value-goes o p there within = by (is_ref p.kind) refl (value_at o.slots p) refl (value-fits g o p k.formed there within)
    where
      by : (b : Bool) → is_ref p.kind ≡ b → (x : Content) → value_at o.slots p ≡ x → FitsKind p.kind x → cond b (pos (c.go (address_in (seen_value table x)))) (seen_value table x) ≡ seen_value next x
      by true e (content.Number n) is fit = absurd (true≢false (sym (subst (λ (kind : Kind). FitsKind kind (content.Number n)) (ref-kind p.kind e) fit)))
      by true e content.Null is fit = ap (λ n. pos n) goes-null
      by true e (content.Object n) is fit =
          let it = target-in homes g k.formed k.house o p n there is in
          ap (λ m. pos (c.go (table m))) (sym it.2) ∙ ap (λ m. pos m) (goes it.0 it.1) ∙ ap (λ m. pos (next m)) it.2
      by false e (content.Number n) is fit = refl
      by false e content.Null is fit = absurd (true≢false (sym fit ∙ e))
      by false e (content.Object n) is fit = absurd (true≢false (sym fit ∙ e))

  one-goes : (o : Object) (spot : ℕ) → IsIn o g.objects → (c.now.has (next o.number) ≡ true) × SameRaw g.classes (c.now.raw (next o.number)) (raw_under next (promoted_at spot o))
  one-goes o spot there =
      let raw = raw-there homes g k.formed k.house o there in
      let to = goes o there in
      let one : SameRaw g.classes (led c.go ((raws_of (homes_of h) g).raw (table o.number))) (c.now.raw (c.go (table o.number))) =
      subst (λ cs. SameRaw cs (led c.go ((raws_of (homes_of h) g).raw (table o.number))) (c.now.raw (c.go (table o.number)))) k.stands.classes (c.same (table o.number) raw.0) in
      let two : SameRaw g.classes (led c.go (raw_under table o)) (c.now.raw (c.go (table o.number))) =
      subst (λ (r : Raw). SameRaw g.classes (led c.go r) (c.now.raw (c.go (table o.number)))) raw.1 one in
      let three : SameRaw g.classes (led c.go (raw_under table o)) (c.now.raw (next o.number)) =
      subst (λ a. SameRaw g.classes (led c.go (raw_under table o)) (c.now.raw a)) to two in
      let back = raw-back g.classes (led c.go (raw_under table o)) (c.now.raw (next o.number)) three in (
        (c.has (next o.number)).1 (table o.number, raw.0, to),
        record {
          shape = back.shape;
          header = back.header;
          values = λ p within. sym (value-goes o p there (subst (λ sh. IsIn p (places_of g.classes sh)) (sym back.shape) within)) ∙ back.values p within;
        },
      )

  pub graph-left : HoldsGraph g.classes (view_of new t) (table_of (homes_in regions.in_use rows) (promoted g)) (promoted g).objects
  graph-left = raws-graph g.classes (view_of new t) c.now next left.objects (subst (λ cs. HoldsRaws cs (view_of new t) c.now) k.stands.classes c.held.holds) (λ q there.
      let it = promoted-back g.classes (promotion_start g) g.objects q there in
      subst (λ (x : Object). (c.now.has (next x.number) ≡ true) × SameRaw g.classes (c.now.raw (next x.number)) (raw_under next x)) it.2.1 (one-goes it.0 it.2.0 it.1))

  -- ROWS, ROOTS AND SPOTS

  pub rows-are : rows ≡ rows_from g.classes (homes_in regions.in_use rows).slots 0 (promoted g).objects
  rows-are =
      c.rows_promoted ∙ ap (map promoted_row) k.stands.rows ∙ sym (rows-promoted g.classes homes.slots (promotion_start g) 0 g.objects)
      ∙ ap (λ ss. rows_from g.classes ss 0 left.objects) (sym slots-are)

  root-goes : (r : Root) → IsIn r g.roots → c.go (root_address table r.holds) ≡ root_address next r.holds
  root-goes r there = by r.holds refl
    where
      by : (x : Held) → r.holds ≡ x → c.go (root_address table x) ≡ root_address next x
      by held.Null e = goes-null
      by (held.Object n) e =
          let it = numbered homes g k.formed k.house n (k.formed.closed.roots n (held-one (map (λ r. r.holds) g.roots) n (subst (λ (x : Held). IsIn x (map (λ r. r.holds) g.roots)) e (map-in (λ r. r.holds) g.roots r there)))) in
          ap (λ m. c.go (table m)) (sym it.2) ∙ goes it.0 it.1 ∙ ap next it.2

  pub packed : PacksAt regions.in_use (young_sizes (promoted g)) (young_homes (homes_in regions.in_use rows) (promoted g))
  packed =
      subst (λ in_use. PacksAt in_use (young_sizes left) (young_homes next_homes left)) (sym c.none_in_use.0)
      (subst (λ ss. PacksAt [] ss (young_homes next_homes left)) (sym no-sizes) (subst (λ os. PacksAt [] [] (map (home_of next) os)) (sym no-young) packs-none))

  pub state-left : (slots : List Slot) → StandsFor (state_of h.classes regions rows roots slots) (promoted g)
  state-left slots = record {
    classes = k.stands.classes;
    packed = packed;
    objects = c.none_in_use.2 ∙ sym (ap length no-young);
    no_from = c.none_in_use.1;
    half = omega (arith, ap length c.none_in_use.0);
    count = c.count ∙ k.stands.count;
    rows = rows-are;
    roots = c.roots_lead ∙ ap (map c.go) k.stands.roots ∙ map-twice c.go (λ (r : Root). root_address table r.holds) g.roots ∙ map-same _ _ g.roots root-goes;
  }

  pub fill-is : after.fill ≡ zygote_fill (promoted g)
  fill-is = c.gains.fill ∙ ap (zygote.segment_end z.fill) sizes-is ∙ by (young_sizes g) ∙ ap (λ n. max n (last_end (promotion_start g) (young_sizes g))) s.fill ∙ sym (ends-more g.classes (promotion_start g) g.objects)
    where
      by : (ss : List ℕ) → zygote.segment_end z.fill ss ≡ max z.fill (last_end (promotion_start g) ss)
      by [] = omega arith
      by (n ∷ ss) = omega (arith, start-page z.fill, ap (λ n. (n + 4095) / 4096 * 4096) s.fill)

  pub spots-left : HasSpots after (promoted g)
  spots-left = record {
    closed = c.gains.closed;
    fill = fill-is;
    starts = λ q.
        c.gains.starts q ∙ ap (λ b. b || list_any (λ spot. q == spot) (spots_for z.fill (sizes_at h.classes (raws_of (homes_of h) g) c.young))) (s.starts q)
        ∙ ap (λ ns. list_any (λ (o : Object). is_spot q o.place) g.objects || list_any (λ spot. q == spot) ns) (spots-again)
        ∙ sym (spots-more g.classes q (promotion_start g) g.objects);
  }
    where
      spots-again : spots_for z.fill (sizes_at h.classes (raws_of (homes_of h) g) c.young) ≡ spots_from (0x30000000 + promotion_start g) (young_sizes g)
      spots-again = spots-are ∙ spots g.classes next_homes 0 g.next 0 0 (promotion_start g) g.objects k.formed.numbers
