-- Where each object of a graph is after a collection, and what the process keeps then.
use Rattle.std.proofs.Common.{◌≡◌, ◌∙◌, ℕ, ◌<◌, Bool, true, false, not, List, [], map, filter, length, get_or, refl, sym, ap, subst, inl, inr, arith, true≢false}
use Rattle.std.specs.Prelude.{◌||◌}
use Rattle.std.proofs.lemmas.Bool.{cases_Bool, or_right}
use Rattle.std.proofs.lemmas.List.{get_or-map, length-map}
use Rattle.class_layout.specs.ClassList.{Class}
use Rattle.class_layout.specs.Placing.{IsIn}
use Rattle.page_tables.specs.declared.address.Addr.{Addr}
use Rattle.cow_pages.specs.Memory.{Memory}
use Rattle.cow_pages.specs.View.{view_of}
use Rattle.heap_graph.specs.declared.names.Held.{Held}
use Rattle.heap_graph.specs.declared.names.Held.TheVariants as held
use Rattle.heap_graph.specs.declared.names.Place.{Place}
use Rattle.heap_graph.specs.declared.names.Place.TheVariants as place
use Rattle.heap_graph.specs.declared.names.Root.{Root}
use Rattle.heap_graph.specs.declared.names.Shape.{Shape}
use Rattle.heap_graph.specs.Collection.{cleared, collect}
use Rattle.heap_graph.specs.Graph.{is_immune, is_young, Graph, Object}
use Rattle.heap_graph.specs.Packing.{young_objects}
use Rattle.heap_graph.specs.Paths.{numbers}
use Rattle.heap_graph.specs.Places.{places_of}
use Rattle.heap_graph.specs.Reach.{is_among, reached}
use Rattle.heap_graph.specs.Table.{IsPlacedAt}
use Rattle.heap_graph.proofs.Reached.{reached-is}
use Rattle.object_view.specs.declared.names.Slot.{Slot}
use Rattle.object_view.specs.Seen.{root_address}
use Rattle.raw_objects.specs.Raws.{HoldsRaws, Raw, SameRaw}
use Rattle.region_space.specs.Space.{Space}
use Rattle.large_objects.specs.declared.rows.LargeRow.{LargeRow}
use Rattle.large_objects.specs.Rows.{slot_base}
use Rattle.address_table.specs.Computed.{table_of, Homes, HouseAll}
use Rattle.address_table.proofs.Fitting.{fits}
use Rattle.world_laws.specs.Named.{has_slot}
use Rattle.graph_pages.specs.Collected.{keeps, AreTurned, Going}
use Rattle.graph_pages.specs.Holds.{raw_under, HoldsGraph}
use Rattle.graph_pages.proofs.Collects.{graph-collected}
use Rattle.graph_pages.proofs.Lists.{filter-in, in-filter, in-map, map-in}
use Rattle.live_objects.proofs.MarkLemmas.{immune-off}
use Rattle.object_moves.specs.Copies.{at_of}
use Rattle.object_collection.specs.Collects.{led, state_of, HeapState, IsCollected, IsKept}
use Rattle.evacuate.specs.Stands.{home_of, homes_in, homes_of, raws_of, row_of, KeepsGraph, StandsFor}
use Rattle.evacuate.proofs.Left.{formed, housed, moved-is, old-are, packed, rows-by-is, rows-is, slot-back, young-is}
use Rattle.evacuate.proofs.Members.{in-contains, map-same, map-twice}
use Rattle.evacuate.proofs.Packed.{by-slot}
use Rattle.evacuate.proofs.Found.{held-one, numbered, raw-there}
use Rattle.evacuate.proofs.Reach.{mortal, reached-same}
use Rattle.evacuate.proofs.Rows.{row-there}
use Rattle.evacuate.proofs.Stand.{in-regions-is}
use Rattle.evacuate.proofs.Young.{there-kept, young-collected}

-- the same objects, the other way round
pub raw-back : (cs : List Class) (a b : Raw) → SameRaw cs a b → SameRaw cs b a
raw-back cs a b s = record {
  shape = sym s.shape;
  header = sym s.header;
  values = λ p within. sym (s.values p (subst (λ (x : Shape). IsIn p (places_of cs x)) s.shape within));
}

-- what isn't young, immune or not
data-free : (at : Place) → is_young at ≡ false → is_immune true at ≡ false → has_slot at ≡ true
data-free (place.Image spot) young immune = absurd (true≢false immune)
data-free (place.Zygote spot) young immune = absurd (true≢false immune)
data-free place.Young young immune = absurd (true≢false young)
data-free place.Large young immune = refl
data-free place.Promoted young immune = refl

pub immune-old : (at : Place) → is_immune true at ≡ true → is_young at ≡ false
immune-old (place.Image spot) e = refl
immune-old (place.Zygote spot) e = refl
immune-old place.Young e = absurd (true≢false (sym e))
immune-old place.Large e = refl
immune-old place.Promoted e = refl

module _ (h : HeapState) (old new : Memory) (t : ℕ) (g : Graph) (regions : Space) (rows : List LargeRow) (roots : List Addr) (k : KeepsGraph h old t g)
    (c : IsCollected h new t (raws_of (homes_of h) g) regions rows roots) where
  abbrev left : Graph
  left = collect g

  abbrev next_homes : Homes
  next_homes = homes_in regions.in_use rows

  abbrev table : ℕ → ℕ
  table = table_of (homes_of h) g

  abbrev next : ℕ → ℕ
  next = table_of (homes_in regions.in_use rows) (collect g)

  abbrev kept : List ℕ
  kept = numbers (filter (keeps g) g.objects)

  abbrev kept_young : List Object
  kept_young = filter (keeps g) (young_objects g)

  house : HouseAll next_homes left
  house = housed h old new t g regions rows roots k c

  seal : (o : Object) → is_immune g.sealed o.place ≡ is_immune true o.place
  seal o = ap (λ b. is_immune b o.place) k.is_sealed

  -- a kept object is in the collected graph, and each object there is one
  pub kept-in : (o : Object) → IsIn o g.objects → keeps g o ≡ true → IsIn (cleared (numbers (filter (keeps g) g.objects)) o) (collect g).objects
  kept-in o there keep = map-in (cleared kept) (filter (keeps g) g.objects) o (filter-in (keeps g) g.objects o there keep)

  pub back-in : (q : Object) → IsIn q (collect g).objects → (o : Object) × IsIn o g.objects × (keeps g o ≡ true) × (cleared (numbers (filter (keeps g) g.objects)) o ≡ q)
  back-in q there =
      let it = in-map (cleared kept) (filter (keeps g) g.objects) q there in
      let from = in-filter (keeps g) g.objects it.0 it.1 in
      (it.0, from.0, from.1, it.2)

  large-next : (o : Object) → IsIn o g.objects → keeps g o ≡ true → has_slot o.place ≡ true → next o.number ≡ table o.number
  large-next o there keep is =
      let it = row-there g.classes next_homes 0 left.next 0 0 left.objects (formed h old new t g regions rows roots k c).numbers (cleared kept o) (kept-in o there keep) is in
      let row : LargeRow = row_of g.classes next_homes.slots it.index (cleared kept o) (is_immune true o.place) in
      let there_row = subst (IsIn row) (sym (rows-is h old new t g regions rows roots k c) ∙ rows-by-is h old new t g regions rows roots k c) it.there in
      it.at_is ∙ ap slot_base (by-slot g.classes table left.objects row there_row) ∙ slot-back o.place (table o.number) is ((fits (homes_of h) g k.heap.formed k.heap.house).placed o there)

  -- what isn't young stays
  pub next-is : (o : Object) → IsIn o g.objects → keeps g o ≡ true → is_young o.place ≡ false
      → table_of (homes_in regions.in_use rows) (collect g) o.number ≡ table_of (homes_of h) g o.number
  next-is o there keep young =
      by o.place young ((fits (homes_of h) g k.heap.formed k.heap.house).placed o there) ((fits next_homes left (formed h old new t g regions rows roots k c) house).placed (cleared kept o) (kept-in o there keep)) (large-next o there keep)
    where
      by : (at : Place) → is_young at ≡ false → IsPlacedAt at (table o.number) → IsPlacedAt at (next o.number) → (has_slot at ≡ true → next o.number ≡ table o.number) → next o.number ≡ table o.number
      by (place.Image spot) young before after large = after ∙ sym before
      by (place.Zygote spot) young before after large = after ∙ sym before
      by place.Young young before after large = absurd (true≢false young)
      by place.Large young before after large = large refl
      by place.Promoted young before after large = large refl

  -- GOING

  moved-by : c.moved ≡ map (home_of next) kept_young
  moved-by =
      moved-is h old new t g regions rows roots k c ∙ ap (map (home_of next)) (young-collected h old t g k)
      ∙ map-twice (home_of next) (cleared kept) kept_young

  listed-at : (f : ℕ → ℕ) (o : Object) (i : ℕ) → i < length kept_young → get_or kept_young i o ≡ o → at_of (map (home_of f) kept_young) i ≡ f o.number
  listed-at f o i below is =
      ap (λ (a : Addr). a.0) (get_or-map (home_of f) kept_young i o (record { 0 = 0 }) below ∙ ap (home_of f) is)

  young-goes : (o : Object) → IsIn o g.objects → is_young o.place ≡ true → is_among (reached g) o.number ≡ true → c.go (table o.number) ≡ next o.number
  young-goes o there young among =
      let at = in-contains kept_young o (there-kept h old t g k o there young among) in
      let i : ℕ = at.0 in
      let all = young-is h old new t g regions rows roots k c in
      let below : i < length c.young = omega (arith, at.1, ap length all, length-map kept_young (home_of table)) in
      let from : at_of c.young i ≡ table o.number = ap (λ as_list. at_of as_list i) all ∙ listed-at table o i at.1 at.2 in
      let to : at_of c.moved i ≡ next o.number = ap (λ as_list. at_of as_list i) moved-by ∙ listed-at next o i at.1 at.2 in
      ap c.go (sym from) ∙ c.leads.moves i below ∙ to

  among-of : (o : Object) → keeps g o ≡ true → is_immune g.sealed o.place ≡ false → is_among (reached g) o.number ≡ true
  among-of o keep free = sym (ap (λ b. b || is_among (reached g) o.number) free) ∙ keep

  pub go-kept : (o : Object) → IsIn o g.objects → keeps g o ≡ true → c.go (table_of (homes_of h) g o.number) ≡ table_of (homes_in regions.in_use rows) (collect g) o.number
  go-kept o there keep = elim (cases_Bool (is_immune g.sealed o.place)) [
    | inl immune ↦
        c.leads.stays (table o.number) (mortal h old t g k o there ∙ ap not immune)
        ∙ sym (next-is o there keep (immune-old o.place (sym (seal o) ∙ immune)))
    | inr free ↦
        let among = among-of o keep free in
        elim (cases_Bool (is_young o.place)) [
          | inl young ↦ young-goes o there young among
          | inr other ↦
              c.leads.large (table o.number) (in-regions-is (homes_of h) g k.heap.formed k.heap.house o there ∙ other) ((reached-same h old t g k o there).0 (among, free))
              ∙ sym (next-is o there keep other)
        ]
  ]

  pub go-null : c.go 0 ≡ 0
  go-null = c.leads.stays 0 (immune-off h.rows 0 (old-are h old new t g regions rows roots k c) refl refl)

  or-false : (a b : Bool) → (a || b) ≡ false → (a ≡ false) × (b ≡ false)
  or-false true b e = absurd (true≢false e)
  or-false false b e = (refl, e)

  going : Going g table next c.go
  going = record {
    null = go-null;
    kept = go-kept;
    dead = λ o there gone.
        let parts = or-false (is_immune g.sealed o.place) (is_among (reached g) o.number) gone in
        c.leads.dead (table o.number) (raw-there (homes_of h) g k.heap.formed k.heap.house o there).0 (mortal h old t g k o there ∙ ap not parts.0)
        (λ r. true≢false (sym ((reached-same h old t g k o there).1 r).0 ∙ parts.1));
  }

  is-kept : (o : Object) → IsIn o g.objects → keeps g o ≡ true → IsKept h (raws_of (homes_of h) g) (table o.number)
  is-kept o there keep = record {
    has = (raw-there (homes_of h) g k.heap.formed k.heap.house o there).0;
    stays = elim (cases_Bool (is_immune g.sealed o.place)) [
      | inl immune ↦ inl (mortal h old t g k o there ∙ ap not immune)
      | inr free ↦ inr ((reached-same h old t g k o there).0 (among-of o keep free, free))
    ];
  }

  turned : AreTurned g c.now table next c.go
  turned o there keep =
      let is = is-kept o there keep in
      let to = go-kept o there keep in
      let raw = (raw-there (homes_of h) g k.heap.formed k.heap.house o there).1 in
      let one : SameRaw g.classes (led c.go ((raws_of (homes_of h) g).raw (table o.number))) (c.now.raw (c.go (table o.number))) =
      subst (λ cs. SameRaw cs (led c.go ((raws_of (homes_of h) g).raw (table o.number))) (c.now.raw (c.go (table o.number)))) k.heap.stands.classes (c.left.same (table o.number) is) in
      let two : SameRaw g.classes (led c.go (raw_under table o)) (c.now.raw (c.go (table o.number))) =
      subst (λ (r : Raw). SameRaw g.classes (led c.go r) (c.now.raw (c.go (table o.number)))) raw one in
      let three : SameRaw g.classes (led c.go (raw_under table o)) (c.now.raw (next o.number)) =
      subst (λ a. SameRaw g.classes (led c.go (raw_under table o)) (c.now.raw a)) to two in
      ((c.left.has (next o.number)).1 (table o.number, is, to), raw-back g.classes (led c.go (raw_under table o)) (c.now.raw (next o.number)) three)

  -- the collected graph is held
  pub graph-left : HoldsGraph g.classes (view_of new t) (table_of (homes_in regions.in_use rows) (collect g)) (collect g).objects
  graph-left =
      graph-collected g k.heap.formed table next c.go going (view_of new t) c.now (subst (λ cs. HoldsRaws cs (view_of new t) c.now) k.heap.stands.classes c.held.holds) turned

  -- ROOTS

  root-goes : (r : Root) → IsIn r g.roots → c.go (root_address table r.holds) ≡ root_address next r.holds
  root-goes r there = by r.holds refl
    where
      by : (x : Held) → r.holds ≡ x → c.go (root_address table x) ≡ root_address next x
      by held.Null e = go-null
      by (held.Object n) e =
          let it = numbered (homes_of h) g k.heap.formed k.heap.house n (k.heap.formed.closed.roots n (held-one (map (λ r. r.holds) g.roots) n (subst (λ (x : Held). IsIn x (map (λ r. r.holds) g.roots)) e (map-in (λ r. r.holds) g.roots r there)))) in
          let q : Object = it.0 in
          let rooted : r.holds ≡ held.Object q.number = e ∙ ap (λ m. held.Object m) (sym it.2) in
          let among : is_among (reached g) q.number ≡ true = (reached-is g q.number).1 ((q, it.1, refl), ([], inl (r, there, rooted))) in
          let keep : keeps g q ≡ true = or_right (is_immune g.sealed q.place) (is_among (reached g) q.number) among in
          ap (λ m. c.go (table m)) (sym it.2) ∙ go-kept q it.1 keep ∙ ap next it.2

  -- what the process keeps stands for the collected graph
  pub state-left : (slots : List Slot) → StandsFor (state_of h.classes regions rows roots slots) (collect g)
  state-left slots = record {
    classes = k.heap.stands.classes;
    packed = packed h old new t g regions rows roots k c;
    objects = c.objects ∙ ap length (moved-is h old new t g regions rows roots k c) ∙ length-map (young_objects left) (home_of next);
    no_from = c.no_from.0;
    half = omega (arith, c.fewer, c.count, k.heap.stands.half);
    count = c.count ∙ k.heap.stands.count;
    rows = rows-is h old new t g regions rows roots k c;
    roots =
        c.roots_lead ∙ ap (map c.go) k.heap.stands.roots ∙ map-twice c.go (λ (r : Root). root_address table r.holds) g.roots
        ∙ map-same _ _ g.roots root-goes;
  }
