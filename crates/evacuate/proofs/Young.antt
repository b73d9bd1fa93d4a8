-- The young objects that a collection keeps: where they stood, in their order.
use Rattle.std.proofs.Common.{◌≡◌, ◌∙◌, ℕ, ◌+◌, ◌-◌, ◌*◌, ◌/◌, ◌<◌, ◌≤◌, Bool, true, false, cond, List, [], ◌∷◌, map, filter, length, refl, sym, ap, subst, inl, inr, arith, true≢false}
use Rattle.std.specs.Prelude.{nat_eq, ◌||◌}
use Rattle.std.proofs.lemmas.Bool.{or_right}
use Rattle.model_numbers.specs.Numbers.{region_bytes}
use Rattle.class_layout.specs.ClassList.{Class}
use Rattle.class_layout.specs.Placing.{IsIn}
use Rattle.page_tables.specs.declared.address.Addr.{Addr}
use Rattle.cow_pages.specs.Memory.{Memory}
use Rattle.heap_graph.specs.declared.names.Place.{Place}
use Rattle.heap_graph.specs.declared.names.Place.TheVariants as place
use Rattle.heap_graph.specs.Collection.{cleared, collect}
use Rattle.heap_graph.specs.Graph.{is_immune, is_young, size_of_object, Graph, Object}
use Rattle.heap_graph.specs.Packing.{after, end_from, place_if, places_from, young_objects, young_sizes}
use Rattle.heap_graph.specs.Packing as packing
use Rattle.heap_graph.specs.Paths.{numbers}
use Rattle.heap_graph.specs.Reach.{is_among, reached}
use Rattle.heap_graph.specs.Sizes.{parts_for, size_in}
use Rattle.heap_graph.proofs.Sizes.{size-least}
use Rattle.raw_objects.specs.Raws.{raw_size, Raw}
use Rattle.raw_objects.specs.References.{in_regions}
use Rattle.region_space.specs.Packed.{address_in}
use Rattle.region_space.specs.Space.{lists_of}
use Rattle.address_table.specs.Computed.{table_of}
use Rattle.graph_pages.specs.Collected.{keeps}
use Rattle.graph_pages.proofs.Lists.{filter-in, in-filter, in-map, map-in}
use Rattle.live_objects.specs.Live.{addresses, AreRising, ListsYoung}
use Rattle.live_objects.proofs.ReachLemmas.{reached-node}
use Rattle.live_objects.proofs.YoungLemmas.{one-list}
use Rattle.live_objects.specs.Reach.{starts_of}
use Rattle.object_moves.specs.Copies.{sizes_at}
use Rattle.object_collection.specs.Collects.{HeapState, IsReached}
use Rattle.evacuate.specs.Stands.{home_of, homes_of, raws_of, KeepsGraph}
use Rattle.evacuate.proofs.Members.{all-from, contains-in, filter-swap, in-contains, map-same, map-twice}
use Rattle.evacuate.proofs.Found.{raw-there}
use Rattle.evacuate.proofs.Reach.{node-at, reached-same, NodeAt}
use Rattle.evacuate.proofs.Stand.{in-regions-is}

-- the numbers of those elements of another list that pass a test
sub : (Object → Bool) → List Object → List ℕ → List ℕ
sub keep [] ps = []
sub keep (o ∷ os) [] = []
sub keep (o ∷ os) (p ∷ ps) = cond (keep o) (p ∷ sub keep os ps) (sub keep os ps)

place-above : (b : Bool) (p : ℕ) → p ≤ place_if b p
place-above true p = omega arith
place-above false p = omega arith

above : (p s : ℕ) → p ≤ packing.place p s
above p s = place-above (nat_eq (p / region_bytes) ((p + s - 1) / region_bytes)) p

module _ (cs : List Class) (keep : Object → Bool) where
  abbrev sizes : List Object → List ℕ
  sizes os = map (size_of_object cs) os

  sub-rising : (low p : ℕ) (os : List Object) → low ≤ p → AreRising low (sub keep os (places_from p (sizes os)))
  unfolding sub
  sub-rising low p [] le = tt
  sub-rising low p (o ∷ os) le = by (keep o) (λ n lt. sub-rising n (after p (size_of_object cs o)) os lt)
    where
      by : (b : Bool) → ((n : ℕ) → n ≤ after p (size_of_object cs o) → AreRising n (sub keep os (places_from (after p (size_of_object cs o)) (sizes os))))
          → AreRising low (cond b (packing.place p (size_of_object cs o) ∷ sub keep os (places_from (after p (size_of_object cs o)) (sizes os))) (sub keep os (places_from (after p (size_of_object cs o)) (sizes os))))
      by true rest = (omega (arith, le, above p (size_of_object cs o)), rest (packing.place p (size_of_object cs o) + 1) (omega (arith, size-least cs o)))
      by false rest = rest low (omega (arith, le, above p (size_of_object cs o)))

  end-above : (p : ℕ) (ss : List ℕ) → p ≤ end_from p ss
  end-above p [] = omega arith
  end-above p (s ∷ ss) = omega (arith, above p s, end-above (after p s) ss)

  sub-within : (p : ℕ) (os : List Object) (q : ℕ) → IsIn q (sub keep os (places_from p (sizes os))) → q < end_from p (sizes os)
  unfolding sub
  sub-within p [] q none = absurd none
  sub-within p (o ∷ os) q there = by (keep o) there (sub-within (after p (size_of_object cs o)) os q)
    where
      by : (b : Bool) → IsIn q (cond b (packing.place p (size_of_object cs o) ∷ sub keep os (places_from (after p (size_of_object cs o)) (sizes os))) (sub keep os (places_from (after p (size_of_object cs o)) (sizes os))))
          → (IsIn q (sub keep os (places_from (after p (size_of_object cs o)) (sizes os))) → q < end_from (after p (size_of_object cs o)) (sizes os))
          → q < end_from (after p (size_of_object cs o)) (sizes os)
      by true (inl e) rest = omega (arith, e, size-least cs o, end-above (after p (size_of_object cs o)) (sizes os))
      by true (inr later) rest = rest later
      by false later rest = rest later

  sub-stand : (f : Object → ℕ) (g : ℕ → ℕ) (os : List Object) (ps : List ℕ) → map f os ≡ map g ps → map f (filter keep os) ≡ map g (sub keep os ps)
  unfolding sub
  sub-stand f g [] ps same = refl
  sub-stand f g (o ∷ os) [] same = cc
  sub-stand f g (o ∷ os) (p ∷ ps) same =
      let head : f o ≡ g p = cc in
      let tail : map f os ≡ map g ps = cc in
      by (keep o) head (sub-stand f g os ps tail)
    where
      by : (b : Bool) → f o ≡ g p → map f (filter keep os) ≡ map g (sub keep os ps) → map f (cond b (o ∷ filter keep os) (filter keep os)) ≡ map g (cond b (p ∷ sub keep os ps) (sub keep os ps))
      by true head rest = ap (λ n. n ∷ map f (filter keep os)) head ∙ ap (λ ns. g p ∷ ns) rest
      by false head rest = rest

module _ (h : HeapState) (m : Memory) (t : ℕ) (g : Graph) (k : KeepsGraph h m t g) where
  abbrev table : ℕ → ℕ
  table = table_of (homes_of h) g

  -- the young objects that are kept
  abbrev pub kept_young : List Object
  kept_young = filter (keeps g) (young_objects g)

  pub record KeptYoung (o : Object) : Type 0 where
    pub is_in : IsIn o g.objects
    pub young : is_young o.place ≡ true
    pub kept : keeps g o ≡ true
    pub among : is_among (reached g) o.number ≡ true
    pub free : is_immune g.sealed o.place ≡ false

  young-free : (at : Place) → is_young at ≡ true → is_immune g.sealed at ≡ false
  young-free (place.Image spot) e = absurd (true≢false (sym e))
  young-free (place.Zygote spot) e = absurd (true≢false (sym e))
  young-free place.Young e = refl
  young-free place.Large e = absurd (true≢false (sym e))
  young-free place.Promoted e = absurd (true≢false (sym e))

  pub kept-there : (o : Object) → IsIn o (filter (keeps g) (young_objects g)) → KeptYoung o
  kept-there o there =
      let one = in-filter (keeps g) (young_objects g) o there in
      let two = in-filter (λ o. is_young o.place) g.objects o one.0 in
      let free = young-free o.place two.1 in
      record {
        is_in = two.0;
        young = two.1;
        kept = one.1;
        among = sym (ap (λ b. b || is_among (reached g) o.number) free) ∙ one.1;
        free = free;
      }

  pub there-kept : (o : Object) → IsIn o g.objects → is_young o.place ≡ true → is_among (reached g) o.number ≡ true → IsIn o (filter (keeps g) (young_objects g))
  there-kept o there young among =
      filter-in (keeps g) (young_objects g) o (filter-in (λ o. is_young o.place) g.objects o there young) (or_right (is_immune g.sealed o.place) (is_among (reached g) o.number) among)

  -- they are the reached objects of the regions in their order
  pub young-listed : ListsYoung h.regions.in_use (IsReached h (raws_of (homes_of h) g)) (map (home_of (table_of (homes_of h) g)) (filter (keeps g) (young_objects g)))
  young-listed = record {
    places = sub (keeps g) (young_objects g) (places_from 0 (young_sizes g));
    rising = sub-rising g.classes (keeps g) 0 0 (young_objects g) (omega arith);
    within = all-from (λ p. p < region_bytes * length h.regions.in_use) (sub (keeps g) (young_objects g) (places_from 0 (young_sizes g))) (λ p there.
        let below = sub-within g.classes (keeps g) 0 (young_objects g) p there in
        let used : length h.regions.in_use ≡ parts_for region_bytes (end_from 0 (young_sizes g)) = k.heap.stands.packed.pack.used in
        omega (arith, below, used));
    stand =
        map-twice (λ (a : Addr). a.0) (home_of table) kept_young
        ∙ sub-stand g.classes (keeps g) (λ o. table o.number) (address_in h.regions.in_use) (young_objects g) (places_from 0 (young_sizes g))
        (sym (map-twice (λ (a : Addr). a.0) (home_of table) (young_objects g)) ∙ k.heap.stands.packed.places);
    only = λ a. (
      (λ c.
          let it = in-map (λ (b : Addr). b.0) (map (home_of table) kept_young) a (contains-in _ a c) in
          let from = in-map (home_of table) kept_young it.0 it.1 in
          let o : Object = from.0 in
          let is = kept-there o from.1 in
          let at : table o.number ≡ a = ap (λ (b : Addr). b.0) from.2 ∙ it.2 in
          subst (λ n. (in_regions n ≡ true) × IsReached h (raws_of (homes_of h) g) n) at
          (in-regions-is (homes_of h) g k.heap.formed k.heap.house o is.is_in ∙ is.young, (reached-same h m t g k o is.is_in).0 (is.among, is.free))),
      (λ it.
          let n : NodeAt h m t g k a = node-at h m t g k a (reached-node h.classes h.rows (raws_of (homes_of h) g) (starts_of h.roots h.slots) a it.1) in
          let o : Object = n.object in
          let r = (reached-same h m t g k o n.is_in).1 (subst (λ b. IsReached h (raws_of (homes_of h) g) b) (sym n.at_is) it.1) in
          let young : is_young o.place ≡ true = sym (in-regions-is (homes_of h) g k.heap.formed k.heap.house o n.is_in) ∙ subst (λ b. in_regions b ≡ true) (sym n.at_is) it.0 in
          in-contains _ a (subst (λ b. IsIn b (addresses (map (home_of table) kept_young))) n.at_is
          (map-in (λ (b : Addr). b.0) (map (home_of table) kept_young) (home_of table o) (map-in (home_of table) kept_young o (there-kept o n.is_in young r.0))))),
    );
  }

  -- so each list of these is theirs
  pub young-are : (young : List Addr) → ListsYoung h.regions.in_use (IsReached h (raws_of (homes_of h) g)) young → young ≡ map (home_of (table_of (homes_of h) g)) (filter (keeps g) (young_objects g))
  young-are young listed = one-list (lists_of h.regions) (IsReached h (raws_of (homes_of h) g)) young (map (home_of table) kept_young) k.heap.space listed young-listed

  -- they are the young objects of the collected graph, but for cleared references
  pub young-collected : young_objects (collect g) ≡ map (cleared (numbers (filter (keeps g) g.objects))) (filter (keeps g) (young_objects g))
  young-collected = filter-swap (λ (o : Object). is_young o.place) (keeps g) (cleared (numbers (filter (keeps g) g.objects))) (λ o. refl) g.objects

  pub sizes-collected : sizes_at g.classes (raws_of (homes_of h) g) (map (home_of (table_of (homes_of h) g)) (filter (keeps g) (young_objects g))) ≡ young_sizes (collect g)
  sizes-collected =
      map-twice (λ (a : Addr). raw_size g.classes (raws_of (homes_of h) g) a.0) (home_of table) kept_young
      ∙ map-same _ (size_of_object g.classes) kept_young (λ o there. ap (λ (r : Raw). size_in g.classes r.shape) (raw-there (homes_of h) g k.heap.formed k.heap.house o (kept-there o there).is_in).1)
      ∙ sym (map-twice (size_of_object g.classes) (cleared (numbers (filter (keeps g) g.objects))) kept_young)
      ∙ sym (ap (map (size_of_object g.classes)) young-collected)
