-- The objects of the regions, as a list: there is one that is packed in their order.
use Rattle.std.proofs.Common.{◌≡◌, ℕ, ◌+◌, ◌-◌, ◌*◌, ◌/◌, ◌<◌, ◌≤◌, Bool, true, false, List, [], ◌∷◌, length, inl, inr, arith}
use Rattle.std.specs.Prelude.{nat_eq}
use Rattle.model_numbers.specs.Numbers.{region_bytes}
use Rattle.class_layout.specs.ClassList.{Class}
use Rattle.class_layout.specs.Placing.{IsIn}
use Rattle.page_tables.specs.declared.address.Addr.{Addr}
use Rattle.cow_pages.specs.Memory.{Memory}
use Rattle.heap_graph.specs.declared.names.Shape.{Shape}
use Rattle.heap_graph.specs.Graph.{Graph, Object}
use Rattle.heap_graph.specs.Packing.{after, end_from, place_if, places_from}
use Rattle.heap_graph.specs.Packing as packing
use Rattle.heap_graph.specs.Sizes.{parts_for, size_in}
use Rattle.heap_graph.proofs.Sizes.{size-least}
use Rattle.raw_objects.specs.Raws.{raw_size, Raws}
use Rattle.region_space.specs.Space.{lists_of}
use Rattle.graph_pages.specs.Holds.{no_object}
use Rattle.live_objects.specs.Live.{AreRising, ListsYoung}
use Rattle.live_objects.proofs.YoungLemmas.{one-list}
use Rattle.object_moves.specs.Copies.{sizes_at}
use Rattle.object_collection.specs.Collects.{AreYoung, HeapState}
use Rattle.evacuate.specs.Stands.{homes_of, raws_of, young_homes, HoldsHeap}
use Rattle.evacuate.proofs.Can.{are-young}
use Rattle.evacuate.proofs.Members.{all-from}

-- each object takes some bytes
pub some-bytes : (cs : List Class) (shape : Shape) → 8 ≤ size_in cs shape
some-bytes cs shape = let o : Object = record no_object { shape = shape } in size-least cs o

place-above : (b : Bool) (p : ℕ) → p ≤ place_if b p
place-above true p = omega arith
place-above false p = omega arith

above : (p s : ℕ) → p ≤ packing.place p s
above p s = place-above (nat_eq (p / region_bytes) ((p + s - 1) / region_bytes)) p

module _ (cs : List Class) (raws : Raws) where
  -- the places of objects rise
  places-rise : (low p : ℕ) (ats : List Addr) → low ≤ p → AreRising low (places_from p (sizes_at cs raws ats))
  places-rise low p [] le = tt
  places-rise low p (a ∷ ats) le =
      let s : ℕ = raw_size cs raws a.0 in
      (omega (arith, le, above p s), places-rise (packing.place p s + 1) (after p s) ats (omega (arith, some-bytes cs (raws.raw a.0).shape)))

  end-above : (p : ℕ) (ats : List Addr) → p ≤ end_from p (sizes_at cs raws ats)
  end-above p [] = omega arith
  end-above p (a ∷ ats) = let s : ℕ = raw_size cs raws a.0 in omega (arith, above p s, end-above (after p s) ats)

  places-below : (p : ℕ) (ats : List Addr) (q : ℕ) → IsIn q (places_from p (sizes_at cs raws ats)) → q < end_from p (sizes_at cs raws ats)
  places-below p [] q none = absurd none
  places-below p (a ∷ ats) q (inl e) = let s : ℕ = raw_size cs raws a.0 in omega (arith, e, some-bytes cs (raws.raw a.0).shape, end-above (after p s) ats)
  places-below p (a ∷ ats) q (inr later) = places-below (after p (raw_size cs raws a.0)) ats q later

module _ (h : HeapState) (raws : Raws) (ats : List Addr) (young : AreYoung h raws ats) where
  listed : ListsYoung h.regions.in_use (λ a. raws.has a ≡ true) ats
  listed = record {
    places = places_from 0 (sizes_at h.classes raws ats);
    rising = places-rise h.classes raws 0 0 ats (omega arith);
    within = all-from (λ p. p < region_bytes * length h.regions.in_use) (places_from 0 (sizes_at h.classes raws ats)) (λ p there.
        let below = places-below h.classes raws 0 ats p there in
        let used : length h.regions.in_use ≡ parts_for region_bytes (end_from 0 (sizes_at h.classes raws ats)) = young.packed.pack.used in
        omega (arith, below, used));
    stand = young.packed.places;
    only = λ a. ((λ c. let it = (young.only a).0 c in (it.1, it.0)), (λ it. (young.only a).1 (it.1, it.0)));
  }

-- the list is that of the graph's young objects
pub young-are : (h : HeapState) (m : Memory) (t : ℕ) (g : Graph) → HoldsHeap h m t g → (ats : List Addr) → AreYoung h (raws_of (homes_of h) g) ats → ats ≡ young_homes (homes_of h) g
young-are h m t g k ats young =
    one-list (lists_of h.regions) (λ a. (raws_of (homes_of h) g).has a ≡ true) ats (young_homes (homes_of h) g) k.space
    (listed h (raws_of (homes_of h) g) ats young) (listed h (raws_of (homes_of h) g) (young_homes (homes_of h) g) (are-young h m t g k))
