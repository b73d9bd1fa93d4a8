-- The objects of a graph that a process keeps can be promoted.
use Rattle.std.proofs.Common.{◌≡◌, ◌∙◌, ℕ, ◌+◌, ◌*◌, ◌/◌, ◌<◌, ◌≤◌, true, false, List, [], ◌∷◌, map, sym, ap, subst, inl, inr, arith}
use Rattle.std.specs.Prelude.{sum, Result, Ok, Err, OnOk}
use Rattle.std.proofs.lemmas.Bool.{cases_Bool, leb-false, leb-true}
use Rattle.class_layout.specs.ClassList.{Class}
use Rattle.class_layout.specs.Placing.{IsIn}
use Rattle.cow_pages.specs.Memory.{Memory}
use Rattle.heap_graph.specs.declared.names.Place.{Place}
use Rattle.heap_graph.specs.declared.names.Place.TheVariants as place
use Rattle.heap_graph.specs.Fork.{has_zygote_room, promotion_bytes, promotion_start}
use Rattle.heap_graph.specs.Graph.{greatest, size_of_object, zygote_end, zygote_fill, Graph, Object}
use Rattle.heap_graph.specs.Packing.{young_objects}
use Rattle.heap_graph.specs.Sizes.{size_in}
use Rattle.heap_world.specs.Acts.{object_allowance, promotion_allowance}
use Rattle.raw_objects.specs.Raws.{raw_size, Raw}
use Rattle.zygote_space.specs.Space as zygote
use Rattle.zygote_space.specs.Space.{to_page, zygote_spot, HasPagesUpTo}
use Rattle.object_moves.specs.Copies.{sizes_at}
use Rattle.object_collection.specs.Collects.{HeapState}
use Rattle.object_promotion.specs.Promotes.{bytes_at, CanPromote, IsTooMuch, LeavesPages}
use Rattle.evacuate.specs.Stands.{homes_of, raws_of, young_homes, HoldsHeap, KeepsGraph}
use Rattle.evacuate.proofs.Can.{can, sizes-are}
use Rattle.evacuate.proofs.Found.{object-at, raw-there}
use Rattle.evacuate.proofs.Members.{map-same, map-twice}
use Rattle.evacuate.proofs.Stand.{stand, Stand}
use Rattle.zygote_compact.specs.Spots.{HasSpots}
use Rattle.zygote_compact.proofs.Spots.{pages-up-to}

end-below : (cs : List Class) (os : List Object) (o : Object) → IsIn o os → zygote_end cs o o.place ≤ greatest (map (λ (o : Object). zygote_end cs o o.place) os)
end-below cs [] o none = absurd none
end-below cs (x ∷ os) o (inl same) = let e : zygote_end cs x x.place ≡ zygote_end cs o o.place = ap (λ (y : Object). zygote_end cs y y.place) same in omega (arith, e)
end-below cs (x ∷ os) o (inr later) = omega (arith, end-below cs os o later)

-- a segment begins where the graph's next one does
pub start-is : (g : Graph) (z : zygote.Space) → HasSpots z g → to_page z.fill ≡ promotion_start g
start-is g z s = omega (arith, ap (λ n. (n + 4095) / 4096 * 4096) s.fill)

module _ (h : HeapState) (m : Memory) (t : ℕ) (g : Graph) (z : zygote.Space) (s : HasSpots z g) where
  module _ (heap : HoldsHeap h m t g) where
    -- each object below the regions ends by the fill
    below : (a : ℕ) → (raws_of (homes_of h) g).has a ≡ true → a < 0x40000000 → a + raw_size h.classes (raws_of (homes_of h) g) a ≤ zygote_spot z.fill
    below a has less =
        let it = object-at (homes_of h) g heap.formed heap.house a has in
        let o : Object = it.object in
        let size : raw_size h.classes (raws_of (homes_of h) g) a ≡ size_of_object g.classes o =
        ap (λ cs. raw_size cs (raws_of (homes_of h) g) a) heap.stands.classes
        ∙ ap (λ (r : Raw). size_in g.classes r.shape) (ap (raws_of (homes_of h) g).raw (sym it.at_is) ∙ (raw-there (homes_of h) g heap.formed heap.house o it.is_in).1) in
        subst (λ n. a + n ≤ zygote_spot z.fill) (sym size)
        (by o o.place (subst (Stand (homes_of h) g heap.formed heap.house o o.place) it.at_is (stand (homes_of h) g heap.formed heap.house o it.is_in)) (end-below g.classes g.objects o it.is_in))
      where
        by : (o : Object) (at : Place) → Stand (homes_of h) g heap.formed heap.house o at a → zygote_end g.classes o at ≤ zygote_fill g → a + size_of_object g.classes o ≤ zygote_spot z.fill
        by o (place.Image spot) st end = omega (arith, st.0, st.2)
        by o (place.Zygote spot) st end = omega (arith, st.0, st.1, end, s.fill)
        by o place.Young (p, st) end = absurd (omega (arith, st.3, less))
        by o place.Large (p, st) end = absurd (omega (arith, st.3, less))
        by o place.Promoted (p, st) end = absurd (omega (arith, st.3, less))

    -- the bytes that move are those of the graph's young objects
    pub bytes-are : bytes_at h (raws_of (homes_of h) g) (young_homes (homes_of h) g) ≡ promotion_bytes g
    bytes-are = ap sum (sym (sizes-are h m t g heap))

    -- so a promotion leaves the pages that the graph's own bytes leave
    pub pages-are : (new : Memory) → LeavesPages h m new t z.fill (bytes_at h (raws_of (homes_of h) g) (young_homes (homes_of h) g)) → LeavesPages h m new t z.fill (promotion_bytes g)
    pages-are new leaves = subst (λ n. LeavesPages h m new t z.fill n) bytes-are leaves

    -- there is too much exactly where there is no room
    pub too-much : has_zygote_room g ≡ false → IsTooMuch z.fill (bytes_at h (raws_of (homes_of h) g) (young_homes (homes_of h) g))
    too-much off = omega (arith, leb-false (promotion_start g + promotion_bytes g) 268435456 off, start-is g z s, bytes-are)

    pub no-room : IsTooMuch z.fill (bytes_at h (raws_of (homes_of h) g) (young_homes (homes_of h) g)) → has_zygote_room g ≡ false
    no-room much = elim (cases_Bool (has_zygote_room g)) [
      | inl e ↦ absurd (omega (arith, leb-true (promotion_start g + promotion_bytes g) 268435456 e, much, start-is g z s, bytes-are))
      | inr e ↦ e
    ]

    -- the reads of the objects that move are those that a fork allows
    pub reads-are : sum (map (λ (size : ℕ). size + 16) (sizes_at h.classes (raws_of (homes_of h) g) (young_homes (homes_of h) g))) ≡ promotion_allowance g
    reads-are =
        ap (λ ss. sum (map (λ (size : ℕ). size + 16) ss)) (sym (sizes-are h m t g heap))
        ∙ ap sum (map-twice (λ (size : ℕ). size + 16) (size_of_object g.classes) (young_objects g) ∙ map-same _ (object_allowance g.classes) (young_objects g) (λ o there. words (size_in g.classes o.shape) (omega arith)))
      where
        words : (n : ℕ) → n / 8 * 8 ≡ n → n + 16 ≡ 4 * (n / 4) + 16
        words n e = omega (arith, e)

  pub can-promote : KeepsGraph h m t g → CanPromote h m t (raws_of (homes_of h) g) z
  can-promote k = record {
    can = can h m t g k;
    closed = s.closed;
    pages = subst (HasPagesUpTo m t) (sym s.fill) (pages-up-to h m t g k.heap);
    below = below k.heap;
  }

-- a call that succeeds has room
has-room : {T E : Type 0} (r : Result T E) (g : Graph) (x : E) (C : Type 0) → (has_zygote_room g ≡ false → (r ≡ Err x) × C) → OnOk r (has_zygote_room g ≡ true)
has-room (Err e) g x C full = tt
has-room (Ok n) g x C full = elim (cases_Bool (has_zygote_room g)) [
  | inl e ↦ e
  | inr off ↦ let is = (full off).0 in absurd (cc)
]

-- so it has for each graph of which the call says when it is full
pub rooms : {T E : Type 0} (r : Result T E) (P : Graph → Type 0) (x : Graph → E) (C : Type 0)
    → ((g : Graph) → P g → has_zygote_room g ≡ false → (r ≡ Err (x g)) × C) → OnOk r ((g : Graph) → P g → has_zygote_room g ≡ true)
rooms (Err e) P x C full = tt
rooms (Ok n) P x C full = λ g it. has-room (Ok n) g (x g) C (full g it)

-- three facts of a call that succeeded give a fourth
pub on_ok_three : {T E : Type 0} {A B C D : Type 0} (r : Result T E) → (A → B → C → D) → OnOk r A → OnOk r B → OnOk r C → OnOk r D
on_ok_three (Ok n) f a b c = f a b c
on_ok_three (Err e) f a b c = tt
