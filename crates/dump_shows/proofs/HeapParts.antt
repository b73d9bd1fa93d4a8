-- The parts of the segments, each in its heap, as items are filled in.
use Rattle.std.proofs.Common.{◌≡◌, ℕ, Bool, true, false, List, [], ◌∷◌, ◌++◌, None, map, nat_eq, refl, sym, ap, ◌∙◌, append_assoc, arith}
use Rattle.std.proofs.lemmas.Bool.{eqb-true}
use Rattle.std.proofs.lemmas.List.{append-nil}
use Rattle.std.proofs.lemmas.Grind.{flat_map-append}
use Rattle.std.specs.List.{AllByRecursion, flat_map, fold}
use Rattle.std.specs.Prelude.{unwrap_or}
use Rattle.hprof_records.specs.declared.sub_record.SubRecord.{SubRecord}
use Rattle.object_view.specs.declared.names.Heap.{Heap}
use Rattle.object_view.specs.declared.names.Heap.TheVariants.{Image, Zygote, App}
use Rattle.hprof_write.specs.Segments.{Filling, Bare, InHeap, begun, closed, heap_if, heap_info, heap_name, heap_number, is_full, room_if, segment, with_heap, with_item, with_object, with_part, with_room}
use Rattle.hprof_write.specs.Strings.{string_id}
use Rattle.dump_shows.specs.Reading.{Dumped, heap_told, part_in, parts_from, parts_in}

-- a part in a heap
abbrev pub dumped : ℕ × ℕ → SubRecord → Dumped
dumped heap part = record { heap = heap.0; heap_name = heap.1; part = part }

-- the heap behind parts
abbrev pub heap_after : ℕ × ℕ → List SubRecord → ℕ × ℕ
heap_after heap [] = heap
heap_after heap (p ∷ ps) = heap_after (unwrap_or (heap_told p) heap) ps

heap_after-append : (heap : ℕ × ℕ) (ps qs : List SubRecord) → heap_after heap (ps ++ qs) ≡ heap_after (heap_after heap ps) qs
heap_after-append heap [] qs = refl
heap_after-append heap (p ∷ ps) qs = heap_after-append (unwrap_or (heap_told p) heap) ps qs

parts_from-append : (heap : ℕ × ℕ) (ps qs : List SubRecord) → parts_from heap (ps ++ qs) ≡ parts_from heap ps ++ parts_from (heap_after heap ps) qs
parts_from-append heap [] qs = refl
parts_from-append heap (p ∷ ps) qs =
    ap (λ l. part_in (heap_told p) heap p ++ l) (parts_from-append (unwrap_or (heap_told p) heap) ps qs)
    ∙ sym (append_assoc (part_in (heap_told p) heap p) (parts_from (unwrap_or (heap_told p) heap) ps) _)

-- a part that tells no heap
one-part : (heap : ℕ × ℕ) (p : SubRecord) → heap_told p ≡ None → (parts_from heap (p ∷ []) ≡ dumped heap p ∷ []) × (heap_after heap (p ∷ []) ≡ heap)
one-part heap p e = (ap (λ o. part_in o heap p ++ []) e, ap (λ o. unwrap_or o heap) e)

abbrev pub no_heap : ℕ × ℕ
no_heap = (0, 0)

-- the heap of what comes next in the current segment
abbrev pub told : Filling → ℕ × ℕ
told f = heap_after no_heap f.parts

-- the parts of all segments
abbrev pub shown : Filling → List Dumped
shown f = flat_map parts_in (closed f)

shown-is : (f : Filling) → shown f ≡ flat_map parts_in f.done ++ parts_from no_heap f.parts
shown-is f =
    flat_map-append parts_in f.done (segment f.parts ∷ []) ∙ ap (λ l. flat_map parts_in f.done ++ l) (append-nil (parts_from no_heap f.parts))

-- more parts in the current segment
shown-more : (f g : Filling) (ps : List SubRecord) → g.done ≡ f.done → g.parts ≡ f.parts ++ ps → shown g ≡ shown f ++ parts_from (told f) ps
shown-more f g ps d e =
    shown-is g ∙ ap (λ l. flat_map parts_in l ++ parts_from no_heap g.parts) d
    ∙ ap (λ l. flat_map parts_in f.done ++ l) (ap (parts_from no_heap) e ∙ parts_from-append no_heap f.parts ps)
    ∙ sym (append_assoc (flat_map parts_in f.done) (parts_from no_heap f.parts) (parts_from (told f) ps))
    ∙ ap (λ l. l ++ parts_from (told f) ps) (sym (shown-is f))

told-more : (f g : Filling) (ps : List SubRecord) → g.parts ≡ f.parts ++ ps → told g ≡ heap_after (told f) ps
told-more f g ps e = ap (heap_after no_heap) e ∙ heap_after-append no_heap f.parts ps

-- a new segment adds no part
shown-room : (f : Filling) (b : Bool) → shown (room_if b f) ≡ shown f
shown-room f true = shown-is (begun (closed f)) ∙ append-nil (shown f)
shown-room f false = refl

-- the current segment is in no heap yet
pub record AtNone (f : Filling) : Type 0 where
  pub heap_is : f.heap ≡ 0
  pub told_is : told f ≡ no_heap

at-none-room : (f : Filling) (b : Bool) → AtNone f → AtNone (room_if b f)
at-none-room f true h = record { heap_is = refl; told_is = refl }
at-none-room f false h = h

bare-in : (ss : List (List ℕ)) (p : SubRecord) (f : Filling) → heap_told p ≡ None → AtNone f
    → (shown (with_item ss f (Bare p)) ≡ shown f ++ dumped no_heap p ∷ []) × AtNone (with_item ss f (Bare p))
bare-in ss p f e h =
    let r : Filling = with_room f in
    let at : AtNone r = at-none-room f (is_full f) h in
    let one = one-part (told r) p e in (
      shown-more r (with_part r p) (p ∷ []) refl refl ∙ ap (λ l. shown r ++ l) (one.0 ∙ ap (λ (t : ℕ × ℕ). dumped t p ∷ []) at.told_is)
          ∙ ap (λ l. l ++ dumped no_heap p ∷ []) (shown-room f (is_full f)),
      record { heap_is = at.heap_is; told_is = told-more r (with_part r p) (p ∷ []) refl ∙ one.1 ∙ at.told_is },
    )

-- parts before all objects
pub bare-all : (ss : List (List ℕ)) (ps : List SubRecord) (f : Filling) → AllByRecursion (λ p. heap_told p ≡ None) ps → AtNone f
    → (shown (fold (with_item ss) f (map Bare ps)) ≡ shown f ++ map (dumped no_heap) ps) × AtNone (fold (with_item ss) f (map Bare ps))
bare-all ss [] f all h = (sym (append-nil (shown f)), h)
bare-all ss (p ∷ ps) f all h =
    let one = bare-in ss p f all.0 h in
    let rest = bare-all ss ps (with_item ss f (Bare p)) all.1 one.1 in (
      rest.0 ∙ ap (λ l. l ++ map (dumped no_heap) ps) one.0 ∙ append_assoc (shown f) (dumped no_heap p ∷ []) (map (dumped no_heap) ps),
      rest.1,
    )

abbrev pub heap_pair : List (List ℕ) → Heap → ℕ × ℕ
heap_pair ss heap = (heap_number heap, string_id ss (heap_name heap))

-- the heap's name was told with its number
abbrev pub IsTold : List (List ℕ) → Filling → Type 0
IsTold ss f = (heap : Heap) → f.heap ≡ heap_number heap → told f ≡ heap_pair ss heap

pub told-none : (ss : List (List ℕ)) (f : Filling) → AtNone f → IsTold ss f
told-none ss f h Image e = absurd (omega (arith, h.heap_is))
told-none ss f h Zygote e = absurd (omega (arith, h.heap_is))
told-none ss f h App e = absurd (omega (arith, h.heap_is))

told-room : (ss : List (List ℕ)) (f : Filling) (b : Bool) → IsTold ss f → IsTold ss (room_if b f)
told-room ss f true h = told-none ss (begun (closed f)) (record { heap_is = refl; told_is = refl })
told-room ss f false h = h

one-number : (a b : Heap) → heap_number a ≡ heap_number b → a ≡ b
one-number Image Image e = refl
one-number Image Zygote e = absurd (omega (arith, e))
one-number Image App e = absurd (omega (arith, e))
one-number Zygote Image e = absurd (omega (arith, e))
one-number Zygote Zygote e = refl
one-number Zygote App e = absurd (omega (arith, e))
one-number App Image e = absurd (omega (arith, e))
one-number App Zygote e = absurd (omega (arith, e))
one-number App App e = refl

-- the heap of an object is the segment's
pub record IsHeapIn (ss : List (List ℕ)) (heap : Heap) (f g : Filling) : Type 0 where
  pub shown_is : shown g ≡ shown f
  pub heap_is : g.heap ≡ heap_number heap
  pub told_is : told g ≡ heap_pair ss heap

heap-in : (ss : List (List ℕ)) (heap : Heap) (f : Filling) (b : Bool) → nat_eq f.heap (heap_number heap) ≡ b → IsTold ss f → IsHeapIn ss heap f (heap_if b ss heap f)
heap-in ss heap f true e h =
    let same : f.heap ≡ heap_number heap = eqb-true f.heap (heap_number heap) e in
    record { shown_is = refl; heap_is = same; told_is = h heap same }
heap-in ss heap f false e h =
    let g : Filling = heap_if false ss heap f in
    record {
      shown_is = shown-more f g (heap_info ss heap ∷ []) refl refl ∙ append-nil (shown f);
      heap_is = refl;
      told_is = told-more f g (heap_info ss heap ∷ []) refl;
    }

object-in : (ss : List (List ℕ)) (heap : Heap) (p : SubRecord) (f : Filling) → heap_told p ≡ None → IsTold ss f
    → (shown (with_item ss f (InHeap heap p)) ≡ shown f ++ dumped (heap_pair ss heap) p ∷ []) × IsTold ss (with_item ss f (InHeap heap p))
object-in ss heap p f e h =
    let r : Filling = with_room f in
    let g : Filling = with_heap ss heap r in
    let is : IsHeapIn ss heap r g = heap-in ss heap r (nat_eq r.heap (heap_number heap)) refl (told-room ss f (is_full f) h) in
    let one = one-part (told g) p e in (
      shown-more g (with_object g p) (p ∷ []) refl refl ∙ ap (λ l. shown g ++ l) (one.0 ∙ ap (λ (t : ℕ × ℕ). dumped t p ∷ []) is.told_is)
          ∙ ap (λ l. l ++ dumped (heap_pair ss heap) p ∷ []) (is.shown_is ∙ shown-room f (is_full f)),
      λ other same.
          told-more g (with_object g p) (p ∷ []) refl ∙ one.1 ∙ is.told_is ∙ ap (heap_pair ss) (one-number heap other (sym is.heap_is ∙ same)),
    )

-- objects, each in its heap
pub objects-all : {X : Type 0} (ss : List (List ℕ)) (heap : X → Heap) (part : X → SubRecord) (xs : List X) (f : Filling) → ((x : X) → heap_told (part x) ≡ None) → IsTold ss f
    → shown (fold (with_item ss) f (map (λ x. InHeap (heap x) (part x)) xs)) ≡ shown f ++ map (λ x. dumped (heap_pair ss (heap x)) (part x)) xs
objects-all ss heap part [] f none h = sym (append-nil (shown f))
objects-all ss heap part (x ∷ xs) f none h =
    let one = object-in ss (heap x) (part x) f (none x) h in
    objects-all ss heap part xs (with_item ss f (InHeap (heap x) (part x))) none one.1
    ∙ ap (λ l. l ++ map (λ x. dumped (heap_pair ss (heap x)) (part x)) xs) one.0
    ∙ append_assoc (shown f) (dumped (heap_pair ss (heap x)) (part x) ∷ []) _
