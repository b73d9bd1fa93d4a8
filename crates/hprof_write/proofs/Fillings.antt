-- Segments that are filled, and what of them was appended.
use Rattle.std.proofs.Common.{◌≡◌, ℕ, ◌+◌, Bool, true, false, List, [], ◌∷◌, ◌++◌, refl, sym, ap, ◌∙◌, subst, append_assoc}
use Rattle.std.proofs.lemmas.List.{append-nil}
use Rattle.std.proofs.lemmas.Grind.{flat_map-append}
use Rattle.std.specs.List.{fold}
use Rattle.std.specs.Prelude.{nat_eq}
use Rattle.ah_outside.specs.Outside.{Shelved}
use Rattle.hprof_records.specs.declared.sub_record.SubRecord.{SubRecord}
use Rattle.hprof_records.specs.declared.top_record.TopRecord.{TopRecord}
use Rattle.hprof_records.specs.Parts.{bytes_of_part, bytes_of_parts}
use Rattle.hprof_records.specs.Records.{bytes_of_record, bytes_of_records}
use Rattle.hprof_write.specs.Outcomes.{AppendedBut, AppendedPrefix}
use Rattle.object_view.specs.declared.names.Heap.{Heap}
use Rattle.hprof_write.specs.Segments.{Filling, Item, Bare, InHeap, begun, closed, heap_if, heap_number, is_full, room_if, segment, with_item, with_object, with_part, with_room, IsFilled, IsCurrent}
use Rattle.hprof_write.proofs.Appends.{AppendedBut-more, AppendedBut-stopped, AppendedPrefix-more}

-- the bytes of one more record
pub records-more : (front : List ℕ) (rs : List TopRecord) (r : TopRecord) → front ++ bytes_of_records (rs ++ r ∷ []) ≡ (front ++ bytes_of_records rs) ++ bytes_of_record r
records-more front rs r =
    ap (λ l. front ++ l) (flat_map-append bytes_of_record rs (r ∷ []) ∙ ap (λ l. bytes_of_records rs ++ l) (append-nil (bytes_of_record r)))
    ∙ sym (append_assoc front (bytes_of_records rs) (bytes_of_record r))

-- the record of the current segment waits too
pub closed-waits : (start now : Shelved) (front : List ℕ) (f : Filling) (waiting more : List ℕ) → more ≡ waiting ++ bytes_of_record (segment f.parts)
    → IsFilled start front f waiting now → AppendedBut start (front ++ bytes_of_records (closed f)) more now
closed-waits start now front f waiting more e h =
    rw e (rw (records-more front f.done (segment f.parts)) (AppendedBut-more start now (front ++ bytes_of_records f.done) waiting (bytes_of_record (segment f.parts)) h))

-- the current segment was not appended
pub closed-stopped : (start now : Shelved) (front : List ℕ) (f : Filling) (waiting : List ℕ) → IsFilled start front f waiting now
    → AppendedPrefix start (front ++ bytes_of_records (closed f)) now
closed-stopped start now front f waiting h =
    rw (records-more front f.done (segment f.parts))
    (AppendedPrefix-more start now (front ++ bytes_of_records f.done) (bytes_of_record (segment f.parts)) (AppendedBut-stopped start now (front ++ bytes_of_records f.done) waiting h))

-- the bytes of one more part
pub parts-more : (ps : List SubRecord) (p : SubRecord) → bytes_of_parts (ps ++ p ∷ []) ≡ bytes_of_parts ps ++ bytes_of_part p
parts-more ps p = flat_map-append bytes_of_part ps (p ∷ []) ∙ ap (λ l. bytes_of_parts ps ++ l) (append-nil (bytes_of_part p))

pub room-made : (f : Filling) → is_full f ≡ true → begun (closed f) ≡ with_room f
room-made f e = ap (λ b. room_if b f) (sym e)

pub room-there : (f : Filling) → is_full f ≡ false → f ≡ with_room f
room-there f e = ap (λ b. room_if b f) (sym e)

-- one more part in the current segment
pub part-put : (f : Filling) (p : SubRecord) (body next : List ℕ) (objects heap : ℕ) → next ≡ body ++ bytes_of_part p → IsCurrent f body objects heap
    → IsCurrent (with_part f p) next objects heap
part-put f p body next objects heap e cur =
    record {
      body_is = e ∙ ap (λ l. l ++ bytes_of_part p) cur.body_is ∙ sym (parts-more f.parts p);
      objects_is = cur.objects_is;
      heap_is = cur.heap_is;
    }

-- one more object in the current segment
pub object-put : (f : Filling) (p : SubRecord) (body next : List ℕ) (objects more heap : ℕ) → next ≡ body ++ bytes_of_part p → more ≡ objects + 1 → IsCurrent f body objects heap
    → IsCurrent (with_object f p) next more heap
object-put f p body next objects more heap e n cur =
    record {
      body_is = e ∙ ap (λ l. l ++ bytes_of_part p) cur.body_is ∙ sym (parts-more f.parts p);
      objects_is = n ∙ ap (λ m. m + 1) cur.objects_is;
      heap_is = cur.heap_is;
    }

-- the segments that are done stay
pub record DoneMore (f g : Filling) : Type 0 where
  pub more : List TopRecord
  pub is : g.done ≡ f.done ++ more

done-same : (f : Filling) → DoneMore f f
done-same f = record { more = []; is = sym (append-nil f.done) }

pub done-then : (f g h : Filling) → DoneMore f g → DoneMore g h → DoneMore f h
done-then f g h a b =
    record { more = a.more ++ b.more; is = b.is ∙ ap (λ l. l ++ b.more) a.is ∙ append_assoc f.done a.more b.more }

room-done : (f : Filling) (b : Bool) → DoneMore f (room_if b f)
room-done f true = record { more = segment f.parts ∷ []; is = refl }
room-done f false = done-same f

heap-done : (ss : List (List ℕ)) (heap : Heap) (f : Filling) (b : Bool) → (heap_if b ss heap f).done ≡ f.done
heap-done ss heap f true = refl
heap-done ss heap f false = refl

-- an item goes into the segment that has room
pub item-done : (ss : List (List ℕ)) (f : Filling) (i : Item) → (with_item ss f i).done ≡ (with_room f).done
item-done ss f (Bare p) = refl
item-done ss f (InHeap heap p) = heap-done ss heap (with_room f) (nat_eq (with_room f).heap (heap_number heap))

item-more : (ss : List (List ℕ)) (f : Filling) (i : Item) → DoneMore f (with_item ss f i)
item-more ss f i =
    let room = room-done f (is_full f) in
    record { more = room.more; is = item-done ss f i ∙ room.is }

pub items-more : (ss : List (List ℕ)) (f : Filling) (is : List Item) → DoneMore f (fold (with_item ss) f is)
items-more ss f [] = done-same f
items-more ss f (i ∷ is) = done-then f (with_item ss f i) (fold (with_item ss) (with_item ss f i) is) (item-more ss f i) (items-more ss (with_item ss f i) is)

-- some first bytes of what is done so far are some first bytes of what is done at last
pub done-prefix : (start now : Shelved) (front : List ℕ) (f g : Filling) → DoneMore f g → AppendedPrefix start (front ++ bytes_of_records f.done) now
    → AppendedPrefix start (front ++ bytes_of_records g.done) now
done-prefix start now front f g m h =
    let e : (front ++ bytes_of_records f.done) ++ bytes_of_records m.more ≡ front ++ bytes_of_records g.done =
    append_assoc front (bytes_of_records f.done) (bytes_of_records m.more)
    ∙ ap (λ l. front ++ l) (sym (flat_map-append bytes_of_record f.done m.more) ∙ ap bytes_of_records (sym m.is)) in
    subst (λ l. AppendedPrefix start l now) e (AppendedPrefix-more start now (front ++ bytes_of_records f.done) (bytes_of_records m.more) h)

pub filled-stopped : (start now : Shelved) (front : List ℕ) (f g : Filling) (waiting : List ℕ) → DoneMore f g → IsFilled start front f waiting now
    → AppendedPrefix start (front ++ bytes_of_records g.done) now
filled-stopped start now front f g waiting m h =
    done-prefix start now front f g m (AppendedBut-stopped start now (front ++ bytes_of_records f.done) waiting h)

-- an item's segment has its room among the segments at last
pub room-prefix : (start now : Shelved) (front : List ℕ) (ss : List (List ℕ)) (f g : Filling) (i : Item) → DoneMore (with_item ss f i) g
    → AppendedPrefix start (front ++ bytes_of_records (with_room f).done) now → AppendedPrefix start (front ++ bytes_of_records g.done) now
room-prefix start now front ss f g i m h =
    done-prefix start now front (with_item ss f i) g m
    (subst (λ (rs : List TopRecord). AppendedPrefix start (front ++ bytes_of_records rs) now) (sym (item-done ss f i)) h)
