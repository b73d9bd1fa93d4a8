-- The segments of a dump, and how they are filled.
use Rattle.std.specs.Prelude.{◌≡◌, ℕ, ◌+◌, Bool, true, false, ◌||◌, List, [], ◌∷◌, ◌++◌, codes, fold, length, nat_eq, nat_le}
use Rattle.ah_outside.specs.Outside.{Shelved}
use Rattle.hprof_records.specs.declared.sub_record.SubRecord.{SubRecord}
use Rattle.hprof_records.specs.declared.sub_record.SubRecord.TheVariants.{HeapInfo}
use Rattle.hprof_records.specs.declared.top_record.TopRecord.{TopRecord}
use Rattle.hprof_records.specs.declared.top_record.TopRecord.TheVariants.{Segment}
use Rattle.hprof_records.specs.Parts.{bytes_of_parts}
use Rattle.hprof_records.specs.Records.{bytes_of_records}
use Rattle.object_view.specs.declared.names.Heap.{Heap}
use Rattle.object_view.specs.declared.names.Heap.TheVariants.{Image, Zygote, App}
use Rattle.hprof_write.specs.Outcomes.{AppendedBut}
use Rattle.hprof_write.specs.Strings.{string_id}

-- what goes into segments: a root or a class, or an object with its heap
pub data Item : Type 0 where
  Bare : SubRecord → Item
  InHeap : Heap → SubRecord → Item

abbrev pub heap_number : Heap → ℕ
heap_number Image = 73
heap_number Zygote = 90
heap_number App = 65

abbrev pub heap_name : Heap → List ℕ
heap_name Image = codes "image"
heap_name Zygote = codes "zygote"
heap_name App = codes "app"

-- sets the heap of the objects that follow in the segment
abbrev pub heap_info : List (List ℕ) → Heap → SubRecord
heap_info ss heap = HeapInfo (heap_number heap) (string_id ss (heap_name heap))

-- segments while they are filled: those that are done, and of the current one its parts, its objects and its heap
pub record Filling : Type 0 where
  pub done : List TopRecord
  pub parts : List SubRecord
  pub objects : ℕ
  pub heap : ℕ

-- a segment begins with no parts, and in the default heap 0
abbrev pub begun : List TopRecord → Filling
begun done = record { done = done; parts = []; objects = 0; heap = 0 }

abbrev pub segment : List SubRecord → TopRecord
segment parts = Segment 0 0x1c (length (bytes_of_parts parts)) parts

-- the current segment is done too
abbrev pub closed : Filling → List TopRecord
closed f = f.done ++ segment f.parts ∷ []

-- the current segment takes no more: it has at least 4,096 bytes, or holds 128 objects
abbrev pub is_full : Filling → Bool
is_full f = nat_le 4096 (length (bytes_of_parts f.parts)) || nat_eq f.objects 128

abbrev pub room_if : Bool → Filling → Filling
room_if true f = begun (closed f)
room_if false f = f

-- a new segment begins exactly where the current one takes no more
abbrev pub with_room : Filling → Filling
with_room f = room_if (is_full f) f

abbrev pub with_part : Filling → SubRecord → Filling
with_part f part = record f { parts = f.parts ++ part ∷ [] }

abbrev pub heap_if : Bool → List (List ℕ) → Heap → Filling → Filling
heap_if true ss heap f = f
heap_if false ss heap f = record f { parts = f.parts ++ heap_info ss heap ∷ []; heap = heap_number heap }

-- the heap is told exactly where it isn't the segment's
abbrev pub with_heap : List (List ℕ) → Heap → Filling → Filling
with_heap ss heap f = heap_if (nat_eq f.heap (heap_number heap)) ss heap f

abbrev pub with_object : Filling → SubRecord → Filling
with_object f part = record f { parts = f.parts ++ part ∷ []; objects = f.objects + 1 }

-- one more item, in the current segment or in a new one
abbrev pub with_item : List (List ℕ) → Filling → Item → Filling
with_item ss f (Bare part) = with_part (with_room f) part
with_item ss f (InHeap heap part) = with_object (with_heap ss heap (with_room f)) part

-- the segments that hold these items
abbrev pub segments : List (List ℕ) → List Item → List TopRecord
segments ss items = closed (fold (with_item ss) (begun []) items)

-- the bytes, the objects and the heap of the current segment
pub record IsCurrent (f : Filling) (body : List ℕ) (objects heap : ℕ) : Type 0 where
  pub body_is : body ≡ bytes_of_parts f.parts
  pub objects_is : objects ≡ f.objects
  pub heap_is : heap ≡ f.heap

-- behind the front the segments that are done were appended, but for what waits
abbrev pub IsFilled : Shelved → List ℕ → Filling → List ℕ → Shelved → Type 0
IsFilled start front f waiting now = AppendedBut start (front ++ bytes_of_records f.done) waiting now
