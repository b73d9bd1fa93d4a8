-- Marking under way: where marks stand, which there are, and which objects wait. No public clause cites this module.
use Rattle.std.specs.Prelude.{◌≡◌, ◌⊎◌, ℕ, zero, suc, ◌+◌, ◌-◌, ◌*◌, ◌/◌, ◌%◌, ◌<◌, ◌≤◌, ◌^◌, ◌==◌, Bool, true, false, ◌&&◌, not, IsTrue, List, [], ◌∷◌, length, All, Some, is_some, if◌then◌else◌, slice_index, nat_eq, pos}
use Rattle.std.specs.List.{Contains}
use Rattle.model_numbers.specs.Numbers.{large_base, large_slot_bytes, large_slot_count, region_base, region_bytes, region_count}
use Rattle.class_layout.specs.declared.kind.FieldAt.{FieldAt}
use Rattle.class_layout.specs.declared.kind.Kind.TheVariants.{Ref}
use Rattle.class_layout.specs.ClassList.{Class}
use Rattle.class_layout.specs.Placing.{IsIn}
use Rattle.bit_set.specs.Bits.{Bits, is_member, room}
use Rattle.mark_bitmap.specs.Marks.{Marks, is_marked}
use Rattle.cow_pages.specs.View.{View}
use Rattle.heap_graph.specs.Places.{places_of}
use Rattle.heap_graph.specs.Reach.{is_among}
use Rattle.object_view.specs.Objects.{reference_place}
use Rattle.raw_objects.specs.Raws.{HoldsRaws, Raws}
use Rattle.raw_objects.specs.References.{in_regions}
use Rattle.region_space.specs.Space.{base_of}
use Rattle.large_objects.specs.declared.rows.LargeRow.{LargeRow}
use Rattle.large_objects.specs.Rows.{row_at}
use Rattle.live_objects.specs.Reach.{Holds, IsHeld, Path, Reached, in_large, is_mortal, is_node}

-- the first index of a number in a list; past its end where it isn't among them
abbrev pub index_of : List ℕ → ℕ → ℕ
index_of [] n = 0
index_of (m ∷ rest) n = if nat_eq n m then 0 else 1 + index_of rest n

-- the region in which an address lies
abbrev pub region_of : ℕ → ℕ
region_of a = (a - region_base) / region_bytes

-- the packing place of an address, for the numbers of the regions in use in their order
abbrev pub place_of : List ℕ → ℕ → ℕ
place_of numbers a = index_of numbers (region_of a) * region_bytes + (a - region_base) % region_bytes

-- and the address of a packing place
abbrev pub address_at : List ℕ → ℕ → ℕ
address_at numbers place = base_of (slice_index numbers (place / region_bytes)) + place % region_bytes

-- the index of each of the first k numbers is where it stands
abbrev pub AreIndexed : List ℕ → List ℕ → ℕ → Type 0
AreIndexed numbers index k = (i : ℕ) → i < k → slice_index index (slice_index numbers i) ≡ i

-- what holds of the numbers and the index by region: each region's index is where it stands
pub record IsOrder (numbers index : List ℕ) : Type 0 where
  pub count : length index ≡ region_count
  pub few : length numbers ≤ region_count
  pub within : All (λ n. n < region_count) numbers
  pub found : AreIndexed numbers index (length numbers)

-- the packing place is that of an address in a region in use
pub record IsAddress (numbers : List ℕ) (p : ℕ) : Type 0 where
  pub inside : in_regions (address_at numbers p) ≡ true
  pub among : is_among numbers (region_of (address_at numbers p)) ≡ true
  pub back : place_of numbers (address_at numbers p) ≡ p
  pub aligned : address_at numbers p % 8 ≡ p % 8

-- the slot in which an address lies
abbrev pub slot_of : ℕ → ℕ
slot_of a = (a - large_base) / large_slot_bytes

-- an object at the address has a mark: in a region in use by its packing place, and a large one by its slot
abbrev pub has_mark : List ℕ → ℕ → Bool
has_mark numbers a =
    if in_regions a then (a % 8 == 0) && is_among numbers (region_of a)
    else in_large a && ((a - large_base) % large_slot_bytes == 0)

-- the mark is set
abbrev pub is_set : List ℕ → Marks → Bits → ℕ → Bool
is_set numbers young large a = if in_regions a then is_marked young (place_of numbers a) else is_member large (slot_of a)

abbrev pub marked_in : List ℕ → Marks → Bits → ℕ → Bool
marked_in numbers young large a = has_mark numbers a && is_set numbers young large a

-- the bitmap has a place for each byte of the regions in use, and the set one for each slot
pub record HasRoom (numbers : List ℕ) (young : Marks) (large : Bits) : Type 0 where
  pub start : young.start ≡ 0
  pub span : young.span ≡ region_bytes * length numbers
  pub slots : room large ≡ large_slot_count

-- the numbers of the regions in use, the marks of the regions and of the large objects, and the marked objects whose references are still to be looked at
pub record State : Type 0 where
  pub numbers : List ℕ
  pub young : Marks
  pub large : Bits
  pub waiting : List ℕ

-- the object at the address is marked
abbrev pub marked : State → ℕ → Bool
marked s a = marked_in s.numbers s.young s.large a

abbrev pub lacks : State → ℕ → Bool
lacks s a = has_mark s.numbers a && not (marked s a)

-- how many numbers below n pass a test
unfoldable pub count_below : (ℕ → Bool) → ℕ → ℕ
count_below test zero = 0
count_below test (suc n) = count_below test n + (if test n then 1 else 0)

-- how many marks aren't set
abbrev pub unset : State → ℕ
unset s = count_below (lacks s) (2 ^ 32)

-- exactly the objects that are held were marked besides, and each that is new waits
pub record Takes (held : ℕ → Type 0) (old new : State) : Type 0 where
  pub numbers : new.numbers ≡ old.numbers
  pub kept : (a : ℕ) → marked old a ≡ true → marked new a ≡ true
  pub waits : (a : ℕ) → Contains old.waiting a → Contains new.waiting a
  pub fresh : (a : ℕ) → Contains new.waiting a → Contains old.waiting a ⊎ (marked new a ≡ true)
  pub origin : (a : ℕ) → marked new a ≡ true → (marked old a ≡ true) ⊎ (Contains new.waiting a × held a)
  pub all : (a : ℕ) → held a → marked new a ≡ true
  -- those that wait and those that aren't marked yet become no more
  pub debt : length new.waiting + unset new ≤ length old.waiting + unset old

-- one of the numbers is `b`, and what stands there isn't immune
abbrev pub HeldIn : List LargeRow → List ℕ → ℕ → Type 0
HeldIn rows ns b = Contains ns b × (is_mortal rows b ≡ true)

-- one of the first k references of the object at `a` that aren't weak holds `b`, which isn't immune
pub record HeldBefore (cs : List Class) (rows : List LargeRow) (raws : Raws) (a k b : ℕ) : Type 0 where
  pub index : ℕ
  pub before : index < k
  pub place : FieldAt
  pub is : reference_place cs (raws.raw a).shape index ≡ Some place
  pub strong : place.weak ≡ false
  pub target_is : (raws.raw a).values place ≡ pos b
  pub mortal : is_mortal rows b ≡ true

-- an address can be looked at: where it lies in the regions or among the large objects, it has a mark, and in the latter a row
pub record CanConsider (rows : List LargeRow) (numbers : List ℕ) (n : ℕ) : Type 0 where
  pub young : in_regions n ≡ true → has_mark numbers n ≡ true
  pub large : in_large n ≡ true → IsTrue (is_some (row_at rows n))

-- memory holds the objects, and each that a path goes through or to has a mark
pub record CanFollow (cs : List Class) (v : View) (raws : Raws) (rows : List LargeRow) (numbers : List ℕ) : Type 0 where
  pub holds : HoldsRaws cs v raws
  pub found : (n : ℕ) → raws.has n ≡ true → CanConsider rows numbers n
  pub targets : (a : ℕ) (p : FieldAt) → is_node rows raws a ≡ true → IsIn p (places_of cs (raws.raw a).shape) → p.kind ≡ Ref → IsHeld raws ((raws.raw a).values p)

-- marking under way: what is marked is reached, what waits is marked, each marked object waits or all that it holds is
-- marked, and so are the starts
pub record Marking (cs : List Class) (rows : List LargeRow) (raws : Raws) (starts : List ℕ) (s : State) : Type 0 where
  pub reached : (a : ℕ) → marked s a ≡ true → Reached cs rows raws starts a
  pub waiting : (a : ℕ) → Contains s.waiting a → marked s a ≡ true
  pub scanned : (a : ℕ) → marked s a ≡ true → Contains s.waiting a ⊎ ((b : ℕ) → Holds cs rows raws a b → marked s b ≡ true)
  pub start : (b : ℕ) → Path cs rows raws starts b [] → marked s b ≡ true
