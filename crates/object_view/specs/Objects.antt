-- What stands in memory for an object.
use Rattle.std.specs.Prelude.{◌≡◌, ⊤, ℕ, ◌+◌, ◌%◌, ◌^◌, ◌<◌, ◌≤◌, Bool, true, false, if◌then◌else◌, ◌&&◌, List, length, Option, Some, None, nat_le, nat_lt, slice_get, ℤ, pos}
use Rattle.std.specs.List.{list_any, AllByRecursion}
use Rattle.class_layout.specs.declared.kind.Kind.{Kind}
use Rattle.class_layout.specs.declared.kind.FieldAt.{FieldAt}
use Rattle.class_layout.specs.ClassList.{Class, layout_of}
use Rattle.class_layout.specs.Kinds.{kind_bytes, is_ref}
use Rattle.class_layout.specs.Layout.{references}
use Rattle.class_layout.specs.Placing.{IsIn}
use Rattle.cow_pages.specs.View.{View, u32_at}
use Rattle.heap_graph.specs.declared.names.Shape.{Shape}
use Rattle.heap_graph.specs.declared.names.Shape.TheVariants.{Instance, Array}
use Rattle.heap_graph.specs.Places.{element, places_of}
use Rattle.heap_graph.specs.Sizes.{size_in}
use Rattle.object_view.specs.declared.names.Header.{Header}
use Rattle.object_view.specs.declared.names.Slot.{Slot}
use Rattle.object_view.specs.Values.{number_at, number_of}
use Rattle.object_view.specs.Words.{class_word, lock_word, head_end, HasLength, IsHeader}

-- so many bytes from the address on are mapped, and have addresses of 32 bits
pub record IsSpace (v : View) (at size : ℕ) : Type 0 where
  pub below : at + size ≤ 2 ^ 32
  pub mapped : (i : ℕ) → i < size → v.mapped (at + i) ≡ true

-- the byte at an offset is one of a value's
abbrev pub is_in_value : List FieldAt → ℕ → Bool
is_in_value places i = list_any (λ p. nat_le p.offset i && nat_lt i (p.offset + kind_bytes p.kind)) places

-- an object of the shape, with this header and these values: each value stands at its place, and all else is 0 up to the rounded size
pub record Stands (cs : List Class) (v : View) (at : ℕ) (shape : Shape) (header : Header) (values : FieldAt → ℤ) : Type 0 where
  pub aligned : at % 8 ≡ 0
  pub space : IsSpace v at (size_in cs shape)
  pub header_fits : IsHeader header
  pub class_is : u32_at v at ≡ class_word shape
  pub lock_is : u32_at v (at + 4) ≡ lock_word header
  pub length_is : HasLength v at shape
  pub numbers : AllByRecursion (λ p. number_at v p.kind (at + p.offset) ≡ number_of p.kind (values p)) (places_of cs shape)
  pub zeros : (i : ℕ) → head_end shape ≤ i → i < size_in cs shape → is_in_value (places_of cs shape) i ≡ false → v.byte (at + i) ≡ 0

-- the class word of the shape stands at the address, and the length of an array
pub record HasShape (v : View) (at : ℕ) (shape : Shape) : Type 0 where
  pub aligned : at % 8 ≡ 0
  pub space : IsSpace v at (head_end shape)
  pub class_is : u32_at v at ≡ class_word shape
  pub length_is : HasLength v at shape

-- the lock word of the header stands at the address of the object
pub record HasHeader (v : View) (at : ℕ) (header : Header) : Type 0 where
  pub aligned : at % 8 ≡ 0
  pub space : IsSpace v at 8
  pub header_fits : IsHeader header
  pub lock_is : u32_at v (at + 4) ≡ lock_word header

-- the words of an object stand at the address, and zeros behind them up to so many bytes
pub record HasWords (v : View) (at : ℕ) (shape : Shape) (header : Header) (bytes : ℕ) : Type 0 where
  pub class_is : u32_at v at ≡ class_word shape
  pub lock_is : u32_at v (at + 4) ≡ lock_word header
  pub length_is : HasLength v at shape
  pub zeros : (i : ℕ) → head_end shape ≤ i → i < bytes → v.byte (at + i) ≡ 0

-- the class of the shape is there
abbrev pub IsKnown : List Class → Shape → Type 0
IsKnown cs (Instance class) = class < length cs
IsKnown cs (Array kind count) = ⊤

-- an object of a class that is there, or an array, takes its space at the address
pub record IsObject (cs : List Class) (v : View) (at : ℕ) (shape : Shape) : Type 0 where
  pub has_shape : HasShape v at shape
  pub known : IsKnown cs shape
  pub space : IsSpace v at (size_in cs shape)

-- the place is one of the shape's, for a value of the kind at the offset
pub record IsPlace (cs : List Class) (shape : Shape) (kind : Kind) (offset : ℕ) (place : FieldAt) : Type 0 where
  pub is_in : IsIn place (places_of cs shape)
  pub kind_is : place.kind ≡ kind
  pub offset_is : place.offset ≡ offset

-- the place, where the test holds
abbrev pub place_if : Bool → FieldAt → Option FieldAt
place_if true place = Some place
place_if false place = None

-- the k-th reference of a shape, from 0 by rising offset
abbrev pub reference_place : List Class → Shape → ℕ → Option FieldAt
reference_place cs (Instance class) k = slice_get (references (layout_of cs class)) k
reference_place cs (Array kind count) k = place_if (is_ref kind && nat_lt k count) (element kind k)

-- how many references a shape has
abbrev pub reference_count : List Class → Shape → ℕ
reference_count cs (Instance class) = length (references (layout_of cs class))
reference_count cs (Array kind count) = if is_ref kind then count else 0

-- the slot of a place in an object, and what it holds
abbrev pub slot_at : View → ℕ → FieldAt → Slot
slot_at v at place = record { at = record { 0 = at + place.offset }; target = record { 0 = u32_at v (at + place.offset) }; weak = place.weak }

-- the slot is that of an object's place: it stands there, it holds the object's value there, and it is weak as the place is
pub record IsSlotOf (at : ℕ) (place : FieldAt) (values : FieldAt → ℤ) (slot : Slot) : Type 0 where
  pub at_is : slot.at.0 ≡ at + place.offset
  pub target_is : pos slot.target.0 ≡ values place
  pub weak_is : slot.weak ≡ place.weak
