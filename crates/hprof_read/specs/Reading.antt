-- Reading fields from left to right: a value and the bytes after it, or what stops the reading. These are words of the
-- code, which private functions are proved to follow; no contract for other crates needs them.
use Rattle.std.specs.Prelude.{◌≡◌, ℕ, zero, suc, ◌*◌, ◌-◌, ◌≤◌, Bool, true, false, nat_eq, nat_le, nat_lt, List, [], ◌∷◌, length, take, drop, Option, Some, None, Result, Ok, Err, if◌then◌else◌}
use Rattle.std.specs.Int.{Width, w8, w16, w32, byte_len, from_be_bytes}
use Rattle.hprof_records.specs.declared.sub_record.SubRecord.{SubRecord}
use Rattle.hprof_records.specs.declared.sub_record.SubRecord.TheVariants as part
use Rattle.hprof_records.specs.declared.top_record.TopRecord.{TopRecord}
use Rattle.hprof_records.specs.declared.top_record.TopRecord.TheVariants as top
use Rattle.hprof_records.specs.Types.{value_bytes}
use Rattle.hprof_records.specs.Formed.{is_one_of, bare_tags, tags_with_one, tags_with_two}
use Rattle.hprof_read.specs.declared.fields.Stop.{Stop}
use Rattle.hprof_read.specs.declared.fields.Stop.TheVariants.{Short, Refused}
use Rattle.hprof_read.specs.declared.fields.Halt.{Halt}
use Rattle.hprof_read.specs.declared.fields.Halt.TheVariants as halts
use Rattle.hprof_read.specs.declared.read_error.ReadError.{ReadError}
use Rattle.hprof_read.specs.declared.read_error.ReadError.TheVariants as errors
use Rattle.hprof_read.specs.declared.parts.Kind.{Kind}
use Rattle.hprof_read.specs.declared.parts.Kind.TheVariants as kinds

abbrev pub Reader : Type 0 → Type 0
Reader A = List ℕ → Result (A × List ℕ) Stop

infixl 10 ◌>>=◌
abbrev pub ◌>>=◌ : {A B : Type 0} → Result A Stop → (A → Result B Stop) → Result B Stop
(Ok x) >>= f = f x
(Err e) >>= f = Err e

-- reading stopped so, unless memory ran out
abbrev pub Fails : {Y : Type 0} → Halt → Result Y Stop → Type 0
Fails halts.OutOfMemory read = Unit {0}
Fails (halts.Stopped s) read = read ≡ Err s

-- what a function returned, seen by view, is what reading gives, unless memory ran out
abbrev pub Gives : {X Y : Type 0} → (X → Y) → Result X Halt → Result Y Stop → Type 0
Gives view (Ok x) read = read ≡ Ok (view x)
Gives view (Err e) read = Fails e read

-- a number of a width, the highest byte first
abbrev pub number : Width → Reader ℕ
number w bytes =
    if nat_lt (length bytes) (byte_len w) then Err Short
    else Ok (from_be_bytes w (take (byte_len w) bytes), drop (byte_len w) bytes)

-- so many bytes as they stand
abbrev pub raw : ℕ → Reader (List ℕ)
raw n bytes = if nat_lt (length bytes) n then Err Short else Ok (take n bytes, drop n bytes)

-- a byte that passes a test
abbrev pub checked : (ℕ → Bool) → Reader ℕ
checked test [] = Err Short
checked test (b ∷ bytes) = if test b then Ok (b, bytes) else Err (Refused (suc (length bytes)))

-- a value, and one behind it that may depend on it
abbrev pub both : {A B : Type 0} → Reader A → (A → Reader B) → Reader (A × B)
both first second bytes = do
  x ← first bytes
  y ← second x.0 x.1
  Ok ((x.0, y.0), y.1)

-- what is made of a value
abbrev pub made : {A B : Type 0} → (A → B) → Reader A → Reader B
made make read bytes = do
  x ← read bytes
  Ok (make x.0, x.1)

-- so many values
abbrev pub times : {A : Type 0} → ℕ → Reader A → Reader (List A)
times zero read bytes = Ok ([], bytes)
times (suc n) read bytes = made (λ x. x.0 ∷ x.1) (both read (λ _. times n read)) bytes

-- a count, and so many values
abbrev pub counted : {A : Type 0} → Width → Reader A → Reader (List A)
counted w read bytes = made (λ x. x.1) (both (number w) (λ n. times n read)) bytes

-- a count, and so many bytes
unfoldable pub counted_bytes : Reader (List ℕ)
counted_bytes bytes = made (λ x. x.1) (both (number w32) raw) bytes

-- three numbers of 4 bytes
unfoldable pub triple : Reader (ℕ × (ℕ × ℕ))
triple bytes = both (number w32) (λ _. both (number w32) (λ _. number w32)) bytes

-- the codes of the types of numbers, and those of all types
abbrev pub is_primitive : ℕ → Bool
is_primitive code = if nat_le 4 code then nat_le code 11 else false

abbrev pub is_type : ℕ → Bool
is_type code = if nat_eq code 2 then true else is_primitive code

-- a type's code, and a value of the type
unfoldable pub typed : Reader (ℕ × List ℕ)
typed bytes = both (checked is_type) (λ code. raw (value_bytes code)) bytes

unfoldable pub constant : Reader (ℕ × ℕ × List ℕ)
constant bytes = made (λ c. (c.0, c.1.0, c.1.1)) (both (number w16) (λ _. typed)) bytes

unfoldable pub static_field : Reader (ℕ × ℕ × List ℕ)
static_field bytes = made (λ c. (c.0, c.1.0, c.1.1)) (both (number w32) (λ _. typed)) bytes

unfoldable pub field_name : Reader (ℕ × ℕ)
field_name bytes = both (number w32) (λ _. checked is_type) bytes

unfoldable pub constants : Reader (List (ℕ × ℕ × List ℕ))
constants bytes = counted w16 constant bytes

unfoldable pub statics : Reader (List (ℕ × ℕ × List ℕ))
statics bytes = counted w16 static_field bytes

unfoldable pub field_names : Reader (List (ℕ × ℕ))
field_names bytes = counted w16 field_name bytes

-- what the tag of a part tells
abbrev pub kind_of : ℕ → Option Kind
kind_of tag =
    if is_one_of bare_tags tag then Some kinds.Bare
    else if is_one_of tags_with_one tag then Some kinds.WithOne
    else if is_one_of tags_with_two tag then Some kinds.WithTwo
    else if nat_eq tag 0xfe then Some kinds.Heap
    else if nat_eq tag 0x20 then Some kinds.Class
    else if nat_eq tag 0x21 then Some kinds.Object
    else if nat_eq tag 0x22 then Some kinds.Array
    else if nat_eq tag 0x23 then Some kinds.Numbers
    else if nat_eq tag 0xc3 then Some kinds.NoNumbers
    else None

-- the fields of each kind of part
unfoldable pub bare_root : ℕ → Reader SubRecord
bare_root tag bytes = made (λ id. part.Root tag id None None) (number w32) bytes

unfoldable pub root_with_one : ℕ → Reader SubRecord
root_with_one tag bytes =
    made (λ x. part.Root tag x.0 (Some x.1) None) (both (number w32) (λ _. number w32)) bytes

unfoldable pub root_with_two : ℕ → Reader SubRecord
root_with_two tag bytes = made (λ x. part.Root tag x.0 (Some x.1.0) (Some x.1.1)) triple bytes

unfoldable pub heap_info : Reader SubRecord
heap_info bytes = made (λ x. part.HeapInfo x.0 x.1) (both (number w32) (λ _. number w32)) bytes

unfoldable pub class_dump : Reader SubRecord
class_dump bytes =
    made (λ x. part.ClassDump x.0.0 x.0.1.0 x.0.1.1 x.1.0.0 x.1.0.1.0 x.1.0.1.1 x.1.1.0.0 x.1.1.0.1.0 x.1.1.0.1.1 x.1.1.1.0 x.1.1.1.1.0 x.1.1.1.1.1)
    (both triple (λ _. both triple (λ _. both triple (λ _. both constants (λ _. both statics (λ _. field_names)))))) bytes

unfoldable pub instance : Reader SubRecord
instance bytes = made (λ x. part.Instance x.0.0 x.0.1.0 x.0.1.1 x.1) (both triple (λ _. counted_bytes)) bytes

unfoldable pub object_array : Reader SubRecord
object_array bytes =
    made (λ x. part.ObjectArray x.0.0 x.0.1.0 x.1.0 x.1.1) (both triple (λ h. both (number w32) (λ _. times h.1.1 (number w32)))) bytes

unfoldable pub primitive_array : Reader SubRecord
primitive_array bytes =
    made (λ x. part.PrimitiveArray x.0.0 x.0.1.0 x.1.0 x.0.1.1 x.1.1)
    (both triple (λ h. both (checked is_primitive) (λ code. raw (h.1.1 * value_bytes code)))) bytes

unfoldable pub no_data : Reader SubRecord
no_data bytes = made (λ x. part.NoData x.0.0 x.0.1.0 x.0.1.1 x.1) (both triple (λ _. checked is_primitive)) bytes

-- the fields of a part, by what its tag tells
abbrev pub part_of_kind : Kind → ℕ → Reader SubRecord
part_of_kind kinds.Bare tag = bare_root tag
part_of_kind kinds.WithOne tag = root_with_one tag
part_of_kind kinds.WithTwo tag = root_with_two tag
part_of_kind kinds.Heap tag = heap_info
part_of_kind kinds.Class tag = class_dump
part_of_kind kinds.Object tag = instance
part_of_kind kinds.Array tag = object_array
part_of_kind kinds.Numbers tag = primitive_array
part_of_kind kinds.NoNumbers tag = no_data

abbrev pub part_behind : Option Kind → ℕ → Reader SubRecord
part_behind (Some kind) tag bytes = part_of_kind kind tag bytes
part_behind None tag bytes = Err (Refused (suc (length bytes)))

-- a part: its tag, and its fields
unfoldable pub part_at : Reader SubRecord
part_at [] = Err Short
part_at (tag ∷ bytes) = part_behind (kind_of tag) tag bytes

-- the fields of the records that have some before bytes that go to the end of the body
unfoldable pub text_head : Reader ℕ
text_head bytes = number w32 bytes

unfoldable pub load_head : Reader ((ℕ × (ℕ × ℕ)) × ℕ)
load_head bytes = both triple (λ _. number w32) bytes

unfoldable pub trace_head : Reader ((ℕ × ℕ) × List ℕ)
trace_head bytes = both (both (number w32) (λ _. number w32)) (λ _. counted w32 (number w32)) bytes

-- a record's tag, its time and its body, whatever that means
unfoldable pub frame : Reader (ℕ × (ℕ × List ℕ))
frame bytes = both (number w8) (λ _. both (number w32) (λ _. counted_bytes)) bytes

-- the records that have fields before bytes that go to the end of the body
unfoldable pub text_of : ℕ → List ℕ → Result TopRecord Stop
text_of time body = do
  x ← text_head body
  Ok (top.Text time x.0 x.1)

unfoldable pub load_of : ℕ → List ℕ → Result TopRecord Stop
load_of time body = do
  x ← load_head body
  Ok (top.LoadClass time x.0.0.0 x.0.0.1.0 x.0.0.1.1 x.0.1 x.1)

unfoldable pub trace_of : ℕ → List ℕ → Result TopRecord Stop
trace_of time body = do
  x ← trace_head body
  Ok (top.Trace time x.0.0.0 x.0.0.1 x.0.1 x.1)

-- the fault, where a record's fields pass its body
abbrev pub past_of : Halt → ℕ → ReadError
past_of halts.OutOfMemory at = errors.OutOfMemory
past_of (halts.Stopped s) at = errors.PastEnd at

-- the fault, where so many bytes are left at a part and the body has this end
abbrev pub part_fault : Halt → ℕ → ℕ → ReadError
part_fault halts.OutOfMemory left end = errors.OutOfMemory
part_fault (halts.Stopped Short) left end = errors.PastEnd (end - left)
part_fault (halts.Stopped (Refused n)) left end =
    if nat_eq n left then errors.UnknownTag (end - left) else errors.BadType (end - n)

-- a refused byte is among these
abbrev pub IsWithin : Halt → ℕ → Type 0
IsWithin halts.OutOfMemory left = Unit {0}
IsWithin (halts.Stopped Short) left = Unit {0}
IsWithin (halts.Stopped (Refused n)) left = n ≤ left

-- a record's fields, or the fault at the record's place
abbrev pub with_place : Result TopRecord Halt → ℕ → Result TopRecord ReadError
with_place (Ok r) at = Ok r
with_place (Err h) at = Err (past_of h at)
