-- Reading the fields of wide dumps from left to right. These are words of the code, which private functions are proved
-- to follow; no contract for other crates needs them.
use Rattle.std.specs.Prelude.{ℕ, suc, ◌*◌, ◌-◌, Bool, true, false, nat_eq, List, [], ◌∷◌, length, Option, Some, None, Result, Ok, Err, if◌then◌else◌}
use Rattle.std.specs.Int.{Width, w16, w32, w64}
use Rattle.hprof_wide.specs.declared.wide_sub.WideSub.{WideSub}
use Rattle.hprof_wide.specs.declared.wide_sub.WideSub.TheVariants as part
use Rattle.hprof_wide.specs.declared.wide_top.WideTop.{WideTop}
use Rattle.hprof_wide.specs.declared.wide_top.WideTop.TheVariants as top
use Rattle.hprof_records.specs.Types.{value_bytes}
use Rattle.hprof_read.specs.declared.fields.Stop.{Stop}
use Rattle.hprof_read.specs.declared.fields.Stop.TheVariants.{Short, Refused}
use Rattle.hprof_read.specs.declared.fields.Halt.{Halt}
use Rattle.hprof_read.specs.declared.fields.Halt.TheVariants as halts
use Rattle.hprof_read.specs.declared.parts.Kind.{Kind}
use Rattle.hprof_read.specs.declared.parts.Kind.TheVariants as kinds
use Rattle.hprof_read.specs.Reading.{Reader, ◌>>=◌, number, raw, checked, both, made, times, counted, counted_bytes, is_primitive, is_type, kind_of}
use Rattle.hprof_wide.specs.declared.wide_error.WideError.{WideError}
use Rattle.hprof_wide.specs.declared.wide_error.WideError.TheVariants as errors
use Rattle.hprof_wide.specs.declared.ids.IdSize.{IdSize}
use Rattle.hprof_wide.specs.declared.ids.IdSize.TheVariants.{Four, Eight}
use Rattle.hprof_wide.specs.Parts.{wide_value_bytes}

-- the bytes of an identifier
abbrev pub width_of : IdSize → ℕ
width_of Four = 4
width_of Eight = 8

abbrev pub id_number : IdSize → Width
id_number Four = w32
id_number Eight = w64

-- an identifier
unfoldable pub ident : IdSize → Reader ℕ
ident s bytes = number (id_number s) bytes

-- three values
abbrev pub three : Reader ℕ → Reader ℕ → Reader ℕ → Reader (ℕ × (ℕ × ℕ))
three a b c bytes = both a (λ _. both b (λ _. c)) bytes

-- what classes and instances begin with, what arrays begin with, and the other numbers of a class
unfoldable pub object_head : IdSize → Reader (ℕ × (ℕ × ℕ))
object_head s bytes = three (ident s) (number w32) (ident s) bytes

unfoldable pub array_head : IdSize → Reader (ℕ × (ℕ × ℕ))
array_head s bytes = three (ident s) (number w32) (number w32) bytes

unfoldable pub three_ids : IdSize → Reader (ℕ × (ℕ × ℕ))
three_ids s bytes = three (ident s) (ident s) (ident s) bytes

unfoldable pub class_size : IdSize → Reader (ℕ × (ℕ × ℕ))
class_size s bytes = three (ident s) (ident s) (number w32) bytes

-- a type's code, and a value of the type
unfoldable pub typed : IdSize → Reader (ℕ × List ℕ)
typed s bytes = both (checked is_type) (λ code. raw (wide_value_bytes (width_of s) code)) bytes

unfoldable pub constant : IdSize → Reader (ℕ × ℕ × List ℕ)
constant s bytes = made (λ c. (c.0, c.1.0, c.1.1)) (both (number w16) (λ _. typed s)) bytes

unfoldable pub static_field : IdSize → Reader (ℕ × ℕ × List ℕ)
static_field s bytes = made (λ c. (c.0, c.1.0, c.1.1)) (both (ident s) (λ _. typed s)) bytes

unfoldable pub field_name : IdSize → Reader (ℕ × ℕ)
field_name s bytes = both (ident s) (λ _. checked is_type) bytes

unfoldable pub constants : IdSize → Reader (List (ℕ × ℕ × List ℕ))
constants s bytes = counted w16 (constant s) bytes

unfoldable pub statics : IdSize → Reader (List (ℕ × ℕ × List ℕ))
statics s bytes = counted w16 (static_field s) bytes

unfoldable pub field_names : IdSize → Reader (List (ℕ × ℕ))
field_names s bytes = counted w16 (field_name s) bytes

-- the one further field of a root with this tag
abbrev pub further_by : Bool → IdSize → Reader ℕ
further_by true s = ident s
further_by false s = number w32

unfoldable pub further : IdSize → ℕ → Reader ℕ
further s tag bytes = further_by (nat_eq tag 0x01) s bytes

-- the fields of each kind of part
unfoldable pub bare_root : IdSize → ℕ → Reader WideSub
bare_root s tag bytes = made (λ id. part.Root tag id None None) (ident s) bytes

unfoldable pub root_with_one : IdSize → ℕ → Reader WideSub
root_with_one s tag bytes =
    made (λ x. part.Root tag x.0 (Some x.1) None) (both (ident s) (λ _. further s tag)) bytes

unfoldable pub root_with_two : IdSize → ℕ → Reader WideSub
root_with_two s tag bytes = made (λ x. part.Root tag x.0 (Some x.1.0) (Some x.1.1)) (array_head s) bytes

unfoldable pub heap_info : IdSize → Reader WideSub
heap_info s bytes = made (λ x. part.HeapInfo x.0 x.1) (both (number w32) (λ _. ident s)) bytes

unfoldable pub class_dump : IdSize → Reader WideSub
class_dump s bytes =
    made (λ x. part.ClassDump x.0.0 x.0.1.0 x.0.1.1 x.1.0.0 x.1.0.1.0 x.1.0.1.1 x.1.1.0.0 x.1.1.0.1.0 x.1.1.0.1.1 x.1.1.1.0 x.1.1.1.1.0 x.1.1.1.1.1)
    (both (object_head s) (λ _. both (three_ids s) (λ _. both (class_size s) (λ _. both (constants s) (λ _. both (statics s) (λ _. field_names s)))))) bytes

unfoldable pub instance : IdSize → Reader WideSub
instance s bytes = made (λ x. part.Instance x.0.0 x.0.1.0 x.0.1.1 x.1) (both (object_head s) (λ _. counted_bytes)) bytes

unfoldable pub object_array : IdSize → Reader WideSub
object_array s bytes =
    made (λ x. part.ObjectArray x.0.0 x.0.1.0 x.1.0 x.1.1) (both (array_head s) (λ h. both (ident s) (λ _. times h.1.1 (ident s)))) bytes

unfoldable pub primitive_array : IdSize → Reader WideSub
primitive_array s bytes =
    made (λ x. part.PrimitiveArray x.0.0 x.0.1.0 x.1.0 x.0.1.1 x.1.1)
    (both (array_head s) (λ h. both (checked is_primitive) (λ code. raw (h.1.1 * value_bytes code)))) bytes

unfoldable pub no_data : IdSize → Reader WideSub
no_data s bytes = made (λ x. part.NoData x.0.0 x.0.1.0 x.0.1.1 x.1) (both (array_head s) (λ _. checked is_primitive)) bytes

-- the fields of a part, by what its tag tells
abbrev pub part_of_kind : Kind → IdSize → ℕ → Reader WideSub
part_of_kind kinds.Bare s tag = bare_root s tag
part_of_kind kinds.WithOne s tag = root_with_one s tag
part_of_kind kinds.WithTwo s tag = root_with_two s tag
part_of_kind kinds.Heap s tag = heap_info s
part_of_kind kinds.Class s tag = class_dump s
part_of_kind kinds.Object s tag = instance s
part_of_kind kinds.Array s tag = object_array s
part_of_kind kinds.Numbers s tag = primitive_array s
part_of_kind kinds.NoNumbers s tag = no_data s

abbrev pub part_behind : IdSize → Option Kind → ℕ → Reader WideSub
part_behind s (Some kind) tag bytes = part_of_kind kind s tag bytes
part_behind s None tag bytes = Err (Refused (suc (length bytes)))

-- a part: its tag, and its fields
unfoldable pub part_at : IdSize → Reader WideSub
part_at s [] = Err Short
part_at s (tag ∷ bytes) = part_behind s (kind_of tag) tag bytes

-- the fields of the records that have some before bytes that go to the end of the body
unfoldable pub text_head : IdSize → Reader ℕ
text_head s bytes = ident s bytes

unfoldable pub load_head : IdSize → Reader ((ℕ × (ℕ × ℕ)) × ℕ)
load_head s bytes = both (three (number w32) (ident s) (number w32)) (λ _. ident s) bytes

unfoldable pub trace_head : IdSize → Reader ((ℕ × ℕ) × List ℕ)
trace_head s bytes = both (both (number w32) (λ _. number w32)) (λ _. counted w32 (ident s)) bytes

-- the records that have fields before bytes that go to the end of the body
unfoldable pub text_of : IdSize → ℕ → List ℕ → Result WideTop Stop
text_of s time body = do
  x ← text_head s body
  Ok (top.Text time x.0 x.1)

unfoldable pub load_of : IdSize → ℕ → List ℕ → Result WideTop Stop
load_of s time body = do
  x ← load_head s body
  Ok (top.LoadClass time x.0.0.0 x.0.0.1.0 x.0.0.1.1 x.0.1 x.1)

unfoldable pub trace_of : IdSize → ℕ → List ℕ → Result WideTop Stop
trace_of s time body = do
  x ← trace_head s body
  Ok (top.Trace time x.0.0.0 x.0.0.1 x.0.1 x.1)

-- the fault, where a record's fields pass its body
abbrev pub past_of : Halt → ℕ → WideError
past_of halts.OutOfMemory at = errors.OutOfMemory
past_of (halts.Stopped s) at = errors.PastEnd at

-- the fault, where so many bytes are left at a part and the body has this end
abbrev pub part_fault : Halt → ℕ → ℕ → WideError
part_fault halts.OutOfMemory left end = errors.OutOfMemory
part_fault (halts.Stopped Short) left end = errors.PastEnd (end - left)
part_fault (halts.Stopped (Refused n)) left end =
    if nat_eq n left then errors.UnknownTag (end - left) else errors.BadType (end - n)

-- a record's fields, or the fault at the record's place
abbrev pub with_place : Result WideTop Halt → ℕ → Result WideTop WideError
with_place (Ok r) at = Ok r
with_place (Err h) at = Err (past_of h at)
