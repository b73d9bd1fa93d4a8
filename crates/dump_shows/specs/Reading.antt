-- What a reader finds in a list of records. It knows the format, and nothing but the list.
use Rattle.std.specs.Prelude.{ℕ, zero, suc, Bool, false, if◌then◌else◌, List, [], ◌∷◌, ◌++◌, Option, None, Some, drop, filter, is_some, length, nat_eq, unwrap_or, ℤ, pos}
use Rattle.std.specs.Int.{w8, w16, w32, w64, cast_signed}
use Rattle.std.specs.List.{find, flat_map}
use Rattle.std.specs.Option.{option_map}
use Rattle.byteorder.specs.Endian.{big_number}
use Rattle.class_layout.specs.Names.{same_name}
use Rattle.hprof_records.specs.declared.sub_record.SubRecord.{SubRecord}
use Rattle.hprof_records.specs.declared.sub_record.SubRecord.TheVariants.{Root, HeapInfo, ClassDump, Instance, ObjectArray, PrimitiveArray, NoData}
use Rattle.hprof_records.specs.declared.top_record.TopRecord.{TopRecord}
use Rattle.hprof_records.specs.declared.top_record.TopRecord.TheVariants.{Text, LoadClass, Segment}
use Rattle.hprof_records.specs.Types.{value_bytes}

-- the string of a record, with its identifier
abbrev pub strings_in : TopRecord → List (ℕ × List ℕ)
strings_in (Text time id bytes) = (id, bytes) ∷ []
strings_in r = []

-- the strings of a dump
abbrev pub strings : List TopRecord → List (ℕ × List ℕ)
strings L = flat_map strings_in L

-- the strings of an identifier
abbrev pub strings_at : List TopRecord → ℕ → List (ℕ × List ℕ)
strings_at L id = filter (λ s. nat_eq s.0 id) (strings L)

-- the strings of a text
abbrev pub strings_with : List TopRecord → List ℕ → List (ℕ × List ℕ)
strings_with L text = filter (λ s. same_name text s.1) (strings L)

-- the text of an identifier: that of the first string which has it
abbrev pub string_of : List TopRecord → ℕ → Option (List ℕ)
string_of L id = option_map (λ s. s.1) (find (λ s. nat_eq s.0 id) (strings L))

-- the text is this one
abbrev pub has_text : List ℕ → Option (List ℕ) → Bool
has_text text None = false
has_text text (Some found) = same_name found text

-- that a class was loaded: the load's serial number, the class's identifier, and that of its name
pub record Load : Type 0 where
  pub serial : ℕ
  pub class : ℕ
  pub name : ℕ

-- what a record says of a class that was loaded
abbrev pub loads_in : TopRecord → List Load
loads_in (LoadClass time serial class stack name rest) = record { serial = serial; class = class; name = name } ∷ []
loads_in r = []

-- the classes that were loaded
abbrev pub loads : List TopRecord → List Load
loads L = flat_map loads_in L

-- the loads of one class
abbrev pub loads_of : List TopRecord → ℕ → List Load
loads_of L class = filter (λ l. nat_eq l.class class) (loads L)

-- the loads of a serial number
abbrev pub loads_numbered : List TopRecord → ℕ → List Load
loads_numbered L serial = filter (λ l. nat_eq l.serial serial) (loads L)

-- a part of a segment in its heap: the heap's number, and the identifier of its name
pub record Dumped : Type 0 where
  pub heap : ℕ
  pub heap_name : ℕ
  pub part : SubRecord

-- the heap that a part tells of the parts behind it
abbrev pub heap_told : SubRecord → Option (ℕ × ℕ)
heap_told (HeapInfo heap name) = Some (heap, name)
heap_told part = None

-- a part that tells a heap is none of a dump's own
abbrev pub part_in : Option (ℕ × ℕ) → ℕ × ℕ → SubRecord → List Dumped
part_in None heap part = record { heap = heap.0; heap_name = heap.1; part = part } ∷ []
part_in (Some told) heap part = []

-- the parts of a segment, each in the heap that was told last before it
abbrev pub parts_from : ℕ × ℕ → List SubRecord → List Dumped
parts_from heap [] = []
parts_from heap (p ∷ ps) = part_in (heap_told p) heap p ++ parts_from (unwrap_or (heap_told p) heap) ps

-- each segment begins in the heap 0, which has no name
abbrev pub parts_in : TopRecord → List Dumped
parts_in (Segment time tag size parts) = parts_from (0, 0) parts
parts_in r = []

-- the parts of all segments
abbrev pub parts : List TopRecord → List Dumped
parts L = flat_map parts_in L

-- a root: its kind, which its tag tells, and the identifier of what it holds
pub record Rooted : Type 0 where
  pub kind : ℕ
  pub id : ℕ

-- the root that a part is
abbrev pub roots_in : SubRecord → List Rooted
roots_in (Root tag id first second) = record { kind = tag; id = id } ∷ []
roots_in part = []

-- the roots, in order
abbrev pub roots : List TopRecord → List Rooted
roots L = flat_map (λ d. roots_in d.part) (parts L)

-- what a class dump says of its class: its identifier, those of its superclass and of the objects that own it, the size of
-- an instance, how many constants and static fields it has, and its own fields, each by its name's identifier and its type's code
pub record ClassDumped : Type 0 where
  pub id : ℕ
  pub parent : ℕ
  pub loader : ℕ
  pub signers : ℕ
  pub domain : ℕ
  pub size : ℕ
  pub constants : ℕ
  pub statics : ℕ
  pub fields : List (ℕ × ℕ)

-- the class dump that a part is
abbrev pub classes_in : SubRecord → List ClassDumped
classes_in (ClassDump id stack parent loader signers domain spare_a spare_b size constants statics fields) =
    record {
      id = id;
      parent = parent;
      loader = loader;
      signers = signers;
      domain = domain;
      size = size;
      constants = length constants;
      statics = length statics;
      fields = fields;
    }
    ∷ []
classes_in part = []

-- the class dumps among parts
abbrev pub classes_of : List Dumped → List ClassDumped
classes_of ds = flat_map (λ d. classes_in d.part) ds

-- the class dumps
abbrev pub class_dumps : List TopRecord → List ClassDumped
class_dumps L = classes_of (parts L)

-- the class dumps of an identifier
abbrev pub class_dumps_of : List TopRecord → ℕ → List ClassDumped
class_dumps_of L id = filter (λ c. nat_eq c.id id) (class_dumps L)

-- a field with its name's text
abbrev pub field_read : List TopRecord → ℕ × ℕ → Option (List ℕ) × ℕ
field_read L f = (string_of L f.0, f.1)

-- the first class dump of an identifier
abbrev pub class_at : List ClassDumped → ℕ → Option ClassDumped
class_at ds id = find (λ c. nat_eq c.id id) ds

-- the fields of a class that was found
abbrev pub own_fields : Option ClassDumped → List (ℕ × ℕ)
own_fields None = []
own_fields (Some c) = c.fields

-- its superclass's identifier; 0 where there is none
abbrev pub superclass : Option ClassDumped → ℕ
superclass None = 0
superclass (Some c) = c.parent

-- the fields of a class, then those of its superclass, and so on up, through at most so many classes
abbrev pub fields_up : List ClassDumped → ℕ → ℕ → List (ℕ × ℕ)
fields_up ds zero id = []
fields_up ds (suc n) id = own_fields (class_at ds id) ++ fields_up ds n (superclass (class_at ds id))

-- the fields of an instance of a class, as the class dumps tell them
abbrev pub fields_of : List TopRecord → ℕ → List (ℕ × ℕ)
fields_of L class = fields_up (class_dumps L) (length (class_dumps L)) class

-- the value that a number of a type stands for: in two's complement for byte, short, int and long, and the number itself for
-- all others
abbrev pub value_for : ℕ → ℕ → ℤ
value_for code n =
    if nat_eq code 8 then cast_signed w8 n
    else if nat_eq code 9 then cast_signed w16 n
    else if nat_eq code 10 then cast_signed w32 n
    else if nat_eq code 11 then cast_signed w64 n
    else pos n

-- the value of a type at the head of these bytes, the highest first
abbrev pub value_read : ℕ → List ℕ → ℤ
value_read code bytes = value_for code (big_number (value_bytes code) bytes)

-- the values of fields, cut from an instance's bytes; each with the identifier of its field's name
abbrev pub values_cut : List (ℕ × ℕ) → List ℕ → List (ℕ × ℤ)
values_cut [] bytes = []
values_cut (f ∷ fs) bytes = (f.0, value_read f.1 bytes) ∷ values_cut fs (drop (value_bytes f.1) bytes)

-- the value of a field, by the field's name
abbrev pub value_named : List TopRecord → List (ℕ × ℤ) → List ℕ → Option ℤ
value_named L values name = option_map (λ v. v.1) (find (λ v. has_text name (string_of L v.0)) values)

-- so many values of a type, cut from an array's bytes
abbrev pub elements_cut : ℕ → ℕ → List ℕ → List ℤ
elements_cut code zero bytes = []
elements_cut code (suc n) bytes = value_read code bytes ∷ elements_cut code n (drop (value_bytes code) bytes)

-- the identifier of an object; other parts are none
abbrev pub object_id : SubRecord → Option ℕ
object_id (Instance id stack class bytes) = Some id
object_id (ObjectArray id stack class items) = Some id
object_id (PrimitiveArray id stack code count bytes) = Some id
object_id (NoData id stack count code) = Some id
object_id part = None

-- the objects among parts
abbrev pub objects_of : List Dumped → List Dumped
objects_of ds = filter (λ d. is_some (object_id d.part)) ds

-- the objects, each in its heap
abbrev pub objects : List TopRecord → List Dumped
objects L = objects_of (parts L)

-- an identifier was found, and it is this one
abbrev pub is_id : ℕ → Option ℕ → Bool
is_id id None = false
is_id id (Some found) = nat_eq found id

-- the objects of an identifier
abbrev pub objects_at : List TopRecord → ℕ → List Dumped
objects_at L id = filter (λ d. is_id id (object_id d.part)) (objects L)
