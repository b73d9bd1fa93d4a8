-- The classes of a dump: their identifiers, their load records and their class dumps.
use Rattle.std.specs.Prelude.{ℕ, ◌+◌, ◌*◌, List, [], ◌∷◌, ◌++◌, Option, None, Some, length, map}
use Rattle.model_numbers.specs.Numbers.{class_base, class_bytes}
use Rattle.class_layout.specs.declared.kind.FieldDecl.{FieldDecl}
use Rattle.class_layout.specs.declared.kind.Kind.{Kind}
use Rattle.class_layout.specs.declared.kind.Kind.TheVariants.{Ref, Boolean, Byte, Char, Short, Int, Long}
use Rattle.class_layout.specs.ClassList.{Class, layout_of}
use Rattle.hprof_records.specs.declared.sub_record.SubRecord.{SubRecord}
use Rattle.hprof_records.specs.declared.sub_record.SubRecord.TheVariants.{ClassDump}
use Rattle.hprof_records.specs.declared.top_record.TopRecord.{TopRecord}
use Rattle.hprof_records.specs.declared.top_record.TopRecord.TheVariants.{LoadClass}
use Rattle.hprof_write.specs.Strings.{array_name, string_id}

-- the identifier of a class
abbrev pub class_id : ℕ → ℕ
class_id k = class_base + class_bytes * k

-- the identifier of the class of arrays of references
abbrev pub array_class_id : ℕ
array_class_id = 0x10000020

-- a superclass's identifier; 0 where there is none
abbrev pub parent_id : Option ℕ → ℕ
parent_id None = 0
parent_id (Some p) = class_id p

-- the code of a kind's type
abbrev pub kind_code : Kind → ℕ
kind_code Ref = 2
kind_code Boolean = 4
kind_code Byte = 8
kind_code Char = 5
kind_code Short = 9
kind_code Int = 10
kind_code Long = 11

-- a class was loaded: its serial number, its identifier, its name
abbrev pub load_record : List (List ℕ) → ℕ → ℕ → List ℕ → TopRecord
load_record ss serial id name = LoadClass 0 serial id 0 (string_id ss name) []

-- the load records of classes, the first of which has the number k
abbrev pub loads_from : List (List ℕ) → ℕ → List Class → List TopRecord
loads_from ss k [] = []
loads_from ss k (c ∷ cs) = load_record ss (k + 1) (class_id k) c.name ∷ loads_from ss (k + 1) cs

-- each class is loaded by its number, and then the class of arrays of references
abbrev pub load_records : List (List ℕ) → List Class → List TopRecord
load_records ss cs = loads_from ss 0 cs ++ load_record ss (length cs + 1) array_class_id array_name ∷ []

-- a field of a class dump: its name and its type
abbrev pub field_entry : List (List ℕ) → FieldDecl → ℕ × ℕ
field_entry ss f = (string_id ss f.name, kind_code f.kind)

-- a class with its superclass, the end of an instance's last field, and its own fields in the order of declaration
abbrev pub class_dump : List (List ℕ) → List Class → ℕ → Class → SubRecord
class_dump ss cs k c =
    ClassDump (class_id k) 0 (parent_id c.parent) 0 0 0 0 0 (layout_of cs k).end [] [] (map (field_entry ss) c.fields)

-- the class dumps of some of the classes, the first of which has the number k
abbrev pub class_dumps_from : List (List ℕ) → List Class → ℕ → List Class → List SubRecord
class_dumps_from ss cs k [] = []
class_dumps_from ss cs k (c ∷ more) = class_dump ss cs k c ∷ class_dumps_from ss cs (k + 1) more

-- the class of arrays of references, below class 0
abbrev pub array_class_dump : SubRecord
array_class_dump = ClassDump array_class_id 0 (class_id 0) 0 0 0 0 0 0 [] [] []

-- each class by its number, and then the class of arrays of references
abbrev pub class_dumps : List (List ℕ) → List Class → List SubRecord
class_dumps ss cs = class_dumps_from ss cs 0 cs ++ array_class_dump ∷ []
