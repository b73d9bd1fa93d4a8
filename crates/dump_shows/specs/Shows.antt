-- What a dump of a graph shows to its reader.
use Rattle.std.specs.Prelude.{◌≡◌, ◌↔◌, ℕ, ◌*◌, ◌<◌, ◌≤◌, ◌⊎◌, false, IsTrue, List, [], ◌∷◌, ◌++◌, Option, None, Some, codes, length, map, slice_get, pos}
use Rattle.std.specs.List.{sum_by}
use Rattle.std.specs.Option.{option_map}
use Rattle.class_layout.specs.declared.kind.FieldAt.{FieldAt}
use Rattle.class_layout.specs.declared.kind.FieldDecl.{FieldDecl}
use Rattle.class_layout.specs.declared.kind.Kind.{Kind}
use Rattle.class_layout.specs.declared.kind.Kind.TheVariants as kind
use Rattle.class_layout.specs.ClassList.{Class, IsClassList, layout_of}
use Rattle.class_layout.specs.Kinds.{is_ref}
use Rattle.class_layout.specs.Layout.{field_named}
use Rattle.class_layout.specs.Placing.{IsIn}
use Rattle.heap_graph.specs.declared.names.Place.{Place}
use Rattle.heap_graph.specs.declared.names.Place.TheVariants.{Image, Zygote, Young, Large, Promoted}
use Rattle.heap_graph.specs.declared.names.Shape.{Shape}
use Rattle.heap_graph.specs.declared.names.Shape.TheVariants as shape
use Rattle.heap_graph.specs.Graph.{Graph, Object}
use Rattle.heap_graph.specs.Values.{held_targets}
use Rattle.hprof_records.specs.declared.sub_record.SubRecord.{SubRecord}
use Rattle.hprof_records.specs.declared.sub_record.SubRecord.TheVariants as part
use Rattle.hprof_records.specs.declared.top_record.TopRecord.{TopRecord}
use Rattle.hprof_records.specs.declared.type_code.TypeCode.{TypeCode}
use Rattle.hprof_records.specs.declared.type_code.TypeCode.TheVariants as code
use Rattle.hprof_records.specs.Types.{code_of, value_bytes}
use Rattle.heap_graph.specs.Places.{places_of}
use Rattle.object_view.specs.Seen.{value_in, IsShown}
use Rattle.object_view.specs.Values.{is_value}
use Rattle.object_view.specs.Words.{array_word, class_word}
use Rattle.dump_shows.specs.Reading.{ClassDumped, Dumped, Load, Rooted, class_dumps, class_dumps_of, classes_of, elements_cut, field_read, fields_of, loads, loads_numbered, loads_of, object_id, objects, objects_at, objects_of, parts, roots, string_of, strings, strings_at, strings_with, value_named, values_cut}

-- what a view says of its graph and table: it is shown, its classes are a list of classes, and each value is one of its kind
pub record IsSeen (g : Graph) (table : ℕ → ℕ) : Type 0 where
  pub shown : IsShown g table
  pub classes : IsClassList g.classes
  pub values : (o : Object) (p : FieldAt) → IsIn o g.objects → IsIn p (places_of g.classes o.shape) → IsTrue (is_value p.kind (value_in table o p))

-- the type of a kind
abbrev pub type_of : Kind → TypeCode
type_of kind.Ref = code.Ref
type_of kind.Boolean = code.Boolean
type_of kind.Byte = code.Byte
type_of kind.Char = code.Char
type_of kind.Short = code.Short
type_of kind.Int = code.Int
type_of kind.Long = code.Long

-- and the code of that type
abbrev pub type_code : Kind → ℕ
type_code kind = code_of (type_of kind)

-- the address of a class's object: it stands in the class word of each instance
abbrev pub class_address : ℕ → ℕ
class_address k = class_word (shape.Instance k)

-- the address of the class of arrays of references
abbrev pub array_address : ℕ
array_address = array_word kind.Ref

-- its name
abbrev pub array_text : List ℕ
array_text = codes "java.lang.Object[]"

-- the address of a superclass; null where there is none
abbrev pub super_address : Option ℕ → ℕ
super_address None = 0
super_address (Some p) = class_address p

-- the number of the heap of an object's space: a letter
abbrev pub heap_code : Place → ℕ
heap_code (Image spot) = 73
heap_code (Zygote spot) = 90
heap_code Young = 65
heap_code Large = 65
heap_code Promoted = 90

-- the name of that heap
abbrev pub heap_text : Place → List ℕ
heap_text (Image spot) = codes "image"
heap_text (Zygote spot) = codes "zygote"
heap_text Young = codes "app"
heap_text Large = codes "app"
heap_text Promoted = codes "zygote"

-- a declared field, as a reader should find it: its name, and the code of its type
abbrev pub field_declared : FieldDecl → Option (List ℕ) × ℕ
field_declared f = (Some f.name, type_code f.kind)

-- a class is loaded once and dumped once, under its address: with its name, its superclass, the size of an instance, and its
-- own fields by their names and types, in the order of declaration. Nothing owns it, and it has no constants and no static
-- fields
pub record ShowsClass (L : List TopRecord) (id : ℕ) (name : List ℕ) (parent size : ℕ) (fields : List FieldDecl) : Type 0 where
  pub load : Load
  pub loaded_once : loads_of L id ≡ load ∷ []
  pub name_is : string_of L load.name ≡ Some name
  pub dump : ClassDumped
  pub dumped_once : class_dumps_of L id ≡ dump ∷ []
  pub parent_is : dump.parent ≡ parent
  pub size_is : dump.size ≡ size
  pub fields_are : map (field_read L) dump.fields ≡ map field_declared fields
  pub no_loader : dump.loader ≡ 0
  pub no_signers : dump.signers ≡ 0
  pub no_domain : dump.domain ≡ 0
  pub no_constants : dump.constants ≡ 0
  pub no_statics : dump.statics ≡ 0

-- the texts that stand in each dump: the name of the class of arrays of references, and the heaps' names
abbrev pub fixed_texts : List (List ℕ)
fixed_texts = array_text ∷ codes "app" ∷ codes "image" ∷ codes "zygote" ∷ []

-- one of them, or the name of a class or of a field
abbrev pub IsText : Graph → List ℕ → Type 0
IsText g text = IsIn text fixed_texts ⊎ ((c : Class) × IsIn c g.classes × IsIn text (c.name ∷ map (λ f. f.name) c.fields))

-- an address is that of a class of the graph, or of the class of arrays of references
abbrev pub IsClassAddress : Graph → ℕ → Type 0
IsClassAddress g id = (id ≡ array_address) ⊎ ((k : ℕ) × (k < length g.classes) × (id ≡ class_address k))

-- an instance is shown under the address of its class, and its bytes, cut by the class dumps from its class upwards, have
-- under each field's name the value that the object has there, and nothing besides
pub record ShowsFields (L : List TopRecord) (g : Graph) (table : ℕ → ℕ) (o : Object) (k class : ℕ) (bytes : List ℕ) : Type 0 where
  pub class_is : class ≡ class_address k
  pub values : (name : List ℕ) → value_named L (values_cut (fields_of L class) bytes) name ≡ option_map (value_in table o) (field_named (layout_of g.classes k) name)
  pub each_once : length (fields_of L class) ≡ length (layout_of g.classes k).fields
  pub whole : length bytes ≡ sum_by (λ f. value_bytes f.1) (fields_of L class)

-- an array of references has the address of their class, and its items are the object's elements, in order
pub record ShowsItems (cs : List Class) (table : ℕ → ℕ) (o : Object) (of : Kind) (class : ℕ) (items : List ℕ) : Type 0 where
  pub kind_is : of ≡ kind.Ref
  pub class_is : class ≡ array_address
  pub elements : map pos items ≡ map (value_in table o) (places_of cs o.shape)

-- an array of numbers has their type and their count, and its bytes are the object's elements, in order, and nothing besides
pub record ShowsNumbers (cs : List Class) (table : ℕ → ℕ) (o : Object) (of : Kind) (count code length_told : ℕ) (bytes : List ℕ) : Type 0 where
  pub kind_is : is_ref of ≡ false
  pub code_is : code ≡ type_code of
  pub count_is : length_told ≡ count
  pub elements : elements_cut code length_told bytes ≡ map (value_in table o) (places_of cs o.shape)
  pub whole : length bytes ≡ length_told * value_bytes code

-- a part shows what an object holds: an instance's fields, or an array's elements
abbrev pub ShowsContent : List TopRecord → Graph → (ℕ → ℕ) → Object → Shape → SubRecord → Type 0
ShowsContent L g table o (shape.Instance k) (part.Instance id stack class bytes) = ShowsFields L g table o k class bytes
ShowsContent L g table o (shape.Array of count) (part.ObjectArray id stack class items) = ShowsItems g.classes table o of class items
ShowsContent L g table o (shape.Array of count) (part.PrimitiveArray id stack code told bytes) = ShowsNumbers g.classes table o of count code told bytes
ShowsContent L g table o other part = ⊥

-- an object is dumped once, under its address, in the heap of its space, with what it holds
pub record ShowsObject (L : List TopRecord) (g : Graph) (table : ℕ → ℕ) (o : Object) : Type 0 where
  pub dump : Dumped
  pub dumped_once : objects_at L (table o.number) ≡ dump ∷ []
  pub heap_is : dump.heap ≡ heap_code o.place
  pub heap_name_is : string_of L dump.heap_name ≡ Some (heap_text o.place)
  pub content : ShowsContent L g table o o.shape dump.part

-- a root of unknown kind, at the address of the object that it holds
abbrev pub root_at : (ℕ → ℕ) → ℕ → Rooted
root_at table n = record { kind = 0xff; id = table n }

-- who reads a list once, from its front to its end, knows each name before the first part of a segment, and each class
-- before the first object
pub record IsReadOnce (L : List TopRecord) : Type 0 where
  pub front : List TopRecord
  pub back : List TopRecord
  pub records_are : L ≡ front ++ back
  pub parts_later : parts front ≡ []
  pub strings_first : strings back ≡ []
  pub loads_first : loads back ≡ []
  pub early : List Dumped
  pub late : List Dumped
  pub parts_are : parts L ≡ early ++ late
  pub objects_later : objects_of early ≡ []
  pub classes_first : classes_of late ≡ []

-- a list of records shows a graph, whose objects stand where the table says
pub record Shows (L : List TopRecord) (g : Graph) (table : ℕ → ℕ) : Type 0 where
  -- no identifier has two strings, and no text has
  pub ids_once : (id : ℕ) → length (strings_at L id) ≤ 1
  pub texts_once : (text : List ℕ) → length (strings_with L text) ≤ 1
  -- the strings are the names of classes, fields and heaps
  pub texts_are : (text : List ℕ) → IsText g text ↔ IsIn text (map (λ s. s.1) (strings L))
  -- each class of the graph
  pub each_class : (k : ℕ) (c : Class) → slice_get g.classes k ≡ Some c
      → ShowsClass L (class_address k) c.name (super_address c.parent) (layout_of g.classes k).end c.fields
  -- the class of arrays of references, below class 0
  pub array_class : ShowsClass L array_address array_text (class_address 0) 0 []
  -- no serial number has two loads
  pub serials_once : (serial : ℕ) → length (loads_numbered L serial) ≤ 1
  -- no other class is loaded or dumped
  pub no_other_loads : (l : Load) → IsIn l (loads L) → IsClassAddress g l.class
  pub no_other_classes : (c : ClassDumped) → IsIn c (class_dumps L) → IsClassAddress g c.id
  -- each object of the graph
  pub each_object : (o : Object) → IsIn o g.objects → ShowsObject L g table o
  -- all objects of the dump are those of the graph, in its order
  pub objects_are : map (λ d. object_id d.part) (objects L) ≡ map (λ o. Some (table o.number)) g.objects
  -- the address 0 is null: no object has it, and no class
  pub null_is_no_object : objects_at L 0 ≡ []
  pub null_is_no_class : class_dumps_of L 0 ≡ []
  -- the roots that hold an object, in the graph's order
  pub roots_are : roots L ≡ map (root_at table) (held_targets (map (λ r. r.holds) g.roots))
  -- names before parts, and classes before objects
  pub in_order : IsReadOnce L
