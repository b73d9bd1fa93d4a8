-- The objects of a dump, and its roots.
use Rattle.std.specs.Prelude.{◌≡◌, ℕ, zero, suc, Bool, true, false, List, [], ◌∷◌, ◌++◌, Option, None, Some, map, slice_get, unwrap_or, ℤ}
use Rattle.std.specs.Int.{w64, cast_unsigned}
use Rattle.std.specs.List.{concat, flat_map}
use Rattle.class_layout.specs.declared.kind.FieldAt.{FieldAt}
use Rattle.class_layout.specs.declared.kind.Kind.{Kind}
use Rattle.class_layout.specs.declared.kind.Kind.TheVariants.{Ref}
use Rattle.class_layout.specs.ClassList.{Class, layout_of, own_fields_of}
use Rattle.class_layout.specs.Kinds.{is_ref, kind_bytes}
use Rattle.class_layout.specs.Layout.{Laid, field_named}
use Rattle.class_layout.specs.Placing.{IsIn}
use Rattle.heap_graph.specs.declared.names.Held.{Held}
use Rattle.heap_graph.specs.declared.names.Held.TheVariants as held
use Rattle.heap_graph.specs.declared.names.Root.{Root}
use Rattle.heap_graph.specs.declared.names.Shape.{Shape}
use Rattle.heap_graph.specs.declared.names.Shape.TheVariants.{Instance, Array}
use Rattle.heap_graph.specs.Graph.{Graph, Object}
use Rattle.hprof_records.specs.declared.sub_record.SubRecord.{SubRecord}
use Rattle.hprof_records.specs.declared.sub_record.SubRecord.TheVariants as part
use Rattle.hprof_records.specs.Fields.{field}
use Rattle.hprof_records.specs.Parts.{word}
use Rattle.heap_graph.specs.Places.{elements_from, places_of}
use Rattle.object_view.specs.Seen.{value_in}
use Rattle.hprof_write.specs.Classes.{array_class_id, class_id, kind_code}

-- where no field is found
abbrev pub no_place : FieldAt
no_place = record { kind = Ref; offset = 0; weak = false }

-- the place of the field of a name
abbrev pub place_named : Laid → List ℕ → FieldAt
place_named laid name = unwrap_or (field_named laid name) no_place

-- the places of the fields that a class declares itself, in the order of declaration
abbrev pub own_places : List Class → ℕ → List FieldAt
own_places cs k = map (λ f. place_named (layout_of cs k) f.name) (own_fields_of cs k)

-- a class's superclass
abbrev pub parent_of : List Class → ℕ → Option ℕ
parent_of cs k = unwrap_or (slice_get (map (λ c. c.parent) cs) k) None

-- the places of a class's own fields, then those of its superclass's, and so on up, at most so many classes
abbrev pub places_up : List Class → ℕ → Option ℕ → List FieldAt
places_up cs zero class = []
places_up cs (suc n) None = []
places_up cs (suc n) (Some k) = own_places cs k ++ places_up cs n (parent_of cs k)

-- the places of an instance's values, in the order of a dump. A superclass has a smaller number than its class
abbrev pub dumped_places : List Class → ℕ → List FieldAt
dumped_places cs k = places_up cs (suc k) (Some k)

-- a value as a number of 64 bits, in two's complement; of a reference it is the address
abbrev pub bits_of : ℤ → ℕ
bits_of z = cast_unsigned w64 z

-- a value's bytes: as many as its kind has, the highest first
abbrev pub value_bytes : Kind → ℤ → List ℕ
value_bytes kind z = field (kind_bytes kind) (bits_of z)

-- the bytes of an object's values at these places
abbrev pub values_bytes : (ℕ → ℕ) → Object → List FieldAt → List ℕ
values_bytes table o places = flat_map (λ p. value_bytes p.kind (value_in table o p)) places

-- the references of an array
abbrev pub items_of : (ℕ → ℕ) → Object → ℕ → List ℕ
items_of table o count = map (λ p. bits_of (value_in table o p)) (elements_from Ref 0 count)

-- an array of references, or of numbers
abbrev pub array_part : Bool → (ℕ → ℕ) → Object → Kind → ℕ → SubRecord
array_part true table o kind count = part.ObjectArray (table o.number) 0 array_class_id (items_of table o count)
array_part false table o kind count =
    part.PrimitiveArray (table o.number) 0 (kind_code kind) count (values_bytes table o (elements_from kind 0 count))

-- the bytes of an array before its elements
abbrev pub array_head_if : Bool → ℕ → Kind → ℕ → List ℕ
array_head_if true at kind count = concat (field 1 0x22 ∷ word at ∷ word 0 ∷ word count ∷ word array_class_id ∷ [])
array_head_if false at kind count = concat (field 1 0x23 ∷ word at ∷ word 0 ∷ word count ∷ field 1 (kind_code kind) ∷ [])

abbrev pub array_head : ℕ → Kind → ℕ → List ℕ
array_head at kind count = array_head_if (is_ref kind) at kind count

-- an object of the graph stands at the address, and values of it stand at these places
pub record HasValues (g : Graph) (table : ℕ → ℕ) (at : ℕ) (places : List FieldAt) (o : Object) : Type 0 where
  pub is_in : IsIn o g.objects
  pub at_is : table o.number ≡ at
  pub values : (p : FieldAt) → IsIn p places → IsIn p (places_of g.classes o.shape)

-- an object of a shape, at its address
abbrev pub shape_part : List Class → (ℕ → ℕ) → Object → Shape → SubRecord
shape_part cs table o (Instance class) =
    part.Instance (table o.number) 0 (class_id class) (values_bytes table o (dumped_places cs class))
shape_part cs table o (Array kind count) = array_part (is_ref kind) table o kind count

-- an object, at its address
abbrev pub object_part : List Class → (ℕ → ℕ) → Object → SubRecord
object_part cs table o = shape_part cs table o o.shape

-- what a root holds; nothing for null
abbrev pub held_parts : (ℕ → ℕ) → Held → List SubRecord
held_parts table held.Null = []
held_parts table (held.Object n) = part.Root 0xff (table n) None None ∷ []

-- the roots that aren't null, in order
abbrev pub root_parts : (ℕ → ℕ) → List Root → List SubRecord
root_parts table roots = flat_map (λ r. held_parts table r.holds) roots
