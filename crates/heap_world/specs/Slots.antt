-- Slots of objects by field name or index, with their offsets.
use Rattle.std.specs.Prelude.{ℕ, ◌+◌, ◌*◌, Bool, true, false, List, Option, None, Some, Result, Ok, Err, ℤ, nat_lt}
use Rattle.class_layout.specs.declared.kind.Kind.{Kind}
use Rattle.class_layout.specs.declared.kind.FieldAt.{FieldAt}
use Rattle.class_layout.specs.declared.kind.Value.{Value}
use Rattle.class_layout.specs.declared.kind.Value.TheVariants as value
use Rattle.class_layout.specs.ClassList.{Class, layout_of}
use Rattle.class_layout.specs.Kinds.{is_ref, in_range, first_element, kind_bytes}
use Rattle.class_layout.specs.Layout.{field_named}
use Rattle.heap_world.specs.declared.reply.Refusal.{Refusal}
use Rattle.heap_world.specs.declared.reply.Refusal.TheVariants as refusal
use Rattle.heap_graph.specs.declared.names.Shape.{Shape}
use Rattle.heap_graph.specs.declared.names.Shape.TheVariants.{Instance, Array}
use Rattle.heap_graph.specs.declared.names.Content.{Content}
use Rattle.heap_graph.specs.declared.names.Content.TheVariants as content
use Rattle.heap_graph.specs.declared.names.Held.{Held}
use Rattle.heap_graph.specs.declared.names.Root.{Root}
use Rattle.heap_graph.specs.declared.names.Held.TheVariants as held
use Rattle.heap_graph.specs.Graph.{Object, Graph, object_at, root_at}
use Rattle.heap_graph.specs.Values.{slot_of}

-- what comes next, unless there was a refusal
infixl 10 ◌>>=◌
abbrev pub ◌>>=◌ : {A B : Type 0} → Result A Refusal → (A → Result B Refusal) → Result B Refusal
(Ok x) >>= f = f x
(Err e) >>= f = Err e

abbrev pub field_or_refusal : Option FieldAt → Result FieldAt Refusal
field_or_refusal None = Err refusal.NoField
field_or_refusal (Some at) = Ok at

-- where a field stands: an array has none
abbrev pub slot_named : List Class → Shape → List ℕ → Result FieldAt Refusal
slot_named cs (Instance class) name = field_or_refusal (field_named (layout_of cs class) name)
slot_named cs (Array kind count) name = Err refusal.NoField

abbrev pub element_if : Bool → Kind → ℕ → Result FieldAt Refusal
element_if true kind i = Ok (record { kind = kind; offset = first_element kind + i * kind_bytes kind; weak = false })
element_if false kind i = Err refusal.IndexRange

-- where an element stands: an instance has none
abbrev pub slot_indexed : Shape → ℕ → Result FieldAt Refusal
slot_indexed (Instance class) i = Err refusal.NotArray
slot_indexed (Array kind count) i = element_if (nat_lt i count) kind i

abbrev pub root_or_refusal : Option Root → Result Held Refusal
root_or_refusal None = Err refusal.NoRoot
root_or_refusal (Some r) = Ok r.holds

-- what a root holds
abbrev pub held_by_root : Graph → List ℕ → Result Held Refusal
held_by_root g name = root_or_refusal (root_at g.roots name)

-- the object of a number; each number that a root holds is an object's
abbrev pub object_or_refusal : Option Object → Result Object Refusal
object_or_refusal None = Err refusal.Null
object_or_refusal (Some o) = Ok o

abbrev pub object_held : Graph → Held → Result Object Refusal
object_held g held.Null = Err refusal.Null
object_held g (held.Object n) = object_or_refusal (object_at g n)

-- what a value names, where it names a root that stands
abbrev pub named_by : Graph → Value → Result Held Refusal
named_by g (value.Number z) = Ok held.Null
named_by g value.Null = Ok held.Null
named_by g (value.Root name) = held_by_root g name

abbrev pub number_if_fits : Bool → ℤ → Result Content Refusal
number_if_fits true z = Ok (content.Number z)
number_if_fits false z = Err refusal.Misfit

abbrev pub reference_if : Bool → Held → Result Content Refusal
reference_if true h = Ok (slot_of h)
reference_if false h = Err refusal.Misfit

-- what a value stores in a slot of a kind; h is what the root that it names holds
abbrev pub stored_value : Kind → Value → Held → Result Content Refusal
stored_value kind (value.Number z) h = number_if_fits (in_range kind z) z
stored_value kind value.Null h = reference_if (is_ref kind) held.Null
stored_value kind (value.Root name) h = reference_if (is_ref kind) h

-- a reference slot's reference
abbrev pub only_reference : Bool → Held → Result Held Refusal
only_reference true h = Ok h
only_reference false h = Err refusal.Misfit
