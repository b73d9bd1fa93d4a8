-- The places of values in an object.
use Rattle.std.specs.Prelude.{ℕ, zero, suc, ◌+◌, ◌*◌, false, List, [], ◌∷◌, map}
use Rattle.class_layout.specs.declared.kind.Kind.{Kind}
use Rattle.class_layout.specs.declared.kind.FieldAt.{FieldAt}
use Rattle.class_layout.specs.ClassList.{Class, layout_of}
use Rattle.class_layout.specs.Kinds.{first_element, kind_bytes}
use Rattle.heap_graph.specs.declared.names.Shape.{Shape}
use Rattle.heap_graph.specs.declared.names.Shape.TheVariants.{Instance, Array}

-- the place of an element
abbrev pub element : Kind → ℕ → FieldAt
element kind i = record { kind = kind; offset = first_element kind + i * kind_bytes kind; weak = false }

-- the places of so many elements, from an index on
abbrev pub elements_from : Kind → ℕ → ℕ → List FieldAt
elements_from kind i zero = []
elements_from kind i (suc n) = element kind i ∷ elements_from kind (i + 1) n

-- the places of an object's values, by rising offset: the fields of its class and of the superclasses, or the elements
abbrev pub places_of : List Class → Shape → List FieldAt
places_of cs (Instance class) = map (λ p. p.at) (layout_of cs class).fields
places_of cs (Array kind count) = elements_from kind 0 count
