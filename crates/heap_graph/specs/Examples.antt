-- Small graphs to compute with.
use Rattle.std.specs.Prelude.{ℕ, zero, suc, ◌+◌, Bool, true, List, [], ◌∷◌, ◌++◌, Some, codes}
use Rattle.class_layout.specs.declared.kind.Kind.TheVariants.{Ref, Byte, Int}
use Rattle.class_layout.specs.declared.kind.Kind.{Kind}
use Rattle.class_layout.specs.ClassList.{Class, builtin_classes}
use Rattle.heap_graph.specs.declared.names.Shape.{Shape}
use Rattle.heap_graph.specs.declared.names.Shape.TheVariants.{Array}
use Rattle.heap_graph.specs.declared.names.Place.TheVariants.{Young}
use Rattle.heap_graph.specs.declared.names.Stored.{Stored}
use Rattle.heap_graph.specs.declared.names.Root.{Root}
use Rattle.heap_graph.specs.declared.names.Content.{Content}
use Rattle.heap_graph.specs.declared.names.Held.TheVariants as held
use Rattle.heap_graph.specs.Graph.{Object, Graph}

-- class 2 has one reference, class 3 has one int
abbrev pub example_classes : List Class
example_classes =
    builtin_classes
    ++ record { name = codes "N"; parent = Some 0; fields = record { name = codes "n"; kind = Ref } ∷ [] }
    ∷ record { name = codes "P"; parent = Some 0; fields = record { name = codes "x"; kind = Int } ∷ [] }
    ∷ []

-- a sealed process that may use one region
abbrev pub example : ℕ → List Root → List Object → Graph
example next roots objects =
    record { classes = example_classes; next = next; budget = 1; sealed = true; dumps = 0; roots = roots; objects = objects }

abbrev pub young : ℕ → Shape → List Stored → Object
young number shape slots = record { number = number; shape = shape; slots = slots; place = Young }

abbrev pub root_to : List ℕ → ℕ → Root
root_to name number = record { name = name; holds = held.Object number }

-- so many young arrays of bytes, from a number on. Nothing was stored to their elements
abbrev pub arrays : ℕ → ℕ → ℕ → List Object
arrays bytes number zero = []
arrays bytes number (suc count) = young number (Array Byte bytes) [] ∷ arrays bytes (number + 1) count

-- a root to each of so many objects, from a number on
abbrev pub roots_from : ℕ → ℕ → List Root
roots_from number zero = []
roots_from number (suc count) = root_to ((96 + number) ∷ []) number ∷ roots_from (number + 1) count

-- the one slot of an object: strong or weak, at offset 8
abbrev pub only_slot : Kind → Bool → Content → List Stored
only_slot kind weak value = record { at = record { kind = kind; offset = 8; weak = weak }; value = value } ∷ []
