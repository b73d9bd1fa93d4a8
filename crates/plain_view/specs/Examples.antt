-- A small graph, and what a walk over it gives.
use Rattle.std.specs.Prelude.{ℕ, true, false, List, [], ◌∷◌}
use Rattle.class_layout.specs.declared.kind.Kind.TheVariants.{Ref, Int, Byte}
use Rattle.class_layout.specs.declared.kind.FieldAt.{FieldAt}
use Rattle.class_layout.specs.ClassList.{builtin_classes}
use Rattle.heap_graph.specs.declared.names.Content.TheVariants as content
use Rattle.heap_graph.specs.declared.names.Place.{Place}
use Rattle.heap_graph.specs.declared.names.Place.TheVariants as place
use Rattle.heap_graph.specs.declared.names.Shape.{Shape}
use Rattle.heap_graph.specs.declared.names.Shape.TheVariants.{Array}
use Rattle.heap_graph.specs.Graph.{Graph, Object}
use Rattle.object_view.specs.declared.names.Heap.{Heap}
use Rattle.object_view.specs.declared.names.Heap.TheVariants as heap
use Rattle.object_view.specs.declared.heap_view.Seen.{Seen}

-- 24 bytes, and 12,288
abbrev pub three_ints : Shape
three_ints = Array Int 3

abbrev pub large_bytes : Shape
large_bytes = Array Byte 12276

-- an object in which nothing is stored
abbrev pub bare : ℕ → Shape → Place → Object
bare number shape at = record { number = number; shape = shape; slots = []; place = at }

-- the first element of an array of references
abbrev pub first_reference : FieldAt
first_reference = record { kind = Ref; offset = 12; weak = false }

-- an array of two references, of which the first is to the large object
abbrev pub pointing : Object
pointing = record { number = 2; shape = Array Ref 2; slots = record { at = first_reference; value = content.Object 5 } ∷ []; place = place.Zygote 805306368 }

-- an object of each place, and a second young one
abbrev pub small : Graph
small = record {
  classes = builtin_classes;
  next = 7;
  budget = 64;
  sealed = true;
  dumps = 0;
  roots = [];
  objects = bare 1 three_ints (place.Image 536870912) ∷ pointing ∷ bare 3 large_bytes place.Promoted ∷ bare 4 three_ints place.Young
      ∷ bare 5 large_bytes place.Large ∷ bare 6 three_ints place.Young ∷ [];
}

abbrev seen : ℕ → ℕ → Heap → Shape → Seen
seen number at shown shape = record { number = number; at = record { 0 = at }; heap = shown; shape = shape }

-- each object at its spot, packed from 0x40000000 on, or in its slot from 0x80000000 on
abbrev pub small_walk : List Seen
small_walk =
    seen 1 536870912 heap.Image three_ints ∷ seen 2 805306368 heap.Zygote (Array Ref 2) ∷ seen 3 2147483648 heap.Zygote large_bytes
    ∷ seen 4 1073741824 heap.App three_ints ∷ seen 5 2148532224 heap.App large_bytes ∷ seen 6 1073741848 heap.App three_ints ∷ []
