-- Making an object, with a collection where there is no room.
use Rattle.std.specs.Prelude.{ℕ, ◌+◌, ◌-◌, Bool, true, false, List, [], ◌∷◌, ◌++◌, nat_le}
use Rattle.model_numbers.specs.Numbers.{image_base, image_length, region_bytes}
use Rattle.heap_graph.specs.declared.names.Shape.{Shape}
use Rattle.heap_graph.specs.declared.names.Place.{Place}
use Rattle.heap_graph.specs.declared.names.Place.TheVariants.{Image, Young, Large}
use Rattle.heap_graph.specs.declared.names.Stored.{Stored}
use Rattle.heap_graph.specs.Graph.{Graph, image_fill}
use Rattle.heap_graph.specs.Sizes.{size_in, is_large, parts_for, unrounded}
use Rattle.heap_graph.specs.Packing.{after, end_of, used, free}
use Rattle.heap_graph.specs.Collection.{collect}

-- how the making of an object ends
pub data Allocated : Type 0 where
  -- it was made, maybe after a collection
  Made : Graph → Bool → Allocated
  -- the image is full: its fill, and the object's size
  ImageFull : ℕ → ℕ → Allocated
  -- the heap is full, also after a collection: the collected graph, the free regions, and those that are needed
  HeapFull : Graph → ℕ → ℕ → Allocated

-- a graph with one more object, under the next number
abbrev pub with_object : Graph → Shape → List Stored → Place → Graph
with_object g shape slots place =
    record g { next = g.next + 1; objects = g.objects ++ record { number = g.next; shape = shape; slots = slots; place = place } ∷ [] }

-- the regions that an object needs: its cost where it is large, else those that the young objects grow by
abbrev pub needs_if : Bool → Graph → Shape → ℕ
needs_if true g shape = parts_for region_bytes (unrounded g.classes shape)
needs_if false g shape = parts_for region_bytes (after (end_of g) (size_in g.classes shape)) - used g

abbrev pub needs : Graph → Shape → ℕ
needs g shape = needs_if (is_large g.classes shape) g shape

abbrev pub has_room : Graph → Shape → Bool
has_room g shape = nat_le (needs g shape) (free g)

abbrev pub heap_place : Bool → Place
heap_place true = Large
heap_place false = Young

abbrev pub with_heap_object : Graph → Shape → List Stored → Graph
with_heap_object g shape slots = with_object g shape slots (heap_place (is_large g.classes shape))

-- after a collection: the object is made where there is room now
abbrev pub make_if_collected : Bool → Graph → Shape → List Stored → Allocated
make_if_collected true g shape slots = Made (with_heap_object g shape slots) true
make_if_collected false g shape slots = HeapFull g (free g) (needs g shape)

abbrev pub make_collected : Graph → Shape → List Stored → Allocated
make_collected g shape slots = make_if_collected (has_room g shape) g shape slots

-- the object is made where there is room, else the process collects first
abbrev pub make_if : Bool → Graph → Shape → List Stored → Allocated
make_if true g shape slots = Made (with_heap_object g shape slots) false
make_if false g shape slots = make_collected (collect g) shape slots

abbrev pub make_sealed : Graph → Shape → List Stored → Allocated
make_sealed g shape slots = make_if (has_room g shape) g shape slots

-- before the seal an object stands in the image, directly behind the others
abbrev pub make_in_image : Bool → Graph → Shape → List Stored → Allocated
make_in_image true g shape slots = Made (with_object g shape slots (Image (image_base + image_fill g))) false
make_in_image false g shape slots = ImageFull (image_fill g) (size_in g.classes shape)

abbrev pub make_by : Bool → Graph → Shape → List Stored → Allocated
make_by true g shape slots = make_sealed g shape slots
make_by false g shape slots = make_in_image (nat_le (image_fill g + size_in g.classes shape) image_length) g shape slots

abbrev pub make : Graph → Shape → List Stored → Allocated
make g shape slots = make_by g.sealed g shape slots
