-- Sizes of objects, in bytes.
use Rattle.std.specs.Prelude.{ℕ, ◌+◌, ◌-◌, ◌/◌, Bool, true, false, not, ◌&&◌, List, nat_le}
use Rattle.model_numbers.specs.Numbers.{least_large, most_array_bytes, most_object_bytes}
use Rattle.class_layout.specs.Kinds.{array_end, is_ref, next_multiple}
use Rattle.class_layout.specs.ClassList.{Class, layout_of}
use Rattle.heap_graph.specs.declared.names.Shape.{Shape}
use Rattle.heap_graph.specs.declared.names.Shape.TheVariants.{Instance, Array}

-- how many parts of this many bytes it takes to hold so many bytes
abbrev pub parts_for : ℕ → ℕ → ℕ
parts_for part bytes = (bytes + (part - 1)) / part

-- the end of the last field or element
abbrev pub unrounded : List Class → Shape → ℕ
unrounded cs (Instance class) = (layout_of cs class).end
unrounded cs (Array kind count) = array_end kind count

-- the bytes that an object takes
abbrev pub size_in : List Class → Shape → ℕ
size_in cs shape = next_multiple 8 (unrounded cs shape)

abbrev pub is_primitive_array : Shape → Bool
is_primitive_array (Instance class) = false
is_primitive_array (Array kind count) = not (is_ref kind)

-- a large object: an array of primitives of at least 12,288 bytes
abbrev pub is_large : List Class → Shape → Bool
is_large cs shape = is_primitive_array shape && nat_le least_large (unrounded cs shape)

-- an object may have 1,048,576 bytes where it is an array of primitives, else 262,144
abbrev pub most_bytes : Bool → ℕ
most_bytes true = most_array_bytes
most_bytes false = most_object_bytes

abbrev pub is_too_large : List Class → Shape → Bool
is_too_large cs shape = not (nat_le (unrounded cs shape) (most_bytes (is_primitive_array shape)))
