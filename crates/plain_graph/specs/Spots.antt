-- The bytes of young objects.
use Rattle.std.specs.Prelude.{ℕ, List, map, filter, sum}
use Rattle.class_layout.specs.ClassList.{Class}
use Rattle.heap_graph.specs.Graph.{Object, is_young, size_of_object}

-- the bytes that the young ones of these objects take
abbrev pub young_bytes : List Class → List Object → ℕ
young_bytes cs os = sum (map (size_of_object cs) (filter (λ o. is_young o.place) os))
