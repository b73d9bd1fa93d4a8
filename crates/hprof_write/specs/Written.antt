-- The records of the dump of a graph.
use Rattle.std.specs.Prelude.{ℕ, List, [], ◌∷◌, ◌++◌, map}
use Rattle.class_layout.specs.ClassList.{Class}
use Rattle.heap_graph.specs.Graph.{Graph, Object}
use Rattle.hprof_records.specs.declared.top_record.TopRecord.{TopRecord}
use Rattle.hprof_records.specs.declared.top_record.TopRecord.TheVariants.{Trace, Other}
use Rattle.object_view.specs.Seen.{heap_of}
use Rattle.hprof_write.specs.Classes.{class_dumps, load_records}
use Rattle.hprof_write.specs.Objects.{object_part, root_parts}
use Rattle.hprof_write.specs.Segments.{Item, Bare, InHeap, segments}
use Rattle.hprof_write.specs.Strings.{strings, text_records}

-- the one stack trace, without frames
abbrev pub no_trace : TopRecord
no_trace = Trace 0 0 0 [] []

-- HEAP_DUMP_END
abbrev pub dump_end : TopRecord
dump_end = Other 0 0x2c []

-- what comes before the segments: the strings, the classes, the stack trace
abbrev pub front_of : List (List ℕ) → List Class → List TopRecord
front_of ss cs = text_records 1 ss ++ load_records ss cs ++ no_trace ∷ []

-- an object with its heap
abbrev pub object_item : List Class → (ℕ → ℕ) → Object → Item
object_item cs table o = InHeap (heap_of o.place) (object_part cs table o)

-- what goes into the segments: the roots, the classes, the objects
abbrev pub items : List (List ℕ) → Graph → (ℕ → ℕ) → List Item
items ss g table =
    map Bare (root_parts table g.roots) ++ map Bare (class_dumps ss g.classes)
    ++ map (object_item g.classes table) g.objects

abbrev pub written_with : List (List ℕ) → Graph → (ℕ → ℕ) → List TopRecord
written_with ss g table = front_of ss g.classes ++ segments ss (items ss g table) ++ dump_end ∷ []

-- the records of a dump: the strings, the classes, the stack trace, the segments, the end
abbrev pub written : Graph → (ℕ → ℕ) → List TopRecord
written g table = written_with (strings g.classes) g table
