-- How many reads of the image and of the zygote window a dump may make.
use Rattle.std.specs.Prelude.{ℕ, ◌+◌, ◌*◌, ◌/◌, List, sum_by}
use Rattle.class_layout.specs.ClassList.{Class}
use Rattle.heap_graph.specs.Graph.{Graph, Object, size_of_object}
use Rattle.heap_graph.specs.Table.{in_spot_window}
use Rattle.object_view.specs.Seen.{count_if}

-- for the values of an object of these windows: four for each of its words of 4 bytes
abbrev pub object_values : List Class → Object → ℕ
object_values cs o = count_if (in_spot_window o.place) (4 * (size_of_object cs o / 4))

-- for an object of these windows: four for each of its words of 4 bytes, and 10 besides
abbrev pub object_reads : List Class → Object → ℕ
object_reads cs o = count_if (in_spot_window o.place) (4 * (size_of_object cs o / 4) + 10)

-- the most that a dump of the graph reads
abbrev pub dump_reads : Graph → ℕ
dump_reads g = sum_by (object_reads g.classes) g.objects

-- for an object of these windows: 6
abbrev pub walk_reads : Object → ℕ
walk_reads o = count_if (in_spot_window o.place) 6

-- the most that the text of a table reads
abbrev pub table_reads : Graph → ℕ
table_reads g = sum_by walk_reads g.objects
