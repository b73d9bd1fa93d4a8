-- Where a machine has the objects of its processes.
use Rattle.std.specs.Prelude.{ℕ, List, Option, None, Some}
use Rattle.heap_graph.specs.Graph.{Graph}
use Rattle.heap_world.specs.World.{World}
use Rattle.heap_world.specs.Counts.{graph_of}
use Rattle.plain_view.specs.Viewed.{first_table}

-- the table of addresses of a graph; without one, each object stands at null
abbrev pub table_in : Option Graph → ℕ → ℕ
table_in None n = 0
table_in (Some g) n = first_table g n

-- the addresses of a live process's objects, by their numbers. The machine that keeps a world as it is has them in the
-- first regions and in the first slots
unfoldable pub addresses : World → List ℕ → ℕ → ℕ
addresses machine name = table_in (graph_of machine name)
