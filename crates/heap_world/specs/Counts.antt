-- What may be asked of a world beside its lines: who lives, which graph a process has, and how many objects there are.
use Rattle.std.specs.Prelude.{ℕ, Bool, List, Option, None, Some, length, map, sum}
use Rattle.std.specs.List.{list_any}
use Rattle.class_layout.specs.Names.{same_name}
use Rattle.heap_graph.specs.Graph.{Graph}
use Rattle.heap_world.specs.World.{Process, World, live, process_named}

-- a live process has the name
abbrev pub is_live : World → List ℕ → Bool
is_live w name = list_any (λ q. same_name q.name name) (live w.processes)

-- how many processes live
abbrev pub live_count : World → ℕ
live_count w = length (live w.processes)

-- how many objects a process's graph has
abbrev pub objects_in : Process → ℕ
objects_in q = length q.part.graph.objects

abbrev pub objects_in_any : Option Process → Option ℕ
objects_in_any None = None
objects_in_any (Some q) = Some (objects_in q)

-- how many objects the live process of a name has, if there is one
abbrev pub objects_of : World → List ℕ → Option ℕ
objects_of w name = objects_in_any (process_named (live w.processes) name)

abbrev pub graph_in_any : Option Process → Option Graph
graph_in_any None = None
graph_in_any (Some q) = Some q.part.graph

-- the graph of the live process of a name, if there is one
abbrev pub graph_of : World → List ℕ → Option Graph
graph_of w name = graph_in_any (process_named (live w.processes) name)

-- how many objects all live processes have together
abbrev pub live_objects : World → ℕ
live_objects w = sum (map objects_in (live w.processes))
