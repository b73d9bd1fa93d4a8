-- The dumps that lines ask for.
use Rattle.std.specs.Prelude.{ℕ, List, [], ◌∷◌, Option, None, Some}
use Rattle.heap_graph.specs.Graph.{Graph}
use Rattle.heap_world.specs.declared.command.Command.{Command}
use Rattle.heap_world.specs.declared.command.Verb.{Verb}
use Rattle.heap_world.specs.declared.command.Verb.TheVariants as verb
use Rattle.heap_world.specs.declared.reply.Reply.{Reply}
use Rattle.heap_world.specs.declared.reply.Reply.TheVariants as reply
use Rattle.heap_world.specs.World.{Process, Stepped, World, process_named}

-- a dump: the name of its process, which dump of the process it is, and the graph that it shows
pub record Dumping : Type 0 where
  pub process : List ℕ
  pub count : ℕ
  pub graph : Graph

-- the dump of a process, if it was made
abbrev pub dumping_of : List ℕ → ℕ → Option Process → List Dumping
dumping_of name count None = []
dumping_of name count (Some q) = record { process = name; count = count; graph = q.part.graph } ∷ []

-- the dump that a reply tells, of a process of this world
abbrev pub dumping_told : World → List ℕ → Reply → List Dumping
dumping_told w name (reply.Dumped count objects) = dumping_of name count (process_named w.processes name)
dumping_told w name r = []

-- the dump that a command asks for, in the world after it: one where a process is to be dumped and that isn't refused
abbrev pub dumping_asked : World → List ℕ → Verb → Reply → List Dumping
dumping_asked w name verb.Dump r = dumping_told w name r
dumping_asked w name v r = []

-- the dump of a command that was stepped
abbrev pub dumping_stepped : Command → Stepped → List Dumping
dumping_stepped c s = dumping_asked s.world c.process c.verb s.reply
