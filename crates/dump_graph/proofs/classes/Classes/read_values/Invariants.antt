use Rattle.std.proofs.Common.{ℕ, ◌-◌, List}
use Rattle.dump_graph.specs.Climbing.{gathered}
use Rattle.dump_graph.specs.Reading.{HasRead, IsLeft}
use Rattle.dump_graph.proofs.classes.Classes.read_values.Given as goal

abbrev pub invariant-loop : goal.invariant-loop
invariant-loop l = (left : List ℕ) × (IsLeft l.self.first l.at (l.end - l.counter) left × HasRead (gathered l.self.first l.self.dumps l.class) left l.bytes l.fn.found.items l.rest l.found.items)
