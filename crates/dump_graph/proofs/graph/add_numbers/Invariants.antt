use Rattle.std.proofs.Common.{◌≡◌, ◌++◌, take}
use Rattle.dump_graph.specs.Tables.{numbers_of}
use Rattle.dump_graph.proofs.graph.add_numbers.Given as goal

abbrev pub invariant-loop-id : goal.invariant-loop-id
invariant-loop-id l = l.found.items ≡ l.fn.found.items ++ numbers_of l.numbers (take l.id-index l.ids)
