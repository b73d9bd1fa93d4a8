use Rattle.std.proofs.Common.{◌≡◌, map, take}
use Rattle.dump_graph.specs.Graph.{parts}
use Rattle.dump_graph.proofs.parts.parts_of.Given as goal

abbrev pub invariant-loop-one : goal.invariant-loop-one
invariant-loop-one l = map (λ p. p.now) l.found.items ≡ parts (take l.one-index l.records)
