use Rattle.std.proofs.Common.{◌≡◌, ◌++◌, map, take}
use Rattle.dump_graph.proofs.parts.add_parts.Given as goal

abbrev pub invariant-loop-part : goal.invariant-loop-part
invariant-loop-part l = map (λ p. p.now) l.found.items ≡ map (λ p. p.now) l.fn.found.items ++ take l.part-index l.list
