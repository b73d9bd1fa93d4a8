use Rattle.std.proofs.Common.{◌≡◌, ◌++◌, take}
use Rattle.std.specs.List.{filter_map}
use Rattle.dump_graph.specs.References.{reference}
use Rattle.dump_graph.proofs.references.add_static_references.Given as goal

abbrev pub invariant-loop-one : goal.invariant-loop-one
invariant-loop-one l = l.found.items ≡ l.fn.found.items ++ filter_map (λ s. reference s.1 s.2) (take l.one-index l.statics)
