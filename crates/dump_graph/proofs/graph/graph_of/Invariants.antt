use Rattle.std.proofs.Common.{◌≡◌, map, take}
use Rattle.std.specs.List.{zip}
use Rattle.dump_graph.specs.Kept.{AreKept, kept_graph}
use Rattle.dump_graph.specs.Tables.{made_node}
use Rattle.dump_graph.proofs.graph.graph_of.Given as goal

abbrev pub invariant-loop-i : goal.invariant-loop-i
invariant-loop-i l = record {
  kept : AreKept l.nodes.items l.targets.items;
  made : kept_graph l.targets.items l.nodes.items ≡ map (λ x. made_node l.classes l.numbers x.0 x.1) (take l.i (zip l.roots (map (λ p. p.now) l.firsts)));
}
