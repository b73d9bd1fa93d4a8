use Rattle.std.proofs.Common.{◌≡◌, map, take}
use Rattle.dump_graph.specs.Firsts.{IsApart}
use Rattle.dump_graph.specs.Graph.{nodes, node_ids}
use Rattle.dump_graph.proofs.graph.number_nodes.Given as goal

abbrev pub invariant-loop-part : goal.invariant-loop-part
invariant-loop-part l = record {
  firsts : map (λ p. p.now) l.firsts.items ≡ nodes (take l.part-index (map (λ p. p.now) l.parts));
  numbers : l.numbers ≡ node_ids (take l.part-index (map (λ p. p.now) l.parts));
  apart : IsApart l.numbers;
}
