use Rattle.std.proofs.Common.{◌≡◌, ℕ, ◌<◌, false, map, take, length, get_or}
use Rattle.std.specs.List.{list_any}
use Rattle.dump_graph.specs.Firsts.{IsApart}
use Rattle.dump_graph.specs.Graph.{roots_it}
use Rattle.dump_graph.proofs.graph.mark_roots.Given as goal

abbrev pub invariant-loop-part : goal.invariant-loop-part
invariant-loop-part l = record {
  as_many : length l.roots.items ≡ l.count;
  marked : (k : ℕ) → IsApart l.numbers → k < l.count → get_or l.roots.items k false ≡ list_any (roots_it (get_or l.numbers k 0)) (take l.part-index (map (λ p. p.now) l.parts));
}
