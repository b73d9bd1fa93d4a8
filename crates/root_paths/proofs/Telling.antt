-- What is told of an identifier, by whether a node has it.
use Rattle.std.proofs.Common.{◌≡◌, ℕ, List, None, Some, ap}
use Rattle.dump_graph.specs.Graph.{Node, number_of}
use Rattle.root_paths.specs.Paths.{dist}
use Rattle.root_paths.specs.Answer.{answer, no_node_line, node_answer, number_answer}

pub told-none : (g : List Node) (id : ℕ) → None ≡ number_of g id → no_node_line id ≡ answer g id
told-none g id is = ap (number_answer g id) is

pub told-some : (g : List Node) (id n : ℕ) → Some n ≡ number_of g id → node_answer g n (dist g n) ≡ answer g id
told-some g id n is = ap (number_answer g id) is
