-- The tables from which the graph is made. These are words of the code.
use Rattle.std.specs.Prelude.{ℕ, Bool, nat_eq, List, [], length, position, Option, None, Some, if◌then◌else◌}
use Rattle.std.specs.List.{filter_map}
use Rattle.hprof_records.specs.declared.sub_record.SubRecord.{SubRecord}
use Rattle.hprof_records.specs.declared.sub_record.SubRecord.TheVariants.{Root, ClassDump, Instance, ObjectArray}
use Rattle.dump_graph.specs.Firsts.{firsts}
use Rattle.dump_graph.specs.Classes.{Class, codes_within}
use Rattle.dump_graph.specs.References.{reference, instance_references}
use Rattle.dump_graph.specs.Graph.{Node, id_of, stands_for_node, unreachable_tag}

-- the first class dump of each class, and the number of all class dumps
pub record Known : Type 0 where
  pub first : List Class
  pub dumps : ℕ

abbrev pub known_of : List Class → Known
known_of all = record { first = firsts (λ c. c.id) all; dumps = length all }

-- to what a part refers, by the known classes
abbrev pub known_references : Known → SubRecord → List ℕ
known_references known (Instance id stack class bytes) = instance_references (codes_within known.first known.dumps class) bytes
known_references known (ObjectArray id stack class items) = items
known_references known (ClassDump id stack parent loader signers domain spare_a spare_b size constants statics fields) =
    filter_map (λ s. reference s.1 s.2) statics
known_references known _ = []

-- the identifier of a part that stands for a node
abbrev pub node_id : SubRecord → Option ℕ
node_id p = if stands_for_node p then Some (id_of p) else None

-- the identifier that a part tells to be a root
abbrev pub root_id : SubRecord → Option ℕ
root_id (Root tag id first second) = if nat_eq tag unreachable_tag then None else Some id
root_id _ = None

-- the numbers of the nodes among identifiers
abbrev pub numbers_of : List ℕ → List ℕ → List ℕ
numbers_of ids refers = filter_map (λ id. position (nat_eq id) ids) refers

-- a node, made from its part
abbrev pub made_node : Known → List ℕ → Bool → SubRecord → Node
made_node known ids is_root p = record { id = id_of p; is_root = is_root; targets = numbers_of ids (known_references known p) }
