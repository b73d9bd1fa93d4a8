-- The graph of a dump: its classes and objects, which of them are roots, and the edges between them.
use Rattle.std.specs.Prelude.{ℕ, ◌<◌, Bool, true, false, ◌&&◌, not, nat_eq, List, [], map, filter, length, position, All, Option}
use Rattle.std.specs.List.{filter_map, flat_map, list_any}
use Rattle.hprof_records.specs.declared.sub_record.SubRecord.{SubRecord}
use Rattle.hprof_records.specs.declared.sub_record.SubRecord.TheVariants.{Root, HeapInfo, ClassDump, Instance, ObjectArray, PrimitiveArray, NoData}
use Rattle.hprof_records.specs.declared.top_record.TopRecord.{TopRecord}
use Rattle.hprof_records.specs.declared.top_record.TopRecord.TheVariants.{Segment}
use Rattle.dump_graph.specs.Classes.{classes}
use Rattle.dump_graph.specs.Firsts.{firsts}
use Rattle.dump_graph.specs.References.{references}

-- the parts of a dump's segments, in order
abbrev pub parts_of : TopRecord → List SubRecord
parts_of (Segment time tag size parts) = parts
parts_of _ = []

abbrev pub parts : List TopRecord → List SubRecord
parts records = flat_map parts_of records

-- a part that stands for a node: a class or an object
abbrev pub stands_for_node : SubRecord → Bool
stands_for_node (Root tag id first second) = false
stands_for_node (HeapInfo heap name) = false
stands_for_node _ = true

-- the first identifier of a part; that of a heap's name tells no object, and is passed over
abbrev pub id_of : SubRecord → ℕ
id_of (Root tag id first second) = id
id_of (HeapInfo heap name) = 0
id_of (ClassDump id stack parent loader signers domain spare_a spare_b size constants statics fields) = id
id_of (Instance id stack class bytes) = id
id_of (ObjectArray id stack class items) = id
id_of (PrimitiveArray id stack code count bytes) = id
id_of (NoData id stack count code) = id

-- the nodes, each by its first part, in the order of the dump, and their identifiers
abbrev pub nodes : List SubRecord → List SubRecord
nodes ps = firsts id_of (filter stands_for_node ps)

abbrev pub node_ids : List SubRecord → List ℕ
node_ids ps = map id_of (nodes ps)

-- the tag of an object that was found to be unreachable
abbrev pub unreachable_tag : ℕ
unreachable_tag = 0x90

-- a part tells that the object with an identifier is a root
abbrev pub roots_it : ℕ → SubRecord → Bool
roots_it id (Root tag root first second) = nat_eq root id && not (nat_eq tag unreachable_tag)
roots_it id _ = false

-- a node as the graph has it: its identifier, whether it is a root, and the numbers of the nodes to which it has an edge,
-- a node's number being its place in their order
pub record Node : Type 0 where
  pub id : ℕ
  pub is_root : Bool
  pub targets : List ℕ

-- the node of a part, among the parts of the dump: an edge leads to each identifier to which it refers and which a node has
abbrev pub node_of : List SubRecord → SubRecord → Node
node_of ps p = record {
  id = id_of p;
  is_root = list_any (roots_it (id_of p)) ps;
  targets = filter_map (λ id. position (nat_eq id) (node_ids ps)) (references (classes ps) p);
}

-- the graph of a dump's parts
abbrev pub graph : List SubRecord → List Node
graph ps = map (node_of ps) (nodes ps)

-- the number of the node with an identifier
abbrev pub number_of : List Node → ℕ → Option ℕ
number_of g id = position (nat_eq id) (map (λ x. x.id) g)

-- each edge leads to a node
abbrev pub LeadsWithin : List Node → Type 0
LeadsWithin g = All (λ x. All (λ t. t < length g) x.targets) g
