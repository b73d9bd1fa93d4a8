-- What a view of a plain graph is.
use Rattle.std.specs.Prelude.{ℕ, Option}
use Rattle.std.specs.Option.{option_map}
use Rattle.page_tables.specs.declared.address.Addr.{Addr}
use Rattle.heap_graph.specs.Graph.{Graph, object_at}
use Rattle.address_table.specs.Computed.{first_homes, table_of}

-- the graph that is seen, and how many objects the walk has given
pub record Viewed : Type 0 where
  pub graph : Graph
  pub given : ℕ

-- where the objects of a graph stand: in the first regions and slots
abbrev pub first_table : Graph → ℕ → ℕ
first_table g = table_of (first_homes g.budget) g

-- a number as an address
abbrev pub at_address : ℕ → Addr
at_address at = record { 0 = at }

-- the address of the object of a number
abbrev pub address_at : Graph → ℕ → Option Addr
address_at g n = option_map (λ o. at_address (first_table g o.number)) (object_at g n)
