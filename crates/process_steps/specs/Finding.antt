-- What a root of a process holds, as an address.
use Rattle.std.specs.Prelude.{ℕ, Option, None, Some}
use Rattle.page_tables.specs.declared.address.Addr.{Addr}
use Rattle.heap_graph.specs.declared.names.Root.{Root}
use Rattle.object_view.specs.Seen.{root_address}

-- the address of what the root holds, where it is there
abbrev pub held_address : (ℕ → ℕ) → Option Root → Option Addr
held_address table None = None
held_address table (Some r) = Some (record { 0 = root_address table r.holds })
