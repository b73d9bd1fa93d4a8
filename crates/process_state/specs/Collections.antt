-- A collection of a process, as the calls that make it leave it.
use Rattle.std.specs.Prelude.{◌≡◌, ℕ, true, [], List, length, map}
use Rattle.std.specs.List.{Contains}
use Rattle.cow_pages.specs.Only.{OnlyTable}
use Rattle.heap_graph.specs.Collection.{collect}
use Rattle.heap_world.specs.declared.names.Card.{Card}
use Rattle.heap_world.specs.Part.{Part}
use Rattle.large_objects.specs.declared.rows.LargeRow.{LargeRow}
use Rattle.mod_union.specs.ModUnion.{has_slot_on}
use Rattle.object_view.specs.declared.names.Slot.{Slot}
use Rattle.object_collection.specs.Collects.{LeavesPages}
use Rattle.evacuate.specs.Stands.{HoldsHeap, KeepsGraph}
use Rattle.root_list.specs.declared.root.RootAt.{RootAt}
use Rattle.process_state.specs.Acts.{Step}
use Rattle.process_state.specs.Cards.{card_number, has_noted}
use Rattle.process_state.specs.State.{heap_of, State}

-- the names of its roots
abbrev pub root_names : State → List (List ℕ)
root_names s = map (λ (r : RootAt). r.name) s.roots

-- the slots are all that lead out of what is immune, each noted card has one, and with them the process was collected
pub record IsCollection (c : Step) (p : Part) (slots : List Slot) : Type 0 where
  pub keeps : KeepsGraph (heap_of c.old slots) c.was c.old.page_table p.graph
  pub noted : (card : Card) → has_noted c.old card ≡ true → has_slot_on slots (card_number card) ≡ true
  pub rest : c.new ≡ record c.old { roots = c.new.roots; objects = c.new.objects; rows = c.new.rows; regions = c.new.regions }
  pub names : root_names c.new ≡ root_names c.old
  pub objects : c.new.objects ≡ length (collect p.graph).objects
  pub rows : (row : LargeRow) → Contains c.new.rows row → Contains c.old.rows row
  pub heap : HoldsHeap (heap_of c.new []) c.now c.old.page_table (collect p.graph)
  pub pages : LeavesPages (heap_of c.old slots) c.was c.now c.old.page_table
  pub only : OnlyTable c.was c.now c.old.page_table
