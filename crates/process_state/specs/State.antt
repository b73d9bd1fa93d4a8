-- What a process keeps besides the bytes of its pages.
use Rattle.std.specs.Prelude.{ℕ, Bool, List}
use Rattle.class_layout.specs.ClassList.{Class}
use Rattle.card_table.specs.CardSet.{CardSet}
use Rattle.image_space.specs.Space as image
use Rattle.zygote_space.specs.Space as zygote
use Rattle.region_space.specs.Space.{Space}
use Rattle.large_objects.specs.declared.rows.LargeRow.{LargeRow}
use Rattle.address_table.specs.Computed.{table_of}
use Rattle.heap_graph.specs.Graph.{Graph}
use Rattle.object_view.specs.declared.names.Slot.{Slot}
use Rattle.object_collection.specs.Collects.{state_of, HeapState}
use Rattle.evacuate.specs.Stands.{homes_in}
use Rattle.root_list.specs.declared.root.RootAt.{RootAt}
use Rattle.root_list.specs.Roots.{held_by_all}

-- which cards of an immune space may hold a reference out of it: the dirty ones, and the recorded ones
pub record Notes : Type 0 where
  pub cards : CardSet
  pub records : List ℕ

pub record State : Type 0 where
  -- the number of its page table
  pub page_table : ℕ
  pub classes : List Class
  pub roots : List RootAt
  -- the allocation number of the next object
  pub next : ℕ
  pub budget : ℕ
  pub sealed : Bool
  -- how often it was dumped
  pub dumps : ℕ
  -- how many objects it has, and how many pages promoted large objects have together
  pub objects : ℕ
  pub promoted_pages : ℕ
  pub rows : List LargeRow
  pub image_notes : Notes
  pub zygote_notes : Notes
  pub regions : Space
  pub image : image.Space
  pub zygote : zygote.Space

-- what a collection is given of it, with the references of immune objects that lead out
abbrev pub heap_of : State → List Slot → HeapState
heap_of s slots = state_of s.classes s.regions s.rows (held_by_all s.roots) slots

-- where its objects stand, by their numbers
abbrev pub addresses_in : State → Graph → ℕ → ℕ
addresses_in s g = table_of (homes_in s.regions.in_use s.rows) g
