-- A promotion of a process, as the calls that make it leave it.
use Rattle.std.specs.Prelude.{◌≡◌, [], List, map}
use Rattle.page_tables.specs.declared.address.Window.TheVariants as window
use Rattle.cow_pages.specs.Memory.{mapped_in, Memory}
use Rattle.cow_pages.specs.Only.{OnlyTable}
use Rattle.heap_graph.specs.Fork.{promoted, promotion_bytes}
use Rattle.heap_graph.specs.Graph.{zygote_fill, Graph}
use Rattle.large_objects.specs.Rows.{promoted_row}
use Rattle.object_view.specs.declared.names.Slot.{Slot}
use Rattle.object_promotion.specs.Promotes.{LeavesPages}
use Rattle.zygote_space.specs.Space as zygote
use Rattle.zygote_compact.specs.Spots.{HasSpots}
use Rattle.evacuate.specs.Stands.{HoldsHeap}
use Rattle.process_state.specs.Acts.{Step}
use Rattle.process_state.specs.Cards.{NotesNothing}
use Rattle.process_state.specs.Collections.{root_names}
use Rattle.process_state.specs.State.{heap_of, Notes}
use Rattle.process_steps.specs.Settling.{Settles}

-- all cards are clean, and none is recorded any more
pub record AreCleared (old new : Notes) : Type 0 where
  pub start : new.cards.start ≡ old.cards.start
  pub span : new.cards.span ≡ old.cards.span
  pub none : NotesNothing new

-- the objects of the graph were promoted with these slots, which left the memory between; then the table's flags and the
-- cards were cleared, and the pages of promoted large objects counted
pub record IsPromotion (c : Step) (g : Graph) (slots : List Slot) (between : Memory) : Type 0 where
  pub rest : c.new ≡ record c.old { roots = c.new.roots; promoted_pages = c.new.promoted_pages; rows = c.new.rows; image_notes = c.new.image_notes; zygote_notes = c.new.zygote_notes; regions = c.new.regions; zygote = c.new.zygote }
  pub names : root_names c.new ≡ root_names c.old
  pub rows : c.new.rows ≡ map promoted_row c.old.rows
  pub heap : HoldsHeap (heap_of c.new []) between c.old.page_table (promoted g)
  pub spots : HasSpots c.new.zygote (promoted g)
  pub zygote_is : zygote.IsSpace c.new.zygote
  pub pages : LeavesPages (heap_of c.old slots) c.was between c.old.page_table (zygote_fill g) (promotion_bytes g)
  pub only : OnlyTable c.was between c.old.page_table
  pub settles : Settles between c.now c.old.page_table
  pub promoted_pages : c.new.promoted_pages ≡ mapped_in c.now c.old.page_table window.Large
  pub image_notes : AreCleared c.old.image_notes c.new.image_notes
  pub zygote_notes : AreCleared c.old.zygote_notes c.new.zygote_notes
