use Rattle.std.proofs.Common.{◌≡◌, ◌<◌, ℕ, Bool, List, true, length}
use Rattle.class_layout.specs.ClassList.{Class}
use Rattle.page_tables.specs.Address.{page_of}
use Rattle.cow_pages.specs.Memory.{IsSound}
use Rattle.cow_pages.specs.View.{view_of}
use Rattle.raw_objects.specs.Keeps.{Keeps}
use Rattle.raw_objects.specs.Raws.{HoldsRaws, Raws}
use Rattle.raw_objects.specs.References.{turned_where}
use Rattle.object_moves.specs.Turns.{slot_of, AreSlotsIn}
use Rattle.object_moves.proofs.Many.{slots_to}
use Rattle.object_moves.proofs.turns.turn_slots.Given as goal

-- the slots before this one are turned
abbrev pub invariant-loop-slot : goal.invariant-loop-slot
invariant-loop-slot l = record {
  held : (cs : List Class) (raws : Raws) (done : ℕ → Bool) → HoldsRaws cs (view_of l.fn.frames l.t.0) (turned_where raws done) → (ok : AreSlotsIn cs l.fn.frames l.t.0 raws l.slots)
      → HoldsRaws cs (view_of l.frames l.t.0) (turned_where raws (slots_to cs l.fn.frames l.t.0 raws done l.slots ok l.slot-index));
  keeps : (may : ℕ → Bool) → ((i : ℕ) → i < length l.slots → may (page_of (slot_of l.slots i).at.0) ≡ true) → Keeps l.fn.frames l.frames l.t.0 may;
  reads : l.frames.reads ≡ l.fn.frames.reads;
  sound : IsSound l.fn.frames → IsSound l.frames;
}
