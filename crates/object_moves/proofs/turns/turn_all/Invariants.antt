use Rattle.std.proofs.Common.{◌≡◌, ◌<◌, ◌≤◌, ℕ, Bool, length, take}
use Rattle.model_numbers.specs.Numbers.{region_base}
use Rattle.cow_pages.specs.Memory.{IsSound}
use Rattle.cow_pages.specs.View.{view_of}
use Rattle.object_view.specs.Seen.{RoseBy}
use Rattle.raw_objects.specs.Keeps.{Keeps}
use Rattle.raw_objects.specs.Raws.{HoldsRaws, Raws}
use Rattle.raw_objects.specs.References.{turned_where}
use Rattle.object_moves.specs.Copies.{at_of}
use Rattle.object_moves.specs.Turns.{reads_to_turn, AreTurnable, ObjectsWithin}
use Rattle.object_moves.proofs.Many.{turned_to}
use Rattle.object_moves.proofs.turns.turn_all.Given as goal

-- the references of the objects before this one are turned
abbrev pub invariant-loop-at : goal.invariant-loop-at
invariant-loop-at l = record {
  held : (raws : Raws) (done : ℕ → Bool) → HoldsRaws l.classes (view_of l.fn.frames l.t.0) (turned_where raws done) → (ok : AreTurnable l.classes raws done l.ats)
      → HoldsRaws l.classes (view_of l.frames l.t.0) (turned_where raws (turned_to l.classes raws done l.ats ok l.at-index));
  keeps : (raws : Raws) (done may : ℕ → Bool) → HoldsRaws l.classes (view_of l.fn.frames l.t.0) (turned_where raws done) → AreTurnable l.classes raws done l.ats
      → ObjectsWithin l.classes may raws l.ats → Keeps l.fn.frames l.frames l.t.0 may;
  reads : ((i : ℕ) → i < length l.ats → region_base ≤ at_of l.ats i) → l.frames.reads ≡ l.fn.frames.reads;
  bounded : IsSound l.fn.frames → (raws : Raws) (done : ℕ → Bool) → HoldsRaws l.classes (view_of l.fn.frames l.t.0) (turned_where raws done) → AreTurnable l.classes raws done l.ats
      → RoseBy (reads_to_turn l.classes raws (take l.at-index l.ats)) l.fn.frames.reads l.frames.reads;
  sound : IsSound l.fn.frames → IsSound l.frames;
}
