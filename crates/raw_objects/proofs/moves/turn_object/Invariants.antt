use Rattle.std.proofs.Common.{◌≡◌, ℕ, ◌*◌, ◌≤◌, Bool, true}
use Rattle.model_numbers.specs.Numbers.{region_base}
use Rattle.cow_pages.specs.Memory.{IsSound}
use Rattle.cow_pages.specs.View.{view_of}
use Rattle.object_view.specs.Seen.{RoseBy}
use Rattle.raw_objects.specs.Keeps.{Covers, Keeps}
use Rattle.raw_objects.specs.Raws.{raw_size, HoldsRaws, Raws}
use Rattle.raw_objects.specs.References.{IsTurnable}
use Rattle.raw_objects.proofs.Turned.{turned_first}
use Rattle.raw_objects.proofs.moves.turn_object.Given as goal

-- the references before this one are turned
abbrev pub invariant-loop-k : goal.invariant-loop-k
invariant-loop-k l = record {
  held : (raws : Raws) (done : ℕ → Bool) → IsTurnable l.classes (view_of l.fn.frames l.t.0) raws done l.at.0 → HoldsRaws l.classes (view_of l.frames l.t.0) (turned_first l.classes raws done l.at.0 l.k);
  keeps : (raws : Raws) (done may : ℕ → Bool) → IsTurnable l.classes (view_of l.fn.frames l.t.0) raws done l.at.0 → Covers may l.at.0 (raw_size l.classes raws l.at.0) → Keeps l.fn.frames l.frames l.t.0 may;
  reads : region_base ≤ l.at.0 → l.frames.reads ≡ l.fn.frames.reads;
  bounded : IsSound l.fn.frames → (raws : Raws) (done : ℕ → Bool) → IsTurnable l.classes (view_of l.fn.frames l.t.0) raws done l.at.0
      → (4 * l.k ≤ raw_size l.classes raws l.at.0) × RoseBy (3 * l.k) l.fn.frames.reads l.frames.reads;
  sound : IsSound l.fn.frames → IsSound l.frames;
}
