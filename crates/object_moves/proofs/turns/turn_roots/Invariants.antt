use Rattle.std.proofs.Common.{◌≡◌, ◌++◌, List, length, map, take, drop}
use Rattle.class_layout.specs.ClassList.{Class}
use Rattle.cow_pages.specs.View.{view_of}
use Rattle.raw_objects.specs.Raws.{HoldsRaws, Raws}
use Rattle.object_moves.specs.Turns.{gone_to, AreTargets}
use Rattle.object_moves.proofs.turns.turn_roots.Given as goal

-- the roots before this one are turned
abbrev pub invariant-loop-i : goal.invariant-loop-i
invariant-loop-i l = record {
  goes : (cs : List Class) (raws : Raws) → HoldsRaws cs (view_of l.fn.frames l.t.0) raws → AreTargets raws l.fn.roots → l.roots ≡ map (gone_to raws) (take l.i l.fn.roots) ++ drop l.i l.fn.roots;
  len : length l.roots ≡ length l.fn.roots;
  same : l.frames ≡ l.fn.frames;
}
