use Rattle.std.proofs.Common.{◌≡◌, ◌+◌, length}
use Rattle.cow_pages.specs.Only.{OnlyTable}
use Rattle.raw_objects.specs.Raws.{Raws}
use Rattle.region_space.specs.Space.{lists_of}
use Rattle.object_moves.specs.Copies.{CanCopyAll, KeepsOutside}
use Rattle.object_moves.proofs.All.{Copying}
use Rattle.object_moves.proofs.copies.copy_all.Given as goal

-- the objects before this one are copied
abbrev pub invariant-loop-i : goal.invariant-loop-i
invariant-loop-i l = record {
  copying : (raws : Raws) → CanCopyAll l.classes l.fn.frames l.t.0 (lists_of l.fn.regions) raws l.fn.young → Copying l.classes l.fn.frames l.t.0 (lists_of l.fn.regions) raws l.fn.young l.frames (lists_of l.regions) l.young l.i;
  len : length l.young ≡ length l.fn.young;
  objects : l.regions.objects ≡ l.fn.regions.objects + l.i;
  from_objects : l.regions.from_objects ≡ l.fn.regions.from_objects;
  outside : KeepsOutside l.fn.frames l.frames l.t.0;
  only : OnlyTable l.fn.frames l.frames l.t.0;
}
