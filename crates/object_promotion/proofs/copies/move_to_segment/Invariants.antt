use Rattle.std.proofs.Common.{◌≡◌, length}
use Rattle.raw_objects.specs.Raws.{Raws}
use Rattle.region_lists.specs.Rows.{Lists}
use Rattle.object_promotion.specs.Phases.{CanPlaceAll}
use Rattle.object_promotion.proofs.AllCopies.{Copying}
use Rattle.object_promotion.proofs.copies.move_to_segment.Given as goal

-- the objects before this one are copied
abbrev pub invariant-loop-i : goal.invariant-loop-i
invariant-loop-i l = record {
  copying : (raws : Raws) (s : Lists) → CanPlaceAll l.classes l.fn.frames l.t.0 s raws l.fn.zygote l.fn.young
      → Copying l.classes l.fn.frames l.t.0 s raws l.fn.zygote l.fn.young l.frames l.zygote l.young l.i;
  len : length l.young ≡ length l.fn.young;
  reads : l.frames.reads ≡ l.fn.frames.reads;
}
