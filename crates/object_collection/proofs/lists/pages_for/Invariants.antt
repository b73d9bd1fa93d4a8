use Rattle.std.proofs.Common.{◌≡◌, ◌<◌, ◌≤◌, ℕ, length}
use Rattle.model_numbers.specs.Numbers.{region_bytes}
use Rattle.cow_pages.specs.View.{view_of}
use Rattle.raw_objects.specs.Raws.{Raws}
use Rattle.object_moves.specs.Copies.{at_of, sizes_at, IsYoungAt}
use Rattle.object_collection.proofs.PageLemmas.{IsCounted}
use Rattle.object_collection.proofs.lists.pages_for.Given as goal

-- the pages of the objects before this one are counted
abbrev pub invariant-loop-at : goal.invariant-loop-at
invariant-loop-at l = record {
  same : l.frames ≡ l.fn.frames;
  within : l.fill ≤ region_bytes;
  counted : (raws : Raws) → ((i : ℕ) → i < length l.young → IsYoungAt l.classes (view_of l.fn.frames l.t.0) raws (at_of l.young i)) → IsCounted (sizes_at l.classes raws l.young) l.at-index l.pages l.fill;
}
