use Rattle.std.proofs.Common.{◌≡◌, ◌≤◌, take}
use Rattle.std.specs.Prelude.{count_by}
use Rattle.hprof_list.specs.Listing.{is_of}
use Rattle.hprof_list.proofs.counts.count_parts.Given as goal

abbrev pub invariant-loop-part : goal.invariant-loop-part
invariant-loop-part l = record {
  counted : l.count ≡ count_by (is_of l.sort) (take l.part-index l.parts);
  bound : l.count ≤ l.part-index;
}
