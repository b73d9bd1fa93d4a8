use Rattle.std.proofs.Common.{◌≡◌, ◌*◌, ◌^◌, ◌≤◌, take}
use Rattle.std.specs.Prelude.{count_by, sum_by}
use Rattle.hprof_list.specs.Listing.{is_of, parts_of}
use Rattle.hprof_list.proofs.counts.count_sort.Given as goal

abbrev pub invariant-loop-one : goal.invariant-loop-one
invariant-loop-one l = record {
  counted : l.total ≡ sum_by (λ r. count_by (is_of l.sort) (parts_of r)) (take l.one-index l.records);
  bound : l.total ≤ l.one-index * 2 ^ 64;
}
