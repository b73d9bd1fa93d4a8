use Rattle.std.proofs.Common.{◌≡◌, ◌≤◌, ◌+◌, ◌<◌, ℕ, length, vec_capacity}
use Rattle.region_lists.specs.Chains.{next_in}
use Rattle.region_lists.proofs.lists.RegionLists.new.Given as goal

-- the entries so far are linked by rising number
abbrev pub invariant-loop-i : goal.invariant-loop-i
invariant-loop-i l = record {
  made : length l.entries.items ≡ l.i;
  room : l.count ≤ vec_capacity l.entries;
  linked : (k : ℕ) → k < l.i → next_in l.entries.items k ≡ k + 1;
}
