use Rattle.std.proofs.Common.{◌≡◌, ◌≤◌, ◌++◌, length, take, drop, vec_capacity}
use Rattle.root_list.specs.Places.{kept_of}
use Rattle.root_list.proofs.table.pack.Given as goal

-- the addresses of roots before this place stand in front
abbrev pub invariant-loop-k : goal.invariant-loop-k
invariant-loop-k l = record {
  few : l.kept ≤ l.k;
  kept : take l.kept l.addresses.items ++ kept_of (drop l.k l.fn.names) (drop l.k l.addresses.items) ≡ kept_of l.fn.names l.fn.addresses.items;
  long : length l.addresses.items ≡ length l.fn.addresses.items;
  capacity : vec_capacity l.addresses ≡ vec_capacity l.fn.addresses;
}
