use Rattle.std.proofs.Common.{◌≡◌, ◌*◌, ◌≤◌, length, take}
use Rattle.hprof_list.specs.Listing.{hex}
use Rattle.hprof_list.proofs.put.write_hex.Given as goal

abbrev pub invariant-loop-i : goal.invariant-loop-i
invariant-loop-i l = record {
  room : 2 * length l.bytes ≤ length l.out;
  done : take (2 * l.i) l.out ≡ hex (take l.i l.bytes);
}
