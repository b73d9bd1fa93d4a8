use Rattle.std.proofs.Common.{◌-◌, ◌/◌, ◌^◌, ◌≤◌}
use Rattle.raw_objects.specs.Raws.{Raws}
use Rattle.mod_union.specs.ModUnion.{HoldsSpace}
use Rattle.mod_union.specs.Scans.{end_on, space_in, AreBelow, IsEdge, Reads}
use Rattle.mod_union.proofs.scan.Scan.scan_from.Given as goal

-- the objects before this address are scanned
abbrev pub invariant-loop-next : goal.invariant-loop-next
invariant-loop-next l = record {
  behind : l.fn.next ≤ l.next;
  scanned : (raws : Raws) → HoldsSpace (space_in l.self l.fn.frames) raws → IsEdge l.self.classes.now raws l.fn.next → AreBelow l.self raws (end_on l.card l.fn.next) l.fn.found.items
      → IsEdge l.self.classes.now raws l.next × AreBelow l.self raws (end_on l.card l.next) l.found.items;
  reads : Reads ((end_on l.card l.next - l.fn.next) / 2) l.fn.frames l.frames;
}

abbrev pub decreases-loop-next : goal.decreases-loop-next
decreases-loop-next l = 2 ^ 64 - l.next
