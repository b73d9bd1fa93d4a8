use Rattle.std.proofs.Common.{◌-◌, ◌≤◌}
use Rattle.raw_objects.specs.Raws.{Raws}
use Rattle.mod_union.specs.Scans.{space_in, IsObjectOf, Reads}
use Rattle.mod_union.proofs.Reached.{IsReached}
use Rattle.mod_union.proofs.scan.Scan.scan_references.Given as goal

-- the references before this one are passed
abbrev pub invariant-loop-k : goal.invariant-loop-k
invariant-loop-k l = record {
  reached : (raws : Raws) → IsObjectOf (space_in l.self l.fn.frames) raws l.at.0 l.shape
      → IsReached l.self.classes.now raws l.self.larges.now l.at.0 l.card l.first l.k l.fn.found.items l.found.items;
  small : l.first ≤ l.k;
  reads : Reads (l.k - l.first) l.fn.frames l.frames;
}
