use Rattle.std.proofs.Common.{◌-◌, ◌≤◌, length, take}
use Rattle.ah_outside.specs.Outside.{Gained}
use Rattle.hprof_list.specs.Listing.{hex}
use Rattle.hprof_list.proofs.put.put_hex.Given as goal

abbrev pub invariant-loop-done : goal.invariant-loop-done
invariant-loop-done g l = record {
  in_range : l.done ≤ length l.bytes;
  never_falls : g.W.Sink.fault_count l.fn.sink ≤ g.W.Sink.fault_count l.sink;
  gained : Gained (g.W.Sink.gained l.fn.sink) (hex (take l.done l.bytes)) (g.W.Sink.gained l.sink);
}

abbrev pub decreases-loop-done : goal.decreases-loop-done
decreases-loop-done g l = length l.bytes - l.done
