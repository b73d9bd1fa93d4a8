use Rattle.std.proofs.Common.{◌-◌, length}
use Rattle.ah_outside.proofs.PutAll.{PutSoFar}
use Rattle.ah_outside.proofs.sink.put_all.Given as goal

abbrev pub invariant-loop-done : goal.invariant-loop-done
invariant-loop-done g l =
    PutSoFar (g.W.Sink.gained l.initial.sink) l.piece l.done (g.W.Sink.gained l.sink)
    (g.W.Sink.fault_count l.initial.sink) (g.W.Sink.fault_count l.sink)

abbrev pub decreases-loop-done : goal.decreases-loop-done
decreases-loop-done g l = length l.piece - l.done
