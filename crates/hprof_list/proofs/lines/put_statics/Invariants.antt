use Rattle.hprof_list.specs.Listing.{static_line}
use Rattle.hprof_list.proofs.Putting.{SoFar}
use Rattle.hprof_list.proofs.lines.put_statics.Given as goal

abbrev pub invariant-loop-one : goal.invariant-loop-one
invariant-loop-one g l =
    SoFar static_line l.list l.one-index (g.W.Sink.gained l.fn.sink) (g.W.Sink.fault_count l.fn.sink) (g.W.Sink.gained l.sink) (g.W.Sink.fault_count l.sink)
