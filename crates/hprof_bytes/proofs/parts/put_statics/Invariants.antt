use Rattle.hprof_records.specs.Parts.{static_bytes}
use Rattle.hprof_list.proofs.Putting.{SoFar}
use Rattle.hprof_bytes.proofs.parts.put_statics.Given as goal

abbrev pub invariant-loop-one : goal.invariant-loop-one
invariant-loop-one g l =
    SoFar static_bytes l.list l.one-index (g.W.Sink.gained l.fn.sink) (g.W.Sink.fault_count l.fn.sink) (g.W.Sink.gained l.sink) (g.W.Sink.fault_count l.sink)
