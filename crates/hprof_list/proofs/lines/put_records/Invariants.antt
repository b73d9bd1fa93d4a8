use Rattle.hprof_list.specs.Listing.{record_lines}
use Rattle.hprof_list.proofs.Putting.{SoFar}
use Rattle.hprof_list.proofs.lines.put_records.Given as goal

abbrev pub invariant-loop-one : goal.invariant-loop-one
invariant-loop-one g l =
    SoFar record_lines l.records l.one-index (g.W.Sink.gained l.fn.sink) (g.W.Sink.fault_count l.fn.sink) (g.W.Sink.gained l.sink) (g.W.Sink.fault_count l.sink)
