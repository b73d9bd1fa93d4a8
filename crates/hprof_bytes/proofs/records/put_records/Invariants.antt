use Rattle.hprof_records.specs.Records.{bytes_of_record}
use Rattle.hprof_list.proofs.Putting.{SoFar}
use Rattle.hprof_bytes.proofs.records.put_records.Given as goal

abbrev pub invariant-loop-one : goal.invariant-loop-one
invariant-loop-one g l =
    SoFar bytes_of_record l.records l.one-index (g.W.Sink.gained l.fn.sink) (g.W.Sink.fault_count l.fn.sink) (g.W.Sink.gained l.sink) (g.W.Sink.fault_count l.sink)
