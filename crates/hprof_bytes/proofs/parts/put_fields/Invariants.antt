use Rattle.hprof_records.specs.Parts.{field_name_bytes}
use Rattle.hprof_list.proofs.Putting.{SoFar}
use Rattle.hprof_bytes.proofs.parts.put_fields.Given as goal

abbrev pub invariant-loop-one : goal.invariant-loop-one
invariant-loop-one g l =
    SoFar field_name_bytes l.list l.one-index (g.W.Sink.gained l.fn.sink) (g.W.Sink.fault_count l.fn.sink) (g.W.Sink.gained l.sink) (g.W.Sink.fault_count l.sink)
