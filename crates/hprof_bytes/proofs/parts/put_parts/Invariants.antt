use Rattle.hprof_records.specs.Parts.{bytes_of_part}
use Rattle.hprof_list.proofs.Putting.{SoFar}
use Rattle.hprof_bytes.proofs.parts.put_parts.Given as goal

abbrev pub invariant-loop-part : goal.invariant-loop-part
invariant-loop-part g l =
    SoFar bytes_of_part l.parts l.part-index (g.W.Sink.gained l.fn.sink) (g.W.Sink.fault_count l.fn.sink) (g.W.Sink.gained l.sink) (g.W.Sink.fault_count l.sink)
