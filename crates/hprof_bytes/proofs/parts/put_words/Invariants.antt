use Rattle.hprof_records.specs.Parts.{word}
use Rattle.hprof_list.proofs.Putting.{SoFar}
use Rattle.hprof_bytes.proofs.parts.put_words.Given as goal

abbrev pub invariant-loop-id : goal.invariant-loop-id
invariant-loop-id g l =
    SoFar word l.ids l.id-index (g.W.Sink.gained l.fn.sink) (g.W.Sink.fault_count l.fn.sink) (g.W.Sink.gained l.sink) (g.W.Sink.fault_count l.sink)
