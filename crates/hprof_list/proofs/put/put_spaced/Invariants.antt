use Rattle.hprof_list.specs.Listing.{spaced_id}
use Rattle.hprof_list.proofs.Putting.{SoFar}
use Rattle.hprof_list.proofs.put.put_spaced.Given as goal

abbrev pub invariant-loop-id : goal.invariant-loop-id
invariant-loop-id g l =
    SoFar spaced_id l.ids l.id-index (g.W.Sink.gained l.fn.sink) (g.W.Sink.fault_count l.fn.sink) (g.W.Sink.gained l.sink) (g.W.Sink.fault_count l.sink)
