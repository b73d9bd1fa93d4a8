use Rattle.hprof_list.specs.Listing.{shown_byte}
use Rattle.hprof_list.proofs.Putting.{SoFar}
use Rattle.hprof_list.proofs.put.put_all_shown.Given as goal

abbrev pub invariant-loop-byte : goal.invariant-loop-byte
invariant-loop-byte g l =
    SoFar shown_byte l.bytes l.byte-index (g.W.Sink.gained l.fn.sink) (g.W.Sink.fault_count l.fn.sink) (g.W.Sink.gained l.sink) (g.W.Sink.fault_count l.sink)
