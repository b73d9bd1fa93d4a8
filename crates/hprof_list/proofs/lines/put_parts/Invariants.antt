use Rattle.hprof_list.specs.Listing.{part_lines}
use Rattle.hprof_list.proofs.Putting.{SoFar}
use Rattle.hprof_list.proofs.lines.put_parts.Given as goal

abbrev pub invariant-loop-part : goal.invariant-loop-part
invariant-loop-part g l =
    SoFar part_lines l.parts l.part-index (g.W.Sink.gained l.fn.sink) (g.W.Sink.fault_count l.fn.sink) (g.W.Sink.gained l.sink) (g.W.Sink.fault_count l.sink)
