use Rattle.hprof_list.proofs.Putting.{SoFar}
use Rattle.root_paths.specs.Answer.{node_line}
use Rattle.root_paths.proofs.put.put_way.Given as goal

abbrev pub invariant-loop-number : goal.invariant-loop-number
invariant-loop-number g l =
    SoFar (node_line l.graph) l.way l.number-index (g.W.Sink.gained l.fn.sink) (g.W.Sink.fault_count l.fn.sink) (g.W.Sink.gained l.sink) (g.W.Sink.fault_count l.sink)
