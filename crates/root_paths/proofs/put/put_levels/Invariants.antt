use Rattle.hprof_list.proofs.Putting.{SoFar}
use Rattle.root_paths.specs.Paths.{numbers, dist}
use Rattle.root_paths.specs.Answer.{id_at, level_line}
use Rattle.root_paths.proofs.put.put_levels.Given as goal

abbrev pub invariant-loop-i : goal.invariant-loop-i
invariant-loop-i g l =
    SoFar (λ n. level_line l.limit (id_at l.graph n) (dist l.graph n)) (numbers l.graph) l.i (g.W.Sink.gained l.fn.sink) (g.W.Sink.fault_count l.fn.sink) (g.W.Sink.gained l.sink) (g.W.Sink.fault_count l.sink)
