use Rattle.hprof_list.proofs.Putting.{SoFar}
use Rattle.hprof_list.proofs.put.put_pieces.Given as goal

abbrev pub invariant-loop-piece : goal.invariant-loop-piece
invariant-loop-piece g l =
    SoFar (λ p. p.now) l.pieces l.piece-index (g.W.Sink.gained l.fn.sink) (g.W.Sink.fault_count l.fn.sink) (g.W.Sink.gained l.sink) (g.W.Sink.fault_count l.sink)
