use Rattle.hprof_list.proofs.Putting.{said}
use Rattle.hprof_bytes.proofs.parts.put_instance.Goals as goal

pub returns : goal.returns
returns g c = said _ _ _ _ _ _ _ c.put_pieces.ensures (simp (c.byte.ensures, c.word-id.ensures, c.word-stack.ensures, c.word-class.ensures, c.word-count.ensures))
