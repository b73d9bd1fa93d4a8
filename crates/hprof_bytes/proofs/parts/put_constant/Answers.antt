use Rattle.hprof_list.proofs.Putting.{said}
use Rattle.hprof_bytes.proofs.parts.put_constant.Goals as goal

pub returns : goal.returns
returns g c = said _ _ _ _ _ _ _ c.put_pieces.ensures (simp (c.half.ensures, c.byte.ensures, c.as_slice.ensures))
