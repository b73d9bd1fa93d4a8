use Rattle.hprof_list.proofs.Putting.{said}
use Rattle.hprof_bytes.proofs.records.put_header.Goals as goal

pub returns : goal.returns
returns g c = said _ _ _ _ _ _ _ c.put_pieces.ensures (simp (c.word.ensures, c.double.ensures))
