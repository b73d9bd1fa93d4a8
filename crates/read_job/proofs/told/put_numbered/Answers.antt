use Rattle.hprof_list.proofs.Putting.{said}
use Rattle.read_job.proofs.told.put_numbered.Goals as goal

pub returns : goal.returns
returns g c = said _ _ _ _ _ _ _ c.put_pieces.ensures (simp (c.as_bytes.ensures.value, c.format.ensures.text, c.as_bytes-2.ensures.value, c.format-2.ensures.text))
