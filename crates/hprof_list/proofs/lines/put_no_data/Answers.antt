use Rattle.hprof_list.proofs.Putting.{said}
use Rattle.hprof_list.proofs.lines.put_no_data.Goals as goal

pub returns : goal.returns
returns g c = said _ _ _ _ _ _ _ c.put_pieces.ensures (simp (c.as_bytes.ensures.value, c.format.ensures.text, c.as_bytes-2.ensures.value, c.format-2.ensures.text, c.as_bytes-3.ensures.value, c.format-3.ensures.text, c.id_of-id.ensures))
