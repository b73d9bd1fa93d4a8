use Rattle.hprof_list.proofs.Putting.{said}
use Rattle.hprof_list.proofs.lines.put_instance.Goals as goal

pub returns : goal.returns
returns g c = said _ _ _ _ _ _ _ c.put_value_line.ensures (simp (c.as_bytes.ensures.value, c.format.ensures.text, c.as_slice.ensures, c.id_of-id.ensures, c.id_of-class.ensures))
