use Rattle.hprof_list.proofs.Putting.{said}
use Rattle.hprof_list.proofs.lines.put_class_line.Goals as goal

pub returns : goal.returns
returns g c = said _ _ _ _ _ _ _ c.put_pieces.ensures (simp (c.as_bytes.ensures.value, c.format.ensures.text, c.as_bytes-2.ensures.value, c.format-2.ensures.text, c.as_bytes-3.ensures.value, c.format-3.ensures.text, c.as_bytes-4.ensures.value, c.format-4.ensures.text, c.as_bytes-5.ensures.value, c.format-5.ensures.text, c.id_of-id.ensures, c.id_of-parent.ensures, c.id_of-loader.ensures, c.id_of-signers.ensures, c.id_of-domain.ensures))
