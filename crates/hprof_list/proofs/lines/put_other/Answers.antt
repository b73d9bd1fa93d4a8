use Rattle.hprof_list.proofs.Putting.{said}
use Rattle.hprof_list.proofs.lines.put_other.Goals as goal

pub returns : goal.returns
returns g c = said _ _ _ _ _ _ _ c.put_pieces.ensures (simp (c.as_bytes.ensures.value, c.format.ensures.text, c.as_slice.ensures, c.tag_of-tag.ensures))
