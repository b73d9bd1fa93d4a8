use Rattle.hprof_list.proofs.Putting.{said}
use Rattle.root_paths.proofs.put.put_level.Goals as goal

pub returns : goal.returns
returns g c = said _ _ _ _ _ _ _ c.put_pieces.ensures (simp (c.as_bytes.ensures.value, c.format.ensures.text, c.id_of.ensures))
