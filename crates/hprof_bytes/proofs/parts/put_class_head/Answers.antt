use Rattle.hprof_list.proofs.Putting.{said}
use Rattle.hprof_bytes.proofs.parts.put_class_head.Goals as goal

pub returns : goal.returns
returns g c = said _ _ _ _ _ _ _ c.put_pieces.ensures (simp (c.byte-tag.ensures, c.word-id.ensures, c.word-stack.ensures, c.word-parent.ensures, c.word-loader.ensures, c.word-signers.ensures, c.word-domain.ensures, c.word-spare_a.ensures, c.word-spare_b.ensures, c.word-size.ensures))
