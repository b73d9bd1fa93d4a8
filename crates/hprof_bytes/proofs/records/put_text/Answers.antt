use Rattle.hprof_list.proofs.Putting.{said}
use Rattle.hprof_bytes.proofs.Frames.{text-frame}
use Rattle.hprof_bytes.proofs.records.put_text.Goals as goal

pub returns : goal.returns
returns g c = said _ _ _ _ _ _ _ c.put_pieces.ensures (simp (c.byte-tag.ensures, c.word-time.ensures, c.word-length.ensures, c.word-id.ensures) (text-frame c.args.time c.args.id c.args.bytes.now))
