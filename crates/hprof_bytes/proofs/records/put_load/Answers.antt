use Rattle.hprof_list.proofs.Putting.{said}
use Rattle.hprof_bytes.proofs.Frames.{load-frame}
use Rattle.hprof_bytes.proofs.records.put_load.Goals as goal

pub returns : goal.returns
returns g c =
    said _ _ _ _ _ _ _ c.put_pieces.ensures
    (simp (c.byte-tag.ensures, c.word-time.ensures, c.word-length.ensures, c.word-serial.ensures, c.word-class.ensures, c.word-stack.ensures, c.word-name.ensures)
    (load-frame c.args.time c.args.serial c.args.class c.args.stack c.args.name c.args.rest.now))
