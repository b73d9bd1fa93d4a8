use Rattle.std.proofs.Common.{arith}
use Rattle.page_tables.proofs.ListLemmas.{copied-up, copied-down}
use Rattle.page_tables.proofs.frame.copy_bytes.Goals as goal

pub returns-then-from-to : goal.returns-then-from-to
returns-then-from-to c =
    copied-up c.args.frames.now c.split_at_mut-low.result.0.now c.split_at_mut-low.result.1.now c.args.from c.args.to c.copy_from_slice.new.self
    c.split_at_mut-low.ensures.value c.split_at_mut-low.ensures.front_len c.if-from-to.true c.requires.to_within c.copy_from_slice.ensures.after

pub returns-else-from-to : goal.returns-else-from-to
returns-else-from-to c =
    copied-down c.args.frames.now c.split_at_mut-low-else-from-to.result.0.now c.split_at_mut-low-else-from-to.result.1.now c.args.from c.args.to c.copy_from_slice-else-from-to.new.self
    c.split_at_mut-low-else-from-to.ensures.value c.split_at_mut-low-else-from-to.ensures.front_len (omega (arith, c.if-from-to.false, c.requires.apart)) c.requires.from_within c.copy_from_slice-else-from-to.ensures.after
