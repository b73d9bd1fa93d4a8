use Rattle.std.proofs.Common.{arith}
use Rattle.page_tables.proofs.ListLemmas.{part-up, part-down}
use Rattle.page_tables.proofs.frame.copy_part.Goals as goal

pub returns-then-from-to : goal.returns-then-from-to
returns-then-from-to c =
    let cut = c.split_at_mut-low in
    part-up c.args.frames.now cut.result.0.now cut.result.1.now c.args.from c.args.start c.args.to c.args.offset c.args.count c.take_part.new.self
    cut.ensures.value cut.ensures.front_len c.if-from-to.true c.requires.to_within c.take_part.ensures

pub returns-else-from-to : goal.returns-else-from-to
returns-else-from-to c =
    let cut = c.split_at_mut-low-else-from-to in
    part-down c.args.frames.now cut.result.0.now cut.result.1.now c.args.from c.args.start c.args.to c.args.offset c.args.count c.take_part-else-from-to.new.self
    cut.ensures.value cut.ensures.front_len (omega (arith, c.if-from-to.false, c.requires.apart)) c.requires.from_within c.take_part-else-from-to.ensures
