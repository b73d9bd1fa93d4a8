use Rattle.std.proofs.Common.{sym, ap}
use Rattle.script_lang.specs.Feeding.{first_of}
use Rattle.script_lang.proofs.FeedingLemmas.{first_part-left}
use Rattle.script_lang.proofs.feed.up_to_line_feed.Goals as goal

pub returns-in-Some-clause-part : goal.returns-in-Some-clause-part
returns-in-Some-clause-part c = sym (ap first_of c.cut.ensures.parts)

pub returns-in-Some-clause-ended : goal.returns-in-Some-clause-ended
returns-in-Some-clause-ended c =
    sym (first_part-left c.args.piece.now c.cut.result.0.now c.in-Some.field-0.now (rw c.in-Some.is at c.cut.ensures.parts)).0

pub returns-in-Some-clause-count : goal.returns-in-Some-clause-count
returns-in-Some-clause-count c =
    (first_part-left c.args.piece.now c.cut.result.0.now c.in-Some.field-0.now (rw c.in-Some.is at c.cut.ensures.parts)).1
