use Rattle.std.proofs.Common.{arith}
use Rattle.object_view.proofs.Lookups.{forward-small}
use Rattle.object_view.proofs.words.header_of.Goals as goal

pub overflow_mul-result : goal.overflow_mul-result
overflow_mul-result c = omega (arith, forward-small c.args.word c.requires.0 c.requires.1 c.requires.2 c.if-word-lt-FORWARD_LOCK.false)
