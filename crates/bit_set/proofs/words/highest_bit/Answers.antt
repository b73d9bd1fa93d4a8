use Rattle.std.proofs.Common.{arith}
use Rattle.bit_set.proofs.BitsLemmas.{highest}
use Rattle.bit_set.proofs.words.highest_bit.Goals as goal

pub returns : goal.returns
returns c = highest c.args.word c.requires (omega arith)
