use Rattle.std.proofs.Common.{arith}
use Rattle.bit_set.proofs.BitsLemmas.{lowest}
use Rattle.bit_set.proofs.words.lowest_bit.Goals as goal

pub returns-clause-least : goal.returns-clause-least
returns-clause-least c = lowest c.args.word c.requires (omega arith)
