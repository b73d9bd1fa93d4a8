use Rattle.std.proofs.Common.{◌*◌, arith}
use Rattle.bit_set.proofs.BitsLemmas.{IsLeastFrom-lower, least_in_word, none_up, none_at_end}
use Rattle.bit_set.proofs.words.first_in.Goals as goal

pub returns-then-word-ne0-clause-found : goal.returns-then-word-ne0-clause-found
returns-then-word-ne0-clause-found c =
    let low = c.lowest_bit.ensures in
    IsLeastFrom-lower _ (64 * c.args.first) (64 * c.loop-k.k) _ (omega arith) c.loop-k.invariant
    (least_in_word c.args.words.now c.loop-k.k c.lowest_bit.result low.below low.least)

pub loop-k-preserved : goal.loop-k-preserved
loop-k-preserved c = none_up c.args.words.now (64 * c.args.first) 0 c.loop-k.k c.if-word-ne0.false c.loop-k.invariant

pub returns-clause-none : goal.returns-clause-none
returns-clause-none c = none_at_end c.args.words.now (64 * c.args.first) 0 c.loop-k.k (omega arith) c.loop-k.invariant
