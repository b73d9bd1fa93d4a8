use Rattle.std.proofs.Common.{◌*◌, ◌/◌, length, arith}
use Rattle.std.proofs.lemmas.Option.{IfSome_then}
use Rattle.bit_set.proofs.BitsLemmas.{IsGreatestBelow-raise, NoneBelow-raise, IfNone_then, greatest_below, none_below, past_words}
use Rattle.bit_set.proofs.words.last_before.Goals as goal

pub returns-then-last-words-clause-found : goal.returns-then-last-words-clause-found
returns-then-last-words-clause-found c =
    IfSome_then _ c.last_in.ensures.found (λ q. IsGreatestBelow-raise _ (64 * length c.args.words.now) c.args.n q (omega arith)
    (past_words c.args.words.now c.args.n (omega arith)))

pub returns-then-last-words-clause-none : goal.returns-then-last-words-clause-none
returns-then-last-words-clause-none c =
    IfNone_then _ (NoneBelow-raise _ (64 * length c.args.words.now) c.args.n (past_words c.args.words.now c.args.n (omega arith)))
    c.last_in.ensures.none

pub returns-then-low-ne0-clause-found : goal.returns-then-low-ne0-clause-found
returns-then-low-ne0-clause-found c = greatest_below c.args.words.now c.args.n c.highest_bit.result c.highest_bit.ensures

pub returns-clause-found : goal.returns-clause-found
returns-clause-found c =
    IfSome_then _ c.last_in-2.ensures.found (λ q. IsGreatestBelow-raise _ (64 * (c.args.n / 64)) c.args.n q (omega arith)
    (none_below c.args.words.now c.args.n c.if-low-ne0.false))

pub returns-clause-none : goal.returns-clause-none
returns-clause-none c =
    IfNone_then _ (NoneBelow-raise _ (64 * (c.args.n / 64)) c.args.n (none_below c.args.words.now c.args.n c.if-low-ne0.false))
    c.last_in-2.ensures.none
