use Rattle.std.proofs.Common.{◌+◌, ◌*◌, ◌/◌, arith}
use Rattle.std.proofs.lemmas.Option.{IfSome_then}
use Rattle.bit_set.proofs.BitsLemmas.{IsLeastFrom-lower, NoneFrom-lower, IfNone_then, least_from, none_from, has_number-past}
use Rattle.bit_set.proofs.words.next_from.Goals as goal

pub returns-then-first-words-clause-none : goal.returns-then-first-words-clause-none
returns-then-first-words-clause-none c = λ k low. has_number-past c.args.words.now k (omega arith)

pub returns-then-high-ne0-clause-found : goal.returns-then-high-ne0-clause-found
returns-then-high-ne0-clause-found c =
    least_from c.args.words.now c.args.n c.lowest_bit.result (omega arith) c.lowest_bit.ensures.least

pub returns-clause-found : goal.returns-clause-found
returns-clause-found c =
    IfSome_then _ c.first_in.ensures.found (λ q. IsLeastFrom-lower _ c.args.n (64 * (c.args.n / 64 + 1)) q (omega arith)
    (none_from c.args.words.now c.args.n c.if-high-ne0.false))

pub returns-clause-none : goal.returns-clause-none
returns-clause-none c =
    IfNone_then _ (NoneFrom-lower _ c.args.n (64 * (c.args.n / 64 + 1)) (none_from c.args.words.now c.args.n c.if-high-ne0.false))
    c.first_in.ensures.none
