use Rattle.std.proofs.Common.{◌≡◌, ℕ, ◌+◌, ◌-◌, ◌*◌, arith}
use Rattle.bit_set.proofs.BitsLemmas.{IsGreatestBelow-raise, greatest_in_word, none_down}
use Rattle.bit_set.proofs.words.last_in.Goals as goal

pub returns-then-word-ne0-clause-found : goal.returns-then-word-ne0-clause-found
returns-then-word-ne0-clause-found c =
    let k : ℕ = c.loop-k.k - 1 in
    let above : 64 * c.loop-k.k ≡ 64 * k + 64 = omega arith in
    IsGreatestBelow-raise _ (64 * k + 64) (64 * c.args.end) _ (omega arith) (λ q low high. c.loop-k.invariant q (omega arith) high)
    (greatest_in_word c.args.words.now k c.highest_bit.result c.highest_bit.ensures)

pub loop-k-preserved : goal.loop-k-preserved
loop-k-preserved c =
    none_down c.args.words.now 0 (64 * c.args.end) (c.loop-k.k - 1) c.if-word-ne0.false
    (λ q low high. c.loop-k.invariant q (omega arith) high)
