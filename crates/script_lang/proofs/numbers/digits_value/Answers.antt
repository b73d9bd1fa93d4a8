use Rattle.std.proofs.Common.{◌∙◌, ◌+◌, ◌*◌, arith}
use Rattle.script_lang.proofs.NumbersLemmas.{digits_up_to-over, digits_up_to-end, next_digit-le}
use Rattle.script_lang.proofs.numbers.digits_value.Goals as goal

pub returns-in_err-checked_mul : goal.returns-in_err-checked_mul
returns-in_err-checked_mul c =
    let word = c.args.digits.now in
    let next = next_digit-le c.loop-b.value c.loop-b.b-index word (omega arith) c.loop-b.invariant.0 in
    c.from_residual.ensures ∙ digits_up_to-over 18446744073709551615 (c.loop-b.value * 10) word (omega (arith, next)) (omega (arith, c.in_err-checked_mul.ensures))

pub returns-in_err-value : goal.returns-in_err-value
returns-in_err-value c =
    let word = c.args.digits.now in
    let next = next_digit-le c.loop-b.value c.loop-b.b-index word (omega arith) c.loop-b.invariant.0 in
    let product = c.in_ok-checked_mul.ensures in
    let digit = c.from.ensures in
    c.from_residual-in_err-value.ensures ∙ digits_up_to-over 18446744073709551615 (c.in_ok-checked_mul.field-0 + c.from.result) word (omega (arith, next, product.1, digit)) (omega (arith, c.in_err-value.ensures))

pub returns : goal.returns
returns c =
    digits_up_to-end 18446744073709551615 c.loop-b.value c.loop-b.b-index c.args.digits.now (omega arith) c.loop-b.invariant.0 c.loop-b.invariant.1 (omega (arith, c.loop-b.invariant.2))
