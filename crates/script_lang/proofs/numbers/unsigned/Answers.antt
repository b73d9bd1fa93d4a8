use Rattle.std.proofs.Common.{◌∙◌, sym, length, arith}
use Rattle.std.proofs.lemmas.Bool.{eqb-true, eqb-false}
use Rattle.script_lang.proofs.NumbersLemmas.{number_up_to-empty, number_up_to-zero, number_up_to-nought, number_up_to-digits}
use Rattle.script_lang.proofs.numbers.unsigned.Goals as goal

pub returns-in_err-first : goal.returns-in_err-first
returns-in_err-first c = c.from_residual.ensures ∙ number_up_to-empty 18446744073709551615 c.args.word.now c.in_err-first.ensures.cases

pub returns-then-first-ne48 : goal.returns-then-first-ne48
returns-then-first-ne48 c =
    let e = c.in_ok-first.ensures.cases.0 in
    c.digits_value.ensures ∙ number_up_to-digits 18446744073709551615 c.args.word.now (omega arith) (rw e (omega arith)) (rw e (λ z. absurd (c.if-first-ne48.true z)))

pub returns-then-is_empty : goal.returns-then-is_empty
returns-then-is_empty c =
    let e = c.in_ok-first.ensures.cases.0 in
    let more = c.in_ok-first.more.now in
    rw (e, c.if-first-ne48.false) (number_up_to-nought 18446744073709551615 more (eqb-true (length more) 0 (sym c.if-is_empty.ensures)))

pub returns-else-is_empty : goal.returns-else-is_empty
returns-else-is_empty c =
    let e = c.in_ok-first.ensures.cases.0 in
    let more = c.in_ok-first.more.now in
    let some = eqb-false (length more) 0 (sym c.if-is_empty.ensures) in
    rw (e, c.if-first-ne48.false) (number_up_to-zero 18446744073709551615 more (omega arith) (omega (arith, some)))
