use Rattle.std.proofs.Common.{◌<◌, ◌∙◌, arith, sym}
use Rattle.std.proofs.lemmas.Grind.{common_steps}
use Rattle.artheap_top.proofs.Digits.{digits-fit, digits-more, digits-some}
use Rattle.artheap_top.proofs.words.id_of.Goals as goal

pub overflow_mul-id : goal.overflow_mul-id
overflow_mul-id c =
    let short : c.loop-digit.digit-index < 8 = grind (arith, common_steps) in
    omega (arith, digits-fit c.loop-digit.id 0 c.loop-digit.digit-index c.loop-digit.invariant.below (omega arith) short)

pub overflow_add-id : goal.overflow_add-id
overflow_add-id c =
    let short : c.loop-digit.digit-index < 8 = grind (arith, common_steps) in
    omega (arith, digits-fit c.loop-digit.id c.in_ok-id.field-0 c.loop-digit.digit-index c.loop-digit.invariant.below c.in_ok-id.ensures.below short)

pub loop-digit-preserved : goal.loop-digit-preserved
loop-digit-preserved c = record {
  below = digits-more c.loop-digit.id c.in_ok-id.field-0 c.loop-digit.digit-index c.loop-digit.invariant.below c.in_ok-id.ensures.below;
  goes_on = digits-some c.loop-digit.id c.loop-digit.digit-index c.in_ok-id.field-0 c.args.word.now c.loop-digit-test.true (sym c.in_ok-id.ensures.value) ∙ c.loop-digit.invariant.goes_on;
}
