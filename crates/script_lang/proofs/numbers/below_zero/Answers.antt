use Rattle.std.proofs.Common.{◌∙◌, sym, ap}
use Rattle.script_lang.proofs.NumbersLemmas.{number_of-below, negated}
use Rattle.script_lang.proofs.numbers.below_zero.Goals as goal

pub returns-in_err-size : goal.returns-in_err-size
returns-in_err-size c = c.from_residual.ensures ∙ ap negated c.in_err-size.ensures ∙ sym (number_of-below c.args.digits.now)
