use Rattle.std.proofs.Common.{◌∙◌}
use Rattle.script_lang.proofs.NumbersLemmas.{number_of-empty}
use Rattle.script_lang.proofs.numbers.number.Goals as goal

pub returns-in_err-first : goal.returns-in_err-first
returns-in_err-first c = c.from_residual.ensures ∙ number_of-empty c.args.word.now c.in_err-first.ensures.cases
