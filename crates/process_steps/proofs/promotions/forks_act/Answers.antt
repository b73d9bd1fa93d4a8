use Rattle.process_steps.proofs.Forking.{forks-done, forks-full}
use Rattle.process_steps.proofs.promotions.forks_act.Goals as goal

pub returns-clause-done : goal.returns-clause-done
returns-clause-done c = λ one two p sealed formed first second done same-old same-was. forks-done one two p sealed formed first second same-old same-was

pub returns-clause-full : goal.returns-clause-full
returns-clause-full c = forks-full
