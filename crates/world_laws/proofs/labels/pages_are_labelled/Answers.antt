use Rattle.world_laws.proofs.LabelledPages.{labelled_before, step_labelled}
use Rattle.world_laws.proofs.labels.pages_are_labelled.Goals as goal

pub returns-clause-step : goal.returns-clause-step
returns-clause-step c = step_labelled

pub returns-clause-before : goal.returns-clause-before
returns-clause-before c = labelled_before
