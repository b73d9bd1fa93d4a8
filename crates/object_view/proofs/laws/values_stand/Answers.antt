use Rattle.object_view.proofs.Stores.{loaded, number-there}
use Rattle.object_view.proofs.laws.values_stand.Goals as goal

pub returns-clause-number : goal.returns-clause-number
returns-clause-number c = number-there

pub returns-clause-value : goal.returns-clause-value
returns-clause-value c = loaded
