use Rattle.evacuate.proofs.Counted.{counted, freed}
use Rattle.evacuate.proofs.laws.mortal_objects_are_counted.Goals as goal

pub returns-clause-counted : goal.returns-clause-counted
returns-clause-counted c = counted

pub returns-clause-freed : goal.returns-clause-freed
returns-clause-freed c = freed
