use Rattle.object_view.proofs.References.{references-each, references-found, references-none}
use Rattle.object_view.proofs.laws.all_references.Goals as goal

pub returns-clause-found : goal.returns-clause-found
returns-clause-found c = references-found

pub returns-clause-each : goal.returns-clause-each
returns-clause-each c = references-each

pub returns-clause-none_after : goal.returns-clause-none_after
returns-clause-none_after c = references-none
