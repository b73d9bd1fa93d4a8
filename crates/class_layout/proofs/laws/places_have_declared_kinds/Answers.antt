use Rattle.class_layout.proofs.Declared.{kind-declared, own-found}
use Rattle.class_layout.proofs.laws.places_have_declared_kinds.Goals as goal

pub returns-clause-found : goal.returns-clause-found
returns-clause-found c = own-found

pub returns-clause-kind : goal.returns-clause-kind
returns-clause-kind c = kind-declared
