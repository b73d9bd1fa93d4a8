use Rattle.class_layout.proofs.Declared.{superclass-first, superclass-found}
use Rattle.class_layout.proofs.laws.inherited_places_come_first.Goals as goal

pub returns-clause-first : goal.returns-clause-first
returns-clause-first c = superclass-first

pub returns-clause-found : goal.returns-clause-found
returns-clause-found c = superclass-found
