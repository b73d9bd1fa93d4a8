use Rattle.address_table.proofs.Fitting.{none-at-null, object-not-null}
use Rattle.address_table.proofs.laws.null_is_no_object.Goals as goal

pub returns : goal.returns
returns c = record { objects = λ homes g o formed house. object-not-null homes g formed house o; others = none-at-null }
