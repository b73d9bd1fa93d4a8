use Rattle.weak_refs.proofs.Clears.{one-table}
use Rattle.weak_refs.proofs.laws.references_are_of_one_table.Goals as goal

pub returns : goal.returns
returns c = one-table
