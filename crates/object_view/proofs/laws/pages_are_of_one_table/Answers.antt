use Rattle.object_view.proofs.Alone.{one-table}
use Rattle.object_view.proofs.laws.pages_are_of_one_table.Goals as goal

pub returns : goal.returns
returns c = one-table
