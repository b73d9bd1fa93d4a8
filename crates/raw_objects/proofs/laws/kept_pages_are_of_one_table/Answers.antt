use Rattle.raw_objects.proofs.Kept.{one-table}
use Rattle.raw_objects.proofs.laws.kept_pages_are_of_one_table.Goals as goal

pub returns : goal.returns
returns c = one-table
