use Rattle.large_objects.proofs.LawLemmas.{row-covers}
use Rattle.large_objects.proofs.laws.pages_are_of_rows.Goals as goal

pub returns : goal.returns
returns c = record { covered = row-covers }
