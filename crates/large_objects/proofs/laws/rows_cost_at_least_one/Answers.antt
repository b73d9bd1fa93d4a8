use Rattle.large_objects.proofs.LawLemmas.{rows-cost}
use Rattle.large_objects.proofs.laws.rows_cost_at_least_one.Goals as goal

pub returns : goal.returns
returns c = λ rows a. rows-cost rows a.bytes
