use Rattle.page_runs.proofs.RunLemmas.{run-only, released-only}
use Rattle.page_runs.proofs.laws.runs_are_of_one_table.Goals as goal

pub returns-clause-mapped : goal.returns-clause-mapped
returns-clause-mapped c = run-only

pub returns-clause-released : goal.returns-clause-released
returns-clause-released c = released-only
