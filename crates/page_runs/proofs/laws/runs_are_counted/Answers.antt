use Rattle.page_runs.proofs.LawLemmas.{run-counted}
use Rattle.page_runs.proofs.laws.runs_are_counted.Goals as goal

pub returns : goal.returns
returns c = run-counted
