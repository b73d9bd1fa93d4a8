use Rattle.page_runs.proofs.LawLemmas.{run-grown}
use Rattle.page_runs.proofs.laws.runs_grow.Goals as goal

pub returns : goal.returns
returns c = run-grown
