use Rattle.page_runs.proofs.LawLemmas.{run-joined}
use Rattle.page_runs.proofs.laws.runs_join.Goals as goal

pub returns : goal.returns
returns c = run-joined
