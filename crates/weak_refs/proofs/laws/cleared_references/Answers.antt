use Rattle.weak_refs.proofs.Seen.{holds-now, none-dead}
use Rattle.weak_refs.proofs.laws.cleared_references.Goals as goal

pub returns-clause-holds : goal.returns-clause-holds
returns-clause-holds c kept v slots at s there = holds-now kept v slots s at there

pub returns-clause-again : goal.returns-clause-again
returns-clause-again c kept v slots s = none-dead kept v slots s
