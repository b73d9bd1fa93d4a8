use Rattle.std.proofs.Common.{ap, subst}
use Rattle.heap_world.specs.Acts.{fork_part}
use Rattle.heap_world.specs.Part.{Part}
use Rattle.plain_machine.specs.Outcomes.{IsOutcome}
use Rattle.plain_machine.proofs.process.Process.fork.Goals as goal

pub returns-clause-done : goal.returns-clause-done
returns-clause-done c =
    subst (λ (p : Part). IsOutcome p c.in_ok-outcome.outcome (fork_part p)) (ap (λ r. r.part) c.self.view_is) c.in_ok-outcome.ensures
