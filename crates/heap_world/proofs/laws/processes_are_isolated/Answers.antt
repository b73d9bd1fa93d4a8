use Rattle.std.proofs.Common.{refl}
use Rattle.heap_world.specs.Isolation.{first_told}
use Rattle.heap_world.specs.World.{first_world}
use Rattle.heap_world.proofs.Told.{first_kept, run_kept}
use Rattle.heap_world.proofs.ToldNames.{names-after}
use Rattle.heap_world.proofs.laws.processes_are_isolated.Goals as goal

pub returns-clause-alone : goal.returns-clause-alone
returns-clause-alone c budget number lines fine = run_kept (first_world budget number) (first_world budget number) first_told lines fine (first_kept budget number)

pub returns-clause-names : goal.returns-clause-names
returns-clause-names c budget number lines = names-after (first_world budget number) first_told lines refl
