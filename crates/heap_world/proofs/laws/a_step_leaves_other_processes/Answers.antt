use Rattle.std.proofs.Common.{◌≡◌, ℕ, List, Option, None, Some, false, IfSome, refl}
use Rattle.class_layout.specs.Names.{same_name}
use Rattle.heap_world.specs.declared.command.Command.{Command}
use Rattle.heap_world.specs.World.{Process, World, process_named, step}
use Rattle.heap_world.proofs.Steps.{step_named}
use Rattle.heap_world.proofs.laws.a_step_leaves_other_processes.Goals as goal

-- what holds of each value that an option may have
found : (w : World) (line : ℕ) (c : Command) (name : List ℕ) → same_name c.process name ≡ false → (o : Option Process) → process_named w.processes name ≡ o →
    IfSome o (λ q. process_named (step w line c).world.processes name ≡ Some q)
found w line c name other None is = tt
found w line c name other (Some q) is = step_named w line c name q other is

pub returns : goal.returns
returns c w line command name other = found w line command name other (process_named w.processes name) refl
