-- What the telling of a path leaves.
use Rattle.std.specs.Prelude.{◌≡◌, ℕ, List, Option}
use Rattle.ah_outside.specs.Outside.{FaultRose, GainedPrefix}
use Rattle.root_paths.specs.declared.path_error.PathError.{PathError}
use Rattle.root_paths.specs.declared.path_error.PathError.TheVariants.{SinkFault, OutOfMemory}

-- what a sink gained of a text before an error: some first bytes where it failed, and then its count of faults rose;
-- nothing where memory ran out
abbrev pub Stopped : PathError → Option (List ℕ) → ℕ → List ℕ → Option (List ℕ) → ℕ → Type 0
Stopped SinkFault held faults text held' faults' = GainedPrefix held text held' × FaultRose faults faults'
Stopped OutOfMemory held faults text held' faults' = held' ≡ held
