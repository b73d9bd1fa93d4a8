-- How far the taking of an input is.
use Rattle.std.specs.Prelude.{◌≡◌, ◌≤◌, ℕ, List}
use Rattle.ah_outside.specs.Outside.{Gave}
use Rattle.read_job.specs.Ends.{Streams}

-- bytes were taken, and nothing was put; the count of the source's faults has not fallen
pub record HasTaken (text : List ℕ) (old new : Streams) : Type 0 where
  pub gave : Gave old.left text new.left
  pub unchanged : new.gained ≡ old.gained
  pub counted : old.read_faults ≤ new.read_faults
