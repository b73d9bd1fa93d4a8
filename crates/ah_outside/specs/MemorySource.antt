-- What a source in memory holds.
use Rattle.std.specs.Prelude.{ℕ, List, drop}
use Rattle.ah_outside.specs.FaultPlan.{Plan, after_call, after_fault}

-- the bytes that are left, the most that a call gives, and the plan of its calls
pub record SourceState : Type 0 where
  pub left : List ℕ
  pub piece : ℕ
  pub plan : Plan

-- the source after a call that gave so many bytes
abbrev pub after_giving : SourceState → ℕ → SourceState
after_giving s n = record { left = drop n s.left; piece = s.piece; plan = after_call s.plan }

-- the source after a call that failed
abbrev pub after_failed_take : SourceState → SourceState
after_failed_take s = record { left = s.left; piece = s.piece; plan = after_fault s.plan }
