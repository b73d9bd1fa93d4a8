-- What a sink in memory holds.
use Rattle.std.specs.Prelude.{ℕ, List, ◌++◌}
use Rattle.ah_outside.specs.FaultPlan.{Plan, after_call, after_fault}

-- the bytes that it took, how many there is room for in all, and the plan of its calls
pub record SinkState : Type 0 where
  pub bytes : List ℕ
  pub room : ℕ
  pub plan : Plan

-- the sink after a call that took these bytes
abbrev pub after_taking : SinkState → List ℕ → SinkState
after_taking s taken = record { bytes = s.bytes ++ taken; room = s.room; plan = after_call s.plan }

-- the sink after a call that failed
abbrev pub after_failed_put : SinkState → SinkState
after_failed_put s = record { bytes = s.bytes; room = s.room; plan = after_fault s.plan }
