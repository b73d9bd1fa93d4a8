-- Which calls of a form in memory are to fail.
use Rattle.std.specs.Prelude.{ℕ, ◌+◌, List, Contains}
use Rattle.ah_outside.specs.Counts.{one_more}

-- how many calls there were and how many of them failed, both standing still at the last value of a `u64`,
-- and the numbers of the calls that are to fail, counted from 1
pub record Plan : Type 0 where
  pub calls : ℕ
  pub fails : List ℕ
  pub faults : ℕ

-- the plan before the first call
abbrev pub fresh_plan : List ℕ → Plan
fresh_plan fails = record { calls = 0; fails = fails; faults = 0 }

-- the next call is one of those that are to fail
abbrev pub IsNextToFail : Plan → Type 0
IsNextToFail plan = Contains plan.fails (plan.calls + 1)

-- the plan after a call that went well
abbrev pub after_call : Plan → Plan
after_call plan = record { calls = one_more plan.calls; fails = plan.fails; faults = plan.faults }

-- the plan after a call that failed
abbrev pub after_fault : Plan → Plan
after_fault plan = record { calls = one_more plan.calls; fails = plan.fails; faults = one_more plan.faults }
