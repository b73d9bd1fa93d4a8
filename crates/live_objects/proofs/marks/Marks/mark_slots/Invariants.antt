use Rattle.std.proofs.Common.{take}
use Rattle.live_objects.specs.Marks.{HeldIn, Takes}
use Rattle.live_objects.proofs.StartLemmas.{targets}
use Rattle.live_objects.proofs.marks.Marks.mark_slots.Given as goal

-- what the slots before this one hold is marked
abbrev pub invariant-loop-slot : goal.invariant-loop-slot
invariant-loop-slot l = Takes (HeldIn l.larges (targets (take l.slot-index l.slots))) l.fn.self l.self
