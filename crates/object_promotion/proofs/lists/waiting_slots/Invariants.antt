use Rattle.std.proofs.Common.{◌≡◌, take}
use Rattle.live_objects.specs.Live.{addresses}
use Rattle.object_promotion.specs.Listed.{waiting_at}
use Rattle.object_promotion.proofs.lists.waiting_slots.Given as goal

-- those before this one are listed
abbrev pub invariant-loop-row : goal.invariant-loop-row
invariant-loop-row l = record { listed : addresses l.ats.items ≡ waiting_at (take l.row-index l.row-items) }
