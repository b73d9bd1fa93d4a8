use Rattle.std.proofs.Common.{[]}
use Rattle.live_objects.specs.Live.{addresses}
use Rattle.object_collection.specs.Weaks.{Adds}
use Rattle.object_collection.proofs.PageLemmas.{IsSlotBelow}
use Rattle.object_collection.proofs.lists.slot_addresses.Given as goal

-- the slots before this one are listed
abbrev pub invariant-loop-slot : goal.invariant-loop-slot
invariant-loop-slot l = Adds (IsSlotBelow l.large l.slot) [] (addresses l.ats.items)
