use Rattle.live_objects.specs.Live.{addresses}
use Rattle.object_collection.specs.Weaks.{Adds}
use Rattle.object_collection.proofs.WeakLemmas.{IsWeakFirst}
use Rattle.object_collection.proofs.weak.push_weak_slots.Given as goal

-- the weak ones of the slots before this one are pushed
abbrev pub invariant-loop-slot : goal.invariant-loop-slot
invariant-loop-slot l = Adds (IsWeakFirst l.slots l.slot-index) (addresses l.fn.weak.items) (addresses l.weak.items)
