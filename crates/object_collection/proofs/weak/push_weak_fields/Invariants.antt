use Rattle.heap_graph.specs.declared.names.Shape.TheVariants.{Instance}
use Rattle.live_objects.specs.Live.{addresses}
use Rattle.object_collection.specs.Weaks.{Adds}
use Rattle.object_collection.proofs.WeakLemmas.{IsWeakBefore}
use Rattle.object_collection.proofs.weak.push_weak_fields.Given as goal

-- the weak ones of the references before this one are pushed
abbrev pub invariant-loop-k : goal.invariant-loop-k
invariant-loop-k l = Adds (IsWeakBefore l.classes (Instance l.class) l.at.0 l.k) (addresses l.fn.weak.items) (addresses l.weak.items)
