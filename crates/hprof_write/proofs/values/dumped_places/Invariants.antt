use Rattle.std.proofs.Common.{◌≡◌, ◌<◌, ◌++◌, suc, Some, length}
use Rattle.class_layout.specs.declared.kind.FieldAt.{FieldAt}
use Rattle.class_layout.specs.Placing.{IsIn}
use Rattle.heap_graph.specs.declared.names.Shape.TheVariants.{Instance}
use Rattle.heap_graph.specs.Places.{places_of}
use Rattle.hprof_write.specs.Objects.{dumped_places, places_up}
use Rattle.hprof_write.proofs.values.dumped_places.Given as goal

abbrev pub invariant-loop-places : goal.invariant-loop-places
invariant-loop-places l = record {
  known : l.at < length l.classes;
  places : l.places.items ++ places_up l.classes (suc l.at) (Some l.at) ≡ dumped_places l.classes l.fn.class;
  within : (p : FieldAt) → IsIn p l.places.items → IsIn p (places_of l.classes (Instance l.fn.class));
  under : (p : FieldAt) → IsIn p (places_of l.classes (Instance l.at)) → IsIn p (places_of l.classes (Instance l.fn.class));
}

abbrev pub decreases-loop-places : goal.decreases-loop-places
decreases-loop-places l = l.at
