use Rattle.std.proofs.Common.{◌≡◌, ◌++◌, take, length}
use Rattle.class_layout.specs.declared.kind.FieldAt.{FieldAt}
use Rattle.class_layout.specs.ClassList.{own_fields_of}
use Rattle.class_layout.specs.Placing.{IsIn}
use Rattle.heap_graph.specs.declared.names.Shape.TheVariants.{Instance}
use Rattle.heap_graph.specs.Places.{places_of}
use Rattle.hprof_write.specs.Objects.{own_places}
use Rattle.hprof_write.proofs.values.add_own_places.Given as goal

abbrev pub invariant-loop-k : goal.invariant-loop-k
invariant-loop-k l = record {
  count : l.k-end ≡ length (own_fields_of l.classes l.class);
  places : l.places.items ≡ l.fn.places.items ++ take l.k (own_places l.classes l.class);
  within : (p : FieldAt) → IsIn p (take l.k (own_places l.classes l.class)) → IsIn p (places_of l.classes (Instance l.class));
}
