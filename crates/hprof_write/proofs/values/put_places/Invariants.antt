use Rattle.std.proofs.Common.{◌≡◌, ◌++◌, take}
use Rattle.heap_graph.specs.Graph.{Object}
use Rattle.object_view.specs.Seen.{count_if, is_in_window, RoseBy}
use Rattle.hprof_write.specs.Objects.{values_bytes, HasValues}
use Rattle.hprof_write.proofs.values.put_places.Given as goal

abbrev pub invariant-loop-place : goal.invariant-loop-place
invariant-loop-place g l = record {
  given : g.V.HeapView.given l.view ≡ g.V.HeapView.given l.fn.view;
  same : g.V.HeapView.same l.fn.view l.view;
  put : (o : Object) → HasValues (g.V.HeapView.graph l.fn.view) (g.V.HeapView.table l.fn.view) l.at.0 l.places o
      → l.out.items ≡ l.fn.out.items ++ values_bytes (g.V.HeapView.table l.fn.view) o (take l.place-index l.places);
  reads : RoseBy (count_if (is_in_window l.at.0) l.place-index) (g.V.HeapView.read_count l.fn.view) (g.V.HeapView.read_count l.view);
}
