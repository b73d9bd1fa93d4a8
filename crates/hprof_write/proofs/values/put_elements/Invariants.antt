use Rattle.std.proofs.Common.{◌≡◌, ◌++◌, take}
use Rattle.heap_graph.specs.Graph.{Object}
use Rattle.heap_graph.specs.Places.{elements_from}
use Rattle.object_view.specs.Seen.{count_if, is_in_window, RoseBy}
use Rattle.hprof_write.specs.Objects.{values_bytes, HasValues}
use Rattle.hprof_write.proofs.values.put_elements.Given as goal

abbrev pub invariant-loop-i : goal.invariant-loop-i
invariant-loop-i g l = record {
  given : g.V.HeapView.given l.view ≡ g.V.HeapView.given l.fn.view;
  same : g.V.HeapView.same l.fn.view l.view;
  put : (o : Object) → HasValues (g.V.HeapView.graph l.fn.view) (g.V.HeapView.table l.fn.view) l.at.0 (elements_from l.kind 0 l.count) o
      → l.out.items ≡ l.fn.out.items ++ values_bytes (g.V.HeapView.table l.fn.view) o (take l.i (elements_from l.kind 0 l.count));
  reads : RoseBy (count_if (is_in_window l.at.0) l.i) (g.V.HeapView.read_count l.fn.view) (g.V.HeapView.read_count l.view);
}
