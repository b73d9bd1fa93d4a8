-- Graphs of which a dump tells the same.
use Rattle.std.specs.Prelude.{◌≡◌, ℕ, List, map}
use Rattle.class_layout.specs.declared.kind.FieldAt.{FieldAt}
use Rattle.class_layout.specs.ClassList.{Class}
use Rattle.class_layout.specs.Placing.{IsIn}
use Rattle.heap_graph.specs.Graph.{Graph, Object}
use Rattle.heap_graph.specs.Values.{held_targets}
use Rattle.heap_graph.specs.Places.{places_of}
use Rattle.object_view.specs.Seen.{value_in}
use Rattle.dump_shows.specs.Shows.{heap_code}

-- two objects are the same to a reader: they have one shape, stand in one heap, and hold the same at each place
pub record HoldsSame (cs : List Class) (table : ℕ → ℕ) (o : Object) (other : ℕ → ℕ) (p : Object) : Type 0 where
  pub shape_is : p.shape ≡ o.shape
  pub heap_is : heap_code p.place ≡ heap_code o.place
  pub values : (place : FieldAt) → IsIn place (places_of cs o.shape) → value_in other p place ≡ value_in table o place

-- two graphs under their tables are the same to a reader: they have the same classes, the same addresses with the same
-- objects, and the same roots
pub record IsSameSeen (g : Graph) (table : ℕ → ℕ) (h : Graph) (other : ℕ → ℕ) : Type 0 where
  pub classes_are : h.classes ≡ g.classes
  pub addresses_are : map (λ o. other o.number) h.objects ≡ map (λ o. table o.number) g.objects
  pub objects_are : (o p : Object) → IsIn o g.objects → IsIn p h.objects → other p.number ≡ table o.number → HoldsSame g.classes table o other p
  pub roots_are : map other (held_targets (map (λ r. r.holds) h.roots)) ≡ map table (held_targets (map (λ r. r.holds) g.roots))
