-- What holds of the objects that a number finds.
use Rattle.std.proofs.Common.{◌≡◌, ℕ, Bool, true, false, cond, List, [], ◌∷◌, Some, subst}
use Rattle.std.specs.List.{find}
use Rattle.class_layout.specs.ClassList.{Class}
use Rattle.heap_graph.specs.Graph.{Graph, Object, object_at}
use Rattle.heap_graph.specs.Formed.{AreObjects, IsFormed, IsShape}

-- an object that is found has a shape that stands
shape_found : (cs : List Class) (p : Object → Bool) (os : List Object) (o : Object) → AreObjects cs os → find p os ≡ Some o → IsShape cs o.shape
shape_found cs p [] o are h = cc
shape_found cs p (x ∷ xs) o are h = by (p x) h (shape_found cs p xs o are.2)
  where
    by : (b : Bool) → cond b (Some x) (find p xs) ≡ Some o → (find p xs ≡ Some o → IsShape cs o.shape) → IsShape cs o.shape
    by true found rest = let same : x ≡ o = cc in subst (λ y. IsShape cs y.shape) same are.0
    by false found rest = rest found

-- so has the object of a number, in a graph that is formed
pub has_shape : (g : Graph) (n : ℕ) (o : Object) → IsFormed g → object_at g n ≡ Some o → IsShape g.classes o.shape
has_shape g n o formed h = shape_found g.classes _ g.objects o formed.objects h
