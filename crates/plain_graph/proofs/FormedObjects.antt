-- The objects of a graph that is formed: their classes stand, they are small, and there are few.
use Rattle.std.proofs.Common.{◌≡◌, ℕ, zero, suc, ◌+◌, ◌<◌, ◌≤◌, Bool, true, false, not, List, [], ◌∷◌, length, get_or, nat_le, subst, sym, arith}
use Rattle.std.proofs.lemmas.Bool.Decides.{nat_tests}
use Rattle.model_numbers.specs.Numbers.{most_array_bytes}
use Rattle.class_layout.specs.ClassList.{Class}
use Rattle.class_layout.specs.Kinds.{next_multiple}
use Rattle.heap_graph.specs.declared.names.Shape.{Shape}
use Rattle.heap_graph.specs.declared.names.Shape.TheVariants.{Instance, Array}
use Rattle.heap_graph.specs.Graph.{Graph, Object, size_of_object}
use Rattle.heap_graph.specs.Sizes.{is_primitive_array, is_too_large, most_bytes, size_in, unrounded}
use Rattle.heap_graph.specs.Formed.{AreObjects, AreRising, IsFormed, IsShape}
use Rattle.plain_graph.specs.Shapes.{AreSmall, HasClass}

pub HasClass-shape : (cs : List Class) (shape : Shape) → IsShape cs shape → HasClass cs shape
HasClass-shape cs (Instance class) h = h.0
HasClass-shape cs (Array kind count) h = tt

small_of_shape : (cs : List Class) (shape : Shape) → IsShape cs shape → is_too_large cs shape ≡ false
small_of_shape cs (Instance class) h = h.1
small_of_shape cs (Array kind count) h = h

bytes_le : (bytes : ℕ) (primitive : Bool) → not (nat_le bytes (most_bytes primitive)) ≡ false → bytes ≤ most_array_bytes
bytes_le bytes true h = grind (arith, nat_tests)
bytes_le bytes false h = grind (arith, nat_tests)

-- what isn't too large has at most 1,048,576 bytes
pub unrounded-le : (cs : List Class) (shape : Shape) → is_too_large cs shape ≡ false → unrounded cs shape ≤ most_array_bytes
unrounded-le cs shape h = bytes_le (unrounded cs shape) (is_primitive_array shape) h

rounded_le : (bytes : ℕ) → bytes ≤ most_array_bytes → next_multiple 8 bytes ≤ most_array_bytes
rounded_le bytes h = omega arith

pub size_in_le : (cs : List Class) (shape : Shape) → is_too_large cs shape ≡ false → size_in cs shape ≤ most_array_bytes
size_in_le cs shape h = rounded_le (unrounded cs shape) (unrounded-le cs shape h)

shape_at : (cs : List Class) (os : List Object) (i : ℕ) (d : Object) → AreObjects cs os → i < length os → IsShape cs (get_or os i d).shape
shape_at cs [] i d h less = absurd (omega arith)
shape_at cs (o ∷ os) zero d h less = h.0
shape_at cs (o ∷ os) (suc i) d h less = shape_at cs os i d h.2 (omega arith)

-- the class of each object stands, and no object is too large
pub shape_of : (cs : List Class) (os : List Object) (i : ℕ) (o : Object) → AreSmall cs os → i < length os → o ≡ get_or os i o → IsShape cs o.shape
shape_of cs os i o small less is = subst (λ p. IsShape cs p.shape) (sym is) (shape_at cs os i o small.objects less)

pub class_stands : (cs : List Class) (os : List Object) (i : ℕ) (o : Object) → AreSmall cs os → i < length os → o ≡ get_or os i o → HasClass cs o.shape
class_stands cs os i o small less is = HasClass-shape cs o.shape (shape_of cs os i o small less is)

pub unrounded_small : (cs : List Class) (os : List Object) (i : ℕ) (o : Object) → AreSmall cs os → i < length os → o ≡ get_or os i o → unrounded cs o.shape ≤ most_array_bytes
unrounded_small cs os i o small less is = unrounded-le cs o.shape (small_of_shape cs o.shape (shape_of cs os i o small less is))

pub size_small : (cs : List Class) (os : List Object) (i : ℕ) (o : Object) → AreSmall cs os → i < length os → o ≡ get_or os i o → size_of_object cs o ≤ most_array_bytes
size_small cs os i o small less is = size_in_le cs o.shape (small_of_shape cs o.shape (shape_of cs os i o small less is))

rising_few : (low next : ℕ) (os : List Object) → AreRising low next os → low + length os ≤ next
rising_few low next [] h = omega (arith, h)
rising_few low next (o ∷ os) h = omega (arith, h.0, rising_few (o.number + 1) next os h.1)

-- so it is with the objects of a graph
pub AreSmall-formed : (g : Graph) → IsFormed g → AreSmall g.classes g.objects
AreSmall-formed g formed = record { objects = formed.objects; few = omega (arith, rising_few 0 g.next g.objects formed.numbers, formed.next) }

pub ruleset small_objects = (class_stands, AreSmall-formed)
