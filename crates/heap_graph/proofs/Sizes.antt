-- How many bytes an object takes at least and at most, and where packed sizes end.
use Rattle.std.proofs.Common.{◌≡◌, ℕ, ◌+◌, ◌-◌, ◌/◌, ◌≤◌, Bool, true, false, not, ◌&&◌, List, [], ◌∷◌, map, filter, nat_eq, nat_le, refl, arith}
use Rattle.std.specs.List.{AllByRecursion}
use Rattle.std.proofs.lemmas.Bool.{leb-true, leb-false}
use Rattle.model_numbers.specs.Numbers.{region_bytes, least_large, most_array_bytes, most_object_bytes}
use Rattle.class_layout.specs.declared.kind.Kind.{Kind}
use Rattle.class_layout.specs.declared.kind.Kind.TheVariants.{Ref}
use Rattle.class_layout.specs.ClassList.{Class}
use Rattle.class_layout.specs.Kinds.{array_end}
use Rattle.heap_graph.specs.declared.names.Place.{Place}
use Rattle.heap_graph.specs.declared.names.Place.TheVariants as place
use Rattle.heap_graph.specs.declared.names.Shape.{Shape}
use Rattle.heap_graph.specs.declared.names.Shape.TheVariants.{Instance, Array}
use Rattle.heap_graph.specs.Collection.{cleared, collect, is_kept}
use Rattle.heap_graph.specs.Graph.{Graph, Object, size_of_object}
use Rattle.heap_graph.specs.Packing.{after, cost, costs, place_if, places_from, young_objects, young_sizes}
use Rattle.heap_graph.specs.Paths.{ArePacked, FitRegions, FitsRegion, numbers}
use Rattle.heap_graph.specs.Reach.{reached}
use Rattle.heap_graph.specs.Sizes.{is_primitive_array, is_too_large, most_bytes, unrounded}
use Rattle.heap_graph.proofs.LaidOut.{lie-within}
use Rattle.heap_graph.proofs.Packing.{are_packed}
use Rattle.heap_graph.proofs.Totals.{sum-total, total-filter_le, total-map}

-- an array holds its header
array-least : (k : Kind) (n : ℕ) → 8 ≤ array_end k n
array-least k n = elim k as (λ k. 8 ≤ array_end k n) [ Ref ↦ omega arith | _ ↦ omega arith ]

-- so does each object
pub unrounded-least : (cs : List Class) (shape : Shape) → 8 ≤ unrounded cs shape
unrounded-least cs (Instance class) = (lie-within cs class).0
unrounded-least cs (Array kind count) = array-least kind count

pub size-least : (cs : List Class) (o : Object) → 8 ≤ size_of_object cs o
size-least cs o = omega (arith, unrounded-least cs o.shape)

-- what is not so is not
not-false : (b : Bool) → not b ≡ false → b ≡ true
not-false true e = refl
not-false false e = cc

-- a shape that is not too large
pub not-large : (cs : List Class) (shape : Shape) → is_too_large cs shape ≡ false → unrounded cs shape ≤ most_array_bytes
not-large cs shape e = by (is_primitive_array shape) e
  where
    by : (b : Bool) → not (nat_le (unrounded cs shape) (most_bytes b)) ≡ false → unrounded cs shape ≤ most_array_bytes
    by true e = leb-true (unrounded cs shape) most_array_bytes (not-false (nat_le (unrounded cs shape) most_array_bytes) e)
    by false e = let le : unrounded cs shape ≤ most_object_bytes = leb-true (unrounded cs shape) most_object_bytes (not-false (nat_le (unrounded cs shape) most_object_bytes) e) in omega (arith, le)

-- a shape that stands in a region fits one
region-fits : (cs : List Class) (shape : Shape) → FitsRegion cs shape → unrounded cs shape ≤ most_object_bytes
region-fits cs shape h = by (is_primitive_array shape) h.0 h.1
  where
    by : (b : Bool) → not (nat_le (unrounded cs shape) (most_bytes b)) ≡ false → (b && nat_le least_large (unrounded cs shape)) ≡ false → unrounded cs shape ≤ most_object_bytes
    by true e small = let less = leb-false least_large (unrounded cs shape) small in omega (arith, less)
    by false e small = leb-true (unrounded cs shape) most_object_bytes (not-false (nat_le (unrounded cs shape) most_object_bytes) e)

sizes-fit : (cs : List Class) (os : List Object) → AllByRecursion (λ o. FitsRegion cs o.shape) os → FitRegions (map (size_of_object cs) os)
sizes-fit cs [] h = tt
sizes-fit cs (o ∷ os) h = (omega (arith, unrounded-least cs o.shape), omega (arith, region-fits cs o.shape h.0), sizes-fit cs os h.1)

-- the young objects of a graph are packed
pub young-packed : (g : Graph) → AllByRecursion (λ o. FitsRegion g.classes o.shape) (young_objects g) → ArePacked 0 (young_sizes g) (places_from 0 (young_sizes g))
young-packed g h = are_packed 0 (young_sizes g) (sizes-fit g.classes (young_objects g) h)

-- no size ends before it began
pub after-above : (p s : ℕ) → p + s ≤ after p s
after-above p s = by (nat_eq (p / region_bytes) ((p + s - 1) / region_bytes))
  where
    by : (b : Bool) → p + s ≤ place_if b p + s
    by true = omega arith
    by false = omega arith

-- clearing leaves what an object costs
cleared-cost : (cs : List Class) (kept : List ℕ) (o : Object) → cost cs (cleared kept o) o.place ≡ cost cs o o.place
cleared-cost cs kept o = by o.place
  where
    by : (at : Place) → cost cs (cleared kept o) at ≡ cost cs o at
    by (place.Image spot) = refl
    by (place.Zygote spot) = refl
    by place.Young = refl
    by place.Large = refl
    by place.Promoted = refl

-- a collection doesn't raise what large objects cost
pub cost_no_more : (g : Graph) → costs (collect g) ≤ costs g
cost_no_more g =
    let f : Object → ℕ = λ o. cost g.classes o o.place in
    let keep : Object → Bool = is_kept g.sealed (reached g) in
    let kept : List Object = filter keep g.objects in
    omega (
      arith,
      sum-total f (map (cleared (numbers kept)) kept),
      total-map f (cleared (numbers kept)) (cleared-cost g.classes (numbers kept)) kept,
      total-filter_le keep f g.objects,
      sum-total f g.objects,
    )
