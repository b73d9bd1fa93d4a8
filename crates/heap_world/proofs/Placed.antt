-- What holds of the places of a graph's objects, apart from the rest of the graph.
use Rattle.std.proofs.Common.{◌≡◌, ℕ, ◌+◌, ◌≤◌, Bool, true, false, cond, inl, inr, List, [], ◌∷◌, map, filter, max, refl, ap, arith}
use Rattle.std.specs.List.{AllByRecursion}
use Rattle.model_numbers.specs.Numbers.{image_length, zygote_length, region_bytes}
use Rattle.class_layout.specs.ClassList.{Class}
use Rattle.heap_graph.specs.declared.names.Place.{Place}
use Rattle.heap_graph.specs.declared.names.Place.TheVariants as place
use Rattle.heap_graph.specs.Graph.{Graph, Object, greatest, image_fill, image_size, is_young, size_of_object, zygote_end}
use Rattle.heap_graph.specs.Packing.{after, cost, costs, end_from, used}
use Rattle.heap_graph.specs.Sizes.{parts_for}
use Rattle.heap_graph.specs.Formed.{IsFormed, AreInTurn, FillImage, FillZygote, IsBehindZygote, SuitsShape, is_in_image, zygote_next}
use Rattle.heap_graph.proofs.Totals.{total, sum-total}

-- where the young objects end, behind so many bytes
abbrev pub young_next : List Class → ℕ → Object → Place → ℕ
young_next cs end o (place.Image spot) = end
young_next cs end o (place.Zygote spot) = end
young_next cs end o place.Young = after end (size_of_object cs o)
young_next cs end o place.Large = end
young_next cs end o place.Promoted = end

abbrev pub young_end : List Class → ℕ → List Object → ℕ
young_end cs end [] = end
young_end cs end (o ∷ os) = young_end cs (young_next cs end o o.place) os

pub end-is : (cs : List Class) (end : ℕ) (os : List Object) → end_from end (map (size_of_object cs) (filter (λ o. is_young o.place) os)) ≡ young_end cs end os
end-is cs end [] = refl
end-is cs end (o ∷ os) = by o.place (λ p. end-is cs p os)
  where
    by : (at : Place) → ((p : ℕ) → end_from p (map (size_of_object cs) (filter (λ o. is_young o.place) os)) ≡ young_end cs p os)
        → end_from end (map (size_of_object cs) (cond (is_young at) (o ∷ filter (λ o. is_young o.place) os) (filter (λ o. is_young o.place) os))) ≡ young_end cs (young_next cs end o at) os
    by (place.Image spot) rest = rest end
    by (place.Zygote spot) rest = rest end
    by place.Young rest = rest (after end (size_of_object cs o))
    by place.Large rest = rest end
    by place.Promoted rest = rest end

-- where the objects of the zygote window end, behind so many bytes
abbrev pub zygote_top : List Class → ℕ → List Object → ℕ
zygote_top cs bytes [] = bytes
zygote_top cs bytes (o ∷ os) = zygote_top cs (zygote_next cs bytes o o.place) os

-- the last end is the greatest one
pub top-max : (cs : List Class) (bytes : ℕ) (os : List Object) → FillZygote cs bytes os → zygote_top cs bytes os ≡ max bytes (greatest (map (λ o. zygote_end cs o o.place) os))
top-max cs bytes [] h = omega arith
top-max cs bytes (o ∷ os) h = by o.place h.0 (top-max cs (zygote_next cs bytes o o.place) os h.1)
  where
    by : (at : Place) → IsBehindZygote bytes at → zygote_top cs (zygote_next cs bytes o at) os ≡ max (zygote_next cs bytes o at) (greatest (map (λ o. zygote_end cs o o.place) os))
        → zygote_top cs (zygote_next cs bytes o at) os ≡ max bytes (max (zygote_end cs o at) (greatest (map (λ o. zygote_end cs o o.place) os)))
    by (place.Image spot) behind rest = omega (arith, rest)
    by (place.Zygote spot) (inl e) rest = omega (arith, rest, e)
    by (place.Zygote spot) (inr e) rest = omega (arith, rest, e)
    by place.Young behind rest = omega (arith, rest)
    by place.Large behind rest = omega (arith, rest)
    by place.Promoted behind rest = omega (arith, rest)

pub top-is : (cs : List Class) (os : List Object) → FillZygote cs 0 os → zygote_top cs 0 os ≡ greatest (map (λ o. zygote_end cs o o.place) os)
top-is cs os h = omega (arith, top-max cs 0 os h)

-- what a formed graph says of places
pub record IsPlaced (cs : List Class) (sealed : Bool) (budget : ℕ) (os : List Object) : Type 0 where
  pub before_seal : sealed ≡ false → AllByRecursion (λ o. is_in_image o.place ≡ true) os
  pub places : AllByRecursion (λ o. SuitsShape cs o o.place) os
  pub turns : AreInTurn 0 os
  pub image : FillImage cs 0 os
  pub image_fits : total (λ o. image_size cs o o.place) os ≤ image_length
  pub zygote : FillZygote cs 0 os
  pub zygote_fits : zygote_top cs 0 os ≤ zygote_length
  pub regions : parts_for region_bytes (young_end cs 0 os) + total (λ o. cost cs o o.place) os ≤ budget

pub fill-is : (g : Graph) → image_fill g ≡ total (λ o. image_size g.classes o o.place) g.objects
fill-is g = sum-total (λ o. image_size g.classes o o.place) g.objects

pub costs-is : (g : Graph) → costs g ≡ total (λ o. cost g.classes o o.place) g.objects
costs-is g = sum-total (λ o. cost g.classes o o.place) g.objects

pub used-is : (g : Graph) → used g ≡ parts_for region_bytes (young_end g.classes 0 g.objects)
used-is g = ap (parts_for region_bytes) (end-is g.classes 0 g.objects)

pub placed_of : (g : Graph) → IsFormed g → IsPlaced g.classes g.sealed g.budget g.objects
placed_of g formed = record {
  before_seal = formed.before_seal;
  places = formed.places;
  turns = formed.turns;
  image = formed.image;
  image_fits = omega (arith, fill-is g, formed.image_fits);
  zygote = formed.zygote;
  zygote_fits = omega (arith, top-is g.classes g.objects formed.zygote, formed.zygote_fits);
  regions = omega (arith, used-is g, costs-is g, formed.regions);
}
