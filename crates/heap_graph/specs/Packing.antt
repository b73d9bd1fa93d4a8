-- Where young objects stand in regions, and how many regions a process uses.
use Rattle.std.specs.Prelude.{ℕ, ◌+◌, ◌-◌, ◌/◌, Bool, true, false, List, [], ◌∷◌, map, filter, sum, nat_eq}
use Rattle.model_numbers.specs.Numbers.{region_bytes}
use Rattle.class_layout.specs.ClassList.{Class}
use Rattle.class_layout.specs.Kinds.{next_multiple}
use Rattle.heap_graph.specs.declared.names.Place.{Place}
use Rattle.heap_graph.specs.declared.names.Place.TheVariants.{Image, Zygote, Young, Large, Promoted}
use Rattle.heap_graph.specs.Graph.{Object, Graph, is_young, size_of_object}
use Rattle.heap_graph.specs.Sizes.{unrounded, parts_for}

-- the start of the first region from p on
abbrev pub up : ℕ → ℕ
up p = next_multiple region_bytes p

abbrev pub place_if : Bool → ℕ → ℕ
place_if true p = p
place_if false p = up p

-- s bytes stand at p where they lie in one region, else in the next one
abbrev pub place : ℕ → ℕ → ℕ
place p s = place_if (nat_eq (p / region_bytes) ((p + s - 1) / region_bytes)) p

abbrev pub after : ℕ → ℕ → ℕ
after p s = place p s + s

-- the end of sizes that are packed from p on
abbrev pub end_from : ℕ → List ℕ → ℕ
end_from p [] = p
end_from p (s ∷ ss) = end_from (after p s) ss

-- where each of the sizes stands
abbrev pub places_from : ℕ → List ℕ → List ℕ
places_from p [] = []
places_from p (s ∷ ss) = place p s ∷ places_from (after p s) ss

abbrev pub young_objects : Graph → List Object
young_objects g = filter (λ o. is_young o.place) g.objects

abbrev pub young_sizes : Graph → List ℕ
young_sizes g = map (size_of_object g.classes) (young_objects g)

abbrev pub end_of : Graph → ℕ
end_of g = end_from 0 (young_sizes g)

-- the regions that the young objects use
abbrev pub used : Graph → ℕ
used g = parts_for region_bytes (end_of g)

-- the regions that a large object costs, promoted or not
abbrev pub cost : List Class → Object → Place → ℕ
cost cs o (Image spot) = 0
cost cs o (Zygote spot) = 0
cost cs o Young = 0
cost cs o Large = parts_for region_bytes (unrounded cs o.shape)
cost cs o Promoted = parts_for region_bytes (unrounded cs o.shape)

abbrev pub costs : Graph → ℕ
costs g = sum (map (λ o. cost g.classes o o.place) g.objects)

abbrev pub free : Graph → ℕ
free g = g.budget - used g - costs g
