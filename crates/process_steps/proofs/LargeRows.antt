-- The rows of a graph with one large object more.
use Rattle.std.proofs.Common.{◌≡◌, ◌∙◌, ℕ, ◌+◌, ◌<◌, ◌≤◌, false, true, List, [], ◌∷◌, ◌++◌, length, slice_index, ap, arith}
use Rattle.class_layout.specs.ClassList.{Class}
use Rattle.heap_graph.specs.declared.names.Place.{Place}
use Rattle.heap_graph.specs.declared.names.Place.TheVariants as place
use Rattle.heap_graph.specs.Graph.{Object}
use Rattle.address_table.specs.Computed.{large_behind, large_count}
use Rattle.address_table.proofs.Behind.{count-rises}
use Rattle.evacuate.specs.Stands.{row_of, rows_from, with_row}

-- as many rows as large objects
pub rows-count : (cs : List Class) (slots : List ℕ) (k : ℕ) (os : List Object) → large_count k os ≡ k + length (rows_from cs slots k os)
rows-count cs slots k [] = omega arith
rows-count cs slots k (o ∷ os) = by o.place (λ j. rows-count cs slots j os)
  where
    by : (at : Place) → ((j : ℕ) → large_count j os ≡ j + length (rows_from cs slots j os)) → large_count (large_behind k at) os ≡ k + length (with_row cs slots k o at (rows_from cs slots (large_behind k at) os))
    by (place.Image spot) rest = rest k
    by (place.Zygote spot) rest = rest k
    by place.Young rest = rest k
    by place.Large rest = omega (arith, rest (k + 1))
    by place.Promoted rest = omega (arith, rest (k + 1))

-- a large object that comes last has the last row
pub rows-grown : (cs : List Class) (slots more : List ℕ) (most : ℕ) → ((j : ℕ) → j < most → slice_index more j ≡ slice_index slots j) → (k : ℕ) (os : List Object) (o : Object) → o.place ≡ place.Large → large_count k os ≤ most
    → rows_from cs more k (os ++ o ∷ []) ≡ rows_from cs slots k os ++ row_of cs more (large_count k os) o false ∷ []
rows-grown cs slots more most same k [] o is few = ap (λ at. with_row cs more k o at []) is
rows-grown cs slots more most same k (x ∷ os) o is few = by x.place (count-rises (large_behind k x.place) os) few (λ j le. rows-grown cs slots more most same j os o is le)
  where
    by : (at : Place) → large_behind k at ≤ large_count (large_behind k at) os → large_count (large_behind k at) os ≤ most
        → ((j : ℕ) → large_count j os ≤ most → rows_from cs more j (os ++ o ∷ []) ≡ rows_from cs slots j os ++ row_of cs more (large_count j os) o false ∷ [])
        → with_row cs more k x at (rows_from cs more (large_behind k at) (os ++ o ∷ [])) ≡ with_row cs slots k x at (rows_from cs slots (large_behind k at) os) ++ row_of cs more (large_count (large_behind k at) os) o false ∷ []
    by (place.Image spot) rises le rest = rest k le
    by (place.Zygote spot) rises le rest = rest k le
    by place.Young rises le rest = rest k le
    by place.Large rises le rest = ap (λ rows. row_of cs more k x false ∷ rows) (rest (k + 1) le) ∙ ap (λ n. record (row_of cs slots k x false) { slot = n } ∷ (rows_from cs slots (k + 1) os ++ row_of cs more (large_count (k + 1) os) o false ∷ [])) (same k (omega (arith, rises, le)))
    by place.Promoted rises le rest = ap (λ rows. row_of cs more k x true ∷ rows) (rest (k + 1) le) ∙ ap (λ n. record (row_of cs slots k x true) { slot = n } ∷ (rows_from cs slots (k + 1) os ++ row_of cs more (large_count (k + 1) os) o false ∷ [])) (same k (omega (arith, rises, le)))
