-- What a fork does to the graph of the process that forks.
use Rattle.std.specs.Prelude.{ℕ, ◌+◌, Bool, List, [], ◌∷◌, sum, nat_le}
use Rattle.model_numbers.specs.Numbers.{zygote_base, zygote_length, page_bytes}
use Rattle.class_layout.specs.ClassList.{Class}
use Rattle.class_layout.specs.Kinds.{next_multiple}
use Rattle.heap_graph.specs.declared.names.Place.{Place}
use Rattle.heap_graph.specs.declared.names.Place.TheVariants.{Image, Zygote, Young, Large, Promoted}
use Rattle.heap_graph.specs.Graph.{Object, Graph, size_of_object, zygote_fill}
use Rattle.heap_graph.specs.Packing.{young_sizes}

-- where the next promoted object stands, from the start of the zygote window: the next whole page
abbrev pub promotion_start : Graph → ℕ
promotion_start g = next_multiple page_bytes (zygote_fill g)

-- the bytes that a fork promotes to the zygote window
abbrev pub promotion_bytes : Graph → ℕ
promotion_bytes g = sum (young_sizes g)

abbrev pub has_zygote_room : Graph → Bool
has_zygote_room g = nat_le (promotion_start g + promotion_bytes g) zygote_length

-- a young object gets the next spot, a large one stays in its slot and is promoted
abbrev pub promoted_place : ℕ → Place → Place
promoted_place at (Image spot) = Image spot
promoted_place at (Zygote spot) = Zygote spot
promoted_place at Young = Zygote (zygote_base + at)
promoted_place at Large = Promoted
promoted_place at Promoted = Promoted

-- where the spot behind an object is
abbrev pub next_spot : ℕ → ℕ → Place → ℕ
next_spot at size (Image spot) = at
next_spot at size (Zygote spot) = at
next_spot at size Young = at + size
next_spot at size Large = at
next_spot at size Promoted = at

-- objects by rising number, one directly behind the other
abbrev pub promoted_from : List Class → ℕ → List Object → List Object
promoted_from cs at [] = []
promoted_from cs at (o ∷ os) =
    record o { place = promoted_place at o.place } ∷ promoted_from cs (next_spot at (size_of_object cs o) o.place) os

abbrev pub promoted : Graph → Graph
promoted g = record g { objects = promoted_from g.classes (promotion_start g) g.objects }

-- a child has the parent's graph, but it was never dumped
abbrev pub child_of : Graph → Graph
child_of g = record g { dumps = 0 }
