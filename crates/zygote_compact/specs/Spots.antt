-- What a process keeps of its zygote space for a graph.
use Rattle.std.specs.Prelude.{◌≡◌, ◌==◌, ℕ, Bool, false, None}
use Rattle.std.specs.List.{list_any}
use Rattle.heap_graph.specs.declared.names.Place.{Place}
use Rattle.heap_graph.specs.declared.names.Place.TheVariants.{Image, Zygote, Young, Large, Promoted}
use Rattle.heap_graph.specs.Graph.{zygote_fill, Graph, Object}
use Rattle.mark_bitmap.specs.Marks.{is_marked}
use Rattle.zygote_space.specs.Space.{Space}

-- an object at this place stands at this spot of the zygote window
abbrev pub is_spot : ℕ → Place → Bool
is_spot q (Image spot) = false
is_spot q (Zygote spot) = q == spot
is_spot q Young = false
is_spot q Large = false
is_spot q Promoted = false

-- no segment is open, the space ends where the graph's objects of the zygote window end, and its starts are their spots
pub record HasSpots (s : Space) (g : Graph) : Type 0 where
  pub closed : s.segment ≡ None
  pub fill : s.fill ≡ zygote_fill g
  pub starts : (q : ℕ) → is_marked s.starts q ≡ list_any (λ (o : Object). is_spot q o.place) g.objects
