-- What a process is, but for its name and its labels.
use Rattle.std.specs.Prelude.{ℕ, Bool, false, List, []}
use Rattle.heap_graph.specs.Graph.{Graph, first_graph}
use Rattle.heap_world.specs.declared.names.PageName.{PageName}
use Rattle.heap_world.specs.declared.names.Card.{Card}
use Rattle.heap_world.specs.Cards.{held_cards}

pub record Part : Type 0 where
  pub graph : Graph
  pub exited : Bool
  -- the shared pages that its own stores touched since its last fork, or the seal
  pub touched : List PageName
  -- the cards that a reference was stored in since its last collection, fork or seal
  pub stored : List Card
  -- the cards that held an object that isn't immune when its last collection since its last fork began
  pub held : List Card

abbrev pub first_part : ℕ → ℕ → Part
first_part budget number = record { graph = first_graph budget number; exited = false; touched = []; stored = []; held = [] }

-- a collection looks at the cards first
abbrev pub with_collected : Part → Graph → Part
with_collected p g = record p { graph = g; stored = []; held = held_cards p.graph }
