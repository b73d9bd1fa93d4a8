-- What a fork leaves of the collected objects: all of them, in places that no collection changes.
use Rattle.std.specs.Prelude.{◌≡◌, ℕ, ◌≤◌, List, [], ◌∷◌}
use Rattle.heap_graph.specs.declared.names.Place.{Place}
use Rattle.heap_graph.specs.declared.names.Place.TheVariants as place
use Rattle.heap_graph.specs.Graph.{Object}

-- what stood stays; a young object gets a spot, none before this address; a large one is promoted in its slot
abbrev pub IsPromotedTo : ℕ → Place → Place → Type 0
IsPromotedTo least (place.Image spot) at = at ≡ place.Image spot
IsPromotedTo least (place.Zygote spot) at = at ≡ place.Zygote spot
IsPromotedTo least place.Young at = (spot : ℕ) × (least ≤ spot) × (at ≡ place.Zygote spot)
IsPromotedTo least place.Large at = at ≡ place.Promoted
IsPromotedTo least place.Promoted at = at ≡ place.Promoted

pub record IsPromotion (least : ℕ) (o x : Object) : Type 0 where
  pub number : x.number ≡ o.number
  pub shape : x.shape ≡ o.shape
  pub slots : x.slots ≡ o.slots
  pub place : IsPromotedTo least o.place x.place

-- the same of objects in their order
abbrev pub ArePromoted : ℕ → List Object → List Object → Type 0
ArePromoted least [] [] = Unit {0}
ArePromoted least [] (x ∷ xs) = ⊥
ArePromoted least (o ∷ os) [] = ⊥
ArePromoted least (o ∷ os) (x ∷ xs) = IsPromotion least o x × ArePromoted least os xs
