-- Raw objects of which some references are null.
use Rattle.std.specs.Prelude.{ℕ, ◌+◌, nat_eq, if◌then◌else◌, List, pos}
use Rattle.std.specs.List.{list_any}
use Rattle.raw_objects.specs.Raws.{Raw, Raws}

-- an object that begins at an address, with null at those places that stand at the listed addresses
abbrev pub nulled_raw : List ℕ → ℕ → Raw → Raw
nulled_raw slots at r = record r { values = λ p. if list_any (λ slot. nat_eq slot (at + p.offset)) slots then pos 0 else r.values p }

-- the objects, with null in the references at these addresses
abbrev pub nulled : Raws → List ℕ → Raws
nulled raws slots = record { has = raws.has; raw = λ a. nulled_raw slots a (raws.raw a) }
