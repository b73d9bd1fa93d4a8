-- What a call of the outside does: the bytes that a source gives, a sink gains and a shelf keeps, and when it may fail.
use Rattle.std.specs.Prelude.{◌≡◌, ◌⊎◌, ℕ, ◌+◌, ◌<◌, ◌≤◌, ◌^◌, Bool, true, false, not, List, [], ◌∷◌, ◌++◌, Option, take}
use Rattle.std.specs.Option.{option_map}

-- a count of faults rose during a call, or it stood at the last value of a `u64` and could not rise
abbrev pub FaultRose : ℕ → ℕ → Type 0
FaultRose before now = (before < now) ⊎ (2 ^ 64 ≤ before + 1)

-- what was left is these bytes and what is left now, where the source tells what it has left
abbrev pub Gave : Option (List ℕ) → List ℕ → Option (List ℕ) → Type 0
Gave old bytes new = old ≡ option_map (λ rest. bytes ++ rest) new

-- what is held now is what was held and then these bytes, where the sink tells what it holds
abbrev pub Gained : Option (List ℕ) → List ℕ → Option (List ℕ) → Type 0
Gained old bytes new = new ≡ option_map (λ held. held ++ bytes) old

-- some first bytes of the piece were gained, maybe none and maybe all
abbrev pub GainedPrefix : Option (List ℕ) → List ℕ → Option (List ℕ) → Type 0
GainedPrefix old piece new = (n : ℕ) × Gained old (take n piece) new

-- an entry of a shelf: its name, its bytes, and whether it is closed
pub record Entry : Type 0 where
  pub name : List ℕ
  pub bytes : List ℕ
  pub closed : Bool

-- an entry that was just begun
abbrev pub begun : List ℕ → Entry
begun name = record { name = name; bytes = []; closed = false }

-- the entries with these bytes at the end of the last one
abbrev pub with_bytes : List Entry → List ℕ → List Entry
with_bytes [] piece = []
with_bytes (e ∷ []) piece = record { name = e.name; bytes = e.bytes ++ piece; closed = e.closed } ∷ []
with_bytes (e ∷ f ∷ es) piece = e ∷ with_bytes (f ∷ es) piece

-- the entries with the last one closed
abbrev pub with_last_closed : List Entry → List Entry
with_last_closed [] = []
with_last_closed (e ∷ []) = record { name = e.name; bytes = e.bytes; closed = true } ∷ []
with_last_closed (e ∷ f ∷ es) = e ∷ with_last_closed (f ∷ es)

-- a last entry stands, and isn't closed
abbrev pub is_last_open : List Entry → Bool
is_last_open [] = false
is_last_open (e ∷ []) = not e.closed
is_last_open (e ∷ f ∷ es) = is_last_open (f ∷ es)

-- a shelf's meaning: its entries, where it tells them, and whether the last one is unfinished, which each shelf tells
pub record Shelved : Type 0 where
  pub entries : Option (List Entry)
  pub unfinished : Bool

-- an entry of this name stands at the end, unfinished
abbrev pub Begun : Shelved → List ℕ → Shelved → Type 0
Begun old name new = new ≡ record { entries = option_map (λ es. es ++ begun name ∷ []) old.entries; unfinished = true }

-- these bytes were appended to the last entry
abbrev pub Appended : Shelved → List ℕ → Shelved → Type 0
Appended old piece new = new ≡ record { entries = option_map (λ es. with_bytes es piece) old.entries; unfinished = old.unfinished }

-- the last entry was closed
abbrev pub Closed : Shelved → Shelved → Type 0
Closed old new = new ≡ record { entries = option_map with_last_closed old.entries; unfinished = false }
