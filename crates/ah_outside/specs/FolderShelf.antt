-- What is told of a shelf over files.
use Rattle.std.specs.Prelude.{◌≢◌, ℕ, Bool, List, [], Contains, codes}

-- whether an entry is unfinished, and how many faults there have been
pub record FolderState : Type 0 where
  pub unfinished : Bool
  pub faults : ℕ

-- a file of the current folder may have this name: it isn't empty, names neither the folder nor the one above it, and has no slash
pub record IsFileName (name : List ℕ) : Type 0 where
  pub some : name ≢ []
  pub not_here : name ≢ codes "."
  pub not_above : name ≢ codes ".."
  pub no_slash : Contains name 47 → ⊥
