-- How the slots of a leaf keep their entries. No public clause cites this module.
use Rattle.std.specs.Prelude.{◌≡◌, ℕ, ◌==◌, Bool, false, if◌then◌else◌, List, [], ◌∷◌, length, Option, Some, None}
use Rattle.page_tables.specs.Address.{leaf_pages}
use Rattle.page_tables.specs.declared.leaf.Entry.{Entry}

-- stands for no frame
abbrev pub no_frame : ℕ
no_frame = 0xffffffff

abbrev pub entry_of : ℕ → Bool → Option Entry
entry_of frame written = if frame == no_frame then None else Some (record { frame = frame; written = written })

-- the entries, slot by slot
abbrev pub entries_of : List ℕ → List Bool → List (Option Entry)
entries_of [] ws = []
entries_of (f ∷ fs) [] = []
entries_of (f ∷ fs) (w ∷ ws) = entry_of f w ∷ entries_of fs ws

-- what stands for an entry
abbrev pub frame_code : Option Entry → ℕ
frame_code None = no_frame
frame_code (Some e) = e.frame

abbrev pub flag_code : Option Entry → Bool
flag_code None = false
flag_code (Some e) = e.written

-- each slot has its two parts
pub record AreSlots (frames : List ℕ) (written : List Bool) : Type 0 where
  pub frame_len : length frames ≡ leaf_pages
  pub flag_len : length written ≡ leaf_pages
