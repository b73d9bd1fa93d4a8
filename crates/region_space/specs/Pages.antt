-- The pages of rows of regions: how many there are, and that they were released.
use Rattle.std.specs.Prelude.{◌≡◌, ◌≢◌, ◌⊎◌, ℕ, ◌+◌, ◌≤◌, ◌<◌, Bool, false, ◌&&◌, IsTrue, List, [], ◌∷◌, map, sum, Option, None, Some, if◌then◌else◌, nat_le, nat_lt}
use Rattle.std.specs.List.{list_any}
use Rattle.page_tables.specs.Address.{page_of}
use Rattle.cow_pages.specs.View.{View}
use Rattle.cow_pages.specs.Memory.{Memory, page_at, is_live, used_frames}
use Rattle.region_lists.specs.Rows.{Row, first_of}
use Rattle.region_space.specs.Space.{base_of, holds_page, row_pages}

-- how many pages hold bytes of objects
abbrev pub page_sum : List Row → ℕ
page_sum rows = sum (map row_pages rows)

-- exactly the pages of these rows were unmapped, and their frames freed
pub record ReleasesRows (old new : Memory) (t : ℕ) (rows : List Row) : Type 0 where
  pub gone : (p : ℕ) → IsTrue (list_any (holds_page p) rows) → page_at new t p ≡ None
  pub others : (u q : ℕ) → (u ≢ t) ⊎ (list_any (holds_page q) rows ≡ false) → page_at new u q ≡ page_at old u q
  pub live : (u : ℕ) → is_live new u ≡ is_live old u
  pub reads : new.reads ≡ old.reads
  pub frames : new.frames ≡ old.frames
  pub leaf_count : new.leaf_count ≡ old.leaf_count
  pub spare : old.spare ≤ new.spare
  pub used : used_frames new + page_sum rows ≡ used_frames old

-- the addresses of these rows' pages are mapped no longer, and every other address is as it was
pub record LosesRows (old new : View) (rows : List Row) : Type 0 where
  pub unmapped : (at : ℕ) → IsTrue (list_any (holds_page (page_of at)) rows) → new.mapped at ≡ false
  pub others : (at : ℕ) → list_any (holds_page (page_of at)) rows ≡ false → (new.byte at ≡ old.byte at) × (new.mapped at ≡ old.mapped at)

-- an object of this size lies within its row
abbrev pub lies_in : ℕ → ℕ → Row → Bool
lies_in at size row = nat_le (base_of row.region) at && nat_le (at + size) (base_of row.region + row.fill)

-- it is one that could be walked from: an object of some bytes in a row
pub record IsObjectIn (rows : List Row) (at size : ℕ) : Type 0 where
  pub some : 0 < size
  pub there : IsTrue (list_any (lies_in at size) rows)

-- the address of a row's first object
abbrev pub start_of : Option Row → Option ℕ
start_of None = None
start_of (Some row) = Some (base_of row.region)

-- where the next object stands: behind this one in its row, or at the start of the next row
abbrev pub next_in : List Row → ℕ → ℕ → Option ℕ
next_in [] at size = None
next_in (row ∷ rest) at size =
    if lies_in at size row then (if nat_lt (at + size) (base_of row.region + row.fill) then Some (at + size) else start_of (first_of rest))
    else next_in rest at size
