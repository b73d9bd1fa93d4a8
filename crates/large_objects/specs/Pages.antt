-- The pages of large objects.
use Rattle.std.specs.Prelude.{◌≡◌, ◌≢◌, ◌⊎◌, ℕ, ◌+◌, ◌≤◌, Bool, false, ◌&&◌, IsTrue, List, map, sum, None, nat_le, nat_lt}
use Rattle.std.specs.List.{list_any}
use Rattle.page_tables.specs.declared.address.Window.TheVariants.{Large}
use Rattle.page_tables.specs.Address.{is_in, page_of}
use Rattle.cow_pages.specs.Memory.{Memory, page_at, is_live, is_mapped, used_frames, HasOneSharer}
use Rattle.cow_pages.specs.View.{View}
use Rattle.image_space.specs.Space.{pages_up_to}
use Rattle.large_objects.specs.declared.rows.LargeRow.{LargeRow}
use Rattle.large_objects.specs.Rows.{slot_base}

-- a page holds bytes of a row's object
abbrev pub holds_page : ℕ → LargeRow → Bool
holds_page p row = nat_le (page_of (slot_base row.slot)) p && nat_lt p (page_of (slot_base row.slot) + pages_up_to row.bytes)

-- of the large window exactly the pages are mapped that hold bytes of objects
abbrev pub HasPages : Memory → ℕ → List LargeRow → Type 0
HasPages m t rows = (p : ℕ) → IsTrue (is_in Large p) → is_mapped m t p ≡ list_any (holds_page p) rows

-- each of the rows' pages is mapped
abbrev pub AreMapped : Memory → ℕ → List LargeRow → Type 0
AreMapped m t rows = (p : ℕ) → IsTrue (list_any (holds_page p) rows) → IsTrue (is_mapped m t p)

-- each of the rows' pages has its frame alone
abbrev pub AreAlone : Memory → ℕ → List LargeRow → Type 0
AreAlone m t rows = (p : ℕ) → IsTrue (list_any (holds_page p) rows) → HasOneSharer m t p

-- how many pages hold bytes of the rows' objects
abbrev pub page_sum : List LargeRow → ℕ
page_sum rows = sum (map (λ row. pages_up_to row.bytes) rows)

-- exactly the pages of these rows were unmapped, and their frames freed
pub record ReleasesRows (old new : Memory) (t : ℕ) (rows : List LargeRow) : Type 0 where
  pub gone : (p : ℕ) → IsTrue (list_any (holds_page p) rows) → page_at new t p ≡ None
  pub others : (u q : ℕ) → (u ≢ t) ⊎ (list_any (holds_page q) rows ≡ false) → page_at new u q ≡ page_at old u q
  pub live : (u : ℕ) → is_live new u ≡ is_live old u
  pub reads : new.reads ≡ old.reads
  pub frames : new.frames ≡ old.frames
  pub leaf_count : new.leaf_count ≡ old.leaf_count
  pub spare : old.spare ≤ new.spare
  pub used : used_frames new + page_sum rows ≡ used_frames old

-- the addresses of these rows' pages are mapped no longer, and every other is as it was
pub record LosesRows (old new : View) (rows : List LargeRow) : Type 0 where
  pub unmapped : (at : ℕ) → IsTrue (list_any (holds_page (page_of at)) rows) → new.mapped at ≡ false
  pub others : (at : ℕ) → list_any (holds_page (page_of at)) rows ≡ false → (new.byte at ≡ old.byte at) × (new.mapped at ≡ old.mapped at)
