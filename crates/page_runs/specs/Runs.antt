-- Pages one directly behind the other.
use Rattle.std.specs.Prelude.{◌≡◌, ◌≢◌, ◌⊎◌, ◌&&◌, ℕ, ◌+◌, ◌-◌, ◌<◌, ◌≤◌, false, true, None, IsTrue, nat_le, nat_lt}
use Rattle.page_tables.specs.declared.address.Window.{Window}
use Rattle.page_tables.specs.Address.{is_in, page_of}
use Rattle.cow_pages.specs.Memory.{Memory, page_at, is_live, is_mapped, used_frames, HasOneSharer}
use Rattle.cow_pages.specs.Change.{MapsZeros}
use Rattle.cow_pages.specs.View.{View}

-- how many pages all addresses have
abbrev pub page_limit : ℕ
page_limit = 1048576

-- a page is one of so many from the first on
pub record IsInRun (first n p : ℕ) : Type 0 where
  pub from : first ≤ p
  pub to : p < first + n

-- a page is of another table, or stands before the first or behind the last
abbrev pub IsBeside : ℕ → ℕ → ℕ → ℕ → ℕ → Type 0
IsBeside t first n u q = (u ≢ t) ⊎ ((q < first) ⊎ (first + n ≤ q))

-- of a window's pages a table has exactly these
abbrev pub HasRun : Memory → ℕ → Window → ℕ → ℕ → Type 0
HasRun m t w first n = (p : ℕ) → IsTrue (is_in w p) → is_mapped m t p ≡ (nat_le first p && nat_lt p (first + n))

-- exactly these pages of a table were mapped: they have zeros, no flag, and frames that no entry had
pub record MapsRun (old new : Memory) (t first n : ℕ) : Type 0 where
  pub fresh : (p : ℕ) → IsInRun first n p → is_mapped old t p ≡ false
  pub zeros : (p : ℕ) → IsInRun first n p → MapsZeros old new t p
  -- each of them has its frame alone
  pub alone : (p : ℕ) → IsInRun first n p → HasOneSharer new t p
  -- every other page is as it was, with its bytes, flag and frame
  pub others : (u q : ℕ) → IsBeside t first n u q → page_at new u q ≡ page_at old u q
  pub live : (u : ℕ) → is_live new u ≡ is_live old u
  pub reads : new.reads ≡ old.reads
  -- no more is taken of what was free than there are pages
  pub spare : old.spare ≤ new.spare + n
  -- no frame and no leaf was lost, and none made but for want of one that was free
  pub frames_stay : old.frames ≤ new.frames
  pub leaves_stay : old.leaf_count ≤ new.leaf_count
  pub frames : new.frames ≤ old.frames + (n - old.spare)
  pub leaf_count : new.leaf_count ≤ old.leaf_count + (n - old.spare)
  -- and as many more frames have entries
  pub used : used_frames new ≡ used_frames old + n

-- exactly these pages of a table were unmapped, and their frames freed
pub record ReleasesRun (old new : Memory) (t first n : ℕ) : Type 0 where
  pub gone : (p : ℕ) → IsInRun first n p → page_at new t p ≡ None
  pub others : (u q : ℕ) → IsBeside t first n u q → page_at new u q ≡ page_at old u q
  pub live : (u : ℕ) → is_live new u ≡ is_live old u
  pub reads : new.reads ≡ old.reads
  pub frames : new.frames ≡ old.frames
  pub leaf_count : new.leaf_count ≡ old.leaf_count
  pub spare : old.spare ≤ new.spare
  pub used : used_frames new + n ≡ used_frames old

-- the addresses that do not lie in these pages are as they were
abbrev pub SameBesideRun : View → View → ℕ → ℕ → Type 0
SameBesideRun old new first n = (at : ℕ) → (page_of at < first) ⊎ (first + n ≤ page_of at) → (new.byte at ≡ old.byte at) × (new.mapped at ≡ old.mapped at)

-- the addresses of these pages are mapped now, each with the byte 0
pub record SeesRun (old new : View) (first n : ℕ) : Type 0 where
  pub mapped : (at : ℕ) → IsInRun first n (page_of at) → new.mapped at ≡ true
  pub zeros : (at : ℕ) → IsInRun first n (page_of at) → new.byte at ≡ 0
  pub others : SameBesideRun old new first n

-- the addresses of these pages are mapped no longer
pub record LosesRun (old new : View) (first n : ℕ) : Type 0 where
  pub unmapped : (at : ℕ) → IsInRun first n (page_of at) → new.mapped at ≡ false
  pub others : SameBesideRun old new first n
