-- Which pages a step may change, and what it leaves of them. It reaches over any number of steps.
use Rattle.std.specs.Prelude.{◌≡◌, ◌≢◌, ◌⊎◌, ℕ, ◌+◌, ◌<◌, ◌≤◌, Bool, true, false, IsTrue}
use Rattle.page_tables.specs.Address.{page_of}
use Rattle.cow_pages.specs.Memory.{Memory, frame_at, is_live, is_mapped, is_written, page_at, HasOneSharer}
use Rattle.cow_pages.specs.Change.{KeepsRoom}
use Rattle.object_view.specs.Changes.{pages_in}

-- the table has the pages that it had, and of them these alone may have changed
pub record Keeps (old new : Memory) (t : ℕ) (may : ℕ → Bool) : Type 0 where
  -- the same pages of the table are mapped
  pub mapped : (q : ℕ) → is_mapped new t q ≡ is_mapped old t q
  -- a page that has its frame alone keeps it alone
  pub alone : (q : ℕ) → IsTrue (is_mapped old t q) → HasOneSharer old t q → HasOneSharer new t q
  -- a mapped page that has its frame alone keeps that frame
  pub frames : (q : ℕ) → IsTrue (is_mapped old t q) → HasOneSharer old t q → frame_at new t q ≡ frame_at old t q
  -- a flag that is set stays set
  pub written : (q : ℕ) → IsTrue (is_written old t q) → IsTrue (is_written new t q)
  -- every other page of any table is as it was, with its bytes, flag and frame
  pub others : (u q : ℕ) → (u ≢ t) ⊎ (may q ≡ false) → page_at new u q ≡ page_at old u q
  pub live : (u : ℕ) → is_live new u ≡ is_live old u
  -- a page has its old frame, or one of its own
  pub own : (q : ℕ) → (frame_at new t q ≡ frame_at old t q) ⊎ HasOneSharer new t q
  -- no frame and no leaf is taken where each page that may change has its frame alone
  pub room : ((q : ℕ) → may q ≡ true → IsTrue (is_mapped old t q) → HasOneSharer old t q) → KeepsRoom old new

-- each page of so many bytes from an address on passes the test
abbrev pub Covers : (ℕ → Bool) → ℕ → ℕ → Type 0
Covers may at size = (p : ℕ) → page_of at ≤ p → p < page_of at + pages_in at (at + size) → may p ≡ true
