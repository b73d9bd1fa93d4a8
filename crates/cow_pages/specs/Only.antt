-- What a call for one table may change of the memory: this table alone.
use Rattle.std.specs.Prelude.{◌≡◌, ◌≢◌, ◌⊎◌, ℕ, Some}
use Rattle.cow_pages.specs.Memory.{Memory, page_at, frame_at, is_live, HasOneSharer}

-- every other table is as it was, and each entry of this one has the frame that it had at its page, or one of its own
pub record OnlyTable (old new : Memory) (t : ℕ) : Type 0 where
  pub others : (u q : ℕ) → u ≢ t → page_at new u q ≡ page_at old u q
  pub live : (u : ℕ) → is_live new u ≡ is_live old u
  pub own : (p f : ℕ) → frame_at new t p ≡ Some f → (frame_at old t p ≡ Some f) ⊎ HasOneSharer new t p
