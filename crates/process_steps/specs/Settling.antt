-- A table without flags.
use Rattle.std.specs.Prelude.{◌≡◌, ℕ, IsTrue}
use Rattle.cow_pages.specs.Change.{settled, ChangesTable}
use Rattle.cow_pages.specs.Memory.{is_live, page_at, IsSound, Memory}

-- the table's flags were cleared, and nothing else was changed
pub record Settles (old new : Memory) (t : ℕ) : Type 0 where
  pub pages : (q : ℕ) → page_at new t q ≡ settled (page_at old t q)
  pub live : IsTrue (is_live new t)
  pub rest : ChangesTable old new t
  pub sound : IsSound new
