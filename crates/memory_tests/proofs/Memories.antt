-- Which tables are live, and which flags are unset.
use Rattle.std.proofs.Common.{◌≡◌, ◌≢◌, ◌∙◌, ℕ, false, true≢false, Option, Some, None, IsTrue, refl, sym, ap}
use Rattle.cow_pages.specs.Memory.{Memory, Page, page_at, is_live, flag_of, IsSettled}
use Rattle.cow_pages.specs.Change.{settled}

-- a table that joins is no other one
pub joined-apart : (m : Memory) (t u : ℕ) → IsTrue (is_live m t) → is_live m u ≡ false → t ≢ u
joined-apart m t u live fresh same = true≢false (sym live ∙ ap (is_live m) same ∙ fresh)

no-flag : (o : Option Page) → flag_of (settled o) ≡ false
no-flag None = refl
no-flag (Some page) = refl

-- a table that was settled has no flag
pub none-written : (old new : Memory) (t : ℕ) → ((p : ℕ) → page_at new t p ≡ settled (page_at old t p)) → IsSettled new t
none-written old new t pages p = ap flag_of (pages p) ∙ no-flag (page_at old t p)
