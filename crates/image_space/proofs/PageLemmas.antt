-- The pages of a window after further ones were mapped, and those that hold further bytes.
use Rattle.std.proofs.Common.{◌≡◌, ◌∙◌, ◌⊎◌, ◌&&◌, ℕ, ◌+◌, ◌*◌, ◌-◌, ◌<◌, ◌≤◌, Bool, true, false, nat_le, nat_lt, ap, sym, inl, inr, arith, subst}
use Rattle.std.specs.Prelude.{◌||◌}
use Rattle.std.proofs.lemmas.Bool.{and_from, cases_lt, le-leb, le-ltb, lt-leb, lt-ltb, or_left, or_right}
use Rattle.page_tables.specs.declared.address.Window.TheVariants.{Image}
use Rattle.page_tables.specs.Address.{first_page, page_of}
use Rattle.cow_pages.specs.Memory.{Memory}
use Rattle.page_runs.specs.Covered.{covers}
use Rattle.page_runs.specs.Runs.{HasRun, MapsRun}
use Rattle.page_runs.proofs.LawLemmas.{run-grown}
use Rattle.image_space.specs.Space.{HasPagesUpTo, end_page, further_pages, pages_up_to}

pub pages-after : (old new : Memory) (t fill next : ℕ) → HasPagesUpTo old t fill → fill ≤ next → MapsRun old new t (end_page fill) (further_pages fill next) → HasPagesUpTo new t next
pages-after old new t fill next has rises maps = subst (HasRun new t Image (first_page Image)) total (run-grown old new t Image (first_page Image) (pages_up_to fill) (further_pages fill next) has maps)
  where
    total : pages_up_to fill + further_pages fill next ≡ pages_up_to next
    total = omega (arith, rises)

-- behind the first bytes of a window, which end in the same page as others do, further ones
pub bytes-more : (first fill next size at p : ℕ) → at ≡ 4096 * first + next → pages_up_to next ≡ pages_up_to fill → 0 < size
    → (nat_le first p && nat_lt p (first + pages_up_to (next + size))) ≡ ((nat_le first p && nat_lt p (first + pages_up_to fill)) || covers at size p)
bytes-more first fill next size at p spot same some = by (cases_lt p first) (cases_lt p (first + pages_up_to fill)) (cases_lt p (first + pages_up_to (next + size)))
  where
    either : (a b : Bool) → a ≡ false → b ≡ false → (a || b) ≡ false
    either a b off rest = ap (λ (x : Bool). x || b) off ∙ rest

    before-all : (a b : ℕ) → p < a → (nat_le a p && nat_lt p b) ≡ false
    before-all a b under = ap (λ (x : Bool). x && nat_lt p b) (lt-leb a p under)

    behind-all : (a b : ℕ) → a ≤ p → b ≤ p → (nat_le a p && nat_lt p b) ≡ false
    behind-all a b from behind = ap (λ (x : Bool). x && nat_lt p b) (le-leb a p from) ∙ le-ltb p b behind

    within : (a b : ℕ) → a ≤ p → p < b → (nat_le a p && nat_lt p b) ≡ true
    within a b from to = and_from (nat_le a p) (nat_lt p b) (le-leb a p from) (lt-ltb p b to)

    by : (p < first) ⊎ (first ≤ p) → (p < first + pages_up_to fill) ⊎ (first + pages_up_to fill ≤ p) → (p < first + pages_up_to (next + size)) ⊎ (first + pages_up_to (next + size) ≤ p)
        → (nat_le first p && nat_lt p (first + pages_up_to (next + size))) ≡ ((nat_le first p && nat_lt p (first + pages_up_to fill)) || covers at size p)
    by (inl before) two three =
        before-all first (first + pages_up_to (next + size)) before
        ∙ sym (either _ _ (before-all first (first + pages_up_to fill) before)
        (ap (λ (x : Bool). x && nat_le p (page_of (at + size - 1))) (lt-leb (page_of at) p (omega (arith, before, spot)))))
    by (inr from) (inl here) three =
        within first (first + pages_up_to (next + size)) from (omega (arith, here, same, some))
        ∙ sym (or_left (nat_le first p && nat_lt p (first + pages_up_to fill)) (covers at size p) (within first (first + pages_up_to fill) from here))
    by (inr from) (inr behind) (inl further) =
        within first (first + pages_up_to (next + size)) from further
        ∙ sym (or_right (nat_le first p && nat_lt p (first + pages_up_to fill)) (covers at size p)
        (and_from _ _ (le-leb (page_of at) p (omega (arith, behind, same, spot))) (le-leb p (page_of (at + size - 1)) (omega (arith, further, spot, some)))))
    by (inr from) (inr behind) (inr beyond) =
        behind-all first (first + pages_up_to (next + size)) from beyond
        ∙ sym (either _ _ (behind-all first (first + pages_up_to fill) from behind)
        (ap (λ (x : Bool). x && nat_le p (page_of (at + size - 1))) (le-leb (page_of at) p (omega (arith, behind, same, spot))) ∙ lt-leb p (page_of (at + size - 1)) (omega (arith, beyond, spot, some))))
