-- Lists of pages: which page is among them.
use Rattle.std.proofs.Common.{◌≡◌, ◌⊎◌, ℕ, zero, suc, ◌+◌, ◌<◌, ◌≤◌, true, inl, inr, List, [], ◌∷◌, ◌++◌, map, nat_eq, sym, ap, subst, ◌∙◌, arith}
use Rattle.std.specs.List.{AllByRecursion}
use Rattle.std.proofs.lemmas.Bool.{and_parts, eqb-true, or_cases}
use Rattle.std.proofs.lemmas.List.Folds.{list_any-append}
use Rattle.heap_world.specs.declared.names.PageName.{PageName}
use Rattle.heap_world.specs.declared.names.PageName.TheVariants.{Image, Zygote, Large}
use Rattle.heap_world.specs.Pages.{count_from, is_touched, same_page}

-- pages are the same where the test says so
pub page_is : (a b : PageName) → same_page a b ≡ true → a ≡ b
page_is (Image j) (Image k) e = ap Image (eqb-true j k e)
page_is (Image j) (Zygote k) e = cc
page_is (Image j) (Large n k) e = cc
page_is (Zygote j) (Image k) e = cc
page_is (Zygote j) (Zygote k) e = ap Zygote (eqb-true j k e)
page_is (Zygote j) (Large n k) e = cc
page_is (Large m j) (Image k) e = cc
page_is (Large m j) (Zygote k) e = cc
page_is (Large m j) (Large n k) e =
    let parts = and_parts (nat_eq m n) (nat_eq j k) e in
    ap (λ x. Large x j) (eqb-true m n parts.0) ∙ ap (Large n) (eqb-true j k parts.1)

-- a page among counted ones is one of them
pub in_count_at : (page : ℕ → PageName) (start n : ℕ) (a : PageName) → is_touched (map page (count_from start n)) a ≡ true → (k : ℕ) × (start ≤ k) × (k < start + n) × (a ≡ page k)
in_count_at page start zero a h = cc
in_count_at page start (suc n) a h =
    elim (or_cases (same_page a (page start)) (is_touched (map page (count_from (start + 1) n)) a) h) [
      | inl here ↦ (start, omega arith, omega arith, page_is a (page start) here)
      | inr later ↦ let rest = in_count_at page (start + 1) n a later in (rest.0, omega (arith, rest.1), omega (arith, rest.2), rest.3)
    ]

-- what all pages have, one among them has
pub among_has : (P : PageName → Type 0) (ps : List PageName) (a : PageName) → AllByRecursion P ps → is_touched ps a ≡ true → P a
among_has P [] a h e = cc
among_has P (p ∷ ps) a h e =
    elim (or_cases (same_page a p) (is_touched ps a) e) [
      | inl here ↦ subst P (sym (page_is a p here)) h.0
      | inr later ↦ among_has P ps a h.1 later
    ]

-- a page of two lists is in one
pub in_either : (ps qs : List PageName) (a : PageName) → is_touched (ps ++ qs) a ≡ true → (is_touched ps a ≡ true) ⊎ (is_touched qs a ≡ true)
in_either ps qs a h = or_cases (is_touched ps a) (is_touched qs a) (sym (list_any-append (same_page a) ps qs) ∙ h)
