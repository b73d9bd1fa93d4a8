-- How many pages have names: as many as there are names, where no name comes twice.
use Rattle.std.proofs.Common.{◌≡◌, ◌∙◌, ℕ, ◌+◌, ◌<◌, ◌≤◌, Bool, true, false, cond, List, [], ◌∷◌, length, nat_eq, refl, sym, ap, subst, inl, inr, arith, count_by, true≢false}
use Rattle.std.specs.Prelude.{◌||◌}
use Rattle.std.specs.List.{list_any, IsDistinct}
use Rattle.std.proofs.lemmas.Bool.{eq-eqb, eqb-true, ne_eqb, or_left}
use Rattle.class_layout.specs.Placing.{IsIn}
use Rattle.cow_pages.specs.View.{numbers_from}
use Rattle.cow_pages.proofs.LawLemmas.{count-joined, count-none}
use Rattle.heap_world.specs.declared.names.PageName.{PageName}
use Rattle.heap_world.specs.Pages.{is_touched, same_page}
use Rattle.heap_world.proofs.Bounds.{page-refl}
use Rattle.graph_pages.specs.Pages.{page_named}
use Rattle.graph_pages.proofs.Lists.{any-from, any-to}
use Rattle.world_laws.proofs.PageLists.{page_is}
use Rattle.world_laws.proofs.StandingLists.{distinct_parts, none_from}

-- some of these names is that of the page
abbrev pub is_page_of : (ℕ → ℕ) → List PageName → ℕ → Bool
is_page_of table names p = list_any (λ (a : PageName). nat_eq p (page_named table a)) names

pub touched-in : (names : List PageName) (a : PageName) → is_touched names a ≡ true → IsIn a names
touched-in names a is = let it = any-from (same_page a) names is in subst (λ x. IsIn x names) (sym (page_is a it.0 it.2)) it.1

pub in-touched : (names : List PageName) (a : PageName) → IsIn a names → is_touched names a ≡ true
in-touched names a there = any-to (same_page a) names a there (page-refl a)

-- names of different pages in a range of numbers
pub count-names : (table : ℕ → ℕ) (a n : ℕ) (names : List PageName) → IsDistinct same_page names
    → ((x : PageName) → IsIn x names → (a ≤ page_named table x) × (page_named table x < a + n))
    → ((x y : PageName) → IsIn x names → IsIn y names → page_named table x ≡ page_named table y → x ≡ y)
    → count_by (is_page_of table names) (numbers_from a n) ≡ length names
count-names table a n [] once within apart = count-none a n
count-names table a n (x ∷ names) once within apart =
    let parts = distinct_parts x names once in
    let q : ℕ = page_named table x in
    let here = within x (inl refl) in
    let off : is_page_of table names q ≡ false = none_from (is_page_of table names q) (λ e.
    let it = any-from (λ (y : PageName). nat_eq q (page_named table y)) names e in
    let same : x ≡ it.0 = apart x it.0 (inl refl) (inr it.1) (eqb-true q (page_named table it.0) it.2) in
    true≢false (sym (in-touched names x (subst (λ y. IsIn y names) (sym same) it.1)) ∙ parts.0)) in
    let one : ◌≡◌ {A = ℕ} (cond (is_page_of table (x ∷ names) q) 1 0) 1 = ap (λ b. cond b 1 0) (or_left (nat_eq q q) (is_page_of table names q) (eq-eqb q q refl)) in
    omega (
      arith,
      one,
      count-joined (is_page_of table names) (is_page_of table (x ∷ names)) q a n (λ p other. ap (λ b. b || is_page_of table names p) (ne_eqb p q (λ e. other (sym e)))) off here.0 here.1,
      count-names table a n names parts.1 (λ y there. within y (inr there)) (λ y z y_in z_in. apart y z (inr y_in) (inr z_in)),
    )
