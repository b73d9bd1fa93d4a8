-- How many pages of the window are mapped.
use Rattle.std.proofs.Common.{◌≡◌, ◌≢◌, ◌∙◌, ℕ, zero, suc, ◌+◌, ◌<◌, ◌≤◌, Bool, true, false, cond, true≢false, List, [], ◌∷◌, ◌++◌, map, All, count_by, nat_eq, refl, sym, ap, subst, inl, arith}
use Rattle.std.specs.Prelude.{◌||◌}
use Rattle.std.proofs.lemmas.Bool.{and_from, le-leb, lt-ltb}
use Rattle.std.proofs.lemmas.List.{map-append}
use Rattle.std.proofs.lemmas.List.Elements.{All-head, All-tail}
use Rattle.std.proofs.lemmas.Map.Keys.{IsDistinct-tail}
use Rattle.std.specs.List.{IsDistinct, list_any}
use Rattle.page_tables.specs.declared.address.Window.TheVariants.{Regions}
use Rattle.page_tables.specs.Address.{first_page, page_count}
use Rattle.cow_pages.specs.Memory.{IsSound, Memory, is_mapped, mapped_in}
use Rattle.cow_pages.specs.View.{numbers_from}
use Rattle.cow_pages.proofs.LawLemmas.{count-none, count-same, counts}
use Rattle.cow_pages.proofs.HolderLemmas.{count-step}
use Rattle.page_runs.proofs.LawLemmas.{run-count}
use Rattle.region_lists.specs.Rows.{Lists, Row}
use Rattle.region_lists.proofs.ChainLemmas.{apart-head}
use Rattle.region_lists.proofs.MoveLemmas.{all-left, distinct-left}
use Rattle.region_space.specs.Pages.{page_sum}
use Rattle.region_space.specs.Space.{HasPages, IsFilled, IsSpace, filled, holds_page, row_pages}
use Rattle.region_space.proofs.DropLemmas.{first_of_row, held-run}
use Rattle.region_space.proofs.PageLemmas.{none-there, page_sum-cons}
use Rattle.region_space.proofs.RoomLemmas.{AreBehind}
use Rattle.region_space.proofs.WalkLemmas.{all-regions}

either-step : (f g : Bool) → (f ≡ true → g ≡ false) → ◌≡◌ {A = ℕ} (cond (f || g) 1 0) (cond f 1 0 + cond g 1 0)
either-step true true apart = absurd (true≢false (apart refl))
either-step true false apart = refl
either-step false true apart = refl
either-step false false apart = refl

-- what passes one of two tests that no number passes both
count-either : (f g : ℕ → Bool) (a n : ℕ) → ((p : ℕ) → f p ≡ true → g p ≡ false) → count_by (λ p. f p || g p) (numbers_from a n) ≡ count_by f (numbers_from a n) + count_by g (numbers_from a n)
count-either f g a zero apart = omega arith
count-either f g a (suc n) apart =
    omega (
      arith,
      count-step (λ p. f p || g p) a (numbers_from (a + 1) n),
      count-step f a (numbers_from (a + 1) n),
      count-step g a (numbers_from (a + 1) n),
      either-step (f a) (g a) (apart a),
      count-either f g (a + 1) n apart,
    )

rows-apart : (row : Row) (rest : List Row) (p : ℕ) → All IsFilled (row ∷ rest) → IsDistinct nat_eq (map (λ (row : Row). row.region) (row ∷ rest)) → holds_page p row ≡ true → list_any (holds_page p) rest ≡ false
rows-apart row rest p all apart held =
    let here = held-run row p held in
    let regions = map (λ (row : Row). row.region) rest in
    let others = all-regions (λ n. n ≢ row.region) rest (apart-head row.region regions apart) in
    let behind : AreBehind row.region 0 rest = λ k d within. inl (others k d within) in
    none-there rest row.region 0 row.fill p (All-tail IsFilled row rest all) behind (omega (arith, (All-head IsFilled row rest all).most)) (record { from = omega (arith, here.from); to = omega (arith, here.to) })

-- the window has so many pages of these rows
rows-counted : (rows : List Row) (count : ℕ) → All IsFilled rows → IsDistinct nat_eq (map (λ (row : Row). row.region) rows) → All (λ n. n < count) (map (λ (row : Row). row.region) rows) → count ≤ 1024
    → count_by (λ p. list_any (holds_page p) rows) (numbers_from 262144 65536) ≡ page_sum rows
rows-counted [] count all apart within few = count-none 262144 65536
rows-counted (row ∷ rest) count all apart within few =
    let regions = map (λ (row : Row). row.region) rest in
    let most = (All-head IsFilled row rest all).most in
    let region = All-head (λ n. n < count) row.region regions within in
    let one = run-count (first_of_row row) (row_pages row) 262144 65536 (omega arith) (omega (arith, most, region, few)) in
    let others = rows-counted rest count (All-tail IsFilled row rest all) (IsDistinct-tail nat_eq row.region regions apart) (All-tail (λ n. n < count) row.region regions within) few in
    count-either (λ p. holds_page p row) (λ p. list_any (holds_page p) rest) 262144 65536 (λ p held. rows-apart row rest p all apart held)
    ∙ ap (λ k. k + count_by (λ p. list_any (holds_page p) rest) (numbers_from 262144 65536)) one
    ∙ ap (λ k. row_pages row + k) others
    ∙ sym (page_sum-cons row rest)

pub space-counted : (m : Memory) (t : ℕ) (s : Lists) → IsSound m → IsSpace s → HasPages m t (filled s) → mapped_in m t Regions ≡ page_sum (filled s)
space-counted m t s sound space has =
    let regions = λ (rows : List Row). map (λ (row : Row). row.region) rows in
    let split : regions (filled s) ≡ regions s.in_use ++ regions s.from = map-append (λ (row : Row). row.region) s.in_use s.from in
    (counts m t Regions sound).mapped
    ∙ count-same (λ p. list_any (holds_page p) (filled s)) (is_mapped m t) (first_page Regions) (page_count Regions)
    (λ p above below. has p (and_from _ _ (le-leb (first_page Regions) p above) (lt-ltb p (first_page Regions + page_count Regions) below)))
    ∙ rows-counted (filled s) s.count space.filled
    (subst (IsDistinct nat_eq) (sym split) (distinct-left (regions s.in_use ++ regions s.from) s.free space.lists.apart))
    (subst (All (λ n. n < s.count)) (sym split) (all-left (λ n. n < s.count) (regions s.in_use ++ regions s.from) s.free space.lists.within)) space.few
