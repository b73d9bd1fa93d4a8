-- Lists of numbers in a row, and of pages by them.
use Rattle.std.proofs.Common.{◌≡◌, ℕ, zero, suc, ◌+◌, ◌-◌, ◌≤◌, List, [], ◌∷◌, ◌++◌, Bool, count_by, length, map, refl, sym, ap, ◌∙◌, arith}
use Rattle.std.proofs.lemmas.List.{length-map, map-append}
use Rattle.std.proofs.lemmas.List.Sums.{count_by-le-length}
use Rattle.heap_world.specs.declared.names.PageName.{PageName}
use Rattle.heap_world.specs.Pages.{count_from}

-- one more number in a row
pub count_from_more : (s n : ℕ) → count_from s (suc n) ≡ count_from s n ++ (s + n) ∷ []
count_from_more s zero = ap (λ m. m ∷ []) (omega arith)
count_from_more s (suc n) =
    ap (λ ms. s ∷ ms) (count_from_more (s + 1) n)
    ∙ ap (λ m. s ∷ (count_from (s + 1) n ++ m ∷ [])) (omega arith)

-- the same from one number up to another
pub row_more : {X : Type 0} (f : ℕ → X) (s k : ℕ) → s ≤ k → map f (count_from s (k + 1 - s)) ≡ map f (count_from s (k - s)) ++ f k ∷ []
row_more f s k h =
    let e : k + 1 - s ≡ suc (k - s) = omega arith in
    let m : s + (k - s) ≡ k = omega arith in
    ap (λ n. map f (count_from s n)) e
    ∙ ap (map f) (count_from_more s (k - s))
    ∙ map-append f (count_from s (k - s)) ((s + (k - s)) ∷ [])
    ∙ ap (λ n. map f (count_from s (k - s)) ++ f n ∷ []) m

-- the same from 0
pub row_more_from_0 : {X : Type 0} (f : ℕ → X) (k : ℕ) → map f (count_from 0 (k + 1)) ≡ map f (count_from 0 k) ++ f k ∷ []
row_more_from_0 f k =
    let a : k + 1 - 0 ≡ k + 1 = omega arith in
    let b : k - 0 ≡ k = omega arith in
    ap (λ n. map f (count_from 0 n)) (sym a) ∙ row_more f 0 k (omega arith) ∙ ap (λ n. map f (count_from 0 n) ++ f k ∷ []) b

-- how many there are
length-row : (s n : ℕ) → length (count_from s n) ≡ n
length-row s zero = refl
length-row s (suc n) = ap suc (length-row (s + 1) n)

pub length_row : {X : Type 0} (f : ℕ → X) (s n : ℕ) → length (map f (count_from s n)) ≡ n
length_row f s n = length-map (count_from s n) f ∙ length-row s n

-- a count of pages of a kind is no more than all of them
pub count_fewer : (p : PageName → Bool) (pages : List PageName) → count_by p pages ≤ length pages
count_fewer p pages = count_by-le-length p pages

pub ruleset counting = (length_row, count_fewer)
