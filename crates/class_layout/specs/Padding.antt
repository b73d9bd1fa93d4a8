-- A list that is kept in a longer one, with zeros behind it.
use Rattle.std.specs.Prelude.{◌≡◌, ℕ, ◌-◌, ◌≤◌, List, ◌++◌, length, take, drop, replicate}
use Rattle.std.proofs.Common.{ap, sym, ◌∙◌, arith, take-append-drop, length-take-le}
use Rattle.model_numbers.specs.Numbers.{name_limit}

-- the first n of as many bytes as a name may have, followed by zeros up to as many, are those bytes again where the others are zeros
pub padded_again : (xs : List ℕ) (n : ℕ) → n ≤ name_limit → length xs ≡ name_limit → drop n xs ≡ replicate (name_limit - n) 0
    → (take n xs ++ replicate (name_limit - length (take n xs)) 0 ≡ xs) × (length (take n xs) ≡ n)
padded_again xs n within long zeros =
    let e : length (take n xs) ≡ n = length-take-le n xs (omega arith) in
    (ap (λ m. take n xs ++ replicate (name_limit - m) 0) e ∙ ap (λ ys. take n xs ++ ys) (sym zeros) ∙ take-append-drop n xs, e)
