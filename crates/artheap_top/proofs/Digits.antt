-- Numbers of digits of base 16.
use Rattle.std.proofs.Common.{◌≡◌, ℕ, suc, ◌+◌, ◌*◌, ◌^◌, ◌<◌, List, length, get_or, drop, Some, sym, ap, ◌∙◌, arith}
use Rattle.std.specs.Prelude.{option_and_then}
use Rattle.std.proofs.lemmas.Nat.{pow-add}
use Rattle.std.proofs.Math.Pow.{pow_mono}
use Rattle.std.proofs.Math.Seq.{drop-cons}
use Rattle.artheap_top.specs.Words.{digit_value, with_digits}

-- one digit more
pub digits-more : (id value i : ℕ) → id < 2 ^ (4 * i) → value < 16 → id * 16 + value < 2 ^ (4 * (i + 1))
digits-more id value i below small =
    let e : 4 * (i + 1) ≡ 4 * i + 4 = omega arith in
    rw (e, pow-add 2 (4 * i) 4) (omega arith)

-- it stays within 32 bits
pub digits-fit : (id value i : ℕ) → id < 2 ^ (4 * i) → value < 16 → i < 8 → id * 16 + value < 2 ^ 32
digits-fit id value i below small fits = omega (arith, digits-more id value i below small, pow_mono {i = 4 * (i + 1)} {j = 32} (omega arith))

-- one digit less is left
digits-step : (id i : ℕ) (word : List ℕ) → i < length word → with_digits id (drop i word) ≡ option_and_then (λ value. with_digits (id * 16 + value) (drop (i + 1) word)) (digit_value (get_or word i 0))
digits-step id i word lt = ap (with_digits id) (drop-cons word i 0 lt) ∙ ap (λ n. option_and_then (λ value. with_digits (id * 16 + value) (drop n word)) (digit_value (get_or word i 0))) next
  where
    next : suc i ≡ i + 1
    next = omega arith

-- it goes on where a digit has a value
pub digits-some : (id i value : ℕ) (word : List ℕ) → i < length word → digit_value (get_or word i 0) ≡ Some value → with_digits (id * 16 + value) (drop (i + 1) word) ≡ with_digits id (drop i word)
digits-some id i value word lt is = sym (digits-step id i word lt ∙ ap (option_and_then (λ v. with_digits (id * 16 + v) (drop (i + 1) word))) is)
