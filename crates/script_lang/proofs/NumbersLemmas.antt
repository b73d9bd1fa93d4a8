-- A word is a number where its bytes are digits without a leading zero.
use Rattle.std.proofs.Common.{◌≡◌, ℕ, zero, suc, ◌+◌, ◌-◌, ◌*◌, ◌^◌, ◌<◌, ◌≤◌, Bool, true, false, ◌&&◌, cond, nat_le, ℤ, pos, negsuc, List, [], ◌∷◌, Option, None, Some, length, get_or, drop, decimal, refl, sym, ◌∙◌, ap, subst, arith, rules, drop-cons}
use Rattle.std.specs.Fmt.{signed_decimal}
use Rattle.std.specs.List.{list_all}
use Rattle.std.proofs.lemmas.Bool.{leb-true, leb-false, le-leb, lt-leb, ne_eqb, false≢true}
use Rattle.std.proofs.lemmas.Fmt.{first_decimal, digits_decimal, decimal-digits_value, decimal_digit}
use Rattle.std.proofs.lemmas.Slice.Eq.{bytes_eq-Decides}
use Rattle.std.proofs.lemmas.Str.Parse.{IsNumeralModel, numerals_by_fold}
use Rattle.std.proofs.lemmas.List.{drop_all}
use Rattle.std.proofs.Math.IntN.{neg_ℤ}
use Rattle.class_layout.specs.declared.kind.Kind.TheVariants.{Long}
use Rattle.class_layout.specs.Kinds.{in_range}
use Rattle.class_layout.specs.Names.{same_name}
use Rattle.script_lang.specs.Forms.{is_digit}
use Rattle.script_lang.specs.Numbers.{number_with, digits_number, number_up_to, number_of}

-- the digits and their number, as std's lemmas want them
own : IsNumeralModel (λ ds. list_all is_digit ds ≡ true) (number_with 0)
own = numerals_by_fold _ (search rules) number_with (search rules)

same : (xs ys : List ℕ) → xs ≡ ys → same_name xs ys ≡ true
same xs ys e = (bytes_eq-Decides xs ys).1 e

from_same : (xs ys : List ℕ) → same_name xs ys ≡ true → xs ≡ ys
from_same xs ys e = (bytes_eq-Decides xs ys).0 e

differs : (xs ys : List ℕ) → (xs ≡ ys → ⊥) → same_name xs ys ≡ false
differs xs ys h = by_test (same_name xs ys) refl
  where
    by_test : (b : Bool) → same_name xs ys ≡ b → same_name xs ys ≡ false
    by_test true e = absurd (h (from_same xs ys e))
    by_test false e = e

-- a number does not shrink when digits are put behind it
pub number_with-le : (n : ℕ) (bs : List ℕ) → n ≤ number_with n bs
number_with-le n [] = omega arith
number_with-le n (b ∷ bs) = let more = number_with-le (n * 10 + (b - 48)) bs in omega arith

-- the test of 64 bits, in one number
abbrev pub digits_up_to : ℕ → List ℕ → Option ℕ
digits_up_to limit word = cond (list_all is_digit word && nat_le (digits_number word) limit) (Some (digits_number word)) None

-- a word that is not empty and has no leading zero is a number exactly where its bytes are digits
pub number_up_to-digits : (limit : ℕ) (word : List ℕ) → limit < 2 ^ 64 → 0 < length word → (get_or word 0 0 ≡ 48 → length word ≡ 1) → digits_up_to limit word ≡ number_up_to limit word
number_up_to-digits limit word small some first = by_size (nat_le (digits_number word) limit) refl
  where
    n : ℕ
    n = digits_number word

    by_digits : (b : Bool) → list_all is_digit word ≡ b → n ≤ limit → list_all is_digit word ≡ same_name (decimal n) word
    by_digits true e h = e ∙ sym (same (decimal n) word (decimal-digits_value own word e some first (omega arith)))
    by_digits false e h =
        e ∙ sym (differs (decimal n) word (λ p. false≢true (sym e ∙ subst (λ (x : List ℕ). list_all is_digit x ≡ true) p (digits_decimal own n (omega arith)))))

    by_size : (b : Bool) → nat_le n limit ≡ b → digits_up_to limit word ≡ number_up_to limit word
    by_size true e = ap (λ (b : Bool). cond (b && nat_le n limit) (Some n) None) (by_digits (list_all is_digit word) refl (leb-true n limit e))
    by_size false e = too_large (list_all is_digit word) (nat_le n limit) e ∙ sym (too_large (same_name (decimal n) word) (nat_le n limit) e)
      where
        too_large : (a b : Bool) → b ≡ false → cond (a && b) (Some n) None ≡ None
        too_large true b e = ap (λ (b : Bool). cond b (Some n) None) e
        too_large false b e = refl

-- a number past the limit is none
pub digits_up_to-over : (limit n : ℕ) (word : List ℕ) → n ≤ digits_number word → limit < n → None ≡ digits_up_to limit word
digits_up_to-over limit n word h over = none (list_all is_digit word) (nat_le (digits_number word) limit) (lt-leb (digits_number word) limit (omega arith))
  where
    none : (a b : Bool) → b ≡ false → None ≡ cond (a && b) (Some (digits_number word)) None
    none true b e = ap (λ (b : Bool). cond b (Some (digits_number word)) None) (sym e)
    none false b e = refl

-- the number so far, with the next digit, is no greater than the whole number
pub next_digit-le : (value i : ℕ) (word : List ℕ) → i < length word → number_with value (drop i word) ≡ digits_number word → value * 10 + (get_or word i 0 - 48) ≤ digits_number word
next_digit-le value i word h so_far =
    let cut : drop i word ≡ get_or word i 0 ∷ drop (suc i) word = drop-cons word i 0 h in
    let whole : number_with (value * 10 + (get_or word i 0 - 48)) (drop (suc i) word) ≡ digits_number word = sym (ap (number_with value) cut) ∙ so_far in
    omega (arith, whole, number_with-le (value * 10 + (get_or word i 0 - 48)) (drop (suc i) word))

-- the last digit was read
pub digits_up_to-end : (limit value i : ℕ) (word : List ℕ) → length word ≤ i → number_with value (drop i word) ≡ digits_number word → list_all is_digit (drop i word) ≡ list_all is_digit word → value ≤ limit → Some value ≡ digits_up_to limit word
digits_up_to-end limit value i word h so_far digits fits =
    let cut : drop i word ≡ [] = drop_all i word h in
    let whole : value ≡ digits_number word = sym (ap (number_with value) cut) ∙ so_far in
    let all : list_all is_digit word ≡ true = sym digits ∙ ap (list_all is_digit) cut in
    ap (λ (n : ℕ). Some n) whole ∙ sym (ap (λ (b : Bool). cond (b && nat_le (digits_number word) limit) (Some (digits_number word)) None) all ∙ ap (λ (b : Bool). cond b (Some (digits_number word)) None) (le-leb (digits_number word) limit (omega arith)))

-- a smaller limit
abbrev pub if_up_to : ℕ → Option ℕ → Option ℕ
if_up_to limit None = None
if_up_to limit (Some n) = cond (nat_le n limit) (Some n) None

pub number_up_to-less : (limit more : ℕ) (word : List ℕ) → limit ≤ more → number_up_to limit word ≡ if_up_to limit (number_up_to more word)
number_up_to-less limit more word h = by_text (same_name (decimal (digits_number word)) word)
  where
    n : ℕ
    n = digits_number word

    by_size : (b : Bool) → nat_le n limit ≡ b → cond (nat_le n limit) (Some n) None ≡ if_up_to limit (cond (nat_le n more) (Some n) None)
    by_size true e = sym (ap (λ (b : Bool). if_up_to limit (cond b (Some n) None)) (le-leb n more (let small = leb-true n limit e in omega arith)))
    by_size false e = ap (λ (b : Bool). cond b (Some n) None) e ∙ sym (above (nat_le n more))
      where
        above : (b : Bool) → if_up_to limit (cond b (Some n) None) ≡ None
        above true = ap (λ (b : Bool). cond b (Some n) None) e
        above false = refl

    by_text : (b : Bool) → cond (b && nat_le n limit) (Some n) None ≡ if_up_to limit (cond (b && nat_le n more) (Some n) None)
    by_text true = by_size (nat_le n limit) refl
    by_text false = refl

-- an empty word, and one with a leading zero, is no number
pub number_up_to-empty : (limit : ℕ) (word : List ℕ) → length word ≡ 0 → None ≡ number_up_to limit word
number_up_to-empty limit (b ∷ bs) h = absurd (omega arith)
number_up_to-empty limit [] h = sym (ap (λ (ds : List ℕ). cond (same_name ds [] && nat_le 0 limit) (Some 0) None) (decimal_digit 0 (omega arith)))

pub number_up_to-nought : (limit : ℕ) (bs : List ℕ) → length bs ≡ 0 → Some 0 ≡ number_up_to limit (48 ∷ bs)
number_up_to-nought limit (b ∷ bs) h = absurd (omega arith)
number_up_to-nought limit [] h =
    sym (ap (λ (ds : List ℕ). cond (same_name ds (48 ∷ []) && nat_le 0 limit) (Some 0) None) (decimal_digit 0 (omega arith)) ∙ ap (λ (b : Bool). cond b (Some 0) None) (le-leb 0 limit (omega arith)))

pub number_up_to-zero : (limit : ℕ) (bs : List ℕ) → limit < 2 ^ 64 → 0 < length bs → None ≡ number_up_to limit (48 ∷ bs)
number_up_to-zero limit bs small some = by_size (nat_le n limit) refl
  where
    word : List ℕ
    word = 48 ∷ bs

    n : ℕ
    n = digits_number (48 ∷ bs)

    other : n < 2 ^ 64 → decimal n ≡ 48 ∷ bs → ⊥
    other fits e = by_value (nat_le n 0) refl
      where
        by_value : (b : Bool) → nat_le n 0 ≡ b → ⊥
        by_value true z =
            let none : n ≡ 0 = (let low = leb-true n 0 z in omega arith) in
            let text : decimal n ≡ 48 ∷ [] = ap decimal none ∙ decimal_digit 0 (omega arith) in
            omega (arith, ap length (sym text ∙ e))
        by_value false z =
            let positive : 0 < n = leb-false n 0 z in
            omega (arith, first_decimal n positive fits, ap (λ (ds : List ℕ). get_or ds 0 0) e)

    by_size : (b : Bool) → nat_le n limit ≡ b → None ≡ number_up_to limit (48 ∷ bs)
    by_size true e =
        let fits : n < 2 ^ 64 = (let low = leb-true n limit e in omega arith) in
        sym (ap (λ (b : Bool). cond (b && nat_le n limit) (Some n) None) (differs (decimal n) (48 ∷ bs) (other fits)))
    by_size false e = none (same_name (decimal n) (48 ∷ bs)) (nat_le n limit) e
      where
        none : (a b : Bool) → b ≡ false → None ≡ cond (a && b) (Some n) None
        none true b e = ap (λ (b : Bool). cond b (Some n) None) (sym e)
        none false b e = refl

-- a number below zero, by its size
abbrev pub negated : Option ℕ → Option ℤ
negated None = None
negated (Some zero) = None
negated (Some (suc m)) = cond (nat_le m 9223372036854775807) (Some (negsuc m)) None

pub number_of-below : (bs : List ℕ) → number_of (45 ∷ bs) ≡ negated (number_up_to 18446744073709551615 bs)
number_of-below bs = by_size (digits_number bs)
  where
    zero_text : same_name (decimal 0) (45 ∷ bs) ≡ false
    zero_text = ap (λ (ds : List ℕ). same_name ds (45 ∷ bs)) (decimal_digit 0 (omega arith))

    no_zero : (b : Bool) → None ≡ negated (cond b (Some 0) None)
    no_zero true = refl
    no_zero false = refl

    small : (m : ℕ) (b : Bool) → nat_le m 9223372036854775807 ≡ b → cond (nat_le m 9223372036854775807 && true) (Some (negsuc m)) None ≡ negated (cond (nat_le (suc m) 18446744073709551615) (Some (suc m)) None)
    small m true e =
        let low = leb-true m 9223372036854775807 e in
        ap (λ (b : Bool). cond (b && true) (Some (negsuc m)) None) e
        ∙ sym (ap (λ (b : Bool). cond b (Some (negsuc m)) None) e)
        ∙ sym (ap (λ (b : Bool). negated (cond b (Some (suc m)) None)) (le-leb (suc m) 18446744073709551615 (omega arith)))
    small m false e = ap (λ (b : Bool). cond (b && true) (Some (negsuc m)) None) e ∙ sym (above (nat_le (suc m) 18446744073709551615))
      where
        above : (b : Bool) → negated (cond b (Some (suc m)) None) ≡ None
        above true = ap (λ (b : Bool). cond b (Some (negsuc m)) None) e
        above false = refl

    by_text : (m : ℕ) (b : Bool) → cond (b && (nat_le m 9223372036854775807 && true)) (Some (negsuc m)) None ≡ negated (cond (b && nat_le (suc m) 18446744073709551615) (Some (suc m)) None)
    by_text m true = small m (nat_le m 9223372036854775807) refl
    by_text m false = refl

    by_size : (n : ℕ) → cond (same_name (signed_decimal (neg_ℤ (pos n))) (45 ∷ bs) && in_range Long (neg_ℤ (pos n))) (Some (neg_ℤ (pos n))) None ≡ negated (cond (same_name (decimal n) bs && nat_le n 18446744073709551615) (Some n) None)
    by_size zero = ap (λ (b : Bool). cond (b && true) (Some (pos 0)) None) zero_text ∙ no_zero (same_name (decimal 0) bs && true)
    by_size (suc m) = by_text m (same_name (decimal (suc m)) bs)

pub number_of-empty : (word : List ℕ) → length word ≡ 0 → None ≡ number_of word
number_of-empty (b ∷ bs) h = absurd (omega arith)
number_of-empty [] h = sym (ap (λ (ds : List ℕ). cond (same_name ds [] && true) (Some (pos 0)) None) (decimal_digit 0 (omega arith)))

-- a number that isn't below zero
abbrev pub positive : Option ℕ → Option ℤ
positive None = None
positive (Some n) = cond (nat_le n 9223372036854775807) (Some (pos n)) None

pub number_of-above : (b : ℕ) (bs : List ℕ) → (b ≡ 45 → ⊥) → number_of (b ∷ bs) ≡ positive (number_up_to 18446744073709551615 (b ∷ bs))
number_of-above b bs no_minus =
    ap (λ (t : Bool). with_sign (cond t (neg_ℤ (pos (digits_number bs))) (pos (digits_number (b ∷ bs))))) (ne_eqb b 45 no_minus)
    ∙ by_text (same_name (decimal n) (b ∷ bs))
  where
    n : ℕ
    n = digits_number (b ∷ bs)

    with_sign : ℤ → Option ℤ
    with_sign z = cond (same_name (signed_decimal z) (b ∷ bs) && in_range Long z) (Some z) None

    by_size : (t : Bool) → nat_le n 9223372036854775807 ≡ t → cond (nat_le n 9223372036854775807) (Some (pos n)) None ≡ positive (cond (nat_le n 18446744073709551615) (Some n) None)
    by_size true e =
        let low = leb-true n 9223372036854775807 e in
        sym (ap (λ (t : Bool). positive (cond t (Some n) None)) (le-leb n 18446744073709551615 (omega arith)))
    by_size false e = ap (λ (t : Bool). cond t (Some (pos n)) None) e ∙ sym (above (nat_le n 18446744073709551615))
      where
        above : (t : Bool) → positive (cond t (Some n) None) ≡ None
        above true = ap (λ (t : Bool). cond t (Some (pos n)) None) e
        above false = refl

    by_text : (t : Bool) → cond (t && nat_le n 9223372036854775807) (Some (pos n)) None ≡ positive (cond (t && nat_le n 18446744073709551615) (Some n) None)
    by_text true = by_size (nat_le n 9223372036854775807) refl
    by_text false = refl
