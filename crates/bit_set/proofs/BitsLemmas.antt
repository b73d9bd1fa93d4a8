-- Bits of words, and numbers in words.
use Rattle.std.proofs.Common.{◌≡◌, ℕ, suc, ◌+◌, ◌-◌, ◌*◌, ◌/◌, ◌%◌, ◌^◌, ◌<◌, ◌≤◌, Bool, ◌==◌, IsTrue, IsFalse, List, length, get_or, Option, Some, None, IfNone, bit_and, sym, ap, ◌∙◌, subst, inl, inr, arith, w64, eq-eqb, eqb-true, shr-shr, le_trans}
use Rattle.std.proofs.lemmas.Bool.{cases_lt, cases_eq, false≢true}
use Rattle.std.proofs.lemmas.List.{get_or_past}
use Rattle.std.proofs.lemmas.Nat.{leading_top, le-div, div_below, one_shl, pow_pos}
use Rattle.std.proofs.lemmas.Nat.Bits.{bit_at-zero, bit_at_above, bit_at-trailing_zeros, bit_at_and, bit_at_ones, bit_at_ones_above, bit_at-lt}
use Rattle.std.specs.Int.{bit_at, trailing_zeros, leading_zeros}
use Rattle.bit_set.specs.Bits.{has_bit, has_number}
use Rattle.bit_set.specs.Tests.{NoneFrom, NoneBelow, IsLeastFrom, IsGreatestBelow}

-- ---- one word

-- a bit is 1, or it is not
pub has_bit-true : (w i : ℕ) → bit_at w i ≡ 1 → IsTrue (has_bit w i)
unfolding has_bit
has_bit-true w i h = eq-eqb (bit_at w i) 1 h

pub has_bit-false : (w i : ℕ) → bit_at w i ≡ 0 → IsFalse (has_bit w i)
unfolding has_bit
has_bit-false w i h = ap (λ b. b == 1) h

pub bit_from_has_bit : (w i : ℕ) → IsTrue (has_bit w i) → bit_at w i ≡ 1
unfolding has_bit
bit_from_has_bit w i h = eqb-true (bit_at w i) 1 h

no_bit_from_has_bit : (w i : ℕ) → IsFalse (has_bit w i) → bit_at w i ≡ 0
unfolding has_bit
no_bit_from_has_bit w i h =
    elim (cases_eq (bit_at w i) 1) [
      | inl one ↦ absurd (false≢true (sym h ∙ eq-eqb (bit_at w i) 1 one))
      | inr other ↦ omega (arith, bit_at-lt w i)
    ]

pub has_bit-zero : (i : ℕ) → IsFalse (has_bit 0 i)
has_bit-zero i = has_bit-false 0 i (bit_at-zero i)

-- `trailing_zeros` finds the lowest 1
pub lowest : (w : ℕ) → 0 < w → w < 2 ^ 64 → IsLeastFrom (has_bit w) 0 (trailing_zeros w64 w)
lowest w above fits =
    let found = bit_at-trailing_zeros w64 w above fits in
    record {
      from = omega arith;
      member = has_bit-true w (trailing_zeros w64 w) found.1;
      least = λ k _ below. has_bit-false w k (found.2 k below);
    }

top_bit : (w j : ℕ) → 2 ^ j ≤ w → w < 2 ^ suc j → bit_at w j ≡ 1
top_bit w j low high =
    let one : 1 ≤ w / 2 ^ j = le-div 1 w (2 ^ j) (pow_pos j) (omega arith) in
    let two : w / 2 ^ j < 2 = div_below w (2 ^ j) 2 (pow_pos j) (omega arith) in
    let is : w / 2 ^ j ≡ 1 = omega arith in
    ap (λ x. x % 2) is

-- `leading_zeros` finds the highest 1
pub highest : (w : ℕ) → 0 < w → w < 2 ^ 64 → IsGreatestBelow (has_bit w) 64 (63 - leading_zeros w64 w)
highest w above fits =
    let top = leading_top 64 w above fits in
    let is : 63 - leading_zeros w64 w ≡ top.0 = omega (arith, top.1) in
    subst (λ q. IsGreatestBelow (has_bit w) 64 q) (sym is) (record {
      below = omega (arith, top.1);
      member = has_bit-true w top.0 (top_bit w top.0 top.2 top.3);
      greatest = λ k over _. has_bit-false w k (bit_at_above w (suc top.0) k top.3 (omega arith));
    })

-- the bits of a word from s on
pub has_bit-shifted : (w s i : ℕ) → has_bit (w / 2 ^ s) i ≡ has_bit w (s + i)
unfolding has_bit
has_bit-shifted w s i = ap (λ x. x % 2 == 1) (shr-shr w s i)

-- the bits of a word below s
has_bit-low : (w s i : ℕ) → i < s → has_bit (bit_and w (2 ^ s - 1)) i ≡ has_bit w i
unfolding has_bit
has_bit-low w s i below =
    let both = bit_at_and w (2 ^ s - 1) i in
    let one = bit_at_ones s i below in
    let same : bit_at (bit_and w (2 ^ s - 1)) i ≡ bit_at w i = omega (arith, both, one, bit_at-lt w i) in
    ap (λ x. x == 1) same

has_bit-low_above : (w s i : ℕ) → s ≤ i → IsFalse (has_bit (bit_and w (2 ^ s - 1)) i)
has_bit-low_above w s i above =
    has_bit-false _ i (omega (arith, bit_at_and w (2 ^ s - 1) i, bit_at_ones_above s i above))

-- ---- numbers in words

pub has_number-at : (ws : List ℕ) (k i : ℕ) → i < 64 → has_number ws (64 * k + i) ≡ has_bit (get_or ws k 0) i
unfolding has_number
has_number-at ws k i within =
    let word : (64 * k + i) / 64 ≡ k = omega arith in
    let bit : (64 * k + i) % 64 ≡ i = omega arith in
    ap (λ x. has_bit (get_or ws x 0) ((64 * k + i) % 64)) word ∙ ap (λ x. has_bit (get_or ws k 0) x) bit

-- the same at a number that lies in word k
pub has_number-in : (ws : List ℕ) (k q : ℕ) → 64 * k ≤ q → q < 64 * k + 64 → has_number ws q ≡ has_bit (get_or ws k 0) (q - 64 * k)
has_number-in ws k q low high =
    let is : 64 * k + (q - 64 * k) ≡ q = omega arith in
    ap (has_number ws) (sym is) ∙ has_number-at ws k (q - 64 * k) (omega arith)

-- the words have no number past their end
pub has_number-past : (ws : List ℕ) (n : ℕ) → 64 * length ws ≤ n → IsFalse (has_number ws n)
unfolding has_number
has_number-past ws n past =
    ap (λ w. has_bit w (n % 64)) (get_or_past ws (n / 64) 0 (omega arith)) ∙ has_bit-zero (n % 64)

pub number_within : (ws : List ℕ) (n : ℕ) → IsTrue (has_number ws n) → n < 64 * length ws
number_within ws n h =
    elim (cases_lt n (64 * length ws)) [
      | inl lt ↦ lt
      | inr ge ↦ absurd (false≢true (sym (has_number-past ws n ge) ∙ h))
    ]

-- a word that is 0 has no number
pub none_in_zero : (ws : List ℕ) (k : ℕ) → get_or ws k 0 ≡ 0 → (q : ℕ) → 64 * k ≤ q → q < 64 * k + 64 → IsFalse (has_number ws q)
none_in_zero ws k zero_word q low high =
    has_number-in ws k q low high ∙ ap (λ w. has_bit w (q - 64 * k)) zero_word ∙ has_bit-zero (q - 64 * k)

-- ---- searches

-- a search that found nothing below n goes on from n
pub IsLeastFrom-lower : (has : ℕ → Bool) (m n q : ℕ) → m ≤ n → ((k : ℕ) → m ≤ k → k < n → IsFalse (has k))
    → IsLeastFrom has n q → IsLeastFrom has m q
IsLeastFrom-lower has m n q low gap found = record {
  from = le_trans low found.from;
  member = found.member;
  least = λ k a b. elim (cases_lt k n) [ inl lt ↦ gap k a lt | inr ge ↦ found.least k ge b ];
}

pub NoneFrom-lower : (has : ℕ → Bool) (m n : ℕ) → ((k : ℕ) → m ≤ k → k < n → IsFalse (has k)) → NoneFrom has n → NoneFrom has m
NoneFrom-lower has m n gap none k a = elim (cases_lt k n) [ inl lt ↦ gap k a lt | inr ge ↦ none k ge ]

-- a search downward that found nothing from m on goes on below m
pub IsGreatestBelow-raise : (has : ℕ → Bool) (m n q : ℕ) → m ≤ n → ((k : ℕ) → m ≤ k → k < n → IsFalse (has k))
    → IsGreatestBelow has m q → IsGreatestBelow has n q
IsGreatestBelow-raise has m n q low gap found = record {
  below = omega (arith, found.below);
  member = found.member;
  greatest = λ k a b. elim (cases_lt k m) [ inl lt ↦ found.greatest k a lt | inr ge ↦ gap k ge b ];
}

pub NoneBelow-raise : (has : ℕ → Bool) (m n : ℕ) → ((k : ℕ) → m ≤ k → k < n → IsFalse (has k)) → NoneBelow has m → NoneBelow has n
NoneBelow-raise has m n gap none k b = elim (cases_lt k m) [ inl lt ↦ none k lt | inr ge ↦ gap k ge b ]

module _ (ws : List ℕ) (k : ℕ) where
  -- the lowest 1 of word k is its least number
  pub least_in_word : (q : ℕ) → q < 64 → IsLeastFrom (has_bit (get_or ws k 0)) 0 q → IsLeastFrom (has_number ws) (64 * k) (64 * k + q)
  least_in_word q within found = record {
    from = omega arith;
    member = has_number-at ws k q within ∙ found.member;
    least = λ j low high. has_number-in ws k j low (omega arith) ∙ found.least (j - 64 * k) (omega arith) (omega arith);
  }

  -- the highest 1 of word k is its greatest number
  pub greatest_in_word : (q : ℕ) → IsGreatestBelow (has_bit (get_or ws k 0)) 64 q
      → IsGreatestBelow (has_number ws) (64 * k + 64) (64 * k + q)
  greatest_in_word q found = record {
    below = omega (arith, found.below);
    member = has_number-at ws k q found.below ∙ found.member;
    greatest = λ j low high. has_number-in ws k j (omega arith) high ∙ found.greatest (j - 64 * k) (omega arith) (omega arith);
  }

  module _ (s : ℕ) (small : s < 64) where
    -- the lowest 1 of word k from bit s on
    pub least_from_bit : (q : ℕ) → get_or ws k 0 < 2 ^ 64 → IsLeastFrom (has_bit (get_or ws k 0 / 2 ^ s)) 0 q
        → IsLeastFrom (has_number ws) (64 * k + s) (64 * k + s + q)
    least_from_bit q fits found =
        let one : IsTrue (has_bit (get_or ws k 0) (s + q)) = sym (has_bit-shifted (get_or ws k 0) s q) ∙ found.member in
        let within : s + q < 64 = elim (cases_lt (s + q) 64) [
          | inl lt ↦ lt
          | inr ge ↦ absurd (false≢true (sym (has_bit-false _ _ (bit_at_above (get_or ws k 0) 64 (s + q) fits ge)) ∙ one))
        ] in
        let place : 64 * k + s + q ≡ 64 * k + (s + q) = omega arith in
        record {
          from = omega arith;
          member = ap (has_number ws) place ∙ has_number-at ws k (s + q) within ∙ one;
          least = λ j low high.
              let same : s + (j - 64 * k - s) ≡ j - 64 * k = omega arith in
              has_number-in ws k j (omega arith) (omega arith) ∙ ap (has_bit (get_or ws k 0)) (sym same)
              ∙ sym (has_bit-shifted (get_or ws k 0) s (j - 64 * k - s)) ∙ found.least (j - 64 * k - s) (omega arith) (omega arith);
        }

    -- word k has none from bit s on
    pub none_from_bit : get_or ws k 0 / 2 ^ s ≡ 0 → (j : ℕ) → 64 * k + s ≤ j → j < 64 * k + 64 → IsFalse (has_number ws j)
    none_from_bit none j low high =
        let same : s + (j - 64 * k - s) ≡ j - 64 * k = omega arith in
        has_number-in ws k j (omega arith) high ∙ ap (has_bit (get_or ws k 0)) (sym same)
        ∙ sym (has_bit-shifted (get_or ws k 0) s (j - 64 * k - s)) ∙ ap (λ w. has_bit w (j - 64 * k - s)) none ∙ has_bit-zero (j - 64 * k - s)

    -- the highest 1 of word k below bit s
    pub greatest_below_bit : (q : ℕ) → IsGreatestBelow (has_bit (bit_and (get_or ws k 0) (2 ^ s - 1))) 64 q
        → IsGreatestBelow (has_number ws) (64 * k + s) (64 * k + q)
    greatest_below_bit q found =
        let within : q < s = elim (cases_lt q s) [
          | inl lt ↦ lt
          | inr ge ↦ absurd (false≢true (sym (has_bit-low_above (get_or ws k 0) s q ge) ∙ found.member))
        ] in
        record {
          below = omega arith;
          member = has_number-at ws k q found.below ∙ sym (has_bit-low (get_or ws k 0) s q within) ∙ found.member;
          greatest = λ j low high.
              has_number-in ws k j (omega arith) (omega arith) ∙ sym (has_bit-low (get_or ws k 0) s (j - 64 * k) (omega arith))
              ∙ found.greatest (j - 64 * k) (omega arith) (omega arith);
        }

    -- word k has none below bit s
    pub none_below_bit : bit_and (get_or ws k 0) (2 ^ s - 1) ≡ 0 → (j : ℕ) → 64 * k ≤ j → j < 64 * k + s → IsFalse (has_number ws j)
    none_below_bit none j low high =
        has_number-in ws k j low (omega arith) ∙ sym (has_bit-low (get_or ws k 0) s (j - 64 * k) (omega arith))
        ∙ ap (λ w. has_bit w (j - 64 * k)) none ∙ has_bit-zero (j - 64 * k)

-- ---- loops over words

module _ (ws : List ℕ) (m n : ℕ) where
  -- a word of 0 more
  pub none_up : (k : ℕ) → get_or ws k 0 ≡ 0 → ((q : ℕ) → m ≤ q → q < 64 * k → IsFalse (has_number ws q))
      → (q : ℕ) → m ≤ q → q < 64 * (k + 1) → IsFalse (has_number ws q)
  none_up k none before q low high =
      elim (cases_lt q (64 * k)) [ inl lt ↦ before q low lt | inr ge ↦ none_in_zero ws k none q ge (omega arith) ]

  pub none_down : (k : ℕ) → get_or ws k 0 ≡ 0 → ((q : ℕ) → 64 * (k + 1) ≤ q → q < n → IsFalse (has_number ws q))
      → (q : ℕ) → 64 * k ≤ q → q < n → IsFalse (has_number ws q)
  none_down k none before q low high =
      elim (cases_lt q (64 * (k + 1))) [ inl lt ↦ none_in_zero ws k none q low (omega arith) | inr ge ↦ before q ge high ]

  -- all words are done
  pub none_at_end : (k : ℕ) → length ws ≤ k → ((q : ℕ) → m ≤ q → q < 64 * k → IsFalse (has_number ws q)) → NoneFrom (has_number ws) m
  none_at_end k all before q low =
      elim (cases_lt q (64 * k)) [ inl lt ↦ before q low lt | inr ge ↦ has_number-past ws q (omega arith) ]

pub IfNone_then : {X : Type 0} (r : Option X) {P Q : Type 0} → (P → Q) → IfNone r P → IfNone r Q
IfNone_then None f p = f p
IfNone_then (Some x) f p = p

module _ (ws : List ℕ) (n : ℕ) where
  place_of : 64 * (n / 64) + n % 64 ≡ n
  place_of = omega arith

  pub least_from : (q : ℕ) → get_or ws (n / 64) 0 < 2 ^ 64 → IsLeastFrom (has_bit (get_or ws (n / 64) 0 / 2 ^ (n % 64))) 0 q
      → IsLeastFrom (has_number ws) n (n + q)
  least_from q fits found =
      subst (λ m. IsLeastFrom (has_number ws) m (m + q)) place_of (least_from_bit ws (n / 64) (n % 64) (omega arith) q fits found)

  pub none_from : get_or ws (n / 64) 0 / 2 ^ (n % 64) ≡ 0 → (j : ℕ) → n ≤ j → j < 64 * (n / 64 + 1) → IsFalse (has_number ws j)
  none_from none j low high = none_from_bit ws (n / 64) (n % 64) (omega arith) none j (omega arith) (omega arith)

  pub greatest_below : (q : ℕ) → IsGreatestBelow (has_bit (bit_and (get_or ws (n / 64) 0) (1 * 2 ^ (n % 64) % 2 ^ 64 - 1))) 64 q
      → IsGreatestBelow (has_number ws) n (64 * (n / 64) + q)
  greatest_below q found =
      let mask : 1 * 2 ^ (n % 64) % 2 ^ 64 ≡ 2 ^ (n % 64) = one_shl (n % 64) 64 (omega arith) in
      subst (λ m. IsGreatestBelow (has_number ws) m (64 * (n / 64) + q)) place_of
      (greatest_below_bit ws (n / 64) (n % 64) (omega arith) q
      (subst (λ m. IsGreatestBelow (has_bit (bit_and (get_or ws (n / 64) 0) (m - 1))) 64 q) mask found))

  pub none_below : bit_and (get_or ws (n / 64) 0) (1 * 2 ^ (n % 64) % 2 ^ 64 - 1) ≡ 0
      → (j : ℕ) → 64 * (n / 64) ≤ j → j < n → IsFalse (has_number ws j)
  none_below none j low high =
      let mask : 1 * 2 ^ (n % 64) % 2 ^ 64 ≡ 2 ^ (n % 64) = one_shl (n % 64) 64 (omega arith) in
      none_below_bit ws (n / 64) (n % 64) (omega arith)
      (subst (λ m. bit_and (get_or ws (n / 64) 0) (m - 1) ≡ 0) mask none) j low (omega arith)

  -- the words end at or below n
  pub past_words : length ws ≤ n / 64 → (j : ℕ) → 64 * length ws ≤ j → j < n → IsFalse (has_number ws j)
  past_words past j low high = has_number-past ws j low
