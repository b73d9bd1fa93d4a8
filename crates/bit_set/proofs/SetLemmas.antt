-- Laws of sets, and what the steps of a set do to its members.
use Rattle.std.proofs.Common.{◌≡◌, ◌≢◌, ℕ, ◌-◌, ◌*◌, ◌/◌, ◌%◌, ◌^◌, ◌<◌, ◌≤◌, Bool, true, ◌||◌, ◌==◌, ◌↔◌, IsTrue, IsFalse, IsNone, IfSome, IfNone, Option, Some, None, List, [], ◌++◌, length, get_or, set, take, replicate, bit_and, bit_or, refl, sym, ap, ◌∙◌, inl, inr, arith, w64, eq-eqb, ne_eqb, get_or-set_same, get_or-set_other, take_all}
use Rattle.std.proofs.lemmas.Bool.{cases_lt, cases_eq, false≢true}
use Rattle.std.proofs.lemmas.List.{get_or_past, get_or-replicate, get_or_append_left, get_or-append_right, length-replicate}
use Rattle.std.proofs.lemmas.Nat.Bits.{shr_and_one, bit_at_set_same, bit_at_set_other}
use Rattle.bit_set.specs.Bits.{Bits, has_bit, has_number, room, is_member}
use Rattle.bit_set.specs.Tests.{NoneFrom, NoneBelow, IsLeastFrom, IsGreatestBelow}
use Rattle.bit_set.proofs.BitsLemmas.{has_bit-true, has_bit-zero, has_number-past, number_within}

-- ---- laws

-- a member is below the room
pub member_within : (b : Bits) (n : ℕ) → IsTrue (is_member b n) → n < room b
unfolding room is_member
member_within b n h = number_within b.words n h

-- no number from the room on is a member
pub is_member-past : (b : Bits) (n : ℕ) → room b ≤ n → IsFalse (is_member b n)
unfolding room is_member
is_member-past b n past = has_number-past b.words n past

-- the room is whole words
pub room-whole : (b : Bits) → room b % 64 ≡ 0
unfolding room
room-whole b = omega arith

-- a search that finds nothing says so exactly where nothing is there
pub IsNone-from : (has : ℕ → Bool) (n : ℕ) (r : Option ℕ) → IfSome r (IsLeastFrom has n) → IfNone r (NoneFrom has n)
    → IsNone r ↔ NoneFrom has n
IsNone-from has n None found none = (λ _. none, λ _. refl)
IsNone-from has n (Some q) found none =
    (λ e. absurd (false≢true (sym e)), λ all. absurd (false≢true (sym (all q found.from) ∙ found.member)))

pub IsNone-below : (has : ℕ → Bool) (n : ℕ) (r : Option ℕ) → IfSome r (IsGreatestBelow has n) → IfNone r (NoneBelow has n)
    → IsNone r ↔ NoneBelow has n
IsNone-below has n None found none = (λ _. none, λ _. refl)
IsNone-below has n (Some q) found none =
    (λ e. absurd (false≢true (sym e)), λ all. absurd (false≢true (sym (all q found.below) ∙ found.member)))

-- ---- steps

-- no words have no number, and words of 0 have none
pub has_number-none : (ws : List ℕ) → ws ≡ [] → (q : ℕ) → IsFalse (has_number ws q)
has_number-none ws empty q = has_number-past ws q (omega (arith, ap length empty))

zero_word : (m k i : ℕ) → IsFalse (has_bit (get_or (replicate m 0) k 0) i)
zero_word m k i =
    let is : get_or (replicate m 0) k 0 ≡ 0 = elim (cases_lt k m) [
      | inl lt ↦ get_or-replicate m k 0 0 lt
      | inr ge ↦ get_or_past (replicate m 0) k 0 (omega (arith, length-replicate {A = ℕ} m 0))
    ] in
    ap (λ w. has_bit w i) is ∙ has_bit-zero i

pub has_number-zeros : (m q : ℕ) → IsFalse (has_number (replicate m 0) q)
unfolding has_number
has_number-zeros m q = zero_word m (q / 64) (q % 64)

-- more words of 0
pub has_number-grown : (ws : List ℕ) (n m q : ℕ) → length ws ≤ n → has_number (take n ws ++ replicate m 0) q ≡ has_number ws q
unfolding has_number
has_number-grown ws n m q within =
    ap (λ xs. has_number (xs ++ replicate m 0) q) (take_all n ws within)
    ∙ elim (cases_lt (q / 64) (length ws)) as (λ _. has_number (ws ++ replicate m 0) q ≡ has_number ws q) [
      | inl lt ↦ ap (λ w. has_bit w (q % 64)) (get_or_append_left ws (replicate m 0) 0 (q / 64) lt)
      | inr ge ↦
          let past : IsFalse (has_number (ws ++ replicate m 0) q) =
          ap (λ w. has_bit w (q % 64)) (get_or-append_right ws (replicate m 0) (length ws) (q / 64) 0 refl ge)
          ∙ zero_word m (q / 64 - length ws) (q % 64) in
          past ∙ sym (has_number-past ws q (omega arith))
    ]

-- one bit more
pub has_number-set : (ws : List ℕ) (n q : ℕ) → n / 64 < length ws
    → has_number (set ws (n / 64) (bit_or (get_or ws (n / 64) 0) (1 * 2 ^ (n % 64) % 2 ^ 64))) q ≡ (q == n || has_number ws q)
unfolding has_number has_bit
has_number-set ws n q within =
    let word : ℕ = get_or ws (n / 64) 0 in
    let new : ℕ = bit_or word (1 * 2 ^ (n % 64) % 2 ^ 64) in
    let after : List ℕ = set ws (n / 64) new in
    elim (cases_eq q n) as (λ _. has_number after q ≡ (q == n || has_number ws q)) [
      | inl same ↦
          let here : get_or after (q / 64) 0 ≡ new = ap (λ x. get_or after (x / 64) 0) same ∙ get_or-set_same ws (n / 64) new 0 within in
          let one : has_number after q ≡ true =
          ap (λ w. has_bit w (q % 64)) here ∙ ap (λ x. has_bit new (x % 64)) same
          ∙ has_bit-true new (n % 64) (bit_at_set_same w64 word (n % 64) (omega arith)) in
          one ∙ sym (ap (λ b. b || has_number ws q) (eq-eqb q n same))
      | inr other ↦
          let rest : has_number after q ≡ has_number ws q = elim (cases_eq (q / 64) (n / 64)) as (λ _. has_number after q ≡ has_number ws q) [
            | inl row ↦
                let here : get_or after (q / 64) 0 ≡ new = ap (λ x. get_or after x 0) row ∙ get_or-set_same ws (n / 64) new 0 within in
                let bit : q % 64 ≢ n % 64 = λ e. other (omega arith) in
                ap (λ w. has_bit w (q % 64)) here
                ∙ ap (λ x. x == 1) (bit_at_set_other w64 word (n % 64) (omega arith) (q % 64) bit)
                ∙ ap (λ x. has_bit (get_or ws x 0) (q % 64)) (sym row)
            | inr apart ↦ ap (λ w. has_bit w (q % 64)) (get_or-set_other ws (n / 64) (q / 64) new 0 apart)
          ] in
          rest ∙ sym (ap (λ b. b || has_number ws q) (ne_eqb q n other))
    ]

-- the test `word >> i & 1 == 1`
pub has_number-test : (ws : List ℕ) (n word : ℕ) → word ≡ get_or ws (n / 64) 0
    → (bit_and (word / 2 ^ (n % 64)) 1 == 1) ≡ has_number ws n
unfolding has_number has_bit
has_number-test ws n word read =
    ap (λ w. bit_and (w / 2 ^ (n % 64)) 1 == 1) read ∙ ap (λ b. b == 1) (shr_and_one (get_or ws (n / 64) 0) (n % 64))
