-- Sets that lay the members of another set out at places in rising order, as addresses.
use Rattle.std.proofs.Common.{◌≡◌, ℕ, ◌<◌, ◌≤◌, Bool, IsTrue, sym, ◌∙◌, subst, inl, inr, arith}
use Rattle.std.proofs.lemmas.Bool.{false_from_ne_true, false≢true, cases_lt}
use Rattle.bit_set.specs.Tests.{NoneFrom, NoneBelow, IsLeastFrom, IsGreatestBelow}

-- the members of the second set are the places of the members of the first
pub record Spreads (member has : ℕ → Bool) (place : ℕ → ℕ) : Type 0 where
  pub there : (k : ℕ) → IsTrue (member k) → IsTrue (has (place k))
  pub only : (at : ℕ) → IsTrue (has at) → (k : ℕ) × (at ≡ place k) × IsTrue (member k)
  pub rises : (j k : ℕ) → place j < place k → j < k

-- n is the first number whose place is at or above the address
pub record IsFirstPlace (place : ℕ → ℕ) (at n : ℕ) : Type 0 where
  pub low : (k : ℕ) → n ≤ k → at ≤ place k
  pub high : (k : ℕ) → at ≤ place k → n ≤ k

module _ (member has : ℕ → Bool) (place : ℕ → ℕ) (at n : ℕ) (spread : Spreads member has place) (first : IsFirstPlace place at n) where
  pub IsLeastFrom-place : (q : ℕ) → IsLeastFrom member n q → IsLeastFrom has at (place q)
  IsLeastFrom-place q found = record {
    from = first.low q found.from;
    member = spread.there q found.member;
    least = λ i a b. false_from_ne_true (has i) (λ h.
        let k = spread.only i h in
        false≢true (sym (found.least k.0 (first.high k.0 (subst (λ x. at ≤ x) k.1 a)) (spread.rises k.0 q (subst (λ x. x < place q) k.1 b))) ∙ k.2));
  }

  pub NoneFrom-place : NoneFrom member n → NoneFrom has at
  NoneFrom-place none i a = false_from_ne_true (has i) (λ h.
      let k = spread.only i h in
      false≢true (sym (none k.0 (first.high k.0 (subst (λ x. at ≤ x) k.1 a))) ∙ k.2))

  pub NoneFrom-number : NoneFrom has at → NoneFrom member n
  NoneFrom-number none k a = false_from_ne_true (member k) (λ h. false≢true (sym (none (place k) (first.low k a)) ∙ spread.there k h))

  below_place : (k : ℕ) → place k < at → k < n
  below_place k lt = elim (cases_lt k n) [ inl in_range ↦ in_range | inr ge ↦ absurd (omega (arith, first.low k ge)) ]

  place_below : (k : ℕ) → k < n → place k < at
  place_below k lt = elim (cases_lt (place k) at) [ inl in_range ↦ in_range | inr ge ↦ absurd (omega (arith, first.high k ge)) ]

  pub IsGreatestBelow-place : (q : ℕ) → IsGreatestBelow member n q → IsGreatestBelow has at (place q)
  IsGreatestBelow-place q found = record {
    below = place_below q found.below;
    member = spread.there q found.member;
    greatest = λ i a b. false_from_ne_true (has i) (λ h.
        let k = spread.only i h in
        false≢true (sym (found.greatest k.0 (spread.rises q k.0 (subst (λ x. place q < x) k.1 a)) (below_place k.0 (subst (λ x. x < at) k.1 b))) ∙ k.2));
  }

  pub NoneBelow-place : NoneBelow member n → NoneBelow has at
  NoneBelow-place none i b = false_from_ne_true (has i) (λ h.
      let k = spread.only i h in
      false≢true (sym (none k.0 (below_place k.0 (subst (λ x. x < at) k.1 b))) ∙ k.2))

  pub NoneBelow-number : NoneBelow has at → NoneBelow member n
  NoneBelow-number none k lt = false_from_ne_true (member k) (λ h. false≢true (sym (none (place k) (place_below k lt)) ∙ spread.there k h))
