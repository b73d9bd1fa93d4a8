-- Sets over the members of another: at a place such a set has what the other has at the place's number, and elsewhere nothing.
use Rattle.std.proofs.Common.{◌≡◌, ℕ, ◌+◌, ◌*◌, ◌%◌, ◌^◌, ◌<◌, ◌≤◌, Bool, ◌||◌, ◌==◌, ◌⊎◌, IsTrue, IsFalse, sym, ap, ◌∙◌, subst, inl, inr, arith, eq-eqb, eqb-true, ne_eqb}
use Rattle.std.proofs.lemmas.Bool.{cases_eq, false≢true, false_from_ne_true, or_cases}
use Rattle.bit_set.specs.Bits.{Bits, room, is_member}
use Rattle.bit_set.specs.Spans.{AreOver}

-- the places of a set, and the number of each
pub record Places (P : ℕ → Type 0) (number : ℕ → ℕ) (member has : ℕ → Bool) : Type 0 where
  pub at : (n : ℕ) → P n → has n ≡ member (number n)
  pub off : (n : ℕ) → ¬ (P n) → IsFalse (has n)

-- one more member, at the number of a place, is one more place that the set has
pub has-insert : (P : ℕ → Type 0) (number : ℕ → ℕ) (member after has now : ℕ → Bool) → ((n : ℕ) → P n ⊎ (¬ (P n)))
    → Places P number member has → Places P number after now
    → (n : ℕ) → P n → ((q : ℕ) → P q → number q ≡ number n → q ≡ n)
    → ((k : ℕ) → after k ≡ (k == number n || member k)) → (q : ℕ) → now q ≡ (q == n || has q)
has-insert P number member after has now cases before later n place apart more q =
    elim (cases q) as (λ _. now q ≡ (q == n || has q)) [
      | inl here ↦
          let same : (q == n) ≡ (number q == number n) = elim (cases_eq q n) [
            | inl e ↦ eq-eqb q n e ∙ sym (eq-eqb (number q) (number n) (ap number e))
            | inr other ↦ ne_eqb q n other ∙ sym (ne_eqb (number q) (number n) (λ e. other (apart q here e)))
          ] in
          later.at q here ∙ more (number q) ∙ ap (λ x. x || member (number q)) (sym same) ∙ ap (λ x. (q == n) || x) (sym (before.at q here))
      | inr elsewhere ↦
          later.off q elsewhere
          ∙ sym (ap (λ x. x || has q) (ne_eqb q n (λ e. elsewhere (subst P (sym e) place))) ∙ before.off q elsewhere)
    ]

-- a set with more places is the same set, where the members are the same and no number of a further place is one
pub has-grow : (P Q : ℕ → Type 0) (number : ℕ → ℕ) (member after has now : ℕ → Bool) → ((n : ℕ) → P n ⊎ (¬ (P n))) → ((n : ℕ) → Q n ⊎ (¬ (Q n)))
    → Places P number member has → Places Q number after now → ((q : ℕ) → P q → Q q)
    → ((k : ℕ) → after k ≡ member k) → ((q : ℕ) → Q q → ¬ (P q) → ¬ (IsTrue (member (number q)))) → (q : ℕ) → now q ≡ has q
has-grow P Q number member after has now cases more_cases before later more same past q =
    elim (more_cases q) as (λ _. now q ≡ has q) [
      | inl here ↦ later.at q here ∙ same (number q) ∙ elim (cases q) as (λ _. member (number q) ≡ has q) [
        | inl there ↦ sym (before.at q there)
        | inr new ↦ false_from_ne_true (member (number q)) (past q here new) ∙ sym (before.off q new)
      ]
      | inr elsewhere ↦ later.off q elsewhere ∙ sym (before.off q (λ p. elsewhere (more q p)))
    ]

-- without members the set has no place
pub has-empty : (P : ℕ → Type 0) (number : ℕ → ℕ) (member has : ℕ → Bool) → ((n : ℕ) → P n ⊎ (¬ (P n))) → Places P number member has
    → ((k : ℕ) → IsFalse (member k)) → (q : ℕ) → IsFalse (has q)
has-empty P number member has cases places none q =
    elim (cases q) [
      | inl here ↦ places.at q here ∙ none (number q)
      | inr elsewhere ↦ places.off q elsewhere
    ]

-- ---- bits over a span

module _ (step start span : ℕ) (bits after : Bits) (over : AreOver step start span bits) where
  -- one more bit below the span's end
  pub AreOver-insert : (n : ℕ) → step * n < span → room after ≡ room bits → ((k : ℕ) → is_member after k ≡ (k == n || is_member bits k))
      → AreOver step start span after
  AreOver-insert n below same_room more = record {
    aligned = over.aligned;
    bounded = over.bounded;
    roomy = subst (λ r. span ≤ step * r) (sym same_room) over.roomy;
    inside = λ k set. elim (or_cases (k == n) (is_member bits k) (sym (more k) ∙ set)) [
      | inl same ↦ subst (λ m. step * m < span) (sym (eqb-true k n same)) below
      | inr was ↦ over.inside k was
    ];
  }

  -- the same bits over a longer span
  pub AreOver-grow : (longer : ℕ) → span ≤ longer → start + longer ≤ 2 ^ 32 → longer ≤ step * room after
      → ((k : ℕ) → is_member after k ≡ is_member bits k) → AreOver step start longer after
  AreOver-grow longer more bounded roomy same = record {
    aligned = over.aligned;
    bounded = bounded;
    roomy = roomy;
    inside = λ k set. further (step * k) (over.inside k (sym (same k) ∙ set));
  }
    where
      further : (end : ℕ) → end < span → end < longer
      further end below = omega arith

-- bits with no member
pub AreOver-empty : (step start span : ℕ) (bits : Bits) → ((k : ℕ) → IsFalse (is_member bits k)) → start % step ≡ 0 → start + span ≤ 2 ^ 32 → span ≤ step * room bits
    → AreOver step start span bits
AreOver-empty step start span bits none aligned bounded roomy = record {
  aligned = aligned;
  bounded = bounded;
  roomy = roomy;
  inside = λ k set. absurd (false≢true (sym (none k) ∙ set));
}
