-- Laws of mark bitmaps, and what changes of the bits do to the marks.
use Rattle.std.proofs.Common.{◌≡◌, ℕ, ◌+◌, ◌-◌, ◌*◌, ◌/◌, ◌%◌, ◌^◌, ◌<◌, ◌≤◌, Bool, ◌&&◌, ◌||◌, ◌==◌, ◌⊎◌, nat_le, nat_lt, IsTrue, IsFalse, sym, ap, ◌∙◌, subst, inl, inr, arith, eq-eqb, eqb-true, leb-true, ltb-true, le-leb, lt-ltb}
use Rattle.std.proofs.lemmas.Bool.{cases_lt, cases_eq, false_from_ne_true, and_parts}
use Rattle.bit_set.specs.Bits.{Bits, room, is_member}
use Rattle.bit_set.specs.Spans.{AreOver}
use Rattle.bit_set.proofs.OverLemmas.{Places, has-insert, has-grow, has-empty, AreOver-insert, AreOver-grow, AreOver-empty}
use Rattle.bit_set.proofs.SpreadLemmas.{Spreads, IsFirstPlace, IsLeastFrom-place, NoneFrom-place, IsGreatestBelow-place, NoneBelow-place}
use Rattle.bit_set.specs.Tests.{NoneFrom, NoneBelow, IsLeastFrom, IsGreatestBelow}
use Rattle.mark_bitmap.specs.Marks.{Marks, is_marked, first_place, IsPlace, IsWellPlaced}

-- ---- laws

-- a member is a multiple of 8 in the span, and its bit is set
pub marked_parts : (b : Marks) (at : ℕ) → IsTrue (is_marked b at) → IsPlace b at × IsTrue (is_member b.bits ((at - b.start) / 8))
unfolding is_marked
marked_parts b at h =
    let low = and_parts (at % 8 == 0) _ h in
    let from = and_parts (nat_le b.start at) _ low.1 in
    let below = and_parts (nat_lt at (b.start + b.span)) _ from.1 in (
      record { aligned = eqb-true (at % 8) 0 low.0; from = leb-true b.start at from.0; below = ltb-true at (b.start + b.span) below.0 },
      below.1,
    )

pub is_marked-place : (b : Marks) (at : ℕ) → IsPlace b at → is_marked b at ≡ is_member b.bits ((at - b.start) / 8)
unfolding is_marked
is_marked-place b at place =
    let bit : Bool = is_member b.bits ((at - b.start) / 8) in
    ap (λ x. x && (nat_le b.start at && (nat_lt at (b.start + b.span) && bit))) (eq-eqb (at % 8) 0 place.aligned)
    ∙ ap (λ x. x && (nat_lt at (b.start + b.span) && bit)) (le-leb b.start at place.from)
    ∙ ap (λ x. x && bit) (lt-ltb at (b.start + b.span) place.below)

pub is_marked-off : (b : Marks) (at : ℕ) → ¬ (IsPlace b at) → IsFalse (is_marked b at)
is_marked-off b at off = false_from_ne_true (is_marked b at) (λ h. off (marked_parts b at h).0)

pub place_cases : (b : Marks) (at : ℕ) → IsPlace b at ⊎ (¬ (IsPlace b at))
place_cases b at =
    elim (cases_eq (at % 8) 0) [
      | inl aligned ↦ elim (cases_lt at b.start) [
        | inl lt ↦ inr (λ p. absurd (omega (arith, p.from)))
        | inr from ↦ elim (cases_lt at (b.start + b.span)) [
          | inl below ↦ inl (record { aligned = aligned; from = from; below = below })
          | inr ge ↦ inr (λ p. absurd (omega (arith, p.below)))
        ]
      ]
      | inr odd ↦ inr (λ p. odd p.aligned)
    ]

-- the places of a bitmap, and the bit of each
pub marked_places : (b : Marks) → Places (IsPlace b) (λ at. (at - b.start) / 8) (is_member b.bits) (is_marked b)
marked_places b = record { at = is_marked-place b; off = is_marked-off b }

-- a bitmap with this span and these bits
abbrev pub marks : ℕ → ℕ → Bits → Marks
marks start span bits = record { start = start; span = span; bits = bits }

module _ (start span : ℕ) (bits : Bits) (sound : AreOver 8 start span bits) where
  pub well_placed : IsWellPlaced (marks start span bits)
  well_placed = record {
    aligned = sound.aligned;
    bounded = sound.bounded;
    places = λ at h. (marked_parts (marks start span bits) at h).0;
  }

  -- the members are the set bits, each laid out at its 8 bytes
  pub spread : Spreads (is_member bits) (is_marked (marks start span bits)) (λ k. start + 8 * k)
  spread = record {
    there = λ k h.
        let place : IsPlace (marks start span bits) (start + 8 * k) =
        record { aligned = omega (arith, sound.aligned); from = omega arith; below = omega (arith, sound.inside k h) } in
        let bit : (start + 8 * k - start) / 8 ≡ k = omega arith in
        is_marked-place (marks start span bits) (start + 8 * k) place ∙ ap (is_member bits) bit ∙ h;
    only = λ at h.
        let parts = marked_parts (marks start span bits) at h in
        ((at - start) / 8, omega (arith, sound.aligned, parts.0.aligned, parts.0.from), parts.1);
    rises = λ j k h. omega arith;
  }

  pub first_place_lem : (at : ℕ) → IsFirstPlace (λ k. start + 8 * k) at (first_place (marks start span bits) at)
  first_place_lem at = record { low = λ k h. omega arith; high = λ k h. omega arith }

  -- ---- searches, where b is the bitmap and n the first place from `at` on

  module _ (b : Marks) (is : marks start span bits ≡ b) (at n : ℕ) (first : n ≡ first_place b at) where
    first_in : IsFirstPlace (λ k. start + 8 * k) at n
    first_in = subst (IsFirstPlace (λ k. start + 8 * k) at) (ap (λ m. first_place m at) is ∙ sym first) (first_place_lem at)

    spread_in : Spreads (is_member bits) (is_marked b) (λ k. start + 8 * k)
    spread_in = subst (λ m. Spreads (is_member bits) (is_marked m) (λ k. start + 8 * k)) is spread

    pub least_place : (q : ℕ) → IsLeastFrom (is_member bits) n q → IsLeastFrom (is_marked b) at (start + 8 * q)
    least_place = IsLeastFrom-place (is_member bits) (is_marked b) (λ k. start + 8 * k) at n spread_in first_in

    pub none_from_place : NoneFrom (is_member bits) n → NoneFrom (is_marked b) at
    none_from_place = NoneFrom-place (is_member bits) (is_marked b) (λ k. start + 8 * k) at n spread_in first_in

    pub greatest_place : (q : ℕ) → IsGreatestBelow (is_member bits) n q → IsGreatestBelow (is_marked b) at (start + 8 * q)
    greatest_place = IsGreatestBelow-place (is_member bits) (is_marked b) (λ k. start + 8 * k) at n spread_in first_in

    pub none_below_place : NoneBelow (is_member bits) n → NoneBelow (is_marked b) at
    none_below_place = NoneBelow-place (is_member bits) (is_marked b) (λ k. start + 8 * k) at n spread_in first_in

  -- the bit of a place is within the room
  pub bit_within : (at : ℕ) → IsPlace (marks start span bits) at → (at - start) / 8 < room bits
  bit_within at place = omega (arith, sound.roomy, place.from, place.below)

  -- ---- steps

  module _ (after : Bits) where
    pub AreOver-set : (n : ℕ) → IsPlace (marks start span bits) n → room after ≡ room bits
        → ((q : ℕ) → is_member after q ≡ (q == (n - start) / 8 || is_member bits q)) → AreOver 8 start span after
    AreOver-set n place = AreOver-insert 8 start span bits after sound ((n - start) / 8) (omega (arith, place.from, place.below))

    pub is_marked-set : (n : ℕ) → IsPlace (marks start span bits) n
        → ((q : ℕ) → is_member after q ≡ (q == (n - start) / 8 || is_member bits q))
        → (q : ℕ) → is_marked (marks start span after) q ≡ (q == n || is_marked (marks start span bits) q)
    is_marked-set n place =
        has-insert (IsPlace (marks start span bits)) (λ q. (q - start) / 8) (is_member bits) (is_member after) (is_marked (marks start span bits))
        (is_marked (marks start span after)) (place_cases (marks start span bits)) (marked_places (marks start span bits)) later n place
        (λ q here e. omega (arith, sound.aligned, here.aligned, here.from, place.aligned, place.from, e))
      where
        later : Places (IsPlace (marks start span bits)) (λ q. (q - start) / 8) (is_member after) (is_marked (marks start span after))
        later = record {
          at = λ q p. is_marked-place (marks start span after) q (record { aligned = p.aligned; from = p.from; below = p.below });
          off = λ q off. is_marked-off (marks start span after) q (λ p. off (record { aligned = p.aligned; from = p.from; below = p.below }));
        }

    module _ (longer : ℕ) (more : span ≤ longer) (same : (q : ℕ) → is_member after q ≡ is_member bits q) where
      pub AreOver-longer : start + longer ≤ 2 ^ 32 → longer ≤ 8 * room after → AreOver 8 start longer after
      AreOver-longer bounded roomy = AreOver-grow 8 start span bits after sound longer more bounded roomy same

      pub is_marked-grow : (q : ℕ) → is_marked (marks start longer after) q ≡ is_marked (marks start span bits) q
      is_marked-grow =
          has-grow (IsPlace (marks start span bits)) (IsPlace (marks start longer after)) (λ q. (q - start) / 8) (is_member bits) (is_member after)
          (is_marked (marks start span bits)) (is_marked (marks start longer after)) (place_cases (marks start span bits))
          (place_cases (marks start longer after)) (marked_places (marks start span bits)) (marked_places (marks start longer after))
          (λ q p. record { aligned = p.aligned; from = p.from; below = omega (arith, p.below) }) same
          (λ q here new h. new (record {
            aligned = here.aligned;
            from = here.from;
            below = omega (arith, sound.aligned, here.aligned, here.from, sound.inside ((q - start) / 8) h);
          }))

-- bits with no member
module _ (start span : ℕ) (bits : Bits) (none : (q : ℕ) → IsFalse (is_member bits q)) where
  pub AreOver-none : start % 8 ≡ 0 → start + span ≤ 2 ^ 32 → span ≤ 8 * room bits → AreOver 8 start span bits
  AreOver-none = AreOver-empty 8 start span bits none

  pub is_marked-empty : (q : ℕ) → IsFalse (is_marked (marks start span bits) q)
  is_marked-empty =
      has-empty (IsPlace (marks start span bits)) (λ q. (q - start) / 8) (is_member bits) (is_marked (marks start span bits))
      (place_cases (marks start span bits)) (marked_places (marks start span bits)) none
