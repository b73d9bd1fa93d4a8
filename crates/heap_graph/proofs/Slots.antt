-- What slots hold: the strong ones, and those that a collection clears.
use Rattle.std.proofs.Common.{◌≡◌, ℕ, Bool, true, false, not, cond, ◌⊎◌, inl, inr, List, [], ◌∷◌, map, nat_eq, refl, ap, ◌∙◌}
use Rattle.std.proofs.lemmas.Bool.{or_cases, or_left, or_right, eqb-true, false≢true}
use Rattle.std.proofs.lemmas.Simd.{map-map}
use Rattle.heap_graph.specs.declared.names.Content.{Content}
use Rattle.heap_graph.specs.declared.names.Content.TheVariants as content
use Rattle.heap_graph.specs.declared.names.Stored.{Stored}
use Rattle.heap_graph.specs.Values.{with_target, targets, strong_slots}
use Rattle.heap_graph.specs.Collection.{if_kept, cleared_slot, clear_if, cleared_stored, cleared_slots}
use Rattle.heap_graph.specs.Reach.{is_among}

-- a slot's target stands in front of others
target_at : (s : Content) (ns : List ℕ) (n : ℕ) → is_among (with_target s ns) n ≡ true → (is_among (with_target s []) n ≡ true) ⊎ (is_among ns n ≡ true)
target_at (content.Number z) ns n h = inr h
target_at content.Null ns n h = inr h
target_at (content.Object m) ns n h =
    elim (or_cases (nat_eq n m) (is_among ns n) h) [
      | inl here ↦ inl (or_left (nat_eq n m) false here)
      | inr later ↦ inr later
    ]

target_here : (s : Content) (ns : List ℕ) (n : ℕ) → is_among (with_target s []) n ≡ true → is_among (with_target s ns) n ≡ true
target_here (content.Number z) ns n h = absurd (false≢true h)
target_here content.Null ns n h = absurd (false≢true h)
target_here (content.Object m) ns n h =
    elim (or_cases (nat_eq n m) false h) [
      | inl here ↦ or_left (nat_eq n m) (is_among ns n) here
      | inr wrong ↦ absurd (false≢true wrong)
    ]

pub target_later : (s : Content) (ns : List ℕ) (n : ℕ) → is_among ns n ≡ true → is_among (with_target s ns) n ≡ true
target_later (content.Number z) ns n h = h
target_later content.Null ns n h = h
target_later (content.Object m) ns n h = or_right (nat_eq n m) (is_among ns n) h

-- a target of a strong slot is a target
pub strong_is_target : (ss : List Stored) (n : ℕ) → is_among (targets (strong_slots ss)) n ≡ true → is_among (targets ss) n ≡ true
strong_is_target [] n h = h
strong_is_target (s ∷ ss) n h = by s.at.weak h (strong_is_target ss n)
  where
    by : (weak : Bool) → is_among (targets (cond (not weak) (s ∷ strong_slots ss) (strong_slots ss))) n ≡ true → (is_among (targets (strong_slots ss)) n ≡ true → is_among (targets ss) n ≡ true) → is_among (targets (s ∷ ss)) n ≡ true
    by true h rest = target_later s.value (targets ss) n (rest h)
    by false h rest =
        elim (target_at s.value (targets (strong_slots ss)) n h) [
          | inl here ↦ target_here s.value (targets ss) n here
          | inr later ↦ target_later s.value (targets ss) n (rest later)
        ]

-- a slot holds what is kept, once it is cleared
cleared_target : (kept : List ℕ) (s : Content) (n : ℕ) → is_among (with_target (cleared_slot kept s) []) n ≡ true → is_among kept n ≡ true
cleared_target kept (content.Number z) n h = absurd (false≢true h)
cleared_target kept content.Null n h = absurd (false≢true h)
cleared_target kept (content.Object m) n h = by (is_among kept m) refl h
  where
    by : (b : Bool) → is_among kept m ≡ b → is_among (with_target (if_kept b m) []) n ≡ true → is_among kept n ≡ true
    by true e h =
        elim (or_cases (nat_eq n m) false h) [
          | inl here ↦ ap (is_among kept) (eqb-true n m here) ∙ e
          | inr wrong ↦ absurd (false≢true wrong)
        ]
    by false e h = absurd (false≢true h)

-- after clearing, a target is kept or strong
pub kept_or_strong : (kept : List ℕ) (ss : List Stored) (n : ℕ) → is_among (targets (cleared_slots kept ss)) n ≡ true → (is_among kept n ≡ true) ⊎ (is_among (targets (strong_slots ss)) n ≡ true)
kept_or_strong kept [] n h = inr h
kept_or_strong kept (s ∷ ss) n h = by s.at.weak h (kept_or_strong kept ss n)
  where
    by : (weak : Bool) → is_among (with_target (clear_if weak kept s.value) (targets (cleared_slots kept ss))) n ≡ true →
        (is_among (targets (cleared_slots kept ss)) n ≡ true → (is_among kept n ≡ true) ⊎ (is_among (targets (strong_slots ss)) n ≡ true)) →
        (is_among kept n ≡ true) ⊎ (is_among (targets (cond (not weak) (s ∷ strong_slots ss) (strong_slots ss))) n ≡ true)
    by true h rest =
        elim (target_at (cleared_slot kept s.value) (targets (cleared_slots kept ss)) n h) [
          | inl here ↦ inl (cleared_target kept s.value n here)
          | inr later ↦ rest later
        ]
    by false h rest =
        elim (target_at s.value (targets (cleared_slots kept ss)) n h) [
          | inl here ↦ inr (target_here s.value (targets (strong_slots ss)) n here)
          | inr later ↦
              elim (rest later) [
                | inl stays ↦ inl stays
                | inr strong ↦ inr (target_later s.value (targets (strong_slots ss)) n strong)
              ]
        ]

-- clearing leaves the strong slots
pub strong-cleared : (kept : List ℕ) (ss : List Stored) → strong_slots (cleared_slots kept ss) ≡ strong_slots ss
strong-cleared kept [] = refl
strong-cleared kept (s ∷ ss) =
    let rest = strong-cleared kept ss in
    elim s.at.weak as (λ weak. cond (not weak) (record { at = s.at; value = clear_if weak kept s.value } ∷ strong_slots (cleared_slots kept ss)) (strong_slots (cleared_slots kept ss)) ≡ cond (not weak) (s ∷ strong_slots ss) (strong_slots ss)) [
      | true ↦ rest
      | false ↦ ap (λ rest. s ∷ rest) rest
    ]

-- clearing twice is clearing once
cleared_slot-twice : (kept : List ℕ) (s : Content) → cleared_slot kept (cleared_slot kept s) ≡ cleared_slot kept s
cleared_slot-twice kept (content.Number z) = refl
cleared_slot-twice kept content.Null = refl
cleared_slot-twice kept (content.Object n) = by (is_among kept n) refl
  where
    by : (b : Bool) → is_among kept n ≡ b → cleared_slot kept (if_kept b n) ≡ if_kept b n
    by true e = ap (λ b. if_kept b n) e
    by false e = refl

cleared_stored-twice : (kept : List ℕ) (s : Stored) → cleared_stored kept (cleared_stored kept s) ≡ cleared_stored kept s
cleared_stored-twice kept s =
    let at_value : Content → Stored = λ value. record { at = s.at; value = value } in
    elim s.at.weak as (λ weak. at_value (clear_if weak kept (clear_if weak kept s.value)) ≡ at_value (clear_if weak kept s.value)) [
      | true ↦ ap at_value (cleared_slot-twice kept s.value)
      | false ↦ refl
    ]

-- the same for an object's slots
pub cleared_slots-twice : (kept : List ℕ) (ss : List Stored) → cleared_slots kept (cleared_slots kept ss) ≡ cleared_slots kept ss
cleared_slots-twice kept ss = map-map (cleared_stored kept) (cleared_stored kept) ss ∙ ap (λ f. map f ss) (λ i s. cleared_stored-twice kept s i)
