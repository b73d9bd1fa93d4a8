-- Pages that have their frame alone are mapped, and which cards are noted after one was made dirty.
use Rattle.std.proofs.Common.{◌≡◌, ◌∙◌, ◌⊎◌, ℕ, Bool, true, false, Option, None, Some, nat_eq, is_some, option_map, refl, sym, subst, inl, inr, arith, true≢false}
use Rattle.std.proofs.lemmas.Bool.{cases_Bool, eq-eqb, eqb-true, false_from_ne_true, or_cases, or_left, or_right}
use Rattle.page_tables.specs.Address.{is_in_window}
use Rattle.cow_pages.specs.Memory.{frame_at, is_mapped, page_at, HasOneSharer, IsSound, Memory, Page}
use Rattle.mod_union.specs.ModUnion.{is_noted}
use Rattle.process_state.specs.State.{Notes}
use Rattle.process_steps.specs.Storing.{DirtiesIf}

-- MEMORY

-- a page that isn't mapped has no frame
no-frame : (o : Option Page) → is_some o ≡ false → option_map (λ (page : Page). page.frame) o ≡ None
no-frame None is = refl
no-frame (Some page) is = absurd (true≢false is)

-- no page outside the windows is mapped, so an entry that has its frame alone is
pub alone-mapped : (m : Memory) (t q : ℕ) → IsSound m → HasOneSharer m t q → is_mapped m t q ≡ true
alone-mapped m t q sound alone = elim (cases_Bool (is_mapped m t q)) [
  | inl is ↦ is
  | inr none ↦
      let one : 1048576 ≡ q = (alone t 1048576 (far 1048576 refl ∙ sym (no-frame (page_at m t q) none))).1 in
      let other : 1048577 ≡ q = (alone t 1048577 (far 1048577 refl ∙ sym (no-frame (page_at m t q) none))).1 in
      absurd (omega (arith, one, other))
]
  where
    far : (r : ℕ) → is_in_window r ≡ false → frame_at m t r ≡ None
    far r off = no-frame (page_at m t r) (false_from_ne_true (is_mapped m t r) (λ is. true≢false (sym (sound.in_window t r is) ∙ off)))

-- CARDS

module _ (may : Bool) (old new : Notes) (place : ℕ) (d : DirtiesIf may old new place) where
  -- a noted card is the one that was made dirty, or it was noted before
  pub noted-from : (j : ℕ) → is_noted new.records new.cards j ≡ true → ((may ≡ true) × (j ≡ place)) ⊎ (is_noted old.records old.cards j ≡ true)
  noted-from j has = elim (cases_Bool may) [
    | inl dirties ↦ elim (or_cases (nat_eq j place) (is_noted old.records old.cards j) (sym (d.noted dirties j) ∙ has)) [ inl e ↦ inl (dirties, eqb-true j place e) | inr was ↦ inr was ]
    | inr clean ↦ inr (subst (λ (n : Notes). is_noted n.records n.cards j ≡ true) (d.not clean) has)
  ]

  -- what was noted stays so
  pub noted-stays : (j : ℕ) → is_noted old.records old.cards j ≡ true → is_noted new.records new.cards j ≡ true
  noted-stays j has = elim (cases_Bool may) [
    | inl dirties ↦ d.noted dirties j ∙ or_right (nat_eq j place) (is_noted old.records old.cards j) has
    | inr clean ↦ subst (λ (n : Notes). is_noted n.records n.cards j ≡ true) (sym (d.not clean)) has
  ]

  -- and the one that was made dirty is noted
  pub noted-now : may ≡ true → (j : ℕ) → j ≡ place → is_noted new.records new.cards j ≡ true
  noted-now dirties j e = d.noted dirties j ∙ or_left (nat_eq j place) (is_noted old.records old.cards j) (eq-eqb j place e)
