-- The numbers of the noted cards.
use Rattle.std.proofs.Common.{◌≡◌, ℕ, ◌+◌, ◌-◌, ◌≤◌, true, List, [], ◌∷◌, length, nat_eq, sym, ap, subst, inl, inr, arith, true≢false}
use Rattle.std.specs.List.{AllByRecursion}
use Rattle.std.proofs.lemmas.Bool.{eqb-true, or_cases}
use Rattle.model_numbers.specs.Numbers.{image_base, zygote_base}
use Rattle.class_layout.specs.Placing.{IsIn}
use Rattle.card_table.specs.CardSet.{card_of}
use Rattle.heap_world.specs.declared.names.Card.{Card}
use Rattle.heap_world.specs.declared.names.Card.TheVariants.{Image, Zygote}
use Rattle.heap_world.specs.Cards.{add_cards, is_card_among, same_card}
use Rattle.heap_world.specs.Cards as world
use Rattle.heap_world.specs.Part.{Part}
use Rattle.heap_world.proofs.Noted.{has-cards, stays-cards}
use Rattle.mod_union.specs.ModUnion.{is_noted}
use Rattle.process_state.specs.Cards.{card_number, NotesCards}
use Rattle.process_state.specs.Slots.{CountCards}
use Rattle.process_state.specs.State.{State}

-- the numbers of those of the image, and of those of the zygote window
images_among : List Card → List ℕ
images_among [] = []
images_among (Image k ∷ cards) = card_number (Image k) ∷ images_among cards
images_among (Zygote k ∷ cards) = images_among cards

zygotes_among : List Card → List ℕ
zygotes_among [] = []
zygotes_among (Image k ∷ cards) = zygotes_among cards
zygotes_among (Zygote k ∷ cards) = card_number (Zygote k) ∷ zygotes_among cards

image-among : (cards : List Card) (k : ℕ) → is_card_among cards (Image k) ≡ true → IsIn (card_number (Image k)) (images_among cards)
unfolding images_among
image-among [] k e = absurd (true≢false (sym e))
image-among (Image j ∷ cards) k e = elim (or_cases (nat_eq k j) (is_card_among cards (Image k)) e) [
  | inl here ↦ inl (ap (λ n. card_of image_base + n) (sym (eqb-true k j here)))
  | inr later ↦ inr (image-among cards k later)
]
image-among (Zygote j ∷ cards) k e = image-among cards k e

zygote-among : (cards : List Card) (k : ℕ) → is_card_among cards (Zygote k) ≡ true → IsIn (card_number (Zygote k)) (zygotes_among cards)
unfolding zygotes_among
zygote-among [] k e = absurd (true≢false (sym e))
zygote-among (Image j ∷ cards) k e = zygote-among cards k e
zygote-among (Zygote j ∷ cards) k e = elim (or_cases (nat_eq k j) (is_card_among cards (Zygote k)) e) [
  | inl here ↦ inl (ap (λ n. card_of zygote_base + n) (sym (eqb-true k j here)))
  | inr later ↦ inr (zygote-among cards k later)
]

-- together they are no more than the cards
both-few : (cards : List Card) → length (images_among cards) + length (zygotes_among cards) ≤ length cards
unfolding images_among zygotes_among
both-few [] = omega arith
both-few (Image k ∷ cards) = omega (arith, both-few cards)
both-few (Zygote k ∷ cards) = omega (arith, both-few cards)

-- what all cards have, one among them has
card-is : (a b : Card) → same_card a b ≡ true → a ≡ b
card-is (Image j) (Image k) e = ap Image (eqb-true j k e)
card-is (Image j) (Zygote k) e = absurd (true≢false (sym e))
card-is (Zygote j) (Image k) e = absurd (true≢false (sym e))
card-is (Zygote j) (Zygote k) e = ap Zygote (eqb-true j k e)

pub card-has : (P : Card → Type 0) (cards : List Card) (c : Card) → AllByRecursion P cards → is_card_among cards c ≡ true → P c
card-has P [] c all e = absurd (true≢false (sym e))
card-has P (d ∷ cards) c all e = elim (or_cases (same_card c d) (is_card_among cards c) e) [
  | inl here ↦ subst P (sym (card-is c d here)) all.0
  | inr later ↦ card-has P cards c all.1 later
]

-- a noted card is among those that are counted
noted-among : (stored held : List Card) (c : Card) → world.is_noted stored held c ≡ true → is_card_among (add_cards stored held) c ≡ true
noted-among stored held c noted = elim (or_cases (is_card_among stored c) (is_card_among held c) noted) [
  | inl here ↦ card-has (λ d. is_card_among (add_cards stored held) d ≡ true) stored c (has-cards stored held) here
  | inr there ↦ stays-cards stored c held there
]

pub count-cards : (s : State) (p : Part) → NotesCards s p → CountCards s p
count-cards s p notes = record {
  of_image = images_among (add_cards p.stored p.held);
  of_zygote = zygotes_among (add_cards p.stored p.held);
  all_image = λ card noted.
      let k : ℕ = card - card_of image_base in
      let same : card_number (Image k) ≡ card = omega (arith, notes.image.behind card noted) in
      subst (λ n. IsIn n (images_among (add_cards p.stored p.held))) same
      (image-among (add_cards p.stored p.held) k (noted-among p.stored p.held (Image k)
      (notes.noted (Image k) (subst (λ n. is_noted s.image_notes.records s.image_notes.cards n ≡ true) (sym same) noted))));
  all_zygote = λ card noted.
      let k : ℕ = card - card_of zygote_base in
      let same : card_number (Zygote k) ≡ card = omega (arith, notes.zygote.behind card noted) in
      subst (λ n. IsIn n (zygotes_among (add_cards p.stored p.held))) same
      (zygote-among (add_cards p.stored p.held) k (noted-among p.stored p.held (Zygote k)
      (notes.noted (Zygote k) (subst (λ n. is_noted s.zygote_notes.records s.zygote_notes.cards n ≡ true) (sym same) noted))));
  few = both-few (add_cards p.stored p.held);
}
