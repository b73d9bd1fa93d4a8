-- The cards of outward slots are among the noted ones, and no more than these.
use Rattle.std.proofs.Common.{◌≡◌, ◌≤◌, Bool, true, false, List, [], ◌∷◌, refl, ap, inl, inr}
use Rattle.std.specs.Cmp.{IsEquivalence}
use Rattle.std.specs.List.{AllByRecursion}
use Rattle.std.proofs.lemmas.Bool.{eq-eqb, or_cases, or_left}
use Rattle.std.proofs.lemmas.Map.Made.{length-le_from_is_member}
use Rattle.std.proofs.lemmas.Cmp.{nat_eq_equiv}
use Rattle.heap_graph.proofs.LaidOut.{all-weaken}
use Rattle.heap_world.specs.declared.names.Card.{Card}
use Rattle.heap_world.specs.declared.names.Card.TheVariants.{Image, Zygote}
use Rattle.heap_world.specs.Cards.{add_card_if, add_cards, held_cards, is_card_among, is_noted, noted_count, outward_cards, same_card}
use Rattle.heap_world.specs.Part.{Part}
use Rattle.heap_world.specs.Sound.{IsSound}
use Rattle.heap_world.proofs.Noted.{has-cards, stays-cards}
use Rattle.heap_world.proofs.SoundParts.{distinct-cards, distinct-none}
use Rattle.process_state.proofs.Counted.{card-has}

-- the test of two cards is an equivalence
card-refl : (c : Card) → same_card c c ≡ true
card-refl (Image k) = eq-eqb k k refl
card-refl (Zygote k) = eq-eqb k k refl

card-symm : (c d : Card) → same_card c d ≡ same_card d c
card-symm (Image j) (Image k) = nat_eq_equiv.symm j k
card-symm (Image j) (Zygote k) = refl
card-symm (Zygote j) (Image k) = refl
card-symm (Zygote j) (Zygote k) = nat_eq_equiv.symm j k

card-is : (c d : Card) → same_card c d ≡ true → c ≡ d
card-is c d e = card-has (λ x. x ≡ d) (d ∷ []) c (refl, tt) (or_left (same_card c d) false e)

card-laws : IsEquivalence same_card
card-laws = record { refl = card-refl; symm = card-symm; congr = λ a b c e. ap (λ x. same_card x c) (card-is a b e) }

-- what holds of all cards that are added to none holds of all that are there then
all-added : (P : Card → Type 0) (more : List Card) → AllByRecursion P more → AllByRecursion P (add_cards more [])
all-added P [] all = tt
all-added P (c ∷ more) all = by (is_card_among (add_cards more []) c) (all-added P more all.1)
  where
    by : (b : Bool) → AllByRecursion P (add_cards more []) → AllByRecursion P (add_card_if b c (add_cards more []))
    by true rest = rest
    by false rest = (all.0, rest)

-- a noted card is among those that are counted
counted : (stored held : List Card) (c : Card) → is_noted stored held c ≡ true → is_card_among (add_cards stored held) c ≡ true
counted stored held c noted = elim (or_cases (is_card_among stored c) (is_card_among held c) noted) [
  | inl here ↦ card-has (λ d. is_card_among (add_cards stored held) d ≡ true) stored c (has-cards stored held) here
  | inr there ↦ stays-cards stored c held there
]

pub held-few : (p : Part) → IsSound p → noted_count [] (held_cards p.graph) ≤ noted_count p.stored p.held
held-few p sound =
    let all : AllByRecursion (λ c. is_card_among (add_cards p.stored p.held) c ≡ true) (outward_cards p.graph) =
    all-weaken _ _ (counted p.stored p.held) (outward_cards p.graph) sound.outward_noted in
    length-le_from_is_member card-laws (held_cards p.graph) (add_cards p.stored p.held)
    (distinct-cards (outward_cards p.graph) [] (distinct-none same_card))
    (λ c e. card-has (λ d. is_card_among (add_cards p.stored p.held) d ≡ true) (held_cards p.graph) c (all-added _ (outward_cards p.graph) all) e)
