-- What an update finds.
use Rattle.std.proofs.Common.{◌≡◌, ◌∙◌, ℕ, ◌*◌, ◌<◌, ◌^◌, true, List, [], ◌∷◌, length, sym, ap, subst, inl, inr, arith}
use Rattle.std.specs.Prelude.{nat_eq}
use Rattle.std.proofs.lemmas.Bool.{eq-eqb, or_left, or_right}
use Rattle.card_table.specs.CardSet.{card_of, is_dirty, CardSet, SameSpan}
use Rattle.class_layout.specs.Placing.{IsIn}
use Rattle.cow_pages.specs.Memory.{Memory}
use Rattle.object_view.specs.declared.names.Slot.{Slot}
use Rattle.object_view.specs.Seen.{RoseBy}
use Rattle.object_view.proofs.Rises.{rose-more}
use Rattle.raw_objects.specs.Raws.{Raws}
use Rattle.mod_union.specs.Lists.{itself, AreCards, ListsBelow}
use Rattle.mod_union.specs.ModUnion.{card_reads, has_slot_on, is_noted, is_recorded, slot_address, AreOutward, CanUpdate, HoldsSpace, IsOutwardSlot, ImmuneSpace}
use Rattle.mod_union.specs.Scans.{Reads}
use Rattle.mod_union.proofs.Cards.{all_cards, rising-few}
use Rattle.mod_union.proofs.Slots.{slot-within}

-- a list of the noted cards
abbrev pub ListsNoted : List ℕ → CardSet → List ℕ → Type 0
ListsNoted records cards noted = ListsBelow itself (λ card. is_noted records cards card ≡ true) all_cards noted

module _ (space : ImmuneSpace) (raws : Raws) (h : HoldsSpace space raws) where
  abbrev IsOutward : Slot → Type 0
  IsOutward s = IsOutwardSlot space.classes raws space.rows s

  pub slot-small : (s : Slot) → IsOutward s → s.at.0 < 2 ^ 32
  slot-small s o = let within = slot-within space raws h s o in let below = (h.holds.stands o.object o.has).space.below in omega (arith, within.1, below)

  -- those below the last address are all
  pub all-found : (found : List Slot) → ListsBelow slot_address IsOutward (2 ^ 32) found → AreOutward space.classes raws space.rows found
  all-found found list = record { rising = list.rising; exact = λ s. (list.sound s, λ o. list.complete s o (slot-small s o)) }

-- the list that was made of the records, and handed on
module _ (records shown : List ℕ) (cards : CardSet) (noted passed : List ℕ) (shown_is : shown ≡ records) (passed_is : passed ≡ noted) (list : ListsNoted shown cards noted) where
  listed : ListsNoted records cards passed
  listed = subst (ListsNoted records cards) (sym passed_is) (subst (λ r. ListsNoted r cards noted) shown_is list)

  pub passed-cards : AreCards passed
  passed-cards = record { rising = listed.rising; within = λ card there. let less = listed.below card there in omega (arith, less) }

  -- each outward slot lies on one of its cards
  pub passed-all : (space : ImmuneSpace) (raws : Raws) → CanUpdate space records cards raws → (s : Slot) → IsOutwardSlot space.classes raws space.rows s → IsIn (card_of s.at.0) passed
  passed-all space raws h s o = listed.complete (card_of s.at.0) (h.noted s o) (let small = slot-small space raws h.held s o in omega (arith, small))

  -- the reads are few for any list that has the noted cards
  pub passed-few : (given : List ℕ) (old new : Memory) (count : ℕ) → count ≡ old.reads → count < 2 ^ 64 → Reads (card_reads * length passed) old new
      → ((card : ℕ) → is_noted records cards card ≡ true → IsIn card given) → RoseBy (card_reads * length given) old.reads new.reads
  passed-few given old new count is fits reads all =
      let few = rising-few passed given listed.rising (λ card there. all card (listed.sound card there)) in
      rose-more (card_reads * length passed) (card_reads * length given) old.reads new.reads (omega (arith, few)) (reads.rose (subst (λ n. n < 2 ^ 64) is fits))

-- a slot of a list lies on a card that the list's slots have
slot-on : (found : List Slot) (s : Slot) → IsIn s found → has_slot_on found (card_of s.at.0) ≡ true
slot-on [] s none = absurd none
slot-on (r ∷ found) s (inl same) = or_left (nat_eq (card_of s.at.0) (card_of r.at.0)) (has_slot_on found (card_of s.at.0)) (eq-eqb (card_of s.at.0) (card_of r.at.0) (ap (λ (x : Slot). card_of x.at.0) (sym same)))
slot-on (r ∷ found) s (inr there) = or_right (nat_eq (card_of s.at.0) (card_of r.at.0)) (has_slot_on found (card_of s.at.0)) (slot-on found s there)

-- where the cards of the outward slots are recorded, the condition holds again
pub can-again : (space : ImmuneSpace) (before records : List ℕ) (was cards : CardSet) (raws : Raws) (found : List Slot) → CanUpdate space before was raws → SameSpan was cards
    → AreOutward space.classes raws space.rows found → ((card : ℕ) → is_recorded records card ≡ has_slot_on found card) → CanUpdate space records cards raws
can-again space before records was cards raws found h same out exact = record {
  held = h.held;
  spanned = λ a i has within.
      let it = h.spanned a i has within in
      let from = it.from in
      let below = it.below in
      record { from = omega (arith, from, same.0); below = omega (arith, below, same.0, same.1) };
  noted = λ s o. or_right (is_dirty cards (card_of s.at.0)) (is_recorded records (card_of s.at.0)) (exact (card_of s.at.0) ∙ slot-on found s ((out.exact s).1 o));
}
