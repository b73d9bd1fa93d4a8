-- The cards on which slots lie.
use Rattle.std.proofs.Common.{◌≡◌, ◌⊎◌, ◌∙◌, ℕ, ◌+◌, ◌*◌, ◌<◌, ◌≤◌, ◌^◌, Bool, true, false, List, [], ◌∷◌, ◌++◌, length, get_or, take, refl, sym, ap, subst, inl, inr, arith}
use Rattle.std.specs.Prelude.{nat_eq, ◌||◌}
use Rattle.std.proofs.lemmas.Bool.{eq-eqb, eqb-true, or_cases, true≢false}
use Rattle.std.proofs.lemmas.List.{get_or_default, take_all, take_more}
use Rattle.std.proofs.lemmas.List.Folds.{list_any-append}
use Rattle.card_table.specs.CardSet.{card_of}
use Rattle.model_numbers.specs.Numbers.{card_bytes}
use Rattle.object_view.specs.declared.names.Slot.{Slot}
use Rattle.mod_union.specs.Lists.{itself, AreCards, AreRising, ListsBelow}
use Rattle.mod_union.specs.ModUnion.{has_slot_on, is_recorded, slot_address}
use Rattle.mod_union.proofs.Lists.{any-in, in-any, lists-agree, lists-more, lists-none, lists-wider, rising-step}

-- a slot among the first lies on the card
abbrev pub IsFirstCard : List Slot → ℕ → ℕ → Type 0
IsFirstCard slots i card = has_slot_on (take i slots) card ≡ true

-- the cards of the first slots are listed, the last of them one before `next`; the other slots lie on it or behind it
pub record AreCardsOf (slots : List Slot) (i next : ℕ) (cards : List ℕ) : Type 0 where
  pub rising : AreRising slot_address 0 slots
  pub listed : ListsBelow itself (IsFirstCard slots i) next cards
  pub all : (card : ℕ) → IsFirstCard slots i card → card < next
  pub last : (card : ℕ) → card + 1 ≡ next → IsFirstCard slots i card
  pub left : (j : ℕ) (d : Slot) → i ≤ j → j < length slots → next ≤ card_of (get_or slots j d).at.0 + 1

pub cards-none : (slots : List Slot) (cards : List ℕ) → AreRising slot_address 0 slots → cards ≡ [] → AreCardsOf slots 0 0 cards
cards-none slots cards rising none = record {
  rising = rising;
  listed = lists-agree itself (λ card. ⊥) (IsFirstCard slots 0) 0 cards (λ card low is. absurd is) (λ card low is. absurd (omega (arith, low)))
      (subst (ListsBelow itself (λ card. ⊥) 0) (sym none) (lists-none itself (λ card. ⊥)));
  all = λ card is. absurd (true≢false (sym is));
  last = λ card is. absurd (omega (arith, is));
  left = λ j d behind below. omega arith;
}

module _ (slots : List Slot) (i next : ℕ) (cards : List ℕ) (d : Slot) (h : AreCardsOf slots i next cards) (within : i < length slots) where
  abbrev card : ℕ
  card = card_of (get_or slots i d).at.0

  -- a further slot adds its card
  more : (n : ℕ) → has_slot_on (take (i + 1) slots) n ≡ (has_slot_on (take i slots) n || (nat_eq n card || false))
  more n = ap (λ xs. has_slot_on xs n) (take_more slots i d within) ∙ list_any-append (λ (s : Slot). nat_eq n (card_of s.at.0)) (take i slots) (get_or slots i d ∷ [])

  first : (n : ℕ) → IsFirstCard slots i n → IsFirstCard slots (i + 1) n
  first n is = more n ∙ ap (λ b. b || (nat_eq n card || false)) is

  back : (n : ℕ) → IsFirstCard slots (i + 1) n → IsFirstCard slots i n ⊎ (n ≡ card)
  back n is = elim (or_cases (has_slot_on (take i slots) n) (nat_eq n card || false) (sym (more n) ∙ is)) [
    | inl before ↦ inl before
    | inr here ↦ elim (or_cases (nat_eq n card) false here) [ inl same ↦ inr (eqb-true n card same) | inr none ↦ absurd (true≢false (sym none)) ]
  ]

  here : (n : ℕ) → n ≡ card → IsFirstCard slots (i + 1) n
  here n same = more n ∙ ap (λ b. has_slot_on (take i slots) n || (b || false)) (eq-eqb n card same) ∙ or-true (has_slot_on (take i slots) n)
    where
      or-true : (b : Bool) → (b || true) ≡ true
      or-true true = refl
      or-true false = refl

  behind-this : (j : ℕ) (e : Slot) → i + 1 ≤ j → j < length slots → card ≤ card_of (get_or slots j e).at.0
  behind-this j e behind below =
      let same : get_or slots j e ≡ get_or slots j d = get_or_default slots j e d below in
      let rise = rising-step slot_address 0 d slots i j h.rising (omega (arith, behind)) below in
      subst (λ (s : Slot). card ≤ card_of s.at.0) (sym same) (omega (arith, rise))

  -- one that no slot before has
  pub cards-more : next ≤ card → AreCardsOf slots (i + 1) (card + 1) (cards ++ card ∷ [])
  cards-more new = record {
    rising = h.rising;
    listed = lists-more itself (IsFirstCard slots (i + 1)) cards card
        (lists-agree itself (IsFirstCard slots i) (IsFirstCard slots (i + 1)) card cards (λ n low is. first n is)
        (λ n low is. elim (back n is) [ inl before ↦ before | inr same ↦ absurd (omega (arith, low, same)) ])
        (lists-wider itself (IsFirstCard slots i) next card cards h.listed new (λ n is behind low. let less = h.all n is in omega (arith, less, behind))))
        (here card refl) (λ n other same. sym same);
    all = λ n is. elim (back n is) [ inl before ↦ (let less = h.all n before in omega (arith, less, new)) | inr same ↦ omega (arith, same) ];
    last = λ n is. here n (omega (arith, is));
    left = λ j e behind below. let le = behind-this j e behind below in omega (arith, le);
  }

  -- one that the slot before has
  pub cards-same : card < next → AreCardsOf slots (i + 1) next cards
  cards-same old =
      let end : card + 1 ≡ next = let le = h.left i d (omega arith) within in omega (arith, le, old) in
      let was : (n : ℕ) → IsFirstCard slots (i + 1) n → IsFirstCard slots i n = λ n is. elim (back n is) [ inl before ↦ before | inr same ↦ h.last n (omega (arith, same, end)) ] in
      record {
        rising = h.rising;
        listed = lists-agree itself (IsFirstCard slots i) (IsFirstCard slots (i + 1)) next cards (λ n low is. first n is) (λ n low is. was n is) h.listed;
        all = λ n is. h.all n (was n is);
        last = λ n is. first n (h.last n is);
        left = λ j e behind below. h.left j e (omega (arith, behind)) below;
      }

-- at the end all are listed
pub cards-all : (slots : List Slot) (i next : ℕ) (cards : List ℕ) → AreCardsOf slots i next cards → length slots ≤ i → (card : ℕ) → is_recorded cards card ≡ has_slot_on slots card
cards-all slots i next cards h end card =
    let whole = take_all i slots end in
    same-test (is_recorded cards card) (has_slot_on slots card)
    (λ is. ap (λ xs. has_slot_on xs card) (sym whole) ∙ h.listed.sound card (any-in cards card is))
    (λ is. let was : IsFirstCard slots i card = ap (λ xs. has_slot_on xs card) whole ∙ is in in-any cards card (h.listed.complete card was (h.all card was)))
  where
    same-test : (a b : Bool) → (a ≡ true → b ≡ true) → (b ≡ true → a ≡ true) → a ≡ b
    same-test true b f g = sym (f refl)
    same-test false true f g = g refl
    same-test false false f g = refl

pub cards-are : (slots : List Slot) (i next : ℕ) (cards : List ℕ) → AreCardsOf slots i next cards → card_bytes * next ≤ 2 ^ 32 → AreCards cards
cards-are slots i next cards h within = record { rising = h.listed.rising; within = λ card is. let less = h.listed.below card is in omega (arith, less, within) }
