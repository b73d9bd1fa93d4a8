-- Dirty cards, records, and the cards of slots.
use Rattle.std.proofs.Common.{◌≡◌, ◌∙◌, ℕ, zero, suc, ◌+◌, ◌*◌, ◌/◌, ◌%◌, ◌<◌, ◌≤◌, Bool, true, false, List, [], ◌∷◌, ◌++◌, length, get_or, refl, sym, ap, inl, inr, arith}
use Rattle.std.specs.Prelude.{min, nat_eq, ◌&&◌, ◌||◌, ◌==◌}
use Rattle.std.specs.List.{AllByRecursion, IsDistinct}
use Rattle.std.proofs.lemmas.List.{get_or_default, get_or_past}
use Rattle.std.proofs.lemmas.Cmp.{nat_eq_equiv}
use Rattle.std.proofs.lemmas.Map.Made.{length-le_from_is_member}
use Rattle.std.proofs.lemmas.Bool.{and_parts, cases_Bool, cases_lt, cases_order, eq-eqb, eqb-true, ne_eqb, or_left, true≢false}
use Rattle.card_table.specs.Tests.{IsLeastFrom, NoneFrom}
use Rattle.card_table.specs.CardSet.{card_of, is_dirty, is_dirty_start, CardSet}
use Rattle.class_layout.specs.Placing.{IsIn}
use Rattle.model_numbers.specs.Numbers.{card_bytes}
use Rattle.mod_union.specs.declared.noted.TheConstants.{ALL_CARDS}
use Rattle.mod_union.specs.Lists.{itself, AreCards, AreRising, ListsBelow}
use Rattle.mod_union.specs.ModUnion.{is_noted, is_recorded}
use Rattle.mod_union.proofs.Lists.{any-in, in-any, lists-more, lists-wider, rising-step}

-- a dirty card starts at its first address
start-of : (cards : CardSet) (card : ℕ) → is_dirty_start cards (card * card_bytes) ≡ is_dirty cards card
unfolding is_dirty_start
start-of cards card =
    ap (λ b. b && is_dirty cards (card_of (card * card_bytes))) (eq-eqb ((card * card_bytes) % card_bytes) 0 (omega arith))
    ∙ ap (is_dirty cards) (let e : card * card_bytes / card_bytes ≡ card = omega arith in e)

start-parts : (cards : CardSet) (at : ℕ) → is_dirty_start cards at ≡ true → (at % card_bytes ≡ 0) × (is_dirty cards (card_of at) ≡ true)
unfolding is_dirty_start
start-parts cards at is = let parts = and_parts (at % card_bytes == 0) (is_dirty cards (card_of at)) is in (eqb-true (at % card_bytes) 0 parts.0, parts.1)

-- where the search found none, none is dirty from there on
pub none-dirty : (cards : CardSet) (from card : ℕ) → NoneFrom (is_dirty_start cards) (from * card_bytes) → from ≤ card → is_dirty cards card ≡ false
none-dirty cards from card none le = sym (start-of cards card) ∙ none (card * card_bytes) (omega (arith, le))

-- where it found one, no other is dirty before
pub least-dirty : (cards : CardSet) (from at card : ℕ) → IsLeastFrom (is_dirty_start cards) (from * card_bytes) at → from ≤ card → card < card_of at → is_dirty cards card ≡ false
least-dirty cards from at card h low high = sym (start-of cards card) ∙ h.least (card * card_bytes) (omega (arith, low)) (omega (arith, high))

pub found-dirty : (cards : CardSet) (from at : ℕ) → IsLeastFrom (is_dirty_start cards) (from * card_bytes) at → (from ≤ card_of at) × (is_dirty cards (card_of at) ≡ true)
found-dirty cards from at h = let it = start-parts cards at h.member in (let low = h.from in omega (arith, low, it.0), it.1)

module _ (cards : CardSet) (test : ℕ → Bool) where
  abbrev Lists : ℕ → List ℕ → Type 0
  Lists bound noted = ListsBelow itself (λ card. test card ≡ true) bound noted

  -- a dirty card is one more, and up to the next there are no others
  pub dirty-more : (dirty next to : ℕ) (noted : List ℕ) → ((card : ℕ) → dirty ≤ card → card < to → test card ≡ is_dirty cards card) → dirty < to → is_dirty cards dirty ≡ true
      → dirty + 1 ≤ next → ((card : ℕ) → dirty + 1 ≤ card → card < next → is_dirty cards card ≡ false) → Lists dirty noted → Lists (min next to) (noted ++ dirty ∷ [])
  dirty-more dirty next to noted agree low is le none h =
      lists-wider itself (λ card. test card ≡ true) (dirty + 1) (min next to) (noted ++ dirty ∷ [])
      (lists-more itself (λ card. test card ≡ true) noted dirty h (agree dirty (omega arith) low ∙ is) (λ n other same. sym same)) (omega (arith, low, le))
      (λ card noted_is behind before. true≢false (sym noted_is ∙ agree card (omega (arith, behind)) (omega (arith, before)) ∙ none card behind (omega (arith, before))))

pub in-at : (xs : List ℕ) (i : ℕ) → i < length xs → IsIn (get_or xs i 0) xs
in-at [] i within = absurd (omega arith)
in-at (x ∷ xs) zero within = inl refl
in-at (x ∷ xs) (suc i) within = inr (in-at xs i (omega arith))

pub at-in : (xs : List ℕ) (n : ℕ) → IsIn n xs → (i : ℕ) × (i < length xs) × (get_or xs i 0 ≡ n)
at-in [] n none = absurd none
at-in (x ∷ xs) n (inl same) = (0, omega arith, same)
at-in (x ∷ xs) n (inr there) = let it = at-in xs n there in (suc it.0, omega (arith, it.1), it.2)

-- where a card isn't recorded, it is noted exactly where it is dirty
pub noted-dirty : (records : List ℕ) (cards : CardSet) (card : ℕ) → is_recorded records card ≡ false → is_noted records cards card ≡ is_dirty cards card
noted-dirty records cards card none = ap (λ b. is_dirty cards card || b) none ∙ or-false (is_dirty cards card)
  where
    or-false : (b : Bool) → (b || false) ≡ b
    or-false true = refl
    or-false false = refl

-- a record is noted
pub noted-record : (records : List ℕ) (cards : CardSet) (i : ℕ) → i < length records → is_noted records cards (get_or records i 0) ≡ true
noted-record records cards i within = ap (λ b. is_dirty cards (get_or records i 0) || b) (in-any records (get_or records i 0) (in-at records i within)) ∙ or-true (is_dirty cards (get_or records i 0))
  where
    or-true : (b : Bool) → (b || true) ≡ true
    or-true true = refl
    or-true false = refl

-- how many cards all addresses have
abbrev pub all_cards : ℕ
all_cards = ALL_CARDS

-- a card of the list behind all those before an index is no lower than the one at the index
pub card-next : (cards : List ℕ) (i n : ℕ) → AreRising itself 0 cards → IsIn n cards → ((j : ℕ) → j < i → j < length cards → get_or cards j 0 < n) → get_or cards i all_cards ≤ n
card-next cards i n rising there past =
    let it = at-in cards n there in
    let behind : i ≤ it.0 = elim (cases_lt it.0 i) [ inl before ↦ absurd (let p = past it.0 before it.1 in omega (arith, p, it.2)) | inr behind ↦ behind ] in
    let e : get_or cards i all_cards ≡ get_or cards i 0 = get_or_default cards i all_cards 0 (omega (arith, behind, it.1)) in
    elim (cases_order i it.0) [
      | inl same ↦ let here = ap (λ k. get_or cards k 0) same in omega (arith, e, here, it.2)
      | inr o ↦ elim o [
        | inl less ↦ let more = rising-step itself 0 0 cards i it.0 rising less it.1 in omega (arith, e, more, it.2)
        | inr wrong ↦ absurd (omega (arith, wrong, behind))
      ]
    ]

-- what stands above one card of the list stands above those before it
pub earlier : (cards : List ℕ) (i j n : ℕ) → AreRising itself 0 cards → i < length cards → j < i + 1 → get_or cards i 0 < n → get_or cards j 0 < n
earlier cards i j n rising within le above = elim (cases_order j i) [
  | inl same ↦ let e = ap (λ k. get_or cards k 0) same in omega (arith, e, above)
  | inr o ↦ elim o [
    | inl less ↦ let step = rising-step itself 0 0 cards j i rising less within in omega (arith, step, above)
    | inr wrong ↦ absurd (omega (arith, wrong, le))
  ]
]

-- the next card of the list is a further one
pub card-above : (cards : List ℕ) (i : ℕ) → AreCards cards → i < length cards → get_or cards i 0 + 1 ≤ get_or cards (i + 1) all_cards
card-above cards i h within = elim (cases_lt (i + 1) (length cards)) [
  | inl more ↦
      let e : get_or cards (i + 1) all_cards ≡ get_or cards (i + 1) 0 = get_or_default cards (i + 1) all_cards 0 more in
      let step = rising-step itself 0 0 cards i (i + 1) h.rising (omega arith) more in
      omega (arith, e, step)
  | inr last ↦
      let e : get_or cards (i + 1) all_cards ≡ all_cards = get_or_past cards (i + 1) all_cards last in
      let most = h.within (get_or cards i 0) (in-at cards i within) in
      omega (arith, e, most)
]

-- a rising list has each card once
rising-distinct : (low : ℕ) (xs : List ℕ) → AreRising itself low xs → IsDistinct nat_eq xs
unfolding IsDistinct
rising-distinct low [] rising = tt
rising-distinct low (x ∷ xs) rising = (apart x (x + 1) xs rising.1 (omega arith), rising-distinct (x + 1) xs rising.1)
  where
    apart : (x low : ℕ) (xs : List ℕ) → AreRising itself low xs → x < low → AllByRecursion (λ y. nat_eq x y ≡ false) xs
    apart x low [] rising less = tt
    apart x low (y ∷ ys) rising less = (ne_eqb x y (let le = rising.0 in λ same. omega arith), apart x (y + 1) ys rising.1 (let le = rising.0 in omega arith))

-- as many of them as of any list that has them all
pub rising-few : (xs ys : List ℕ) → AreRising itself 0 xs → ((n : ℕ) → IsIn n xs → IsIn n ys) → length xs ≤ length ys
rising-few xs ys rising all = length-le_from_is_member nat_eq_equiv xs ys (rising-distinct 0 xs rising) (λ q is. in-any ys q (all q (any-in xs q is)))

-- between two records one after the other no card is recorded, and none before the first and behind the last
pub unrecorded : (records : List ℕ) (i card : ℕ) → AreRising itself 0 records → ((j : ℕ) → j < i → j < length records → get_or records j 0 < card) → card < get_or records i all_cards → is_recorded records card ≡ false
unrecorded records i card rising past high = elim (cases_Bool (is_recorded records card)) [
  | inl is ↦ absurd (let least = card-next records i card rising (any-in records card is) past in omega (arith, least, high))
  | inr not ↦ not
]

module _ (records : List ℕ) (cards : CardSet) (rising : AreRising itself 0 records) where
  abbrev IsNoted : ℕ → Type 0
  IsNoted card = is_noted records cards card ≡ true

  -- from the first dirty card on, the noted cards before a record are the dirty ones
  pub dirty-noted : (i dirty card : ℕ) → (dirty < all_cards → is_dirty cards dirty ≡ true) → ((j : ℕ) → j < i → j < length records → get_or records j 0 ≤ dirty) → dirty ≤ card → card < get_or records i all_cards
      → card < all_cards → is_noted records cards card ≡ is_dirty cards card
  dirty-noted i dirty card is past low high below = elim (cases_Bool (is_dirty cards card)) [
    | inl yes_dirty ↦ or_left (is_dirty cards card) (is_recorded records card) yes_dirty ∙ sym yes_dirty
    | inr clean ↦ noted-dirty records cards card (unrecorded records i card rising (λ j before there. elim (cases_order dirty card) [
      | inl same ↦ absurd (true≢false (sym (is (omega (arith, same, below))) ∙ ap (is_dirty cards) same ∙ clean))
      | inr o ↦ elim o [ inl less ↦ (let le = past j before there in omega (arith, le, less)) | inr wrong ↦ absurd (omega (arith, wrong, low)) ]
    ]) high)
  ]

  -- up to the next record and the next dirty card there are no more
  pub noted-wider : (i low dirty : ℕ) (noted : List ℕ) → ((j : ℕ) → j < i → j < length records → get_or records j 0 < low) → ((card : ℕ) → low ≤ card → card < dirty → is_dirty cards card ≡ false)
      → low ≤ min dirty (get_or records i all_cards) → ListsBelow itself IsNoted low noted → ListsBelow itself IsNoted (min dirty (get_or records i all_cards)) noted
  noted-wider i low dirty noted past none le h =
      lists-wider itself IsNoted low (min dirty (get_or records i all_cards)) noted h le
      (λ card is behind before.
      let not = unrecorded records i card rising (λ j less there. let it = past j less there in omega (arith, it, behind)) (omega (arith, before)) in
      true≢false (sym is ∙ noted-dirty records cards card not ∙ none card behind (omega (arith, before))))

  -- a record is one more, where it isn't the next dirty card
  pub noted-more : (i dirty : ℕ) (noted : List ℕ) → AreCards records → i < length records → get_or records i 0 < dirty → ((card : ℕ) → get_or records i 0 ≤ card → card < dirty → is_dirty cards card ≡ false)
      → ListsBelow itself IsNoted (get_or records i 0) noted → ListsBelow itself IsNoted (min dirty (get_or records (i + 1) all_cards)) (noted ++ get_or records i 0 ∷ [])
  noted-more i dirty noted are within less none h =
      let card : ℕ = get_or records i 0 in
      let above = card-above records i are within in
      noted-wider (i + 1) (card + 1) dirty (noted ++ card ∷ []) (λ j before there. earlier records i j (card + 1) rising within before (omega arith)) (λ n low high. none n (omega (arith, low)) high)
      (omega (arith, above, less)) (lists-more itself IsNoted noted card h (noted-record records cards i within) (λ n other same. sym same))
