-- How many slots that lead out lie on some cards: they rise, and each stands at a multiple of 4.
use Rattle.std.proofs.Common.{◌≡◌, ◌∙◌, ℕ, ◌+◌, ◌*◌, ◌/◌, ◌%◌, ◌<◌, ◌≤◌, Bool, true, false, cond, not, List, [], ◌∷◌, length, filter, nat_eq, refl, sym, ap, subst, inl, inr, arith, true≢false}
use Rattle.std.proofs.lemmas.Bool.{eq-eqb, eqb-true}
use Rattle.std.proofs.lemmas.List.Filters.{length-filter_both}
use Rattle.class_layout.specs.declared.kind.Kind.{Kind}
use Rattle.class_layout.specs.ClassList.{Class}
use Rattle.class_layout.specs.Kinds.{kind_bytes}
use Rattle.class_layout.specs.Placing.{IsIn}
use Rattle.card_table.specs.CardSet.{card_of}
use Rattle.cow_pages.specs.View.{View}
use Rattle.heap_graph.specs.Places.{places_of}
use Rattle.object_view.specs.Words.{head_end}
use Rattle.heap_graph.specs.Sizes.{unrounded}
use Rattle.heap_graph.proofs.Places.{laid-in}
use Rattle.graph_pages.proofs.Lists.{in-filter}
use Rattle.large_objects.specs.declared.rows.LargeRow.{LargeRow}
use Rattle.mod_union.specs.Lists.{AreRising}
use Rattle.mod_union.specs.ModUnion.{slot_address, AreOutward}
use Rattle.object_view.specs.declared.names.Slot.{Slot}
use Rattle.object_view.proofs.Laid.{places-laid}
use Rattle.raw_objects.specs.Raws.{HoldsRaws, Raws}

-- slots that rise do so from where all of them stand
rising-from : (low from : ℕ) (xs : List Slot) → AreRising slot_address low xs → ((x : Slot) → IsIn x xs → from ≤ x.at.0) → AreRising slot_address from xs
rising-from low from [] rising all = tt
rising-from low from (x ∷ xs) rising all = (all x (inl refl), rising.1)

-- slots that pass a test rise as all do
rising-filter : (test : Slot → Bool) (low from : ℕ) (xs : List Slot) → from ≤ low → AreRising slot_address low xs → AreRising slot_address from (filter test xs)
rising-filter test low from [] le rising = tt
rising-filter test low from (x ∷ xs) le rising =
    by (test x) (rising-filter test (x.at.0 + 1) (x.at.0 + 1) xs (omega arith) rising.1) (rising-filter test (x.at.0 + 1) from xs (omega (arith, le, rising.0)) rising.1)
  where
    by : (b : Bool) → AreRising slot_address (x.at.0 + 1) (filter test xs) → AreRising slot_address from (filter test xs)
        → AreRising slot_address from (cond b (x ∷ filter test xs) (filter test xs))
    by true behind rest = (omega (arith, le, rising.0), behind)
    by false behind rest = rest

-- rising multiples of 4 from one up to another
few-between : (n high low : ℕ) (xs : List Slot) → 4 * n ≤ low + 3 → n ≤ high → AreRising slot_address low xs → ((x : Slot) → IsIn x xs → (x.at.0 % 4 ≡ 0) × (x.at.0 < 4 * high))
    → n + length xs ≤ high
few-between n high low [] start le rising all = omega (arith, le)
few-between n high low (x ∷ xs) start le rising all =
    let here = all x (inl refl) in
    let q : ℕ = x.at.0 / 4 in
    let is : x.at.0 ≡ 4 * q = omega (arith, here.0) in
    let first : n ≤ q = omega (arith, is, start, rising.0) in
    let rest = few-between (q + 1) high (x.at.0 + 1) xs (omega (arith, is)) (omega (arith, is, here.1)) rising.1 (λ y there. all y (inr there)) in
    omega (arith, first, rest)

-- a slot lies on this card, or on another
abbrev is_on : ℕ → Slot → Bool
is_on card slot = nat_eq card (card_of slot.at.0)

abbrev is_off : ℕ → Slot → Bool
is_off card slot = not (nat_eq card (card_of slot.at.0))

-- on one card lie at most 256
few-on : (card : ℕ) (xs : List Slot) → AreRising slot_address 0 xs → ((x : Slot) → IsIn x xs → (x.at.0 % 4 ≡ 0) × (card ≡ card_of x.at.0)) → length xs ≤ 256
few-on card xs rising all =
    let few = few-between (256 * card) (256 * card + 256) (1024 * card) xs (omega arith) (omega arith)
    (rising-from 0 (1024 * card) xs rising (λ x there. let is = (all x there).1 in omega (arith, is)))
    (λ x there. let it = all x there in (it.0, omega (arith, it.1))) in
    omega (arith, few)

few-slots : (cards : List ℕ) (xs : List Slot) → AreRising slot_address 0 xs → ((x : Slot) → IsIn x xs → x.at.0 % 4 ≡ 0) → ((x : Slot) → IsIn x xs → IsIn (card_of x.at.0) cards)
    → length xs ≤ 256 * length cards
few-slots [] [] rising all on = omega arith
few-slots [] (x ∷ xs) rising all on = absurd (on x (inl refl))
few-slots (card ∷ cards) xs rising all on =
    let here : length (filter (is_on card) xs) ≤ 256 =
    few-on card (filter (is_on card) xs) (rising-filter (is_on card) 0 0 xs (omega arith) rising)
    (λ x there. let it = in-filter (is_on card) xs x there in (all x it.0, eqb-true card (card_of x.at.0) it.1)) in
    let rest : length (filter (is_off card) xs) ≤ 256 * length cards =
    few-slots cards (filter (is_off card) xs) (rising-filter (is_off card) 0 0 xs (omega arith) rising)
    (λ x there. all x (in-filter (is_off card) xs x there).0)
    (λ x there. let it = in-filter (is_off card) xs x there in others x it.1 (on x it.0)) in
    omega (arith, here, rest, length-filter_both (is_on card) (is_off card) (λ x. refl) xs)
  where
    others : (x : Slot) → is_off card x ≡ true → IsIn (card_of x.at.0) (card ∷ cards) → IsIn (card_of x.at.0) cards
    others x off (inl same) = absurd (true≢false (sym off ∙ ap not (eq-eqb card (card_of x.at.0) same)))
    others x off (inr there) = there

pub slots-few : (cs : List Class) (v : View) (raws : Raws) (rows : List LargeRow) (found : List Slot) (cards : List ℕ) → HoldsRaws cs v raws → AreOutward cs raws rows found
    → ((slot : Slot) → IsIn slot found → IsIn (card_of slot.at.0) cards) → length found ≤ 256 * length cards
slots-few cs v raws rows found cards holds outward on = few-slots cards found outward.rising aligned on
  where
    aligned : (slot : Slot) → IsIn slot found → slot.at.0 % 4 ≡ 0
    aligned slot there =
        let it = (outward.exact slot).0 there in
        let shape = (raws.raw it.object).shape in
        let lies = laid-in (head_end shape) (unrounded cs shape) (places_of cs shape) it.place (places-laid cs shape) it.is_in in
        let four : it.place.offset % 4 ≡ 0 = subst (λ (k : Kind). it.place.offset % kind_bytes k ≡ 0) it.kind_is lies.1 in
        let eight : it.object % 8 ≡ 0 = (holds.stands it.object it.has).aligned in
        omega (arith, four, eight, it.at_is)
