-- Where marks stand.
use Rattle.std.proofs.Common.{◌≡◌, ◌≢◌, ◌∙◌, ℕ, ◌+◌, ◌-◌, ◌/◌, ◌%◌, ◌^◌, ◌<◌, ◌≤◌, ◌==◌, Bool, true, false, List, [], get_or, Option, Some, None, nat_le, nat_lt, IsTrue, refl, sym, ap, subst, inl, inr, arith}
use Rattle.std.specs.Prelude.{is_some, ◌⊎◌, ◌&&◌, ◌||◌, if◌then◌else◌}
use Rattle.std.proofs.lemmas.Bool.{and_from, and_parts, and_right, cases_Bool, cases_eq, eq-eqb, eqb-true, false≢true, le-leb, le-ltb, leb-true, lt-ltb, ltb-true, ne_eqb, or_cases}
use Rattle.model_numbers.specs.Numbers.{large_base, large_slot_bytes, large_slot_count}
use Rattle.bit_set.specs.Bits.{Bits, is_member, room}
use Rattle.mark_bitmap.specs.Marks.{IsPlace, Marks, is_marked}
use Rattle.heap_graph.specs.Reach.{is_among}
use Rattle.raw_objects.specs.References.{in_regions}
use Rattle.large_objects.specs.declared.rows.LargeRow.{LargeRow}
use Rattle.large_objects.specs.Rows.{AreRows, row_at, slot_base}
use Rattle.large_objects.proofs.RowLemmas.{slot-at}
use Rattle.large_objects.proofs.TableLemmas.{row-found}
use Rattle.live_objects.specs.Marks.{CanConsider, HasRoom, address_at, has_mark, marked_in, place_of, region_of, slot_of}
use Rattle.live_objects.specs.Reach.{in_large, is_mortal, waits_in}
use Rattle.live_objects.proofs.OrderLemmas.{address-of_place, place-below, regions-span}

-- WINDOWS

pub record InLarge (a : ℕ) : Type 0 where
  pub low : large_base ≤ a
  pub high : a < large_base + 536870912

pub large-span : (a : ℕ) → in_large a ≡ true → InLarge a
large-span a is =
    let parts = and_parts _ _ is in
    let low = leb-true 524288 (a / 4096) parts.0 in
    let high = ltb-true (a / 4096) 655360 parts.1 in
    record { low = omega (arith, low); high = omega (arith, high) }

pub in-large : (a : ℕ) → InLarge a → in_large a ≡ true
in-large a is = and_from (nat_le 524288 (a / 4096)) (nat_lt (a / 4096) 655360) (le-leb 524288 (a / 4096) (omega (arith, is.low))) (lt-ltb (a / 4096) 655360 (omega (arith, is.high)))

-- the windows are apart
pub not-regions : (a : ℕ) → InLarge a → in_regions a ≡ false
not-regions a is = and_right _ _ (le-ltb (a / 4096) 327680 (omega (arith, is.low)))

-- MARKS OF THE REGIONS

abbrev pub young_mark : List ℕ → ℕ → Bool
young_mark numbers a = (a % 8 == 0) && is_among numbers (region_of a)

abbrev pub large_mark : ℕ → Bool
large_mark a = in_large a && ((a - large_base) % large_slot_bytes == 0)

pub has-young : (numbers : List ℕ) (a : ℕ) → in_regions a ≡ true → has_mark numbers a ≡ young_mark numbers a
has-young numbers a is = ap (λ (b : Bool). if b then young_mark numbers a else large_mark a) is

pub has-large : (numbers : List ℕ) (a : ℕ) → in_regions a ≡ false → has_mark numbers a ≡ large_mark a
has-large numbers a is = ap (λ (b : Bool). if b then young_mark numbers a else large_mark a) is

pub set-young : (numbers : List ℕ) (young : Marks) (large : Bits) (a : ℕ) → in_regions a ≡ true → marked_in numbers young large a ≡ (young_mark numbers a && is_marked young (place_of numbers a))
set-young numbers young large a is =
    ap (λ (b : Bool). (if b then young_mark numbers a else large_mark a) && (if b then is_marked young (place_of numbers a) else is_member large (slot_of a))) is

pub set-large : (numbers : List ℕ) (young : Marks) (large : Bits) (a : ℕ) → in_regions a ≡ false → marked_in numbers young large a ≡ (large_mark a && is_member large (slot_of a))
set-large numbers young large a is =
    ap (λ (b : Bool). (if b then young_mark numbers a else large_mark a) && (if b then is_marked young (place_of numbers a) else is_member large (slot_of a))) is

pub record IsYoung (numbers : List ℕ) (a : ℕ) : Type 0 where
  pub aligned : a % 8 ≡ 0
  pub among : is_among numbers (region_of a) ≡ true

pub young-is : (numbers : List ℕ) (a : ℕ) → in_regions a ≡ true → has_mark numbers a ≡ true → IsYoung numbers a
young-is numbers a is has =
    let parts = and_parts (a % 8 == 0) (is_among numbers (region_of a)) (sym (has-young numbers a is) ∙ has) in
    record { aligned = eqb-true (a % 8) 0 parts.0; among = parts.1 }

pub record IsLarge (a : ℕ) : Type 0 where
  pub inside : InLarge a
  pub aligned : (a - large_base) % large_slot_bytes ≡ 0

pub large-is : (numbers : List ℕ) (a : ℕ) → in_regions a ≡ false → has_mark numbers a ≡ true → IsLarge a
large-is numbers a is has =
    let parts = and_parts (in_large a) ((a - large_base) % large_slot_bytes == 0) (sym (has-large numbers a is) ∙ has) in
    record { inside = large-span a parts.0; aligned = eqb-true ((a - large_base) % large_slot_bytes) 0 parts.1 }

-- the place of a young mark
pub young-place : (numbers : List ℕ) (young : Marks) (large : Bits) (a : ℕ) → HasRoom numbers young large → in_regions a ≡ true → has_mark numbers a ≡ true → IsPlace young (place_of numbers a)
young-place numbers young large a room is has =
    let it = young-is numbers a is has in
    let below = place-below numbers a it.among in
    let span = regions-span a is in
    record { aligned = omega (arith, it.aligned, span.low); from = omega (arith, room.start); below = omega (arith, below, room.start, room.span) }

-- and the slot of a large one
pub large-slot : (numbers : List ℕ) (young : Marks) (large : Bits) (a : ℕ) → HasRoom numbers young large → in_regions a ≡ false → has_mark numbers a ≡ true → slot_of a < room large
large-slot numbers young large a room is has =
    let it = large-is numbers a is has in
    omega (arith, it.inside.low, it.inside.high, room.slots)

pub marked-young : (numbers : List ℕ) (young : Marks) (large : Bits) (a : ℕ) → in_regions a ≡ true → has_mark numbers a ≡ true → marked_in numbers young large a ≡ is_marked young (place_of numbers a)
marked-young numbers young large a is has = set-young numbers young large a is ∙ ap (λ b. b && is_marked young (place_of numbers a)) (sym (has-young numbers a is) ∙ has)

pub marked-large : (numbers : List ℕ) (young : Marks) (large : Bits) (a : ℕ) → in_regions a ≡ false → has_mark numbers a ≡ true → marked_in numbers young large a ≡ is_member large (slot_of a)
marked-large numbers young large a is has = set-large numbers young large a is ∙ ap (λ b. b && is_member large (slot_of a)) (sym (has-large numbers a is) ∙ has)

-- ONE MORE

under : (h x y : Bool) → (h ≡ true → x ≡ y) → (h && x) ≡ (h && y)
under true x y e = e refl
under false x y e = refl

other-or : (b x : Bool) → b ≡ false → (b || x) ≡ x
other-or b x e = ap (λ c. c || x) e

or-true : (b x : Bool) → b ≡ true → (b || x) ≡ true
or-true b x e = ap (λ c. c || x) e

pub young-more : (numbers : List ℕ) (old new : Marks) (large : Bits) (at : ℕ) → in_regions at ≡ true → has_mark numbers at ≡ true
    → ((q : ℕ) → is_marked new q ≡ (q == place_of numbers at || is_marked old q)) → (a : ℕ) → marked_in numbers new large a ≡ (a == at || marked_in numbers old large a)
young-more numbers old new large at is has more a = elim (cases_eq a at) [
  | inl same ↦
      ap (marked_in numbers new large) same
      ∙ marked-young numbers new large at is has
      ∙ more (place_of numbers at)
      ∙ or-true (place_of numbers at == place_of numbers at) (is_marked old (place_of numbers at)) (eq-eqb (place_of numbers at) (place_of numbers at) refl)
      ∙ sym (or-true (a == at) (marked_in numbers old large a) (eq-eqb a at same))
  | inr ne ↦
      beside ne (cases_Bool (in_regions a)) ∙ sym (other-or (a == at) (marked_in numbers old large a) (ne_eqb a at ne))
]
  where
    beside : a ≢ at → (in_regions a ≡ true) ⊎ (in_regions a ≡ false) → marked_in numbers new large a ≡ marked_in numbers old large a
    beside ne (inl young) =
        set-young numbers new large a young
        ∙ under (young_mark numbers a) (is_marked new (place_of numbers a)) (is_marked old (place_of numbers a)) (λ mine.
        let among = (and_parts (a % 8 == 0) (is_among numbers (region_of a)) mine).1 in
        let there = (young-is numbers at is has).among in
        let apart : place_of numbers a ≢ place_of numbers at = λ same.
        ne (sym (address-of_place numbers a (regions-span a young).low among) ∙ ap (address_at numbers) same ∙ address-of_place numbers at (regions-span at is).low there) in
        more (place_of numbers a) ∙ other-or (place_of numbers a == place_of numbers at) (is_marked old (place_of numbers a)) (ne_eqb (place_of numbers a) (place_of numbers at) apart))
        ∙ sym (set-young numbers old large a young)
    beside ne (inr off) = set-large numbers new large a off ∙ sym (set-large numbers old large a off)

pub large-more : (numbers : List ℕ) (young : Marks) (old new : Bits) (at : ℕ) → in_regions at ≡ false → has_mark numbers at ≡ true
    → ((q : ℕ) → is_member new q ≡ (q == slot_of at || is_member old q)) → (a : ℕ) → marked_in numbers young new a ≡ (a == at || marked_in numbers young old a)
large-more numbers young old new at is has more a = elim (cases_eq a at) [
  | inl same ↦
      ap (marked_in numbers young new) same
      ∙ marked-large numbers young new at is has
      ∙ more (slot_of at)
      ∙ or-true (slot_of at == slot_of at) (is_member old (slot_of at)) (eq-eqb (slot_of at) (slot_of at) refl)
      ∙ sym (or-true (a == at) (marked_in numbers young old a) (eq-eqb a at same))
  | inr ne ↦
      beside ne (cases_Bool (in_regions a)) ∙ sym (other-or (a == at) (marked_in numbers young old a) (ne_eqb a at ne))
]
  where
    beside : a ≢ at → (in_regions a ≡ true) ⊎ (in_regions a ≡ false) → marked_in numbers young new a ≡ marked_in numbers young old a
    beside ne (inl inside) = set-young numbers young new a inside ∙ sym (set-young numbers young old a inside)
    beside ne (inr off) =
        set-large numbers young new a off
        ∙ under (large_mark a) (is_member new (slot_of a)) (is_member old (slot_of a)) (λ mine.
        let one = large-is numbers a off (has-large numbers a off ∙ mine) in
        let other = large-is numbers at is has in
        let apart : slot_of a ≢ slot_of at = λ same. ne (omega (arith, same, one.inside.low, one.aligned, other.inside.low, other.aligned)) in
        more (slot_of a) ∙ other-or (slot_of a == slot_of at) (is_member old (slot_of a)) (ne_eqb (slot_of a) (slot_of at) apart))
        ∙ sym (set-large numbers young old a off)

-- LARGE ONES

-- the address of a slot's first byte has a mark
pub record IsBase (numbers : List ℕ) (slot : ℕ) : Type 0 where
  pub inside : InLarge (slot_base slot)
  pub off : in_regions (slot_base slot) ≡ false
  pub has : has_mark numbers (slot_base slot) ≡ true
  pub back : slot_of (slot_base slot) ≡ slot

pub base-is : (numbers : List ℕ) (slot : ℕ) → slot < large_slot_count → IsBase numbers slot
base-is numbers slot within =
    let inside : InLarge (slot_base slot) = record { low = omega arith; high = omega (arith, within) } in
    let off = not-regions (slot_base slot) inside in
    record {
      inside = inside;
      off = off;
      has = has-large numbers (slot_base slot) off
          ∙ and_from (in_large (slot_base slot)) ((slot_base slot - large_base) % large_slot_bytes == 0) (in-large (slot_base slot) inside) (eq-eqb ((slot_base slot - large_base) % large_slot_bytes) 0 (omega arith));
      back = omega arith;
    }

-- a row stands at the beginning of a slot
pub record AtBase (a : ℕ) : Type 0 where
  pub slot : ℕ
  pub within : slot < large_slot_count
  pub is : slot_base slot ≡ a

pub at-base : (rows : List LargeRow) (a : ℕ) → AreRows rows → IsTrue (is_some (row_at rows a)) → AtBase a
at-base rows a are there =
    let f = row-found rows a there in
    let d : LargeRow = record { number = 0; slot = 0; bytes = 0; promoted = false; marked = false } in
    let within : (get_or rows f.0 d).slot < large_slot_count = are.within f.0 d f.1 in
    let slot = slot-at rows f.0 d f.1 in
    record { slot = (get_or rows f.0 d).slot; within = within; is = ap slot_base (sym slot) ∙ f.2 }

waits-some : (row : Option LargeRow) → waits_in row ≡ true → IsTrue (is_some row)
waits-some None e = absurd (false≢true e)
waits-some (Some row) e = refl

none-waits : (rows : List LargeRow) (a : ℕ) → AreRows rows → in_large a ≡ false → waits_in (row_at rows a) ≡ false
none-waits rows a are off = elim (cases_Bool (waits_in (row_at rows a))) [
  | inl yes_it ↦
      let b = at-base rows a are (waits-some (row_at rows a) yes_it) in
      absurd (false≢true (sym off ∙ subst (λ k. in_large k ≡ true) b.is (in-large (slot_base b.slot) (base-is [] b.slot b.within).inside)))
  | inr free ↦ free
]

-- what lies in neither window is immune
pub immune-off : (rows : List LargeRow) (a : ℕ) → AreRows rows → in_regions a ≡ false → in_large a ≡ false → is_mortal rows a ≡ false
immune-off rows a are young large = ap (λ b. b || waits_in (row_at rows a)) young ∙ none-waits rows a are large

-- what isn't immune lies in a window
pub mortal-cases : (rows : List LargeRow) (a : ℕ) → AreRows rows → is_mortal rows a ≡ true → (in_regions a ≡ true) ⊎ AtBase a
mortal-cases rows a are mortal = elim (or_cases (in_regions a) (waits_in (row_at rows a)) mortal) [
  | inl young ↦ inl young
  | inr waits ↦ inr (at-base rows a are (waits-some (row_at rows a) waits))
]

pub base-has : (numbers : List ℕ) (a : ℕ) → AtBase a → has_mark numbers a ≡ true
base-has numbers a b = subst (λ k. has_mark numbers k ≡ true) b.is (base-is numbers b.slot b.within).has

-- and has a mark, if it can be looked at
pub considered : (rows : List LargeRow) (numbers : List ℕ) (a : ℕ) → AreRows rows → CanConsider rows numbers a → is_mortal rows a ≡ true → has_mark numbers a ≡ true
considered rows numbers a are can mortal = elim (mortal-cases rows a are mortal) [ inl young ↦ can.young young | inr b ↦ base-has numbers a b ]

-- a mark is of an address of 32 bits
pub mark-below : (numbers : List ℕ) (a : ℕ) → has_mark numbers a ≡ true → a < 2 ^ 32
mark-below numbers a has = elim (cases_Bool (in_regions a)) [
  | inl young ↦ omega (arith, (regions-span a young).high)
  | inr off ↦ omega (arith, (large-is numbers a off has).inside.high)
]
