-- The order of the regions in use, and packing places in it.
use Rattle.std.proofs.Common.{◌≡◌, ◌≢◌, ◌∙◌, ℕ, zero, suc, ◌+◌, ◌-◌, ◌*◌, ◌/◌, ◌%◌, ◌<◌, ◌≤◌, Bool, true, List, [], ◌∷◌, ◌++◌, length, map, All, get_or, set, Some, nat_eq, nat_le, nat_lt, refl, sym, ap, subst, inl, inr, arith}
use Rattle.std.specs.Prelude.{◌||◌, IsTrue, if◌then◌else◌, is_some, option_map}
use Rattle.std.proofs.lemmas.Bool.{and_from, and_parts, cases_eq, cases_Bool, eq-eqb, eqb-false, eqb-true, false≢true, le-leb, leb-true, lt-ltb, ltb-true, ne_eqb, or_right}
use Rattle.std.proofs.lemmas.Map.Keys.{apart_from_distinct}
use Rattle.std.proofs.lemmas.List.{append_assoc, get_or_read, get_or-set_other, get_or-set_same, length-append, length-map, map-append}
use Rattle.std.proofs.lemmas.List.Elements.{All-head, All-tail}
use Rattle.std.proofs.lemmas.Option.{none-some}
use Rattle.std.specs.List.{IsDistinct}
use Rattle.model_numbers.specs.Numbers.{region_base, region_bytes, region_count}
use Rattle.heap_graph.specs.Reach.{is_among}
use Rattle.raw_objects.specs.References.{in_regions}
use Rattle.region_lists.specs.Rows.{Lists, Row, first_of, row_behind, row_of}
use Rattle.region_lists.proofs.MoveLemmas.{all-left}
use Rattle.region_space.specs.Space.{IsSpace}
use Rattle.region_space.proofs.WalkLemmas.{others-before}
use Rattle.live_objects.specs.Marks.{AreIndexed, IsAddress, IsOrder, address_at, index_of, place_of, region_of}

-- WINDOW

pub record InRegions (a : ℕ) : Type 0 where
  pub low : region_base ≤ a
  pub high : a < region_base + 268435456

pub regions-span : (a : ℕ) → in_regions a ≡ true → InRegions a
regions-span a is =
    let parts = and_parts _ _ is in
    let low = leb-true 262144 (a / 4096) parts.0 in
    let high = ltb-true (a / 4096) 327680 parts.1 in
    record { low = omega (arith, low); high = omega (arith, high) }

pub in-regions : (a : ℕ) → InRegions a → in_regions a ≡ true
in-regions a is = and_from (nat_le 262144 (a / 4096)) (nat_lt (a / 4096) 327680) (le-leb 262144 (a / 4096) (omega (arith, is.low))) (lt-ltb (a / 4096) 327680 (omega (arith, is.high)))

-- INDEX

pub record Stands (numbers : List ℕ) (n : ℕ) : Type 0 where
  pub below : index_of numbers n < length numbers
  pub is : get_or numbers (index_of numbers n) 0 ≡ n

pub stands : (numbers : List ℕ) (n : ℕ) → is_among numbers n ≡ true → Stands numbers n
stands [] n among = absurd (false≢true among)
stands (m ∷ rest) n among = elim (cases_Bool (nat_eq n m)) [
  | inl here ↦
      let first : index_of (m ∷ rest) n ≡ 0 = ap (λ (b : Bool). if b then 0 else 1 + index_of rest n) here in
      record { below = omega (arith, first); is = ap (λ k. get_or (m ∷ rest) k 0) first ∙ sym (eqb-true n m here) }
  | inr later ↦
      let rest_is = stands rest n (sym (ap (λ (b : Bool). b || is_among rest n) later) ∙ among) in
      let next : index_of (m ∷ rest) n ≡ suc (index_of rest n) = ap (λ (b : Bool). if b then 0 else 1 + index_of rest n) later ∙ omega arith in
      record { below = omega (arith, next, rest_is.below); is = ap (λ k. get_or (m ∷ rest) k 0) next ∙ rest_is.is }
]

pub among-at : (numbers : List ℕ) (i : ℕ) → i < length numbers → is_among numbers (get_or numbers i 0) ≡ true
among-at [] i below = absurd (omega (arith, below))
among-at (m ∷ rest) zero below = ap (λ (b : Bool). b || is_among rest m) (eq-eqb m m refl)
among-at (m ∷ rest) (suc i) below = or_right (nat_eq (get_or rest i 0) m) (is_among rest (get_or rest i 0)) (among-at rest i (omega (arith, below)))

pub index-is : (numbers index : List ℕ) (n : ℕ) → AreIndexed numbers index (length numbers) → is_among numbers n ≡ true → get_or index n 0 ≡ index_of numbers n
index-is numbers index n found among =
    let it = stands numbers n among in
    ap (λ k. get_or index k 0) (sym it.is) ∙ found (index_of numbers n) it.below

pub index-at : (numbers index : List ℕ) (i : ℕ) → AreIndexed numbers index (length numbers) → i < length numbers → index_of numbers (get_or numbers i 0) ≡ i
index-at numbers index i found below = sym (index-is numbers index (get_or numbers i 0) found (among-at numbers i below)) ∙ found i below

-- one number more is indexed
pub indexed-more : (numbers index : List ℕ) (k : ℕ) → IsDistinct nat_eq numbers → k < length numbers → get_or numbers k 0 < length index → AreIndexed numbers index k
    → AreIndexed numbers (set index (get_or numbers k 0) k) (k + 1)
indexed-more numbers index k apart below room found = λ i under. elim (cases_eq i k) [
  | inl same ↦ ap (λ j. get_or (set index (get_or numbers k 0) k) (get_or numbers j 0) 0) same ∙ get_or-set_same index (get_or numbers k 0) k 0 room ∙ sym same
  | inr other ↦
      let before : i < k = omega (arith, under, other) in
      get_or-set_other index (get_or numbers k 0) (get_or numbers i 0) k 0 (eqb-false (get_or numbers i 0) (get_or numbers k 0) (apart_from_distinct nat_eq numbers i k 0 apart before below)) ∙ found i before
]

-- PLACES

pub place-below : (numbers : List ℕ) (a : ℕ) → is_among numbers (region_of a) ≡ true → place_of numbers a < region_bytes * length numbers
place-below numbers a among = let it = stands numbers (region_of a) among in omega (arith, it.below)

-- the address of an address's place
pub address-of_place : (numbers : List ℕ) (a : ℕ) → region_base ≤ a → is_among numbers (region_of a) ≡ true → address_at numbers (place_of numbers a) ≡ a
address-of_place numbers a low among =
    let it = stands numbers (region_of a) among in
    let index : place_of numbers a / region_bytes ≡ index_of numbers (region_of a) = omega arith in
    let offset : place_of numbers a % region_bytes ≡ (a - region_base) % region_bytes = omega arith in
    let region : get_or numbers (place_of numbers a / region_bytes) 0 ≡ region_of a = ap (λ k. get_or numbers k 0) index ∙ it.is in
    omega (arith, region, offset, low)

pub address-is : (numbers : List ℕ) (p : ℕ) → All (λ n. n < region_count) numbers → ((i : ℕ) → i < length numbers → index_of numbers (get_or numbers i 0) ≡ i) → p < region_bytes * length numbers
    → IsAddress numbers p
address-is numbers p within stand below =
    let i : ℕ = p / region_bytes in
    let under : i < length numbers = omega (arith, below) in
    let n : ℕ = get_or numbers i 0 in
    let small : n < region_count = within i 0 under in
    let region : region_of (address_at numbers p) ≡ n = omega arith in
    let offset : (address_at numbers p - region_base) % region_bytes ≡ p % region_bytes = omega arith in
    let place : index_of numbers (region_of (address_at numbers p)) ≡ i = ap (index_of numbers) region ∙ stand i under in
    record {
      inside = in-regions (address_at numbers p) (record { low = omega arith; high = omega (arith, small) });
      among = ap (is_among numbers) region ∙ among-at numbers i under;
      back = omega (arith, place, offset);
      aligned = omega arith;
    }

pub order-address : (numbers index : List ℕ) (p : ℕ) → IsOrder numbers index → p < region_bytes * length numbers → IsAddress numbers p
order-address numbers index p order below = address-is numbers p order.within (λ i under. index-at numbers index i order.found under) below

-- WALK

pub row-here : (done : List Row) (row : Row) (rest : List Row) → IsTrue (is_some (row_of (done ++ row ∷ rest) row.region))
row-here [] row rest = ap (λ (b : Bool). is_some (if b then Some row else row_of rest row.region)) (eq-eqb row.region row.region refl)
row-here (one ∷ done) row rest = elim (cases_Bool (nat_eq one.region row.region)) [
  | inl here ↦ ap (λ (b : Bool). is_some (if b then Some one else row_of (done ++ row ∷ rest) row.region)) here
  | inr later ↦ ap (λ (b : Bool). is_some (if b then Some one else row_of (done ++ row ∷ rest) row.region)) later ∙ row-here done row rest
]

pub behind-here : (done : List Row) (row : Row) (rest : List Row) → All (λ (other : Row). other.region ≢ row.region) done → row_behind (done ++ row ∷ rest) row.region ≡ first_of rest
behind-here [] row rest apart = ap (λ (b : Bool). if b then first_of rest else row_behind rest row.region) (eq-eqb row.region row.region refl)
behind-here (one ∷ done) row rest apart =
    ap (λ (b : Bool). if b then first_of (done ++ row ∷ rest) else row_behind (done ++ row ∷ rest) row.region)
    (ne_eqb one.region row.region (All-head (λ (other : Row). other.region ≢ row.region) one done apart))
    ∙ behind-here done row rest (All-tail (λ (other : Row). other.region ≢ row.region) one done apart)

pub record Head (rest : List Row) (region : ℕ) : Type 0 where
  pub row : Row
  pub more : List Row
  pub is : rest ≡ row ∷ more
  pub region_is : row.region ≡ region

pub head : (rest : List Row) (region : ℕ) → option_map (λ (row : Row). row.region) (first_of rest) ≡ Some region → Head rest region
head [] region is = absurd (none-some region is)
head (row ∷ more) region is = let same : row.region ≡ region = cc in record { row = row; more = more; is = refl; region_is = same }

pub no-rest : (rest : List Row) → ((region : ℕ) → option_map (λ (row : Row). row.region) (first_of rest) ≡ Some region → ⊥) → rest ≡ []
no-rest [] none = refl
no-rest (row ∷ more) none = absurd (none row.region refl)

abbrev pub regions : List Row → List ℕ
regions rows = map (λ (row : Row). row.region) rows

-- a step of the walk: the region is in use, and the next one is what stands behind it
pub record Step (rows done rest : List Row) (region : ℕ) : Type 0 where
  pub row : Row
  pub more : List Row
  pub there : IsTrue (is_some (row_of rows region))
  pub all : rows ≡ (done ++ row ∷ []) ++ more
  pub next : row_behind rows region ≡ first_of more
  pub numbers : regions (done ++ row ∷ []) ≡ regions done ++ region ∷ []
  pub below : length done < length rows

pub step : (rows done rest : List Row) (region : ℕ) → IsDistinct nat_eq (regions rows) → rows ≡ done ++ rest → option_map (λ (row : Row). row.region) (first_of rest) ≡ Some region
    → Step rows done rest region
step rows done rest region apart split is =
    let h = head rest region is in
    let all : rows ≡ done ++ h.row ∷ h.more = split ∙ ap (λ xs. done ++ xs) h.is in
    let others = others-before done h.row h.more (subst (λ xs. IsDistinct nat_eq (regions xs)) all apart) in
    record {
      row = h.row;
      more = h.more;
      there = subst (λ n. IsTrue (is_some (row_of rows n))) h.region_is (subst (λ xs. IsTrue (is_some (row_of xs h.row.region))) (sym all) (row-here done h.row h.more));
      all = all ∙ sym (append_assoc done (h.row ∷ []) h.more);
      next = ap (row_behind rows) (sym h.region_is) ∙ ap (λ xs. row_behind xs h.row.region) all ∙ behind-here done h.row h.more others;
      numbers = map-append (λ (row : Row). row.region) done (h.row ∷ []) ∙ ap (λ n. regions done ++ n ∷ []) h.region_is;
      below = omega (arith, ap length all, length-append done (h.row ∷ h.more));
    }

-- the numbers of a space's regions in use
pub regions-within : (s : Lists) → IsSpace s → All (λ n. n < region_count) (regions s.in_use)
regions-within s space =
    let all = all-left (λ n. n < s.count) (regions s.in_use) (regions s.from) (all-left (λ n. n < s.count) (regions s.in_use ++ regions s.from) s.free space.lists.within) in
    λ i d below. let it = all i d below in omega (arith, it, space.few)

pub regions-few : (s : Lists) → IsSpace s → length s.in_use ≤ region_count
regions-few s space =
    omega (
      arith,
      length-append (regions s.in_use ++ regions s.from) s.free,
      length-append (regions s.in_use) (regions s.from),
      length-map s.in_use (λ (row : Row). row.region),
      space.lists.all,
      space.few,
    )

-- what the index has for an address in a region in use
pub record Read (numbers : List ℕ) (a read : ℕ) : Type 0 where
  pub small : read < region_count
  pub place : read * region_bytes + (a - region_base) % region_bytes ≡ place_of numbers a

pub read-is : (numbers index : List ℕ) (a read : ℕ) → IsOrder numbers index → in_regions a ≡ true → is_among numbers (region_of a) ≡ true → read ≡ get_or index (region_of a) read → Read numbers a read
read-is numbers index a read order inside among reads =
    let span = regions-span a inside in
    let it = stands numbers (region_of a) among in
    let is : read ≡ index_of numbers (region_of a) = get_or_read index (region_of a) read (omega (arith, span.low, span.high, order.count)) reads 0 ∙ index-is numbers index (region_of a) order.found among in
    record { small = omega (arith, is, it.below, order.few); place = omega (arith, is) }
