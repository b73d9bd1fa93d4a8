-- Pages and slots that are counted one after the other.
use Rattle.std.proofs.Common.{◌≡◌, ◌∙◌, ℕ, ◌+◌, ◌-◌, ◌*◌, ◌<◌, ◌≤◌, Bool, true, false, List, [], ◌∷◌, ◌++◌, length, map, drop, get_or, All, nat_le, refl, sym, ap, subst, inl, inr, arith}
use Rattle.std.specs.Prelude.{IsTrue, if◌then◌else◌}
use Rattle.std.proofs.lemmas.Bool.{cases_lt, le-leb, lt-leb}
use Rattle.std.proofs.lemmas.List.{append-nil, drop_all, drop_more, get_or-map, length-append, length-map}
use Rattle.std.proofs.lemmas.List.Elements.{All-from_get_or, All-head, All-tail}
use Rattle.std.proofs.lemmas.List.Sums.{sum_by-cons}
use Rattle.model_numbers.specs.Numbers.{large_slot_count, region_bytes, region_count}
use Rattle.class_layout.specs.ClassList.{Class}
use Rattle.page_tables.specs.declared.address.Addr.{Addr}
use Rattle.bit_set.specs.Bits.{Bits, is_member}
use Rattle.cow_pages.specs.Memory.{Memory}
use Rattle.cow_pages.specs.View.{View, view_of}
use Rattle.heap_graph.specs.Packing.{end_from}
use Rattle.heap_graph.specs.Sizes.{parts_for}
use Rattle.image_space.specs.Space.{pages_up_to}
use Rattle.object_view.proofs.Laid.{size-bounds}
use Rattle.raw_objects.specs.Raws.{raw_size, Raws}
use Rattle.region_space.specs.Packed.{fills_from, packed_pages}
use Rattle.region_space.specs.Space.{IsSize}
use Rattle.region_space.proofs.PackLemmas.{begins, fits-if, opens-if, splits}
use Rattle.region_space.proofs.PackedLemmas.{fill_pages}
use Rattle.large_objects.specs.Rows.{slot_base}
use Rattle.object_moves.specs.Copies.{at_of, sizes_at, IsYoungAt}
use Rattle.live_objects.specs.Live.{addresses}
use Rattle.object_collection.specs.Listed.{AreSlotsOf}
use Rattle.object_collection.specs.Weaks.{Adds}
use Rattle.object_collection.proofs.Growing.{adds-more, adds-same, none-twice}

-- PAGES

pages-cons : (fill : ℕ) (fills : List ℕ) → fill_pages (fill ∷ fills) ≡ pages_up_to fill + fill_pages fills
pages-cons fill fills = sum_by-cons (λ (n : ℕ). n) (pages_up_to fill) (map pages_up_to fills)

-- the fill behind which the next object stands: that of the region, if the object fits there
abbrev pub before_next : ℕ → ℕ → ℕ
before_next fill size = if nat_le (fill + size) region_bytes then fill else 0

pub next-fits : (fill size : ℕ) → fill + size ≤ region_bytes → before_next fill size ≡ fill
next-fits fill size fits = ap (λ (b : Bool). if b then fill else 0) (le-leb (fill + size) region_bytes fits)

pub next-opens : (fill size : ℕ) → region_bytes < fill + size → before_next fill size ≡ 0
next-opens fill size opens = ap (λ (b : Bool). if b then fill else 0) (lt-leb (fill + size) region_bytes opens)

pub next-within : (fill size : ℕ) → size ≤ region_bytes → before_next fill size + size ≤ region_bytes
next-within fill size most = elim (cases_lt region_bytes (fill + size)) [
  | inl opens ↦ let e = next-opens fill size opens in omega (arith, e, most)
  | inr fits ↦ let e = next-fits fill size fits in omega (arith, e, fits)
]

-- an object more
pub pages-next : (fill size : ℕ) (more : List ℕ)
    → fill_pages (fills_from fill (size ∷ more)) + pages_up_to (before_next fill size) ≡ fill_pages (fills_from (before_next fill size + size) more) + pages_up_to fill
pages-next fill size more = elim (cases_lt region_bytes (fill + size)) [
  | inl opens ↦
      let e = next-opens fill size opens in
      let first = ap fill_pages (opens-if fill size more opens) ∙ pages-cons fill (fills_from size more) in
      let rest : fill_pages (fills_from (before_next fill size + size) more) ≡ fill_pages (fills_from size more) = ap (λ n. fill_pages (fills_from n more)) (omega (arith, e)) in
      let none : pages_up_to (before_next fill size) ≡ 0 = ap pages_up_to e in
      omega (arith, first, rest, none)
  | inr fits ↦
      let e = next-fits fill size fits in
      let first = ap fill_pages (fits-if fill size more fits) in
      let rest : fill_pages (fills_from (before_next fill size + size) more) ≡ fill_pages (fills_from (fill + size) more) = ap (λ n. fill_pages (fills_from (n + size) more)) e in
      let same : pages_up_to (before_next fill size) ≡ pages_up_to fill = ap pages_up_to e in
      omega (arith, first, rest, same)
]

-- the region that is filled so far has its pages among all
pub pages-first : (fill : ℕ) (sizes : List ℕ) → pages_up_to fill ≤ fill_pages (fills_from fill sizes)
pages-first fill [] = omega (arith, pages-cons fill [])
pages-first fill (size ∷ more) = elim (cases_lt region_bytes (fill + size)) [
  | inl opens ↦ let e = ap fill_pages (opens-if fill size more opens) ∙ pages-cons fill (fills_from size more) in omega (arith, e)
  | inr fits ↦ let e = ap fill_pages (fits-if fill size more fits) in let rest = pages-first (fill + size) more in omega (arith, e, rest)
]

-- each region has 64 pages at most
pages-most : (fill : ℕ) (sizes : List ℕ) → fill ≤ region_bytes → All IsSize sizes → fill_pages (fills_from fill sizes) ≤ 64 * length (fills_from fill sizes)
pages-most fill [] most all = omega (arith, pages-cons fill [], most)
pages-most fill (size ∷ more) most all =
    let here = All-head IsSize size more all in
    let rest = All-tail IsSize size more all in
    elim (cases_lt region_bytes (fill + size)) [
      | inl opens ↦
          let e = ap fill_pages (opens-if fill size more opens) ∙ pages-cons fill (fills_from size more) in
          let n = ap length (opens-if fill size more opens) in
          let it = pages-most size more here.greatest rest in
          omega (arith, e, n, it, most)
      | inr fits ↦
          let e = ap fill_pages (fits-if fill size more fits) in
          let n = ap length (fits-if fill size more fits) in
          let it = pages-most (fill + size) more fits rest in
          omega (arith, e, n, it)
    ]

pub pages-bounded : (sizes : List ℕ) → All IsSize sizes → parts_for region_bytes (end_from 0 sizes) ≤ region_count → fill_pages (fills_from region_bytes sizes) ≤ 64 * (region_count + 1)
pages-bounded sizes all few =
    let s = splits 0 0 region_bytes sizes begins all in
    let n = ap length (ap (fills_from region_bytes) (sym (append-nil sizes)) ∙ s.fills []) in
    let most = pages-most region_bytes sizes (omega arith) all in
    omega (arith, n, length-append s.front (s.fill ∷ []), s.at.end, s.at.some, s.at.most, few, most)

-- an object's size
pub size-is : (cs : List Class) (v : View) (raws : Raws) (at : ℕ) → IsYoungAt cs v raws at → IsSize (raw_size cs raws at)
size-is cs v raws at young =
    let b = size-bounds cs (raws.raw at).shape in
    record { multiple = b.3; least = omega (arith, b.0, b.1, b.2); greatest = young.fits }

abbrev none : Addr
none = record { 0 = 0 }

pub size-at : (cs : List Class) (raws : Raws) (ats : List Addr) (i : ℕ) → i < length ats → get_or (sizes_at cs raws ats) i 0 ≡ raw_size cs raws (at_of ats i)
size-at cs raws ats i below = get_or-map (λ (a : Addr). raw_size cs raws a.0) ats i none 0 below

pub sizes-are : (cs : List Class) (v : View) (raws : Raws) (ats : List Addr) → ((i : ℕ) → i < length ats → IsYoungAt cs v raws (at_of ats i)) → All IsSize (sizes_at cs raws ats)
sizes-are cs v raws ats young = All-from_get_or IsSize (sizes_at cs raws ats) 0 (λ i below.
    let within : i < length ats = omega (arith, below, length-map ats (λ (a : Addr). raw_size cs raws a.0)) in
    subst IsSize (sym (size-at cs raws ats i within)) (size-is cs v raws (at_of ats i) (young i within)))

-- what was at a memory is at the same memory
pub young-same : (cs : List Class) (old new : Memory) (t : ℕ) (raws : Raws) (at : ℕ) → new ≡ old → IsYoungAt cs (view_of old t) raws at → IsYoungAt cs (view_of new t) raws at
young-same cs old new t raws at same young = subst (λ (m : Memory). IsYoungAt cs (view_of m t) raws at) (sym same) young

-- what is counted before the i-th object, behind a region that is filled so far
abbrev pub IsCounted : List ℕ → ℕ → ℕ → ℕ → Type 0
IsCounted sizes i pages fill = pages + 64 + fill_pages (fills_from fill (drop i sizes)) ≡ fill_pages (fills_from region_bytes sizes) + pages_up_to fill

counted-by : (sizes : List ℕ) (i pages fill size : ℕ) → i < length sizes → get_or sizes i 0 ≡ size → IsCounted sizes i pages fill
    → IsCounted sizes (i + 1) (pages + (pages_up_to (before_next fill size + size) - pages_up_to (before_next fill size))) (before_next fill size + size)
counted-by sizes i pages fill size below is counted =
    let split : drop i sizes ≡ size ∷ drop (i + 1) sizes = drop_more sizes i 0 below ∙ ap (λ n. n ∷ drop (i + 1) sizes) is in
    let all = ap (λ xs. fill_pages (fills_from fill xs)) split in
    let next = pages-next fill size (drop (i + 1) sizes) in
    let rises : pages_up_to (before_next fill size) ≤ pages_up_to (before_next fill size + size) = omega arith in
    omega (arith, counted, all, next, rises)

pub counted-next : (sizes : List ℕ) (i pages fill size before : ℕ) → i < length sizes → get_or sizes i 0 ≡ size → before ≡ before_next fill size → IsCounted sizes i pages fill
    → IsCounted sizes (i + 1) (pages + (pages_up_to (before + size) - pages_up_to before)) (before + size)
counted-next sizes i pages fill size before below is before_is counted =
    subst (λ n. IsCounted sizes (i + 1) (pages + (pages_up_to (n + size) - pages_up_to n)) (n + size)) (sym before_is) (counted-by sizes i pages fill size below is counted)

pub counted-most : (sizes : List ℕ) (i pages fill : ℕ) → All IsSize sizes → parts_for region_bytes (end_from 0 sizes) ≤ region_count → IsCounted sizes i pages fill → pages ≤ 64 * region_count
counted-most sizes i pages fill all few counted = omega (arith, counted, pages-first fill (drop i sizes), pages-bounded sizes all few)

pub counted-end : (sizes : List ℕ) (i pages fill : ℕ) → length sizes ≤ i → IsCounted sizes i pages fill → pages ≡ packed_pages sizes
counted-end sizes i pages fill all counted =
    let none = ap (λ xs. fill_pages (fills_from fill xs)) (drop_all i sizes all) in
    omega (arith, counted, none, pages-cons fill [])

-- SLOTS

-- the address is that of one of the first k slots that are in the set
pub record IsSlotBelow (large : Bits) (k a : ℕ) : Type 0 where
  pub slot : ℕ
  pub before : slot < k
  pub member : IsTrue (is_member large slot)
  pub is : a ≡ slot_base slot

pub slots-more : (large : Bits) (k : ℕ) (old new : List ℕ) → IsTrue (is_member large k) → Adds (IsSlotBelow large k) old new → Adds (IsSlotBelow large (k + 1)) old (new ++ slot_base k ∷ [])
slots-more large k old new member adds =
    adds-more (IsSlotBelow large k) (IsSlotBelow large (k + 1)) old new (slot_base k)
    (λ b it. elim (cases_lt it.slot k) [
      | inl low ↦ inl (record { slot = it.slot; before = low; member = it.member; is = it.is })
      | inr last ↦ let same : it.slot ≡ k = omega (arith, last, it.before) in inr (sym (it.is ∙ ap slot_base same))
    ])
    (λ b it. record { slot = it.slot; before = omega (arith, it.before); member = it.member; is = it.is })
    (record { slot = k; before = omega arith; member = member; is = refl })
    (λ it. omega (arith, it.before, it.is))
    adds

pub slots-same : (large : Bits) (k : ℕ) (old new : List ℕ) → is_member large k ≡ false → Adds (IsSlotBelow large k) old new → Adds (IsSlotBelow large (k + 1)) old new
slots-same large k old new off adds =
    adds-same (IsSlotBelow large k) (IsSlotBelow large (k + 1)) old new
    (λ b it. record { slot = it.slot; before = omega (arith, it.before); member = it.member; is = it.is })
    (λ b it. elim (cases_lt it.slot k) [
      | inl low ↦ record { slot = it.slot; before = low; member = it.member; is = it.is }
      | inr last ↦ let same : it.slot ≡ k = omega (arith, last, it.before) in absurd (let e : true ≡ false = sym it.member ∙ ap (is_member large) same ∙ off in cc)
    ])
    adds

pub slots-listed : (large : Bits) (k : ℕ) (ats : List Addr) → k ≡ large_slot_count → Adds (IsSlotBelow large k) [] (addresses ats) → AreSlotsOf large ats
slots-listed large k ats all adds = record {
  only = λ a. (
    λ is. elim ((adds.only a).0 is) [ inl none ↦ absurd (omega (arith, none.1)) | inr it ↦ (it.slot, omega (arith, it.before, all), it.member, it.is) ],
    λ it. (adds.only a).1 (inr (record { slot = it.0; before = omega (arith, it.1, all); member = it.2; is = it.3 })),
  );
  once = adds.once none-twice (λ b is none. omega (arith, none.1));
}
