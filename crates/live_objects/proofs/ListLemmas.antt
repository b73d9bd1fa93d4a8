-- The listing of marked objects.
use Rattle.std.proofs.Common.{◌≡◌, ◌∙◌, ℕ, ◌+◌, ◌*◌, ◌%◌, ◌<◌, ◌==◌, true, List, [], ◌∷◌, ◌++◌, length, map, All, sym, ap, subst, inl, inr, arith}
use Rattle.std.specs.List.{Contains}
use Rattle.std.proofs.lemmas.Bool.{and_from, and_parts, both_ways, cases_lt, eq-eqb}
use Rattle.std.proofs.lemmas.List.{length-map, map-append}
use Rattle.std.proofs.lemmas.List.Elements.{All-cons, All-contains, All-head, All-nil, All-tail, All-weaker, Contains-append_left, Contains-push, Contains-push_cases}
use Rattle.model_numbers.specs.Numbers.{region_bytes}
use Rattle.page_tables.specs.declared.address.Addr.{Addr}
use Rattle.bit_set.specs.Bits.{Bits, is_member}
use Rattle.bit_set.specs.Tests.{IsLeastFrom, NoneFrom}
use Rattle.mark_bitmap.specs.Marks.{IsWellPlaced, Marks, is_marked}
use Rattle.heap_graph.specs.Reach.{is_among}
use Rattle.raw_objects.specs.References.{in_regions}
use Rattle.region_lists.specs.Rows.{Row}
use Rattle.large_objects.specs.Rows.{slot_base}
use Rattle.live_objects.specs.Live.{AreRising, HasLarge, ListsYoung, addresses}
use Rattle.live_objects.specs.Marks.{HasRoom, IsAddress, address_at, marked_in, place_of, region_of}
use Rattle.live_objects.proofs.MarkLemmas.{base-is, marked-large, set-young, young_mark}
use Rattle.live_objects.proofs.OrderLemmas.{address-of_place, regions, regions-span}
use Rattle.live_objects.proofs.YoungLemmas.{map-from, map-in, rising-push}

-- the marked places below `from` are listed
pub record Listing (numbers : List ℕ) (young : Marks) (items : List Addr) (from : ℕ) : Type 0 where
  pub places : List ℕ
  pub rising : AreRising 0 places
  pub below : All (λ p. p < from) places
  pub within : All (λ p. p < region_bytes * length numbers) places
  pub are : All (IsAddress numbers) places
  pub stand : addresses items ≡ map (address_at numbers) places
  pub all : (p : ℕ) → p < from → is_marked young p ≡ true → Contains places p
  pub only : (p : ℕ) → Contains places p → is_marked young p ≡ true

pub listing-none : (numbers : List ℕ) (young : Marks) (items : List Addr) → items ≡ [] → Listing numbers young items 0
listing-none numbers young items empty = record {
  places = [];
  rising = tt;
  below = All-nil (λ p. p < 0);
  within = All-nil (λ p. p < region_bytes * length numbers);
  are = All-nil (IsAddress numbers);
  stand = ap addresses empty;
  all = λ p under. absurd (omega (arith, under));
  only = λ p c. absurd (omega (arith, c.1));
}

all-push : (P : ℕ → Type 0) (xs : List ℕ) (x : ℕ) → All P xs → P x → All P (xs ++ x ∷ [])
all-push P [] x all here = All-cons P x [] here (All-nil P)
all-push P (y ∷ ys) x all here = All-cons P y (ys ++ x ∷ []) (All-head P y ys all) (all-push P ys x (All-tail P y ys all) here)

-- one place more
pub listing-more : (numbers : List ℕ) (young : Marks) (old new : List Addr) (from p : ℕ) (at : Addr) → Listing numbers young old from → IsLeastFrom (is_marked young) from p
    → p < region_bytes * length numbers → IsAddress numbers p → at.0 ≡ address_at numbers p → new ≡ old ++ at ∷ [] → Listing numbers young new (p + 1)
listing-more numbers young old new from p at l least within is value items = record {
  places = l.places ++ p ∷ [];
  rising = rising-push 0 l.places p l.rising (omega arith) (All-weaker (λ q. q < from) (λ q. q < p) (λ q under. omega (arith, under, least.from)) l.places l.below);
  below = all-push (λ q. q < p + 1) l.places p (All-weaker (λ q. q < from) (λ q. q < p + 1) (λ q under. omega (arith, under, least.from)) l.places l.below) (omega arith);
  within = all-push (λ q. q < region_bytes * length numbers) l.places p l.within within;
  are = all-push (IsAddress numbers) l.places p l.are is;
  stand = ap addresses items
      ∙ map-append (λ (it : Addr). it.0) old (at ∷ [])
      ∙ ap (λ ns. ns ++ at.0 ∷ []) l.stand
      ∙ ap (λ n. map (address_at numbers) l.places ++ n ∷ []) value
      ∙ sym (map-append (address_at numbers) l.places (p ∷ []));
  all = λ q under marked. elim (cases_lt q from) [
    | inl low ↦ Contains-append_left l.places (p ∷ []) q (l.all q low marked)
    | inr high ↦ elim (cases_lt q p) [
      | inl between ↦ absurd (both_ways (is_marked young q) (least.least q high between) marked)
      | inr last ↦ let same : p ≡ q = omega (arith, under, last) in subst (Contains (l.places ++ p ∷ [])) same (Contains-push l.places p)
    ]
  ];
  only = λ q c. elim (Contains-push_cases l.places p q c) [ inl was ↦ l.only q was | inr same ↦ subst (λ k. is_marked young k ≡ true) same least.member ];
}

-- all are listed
pub listing-done : (in_use : List Row) (numbers : List ℕ) (young : Marks) (large : Bits) (items : List Addr) (from : ℕ) → numbers ≡ regions in_use → IsWellPlaced young → Listing numbers young items from
    → NoneFrom (is_marked young) from → ListsYoung in_use (λ a. marked_in numbers young large a ≡ true) items
listing-done in_use numbers young large items from same well l none = record {
  places = l.places;
  rising = l.rising;
  within = let count : length numbers ≡ length in_use = ap length same ∙ length-map in_use (λ (row : Row). row.region) in
      subst (λ (n : ℕ). All (λ p. p < region_bytes * n) l.places) count l.within;
  stand = l.stand ∙ ap (λ ns. map (address_at ns) l.places) same;
  only = λ a. (there a, back a);
}
  where
    there : (a : ℕ) → Contains (addresses items) a → (in_regions a ≡ true) × (marked_in numbers young large a ≡ true)
    there a c =
        let it = map-from (address_at numbers) l.places a (subst (λ ns. Contains ns a) l.stand c) in
        let p : ℕ = it.0 in
        let is = All-contains (IsAddress numbers) l.places p l.are it.1 in
        let marked = l.only p it.1 in
        let place = well.places p marked in
        let at : ℕ = address_at numbers p in
        let mine : young_mark numbers at ≡ true = and_from (at % 8 == 0) (is_among numbers (region_of at)) (eq-eqb (at % 8) 0 (is.aligned ∙ place.aligned)) is.among in
        subst (λ k. (in_regions k ≡ true) × (marked_in numbers young large k ≡ true)) it.2
        (is.inside, set-young numbers young large at is.inside ∙ and_from (young_mark numbers at) (is_marked young (place_of numbers at)) mine (ap (is_marked young) is.back ∙ marked))

    back : (a : ℕ) → (in_regions a ≡ true) × (marked_in numbers young large a ≡ true) → Contains (addresses items) a
    back a h =
        let parts = and_parts (young_mark numbers a) (is_marked young (place_of numbers a)) (sym (set-young numbers young large a h.0) ∙ h.1) in
        let among = (and_parts (a % 8 == 0) (is_among numbers (region_of a)) parts.0).1 in
        let p : ℕ = place_of numbers a in
        let low : p < from = elim (cases_lt p from) [ inl lt ↦ lt | inr ge ↦ absurd (both_ways (is_marked young p) (none p ge) parts.1) ] in
        let c = map-in (address_at numbers) l.places p (l.all p low parts.1) in
        subst (λ ns. Contains ns a) (sym l.stand) (subst (Contains (map (address_at numbers) l.places)) (address-of_place numbers a (regions-span a h.0).low among) c)

-- the slots of the large ones
pub large-slots : (numbers : List ℕ) (young : Marks) (large : Bits) → HasRoom numbers young large → HasLarge (λ a. marked_in numbers young large a ≡ true) large
large-slots numbers young large room = record {
  all = room.slots;
  only = λ slot within.
      let b = base-is numbers slot within in
      let is = marked-large numbers young large (slot_base slot) b.off b.has ∙ ap (is_member large) b.back in
      (λ member. is ∙ member, λ marked. sym is ∙ marked);
}
