-- The live objects of the regions are some of all of these, in the same order: packed anew they need no more regions.
use Rattle.std.proofs.Common.{◌≡◌, ◌≢◌, ◌∙◌, ℕ, zero, suc, ◌+◌, ◌-◌, ◌*◌, ◌/◌, ◌<◌, ◌≤◌, Bool, true, false, List, [], ◌∷◌, get_or, length, map, nat_eq, All, refl, sym, ap, subst, inl, inr, arith}
use Rattle.std.specs.List.{Contains}
use Rattle.std.proofs.lemmas.Bool.{and_parts, cases_eq, eqb-false, eqb-true}
use Rattle.std.proofs.lemmas.List.{get_or-map, length-map}
use Rattle.std.proofs.lemmas.List.Elements.{All-cons, All-head, All-map, All-nil, All-tail, Contains-get_or}
use Rattle.std.proofs.lemmas.Simd.{map-map}
use Rattle.model_numbers.specs.Numbers.{region_bytes, region_count}
use Rattle.class_layout.specs.ClassList.{Class}
use Rattle.page_tables.specs.declared.address.Addr.{Addr}
use Rattle.bit_set.specs.Bits.{Bits}
use Rattle.cow_pages.specs.Memory.{Memory}
use Rattle.cow_pages.specs.View.{view_of}
use Rattle.heap_graph.specs.Packing.{after, end_from, place, place_if, places_from}
use Rattle.heap_graph.specs.Sizes.{parts_for}
use Rattle.object_view.proofs.Laid.{size-bounds}
use Rattle.raw_objects.specs.Raws.{raw_size, Raws}
use Rattle.raw_objects.specs.References.{in_regions}
use Rattle.region_lists.specs.Rows.{Row}
use Rattle.region_space.specs.Packed.{address_in}
use Rattle.region_space.specs.Space.{lists_of, IsSpace}
use Rattle.region_space.proofs.WalkLemmas.{in_use-apart}
use Rattle.live_objects.specs.Live.{addresses, AreRising}
use Rattle.live_objects.specs.Marks.{place_of}
use Rattle.live_objects.specs.Reach.{is_mortal, starts_of}
use Rattle.live_objects.proofs.OrderLemmas.{address-is, regions, regions-few, regions-within}
use Rattle.live_objects.proofs.ReachLemmas.{reached-node}
use Rattle.live_objects.proofs.YoungLemmas.{cons-cases, distinct-index, in-first, in-rest, map-in, rising-above}
use Rattle.object_moves.specs.Copies.{at_of, sizes_at, IsYoungAt}
use Rattle.object_moves.proofs.One.{row-of}
use Rattle.object_collection.specs.Collects.{AreYoung, HeapState, IsReached}
use Rattle.object_collection.specs.Listed.{KnowsLive}

-- PLACES

place-rises : (b c : Bool) (p q s : ℕ) → nat_eq (p / region_bytes) ((p + s - 1) / region_bytes) ≡ b → nat_eq (q / region_bytes) ((q + s - 1) / region_bytes) ≡ c → p ≤ q → place_if b p ≤ place_if c q
place-rises true true p q s d e le = le
place-rises true false p q s d e le = omega arith
place-rises false true p q s d e le =
    let apart = eqb-false _ _ d in
    let same : q / region_bytes ≡ (q + s - 1) / region_bytes = eqb-true _ _ e in
    omega arith
place-rises false false p q s d e le = omega arith

after-rises : (p q s : ℕ) → p ≤ q → after p s ≤ after q s
after-rises p q s le = let here = place-rises _ _ p q s refl refl le in omega (arith, here)

place-above : (b : Bool) (p : ℕ) → p ≤ place_if b p
place-above true p = omega arith
place-above false p = omega arith

above : (p s : ℕ) → p ≤ place p s
above p s = place-above (nat_eq (p / region_bytes) ((p + s - 1) / region_bytes)) p

end-above : (p : ℕ) (sizes : List ℕ) → p ≤ end_from p sizes
end-above p [] = omega arith
end-above p (s ∷ ss) = omega (arith, above p s, end-above (after p s) ss)

rising-lower : (low other : ℕ) (ps : List ℕ) → other ≤ low → AreRising low ps → AreRising other ps
rising-lower low other [] le rising = tt
rising-lower low other (p ∷ ps) le rising = (omega (arith, le, rising.0), rising.1)

pub places-rising : (p : ℕ) (sizes : List ℕ) → All (λ s. 0 < s) sizes → AreRising p (places_from p sizes)
places-rising p [] some = tt
places-rising p (s ∷ ss) some =
    let first = All-head (λ s. 0 < s) s ss some in
    (above p s, rising-lower (after p s) (place p s + 1) (places_from (after p s) ss) (omega (arith, first)) (places-rising (after p s) ss (All-tail (λ s. 0 < s) s ss some)))

pub places-within : (p bound : ℕ) (sizes : List ℕ) → All (λ s. 0 < s) sizes → end_from p sizes ≤ bound → All (λ q. q < bound) (places_from p sizes)
places-within p bound [] some le = All-nil (λ q. q < bound)
places-within p bound (s ∷ ss) some le =
    let first = All-head (λ s. 0 < s) s ss some in
    All-cons (λ q. q < bound) (place p s) (places_from (after p s) ss) (omega (arith, first, end-above (after p s) ss, le)) (places-within (after p s) bound ss (All-tail (λ s. 0 < s) s ss some) le)

-- SOME OF THE OBJECTS

-- some of these end no later, each list in the order of its ranks, and are no more
pub record AreFewer (size : ℕ → ℕ) (all some : List ℕ) (p q : ℕ) : Type 0 where
  pub ends : end_from p (map size some) ≤ end_from q (map size all)
  pub count : length some ≤ length all

fewer : (rank size : ℕ → ℕ) (all some : List ℕ) (low other p q : ℕ) → AreRising low (map rank all) → AreRising other (map rank some) → ((x : ℕ) → Contains some x → Contains all x) → p ≤ q → AreFewer size all some p q
fewer rank size all [] low other p q ra rs sub le = record { ends = omega (arith, end-above q (map size all), le); count = omega arith }
fewer rank size [] (y ∷ ys) low other p q ra rs sub le = absurd (omega (arith, (sub y (in-first y ys)).1))
fewer rank size (a ∷ all) (y ∷ ys) low other p q ra rs sub le = elim (cases_eq a y) [
  | inl same ↦
      let first : after p (size y) ≤ after q (size a) = subst (λ n. after p (size n) ≤ after q (size a)) same (after-rises p q (size a) le) in
      let r = fewer rank size all ys (rank a + 1) (rank y + 1) (after p (size y)) (after q (size a)) ra.1 rs.1
      (λ x c. elim (cons-cases a all x (sub x (in-rest y ys x c))) [
        | inl is ↦ absurd (let e : rank y ≡ rank x = ap rank (sym same ∙ is) in omega (arith, e, rising-above (rank y + 1) (map rank ys) (rank x) rs.1 (map-in rank ys x c)))
        | inr later ↦ later
      ])
      first in
      record { ends = r.ends; count = omega (arith, r.count) }
  | inr ne ↦
      let there : Contains all y = elim (cons-cases a all y (sub y (in-first y ys))) [ inl is ↦ absurd (ne is) | inr later ↦ later ] in
      let behind = rising-above (rank a + 1) (map rank all) (rank y) ra.1 (map-in rank all y there) in
      let r = fewer rank size all (y ∷ ys) (rank a + 1) other p (after q (size a)) ra.1 rs
      (λ x c. elim (cons-cases a all x (sub x c)) [
        | inl is ↦ elim (cons-cases y ys x c) [
          | inl first ↦ absurd (ne (is ∙ sym first))
          | inr more ↦ absurd (let e : rank a ≡ rank x = ap rank is in omega (arith, e, behind, rising-above (rank y + 1) (map rank ys) (rank x) rs.1 (map-in rank ys x more)))
        ]
        | inr later ↦ later
      ])
      (omega (arith, le, above q (size a))) in
      record { ends = r.ends; count = omega (arith, r.count) }
]

-- THE REACHED ONES

size-some : (cs : List Class) (raws : Raws) (a : ℕ) → 0 < raw_size cs raws a
size-some cs raws a = let b = size-bounds cs (raws.raw a).shape in omega (arith, b.0, b.1, b.2)

-- what is reached is an object that isn't immune
pub reached-has : (h : HeapState) (raws : Raws) (a : ℕ) → IsReached h raws a → raws.has a ≡ true
reached-has h raws a is = (and_parts (raws.has a) (is_mortal h.rows a) (reached-node h.classes h.rows raws (starts_of h.roots h.slots) a is)).0

pub reached-mortal : (h : HeapState) (raws : Raws) (a : ℕ) → IsReached h raws a → is_mortal h.rows a ≡ true
reached-mortal h raws a is = (and_parts (raws.has a) (is_mortal h.rows a) (reached-node h.classes h.rows raws (starts_of h.roots h.slots) a is)).1

back-map : (f g : ℕ → ℕ) (bound : ℕ) (ps : List ℕ) → ((p : ℕ) → p < bound → g (f p) ≡ p) → All (λ p. p < bound) ps → map g (map f ps) ≡ ps
back-map f g bound [] back all = refl
back-map f g bound (p ∷ ps) back all =
    ap (λ n. n ∷ map g (map f ps)) (back p (All-head (λ p. p < bound) p ps all)) ∙ ap (λ ns. p ∷ ns) (back-map f g bound ps back (All-tail (λ p. p < bound) p ps all))

-- the packing place of an address in the regions in use
abbrev pub rank_in : List Row → ℕ → ℕ
rank_in in_use a = place_of (regions in_use) a

pub rank-back : (h : HeapState) → IsSpace (lists_of h.regions) → (p : ℕ) → p < region_bytes * length h.regions.in_use → rank_in h.regions.in_use (address_in h.regions.in_use p) ≡ p
rank-back h space p below =
    (address-is (regions h.regions.in_use) p (regions-within (lists_of h.regions) space) (λ i under. distinct-index (regions h.regions.in_use) i (in_use-apart (lists_of h.regions) space) under)
    (omega (arith, below, length-map h.regions.in_use (λ (row : Row). row.region)))).back

pub at-place : (young : List Addr) (in_use : List Row) (ps : List ℕ) → addresses young ≡ map (address_in in_use) ps → (i : ℕ) → i < length young → i < length ps → at_of young i ≡ address_in in_use (get_or ps i 0)
at-place young in_use ps stand i below under =
    let none : Addr = record { 0 = 0 } in
    sym (get_or-map (λ (a : Addr). a.0) young i none 0 below) ∙ ap (λ ns. get_or ns i 0) stand ∙ get_or-map (address_in in_use) ps i 0 0 under

pub rising-apart : (low : ℕ) (ps : List ℕ) (i j : ℕ) → AreRising low ps → i < j → j < length ps → get_or ps i 0 < get_or ps j 0
rising-apart low [] i j rising before below = absurd (omega (arith, below))
rising-apart low (p ∷ ps) i zero rising before below = absurd (omega (arith, before))
rising-apart low (p ∷ ps) zero (suc j) rising before below = let it = rising-above (p + 1) ps (get_or ps j 0) rising.1 (Contains-get_or ps j 0 (omega (arith, below))) in omega (arith, it)
rising-apart low (p ∷ ps) (suc i) (suc j) rising before below = rising-apart (p + 1) ps i j rising.1 (omega (arith, before)) (omega (arith, below))

pub index-at : (ats : List Addr) (i : ℕ) → i < length ats → Contains (addresses ats) (at_of ats i)
index-at ats i below = let none : Addr = record { 0 = 0 } in map-in (λ (x : Addr). x.0) ats (get_or ats i none) (Contains-get_or ats i none below)

module _ (h : HeapState) (m : Memory) (t : ℕ) (raws : Raws) (young : List Addr) (large : Bits) (k : KnowsLive h m t raws young large) where
  abbrev size : ℕ → ℕ
  size a = raw_size h.classes raws a

  abbrev all : List Addr
  all = k.can.young.0

  some : (ats : List Addr) → All (λ s. 0 < s) (sizes_at h.classes raws ats)
  some ats = All-map (λ s. 0 < s) (λ (a : Addr). size a.0) ats (λ i d below. size-some h.classes raws (get_or ats i d).0)

  pub live-fewer : AreFewer size (addresses all) (addresses young) 0 0
  live-fewer =
      let are : AreYoung h raws all = k.can.young.1 in
      let in_use : List Row = h.regions.in_use in
      let bound : ℕ = region_bytes * length in_use in
      let sizes : List ℕ = sizes_at h.classes raws all in
      let back = rank-back h k.can.held.space in
      let end : end_from 0 sizes ≤ bound = omega (arith, are.packed.pack.used) in
      let all_ranks : map (rank_in in_use) (addresses all) ≡ places_from 0 sizes =
      ap (map (rank_in in_use)) are.packed.places ∙ back-map (address_in in_use) (rank_in in_use) bound (places_from 0 sizes) back (places-within 0 bound sizes (some all) end) in
      let live_ranks : map (rank_in in_use) (addresses young) ≡ k.young_are.places =
      ap (map (rank_in in_use)) k.young_are.stand ∙ back-map (address_in in_use) (rank_in in_use) bound k.young_are.places back k.young_are.within in
      fewer (rank_in in_use) size (addresses all) (addresses young) 0 0 0 0 (subst (AreRising 0) (sym all_ranks) (places-rising 0 sizes (some all))) (subst (AreRising 0) (sym live_ranks) k.young_are.rising)
      (λ x c. let it = (k.young_are.only x).0 c in (are.only x).1 (reached-has h raws x it.1, it.0))
      (omega arith)

  pub room : parts_for region_bytes (end_from 0 (sizes_at h.classes raws young)) ≤ length h.regions.in_use
  room =
      let are : AreYoung h raws all = k.can.young.1 in
      let mine = ap (end_from 0) (map-map size (λ (a : Addr). a.0) young) in
      let theirs = ap (end_from 0) (map-map size (λ (a : Addr). a.0) all) in
      omega (arith, live-fewer.ends, mine, theirs, are.packed.pack.used)

  pub few : length young ≤ h.regions.objects
  few =
      let are : AreYoung h raws all = k.can.young.1 in
      omega (arith, live-fewer.count, are.count, length-map young (λ (a : Addr). a.0), length-map all (λ (a : Addr). a.0))

  -- the live ones stand apart
  pub live-once : (i j : ℕ) → i < j → j < length young → at_of young i ≢ at_of young j
  live-once i j low below same =
      let in_use : List Row = h.regions.in_use in
      let ps : List ℕ = k.young_are.places in
      let n = ap length k.young_are.stand in
      let under : j < length ps = omega (arith, below, n, length-map young (λ (a : Addr). a.0), length-map ps (address_in in_use)) in
      let before : i < length ps = omega (arith, low, under) in
      let here = at-place young in_use ps k.young_are.stand i (omega (arith, low, below)) before in
      let there = at-place young in_use ps k.young_are.stand j below under in
      let back = rank-back h k.can.held.space in
      let p : get_or ps i 0 ≡ get_or ps j 0 =
      sym (back (get_or ps i 0) (k.young_are.within i 0 before)) ∙ ap (rank_in in_use) (sym here ∙ same ∙ there) ∙ back (get_or ps j 0) (k.young_are.within j 0 under) in
      omega (arith, p, rising-apart 0 ps i j k.young_are.rising low under)

  pub live-reached : (i : ℕ) → i < length young → (in_regions (at_of young i) ≡ true) × IsReached h raws (at_of young i)
  live-reached i below = (k.young_are.only (at_of young i)).0 (index-at young i below)

  -- what the count of their pages stands on
  pub live-young : (i : ℕ) → i < length young → IsYoungAt h.classes (view_of m t) raws (at_of young i)
  live-young i below =
      let it = live-reached i below in
      let has = reached-has h raws (at_of young i) it.1 in
      let row = row-of (lists_of h.regions) (at_of young i) (size (at_of young i)) k.can.held.space (k.can.held.rows (at_of young i) has it.0) in
      record { holds = k.can.held.holds; has = has; inside = it.0; fits = omega (arith, row.from, row.to, row.holds.most) }

  pub live-regions : parts_for region_bytes (end_from 0 (sizes_at h.classes raws young)) ≤ region_count
  live-regions = omega (arith, room, regions-few (lists_of h.regions) k.can.held.space)
