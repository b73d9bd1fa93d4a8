-- Objects of the regions that are copied one after the other.
use Rattle.std.proofs.Common.{◌≡◌, ◌≢◌, ◌∙◌, ℕ, zero, suc, ◌+◌, ◌-◌, ◌/◌, ◌<◌, ◌≤◌, Bool, true, false, List, [], ◌∷◌, ◌++◌, refl, sym, ap, subst, inl, inr, arith, length, map, take, drop, get_or, All}
use Rattle.std.proofs.lemmas.Bool.{cases_eq, eq-eqb, or_cases, or_left, or_right, true≢false}
use Rattle.std.proofs.lemmas.List.{append-nil, get_or-map, get_or-set_other, get_or-set_same, length-map, map-append, take-append-drop, take_all, take_more_set}
use Rattle.std.proofs.lemmas.List.Elements.{All-cons, All-head, All-nil, All-tail, All-take}
use Rattle.std.proofs.Math.Seq.{take-suc}
use Rattle.std.specs.Prelude.{◌||◌, nat_eq, set}
use Rattle.std.specs.List.{list_any}
use Rattle.model_numbers.specs.Numbers.{region_bytes}
use Rattle.class_layout.specs.ClassList.{Class}
use Rattle.page_tables.specs.declared.address.Addr.{Addr}
use Rattle.cow_pages.specs.Memory.{Memory}
use Rattle.heap_graph.specs.Packing.{after, end_from, place, place_if, places_from}
use Rattle.heap_graph.specs.Sizes.{parts_for, size_in}
use Rattle.object_view.proofs.Laid.{size-bounds}
use Rattle.region_lists.specs.Rows.{Lists, Row}
use Rattle.region_space.specs.Packed.{address_in, end_of_rows, packed_pages, Pack}
use Rattle.page_runs.specs.Covered.{covers}
use Rattle.region_space.specs.Space.{further_pages, holds_page, with_object, would_open, IsFilled, IsSize, Places}
use Rattle.region_space.proofs.LieLemmas.{pages-grown}
use Rattle.region_space.proofs.PackLemmas.{end-more, object-stays, pack-more, pack-opens, pack-spot}
use Rattle.region_space.proofs.PackedLemmas.{packed-before, packed-rows, packed-step, used-before}
use Rattle.region_space.proofs.WalkLemmas.{in_use-filled}
use Rattle.raw_objects.specs.Raws.{evacuated, forwarded_raw, raw_size, Raws}
use Rattle.raw_objects.specs.References.{in_regions}
use Rattle.raw_objects.proofs.Raws.{at-here, at-other}
use Rattle.object_moves.specs.Copies.{at_of, moved, sizes_at, AreMoved, CanCopy, CanCopyAll, HoldsRegions, KeepsOutside, PacksAt}
use Rattle.object_moves.proofs.One.{evacuated-only, evacuated-shape, evacuated-to, row-of}

-- ONE MORE IS MOVED

evacuated-other : (raws : Raws) (from to a : ℕ) → a ≢ from → a ≢ to → (evacuated raws from to).raw a ≡ raws.raw a
evacuated-other raws from to a nf nt = at-other _ _ a from (λ r. r ≡ raws.raw a) nf (at-other (raws.raw from) (raws.raw a) a to (λ r. r ≡ raws.raw a) nt refl)

evacuated-from : (raws : Raws) (from to : ℕ) → (evacuated raws from to).raw from ≡ forwarded_raw (raws.raw from) to
evacuated-from raws from to = at-here (forwarded_raw (raws.raw from) to) _ from from (λ r. r ≡ forwarded_raw (raws.raw from) to) refl refl

evacuated-has : (raws : Raws) (from to a : ℕ) → raws.has a ≡ true → (evacuated raws from to).has a ≡ true
evacuated-has raws from to a is = or_right (nat_eq a to) (raws.has a) is

evacuated-has_to : (raws : Raws) (from to : ℕ) → (evacuated raws from to).has to ≡ true
evacuated-has_to raws from to = or_left (nat_eq to to) (raws.has to) (eq-eqb to to refl)

-- the list of new addresses counts up to k alone
moved-same : (raws : Raws) (froms tos others : List Addr) (k : ℕ) → ((j : ℕ) → j < k → at_of others j ≡ at_of tos j) → moved raws froms others k ≡ moved raws froms tos k
moved-same raws froms tos others zero same = refl
moved-same raws froms tos others (suc k) same =
    ap (λ (x : Raws). evacuated x (at_of froms k) (at_of others k)) (moved-same raws froms tos others k (λ j below. same j (omega (arith, below))))
    ∙ ap (λ (n : ℕ). evacuated (moved raws froms tos k) (at_of froms k) n) (same k (omega arith))

-- the object that moves next is as it was
next-same : (raws now : Raws) (froms tos : List Addr) (k n : ℕ) → k < n → ((i j : ℕ) → i < j → j < n → at_of froms i ≢ at_of froms j) → raws.has (at_of froms k) ≡ true → AreMoved raws now froms tos k
    → now.raw (at_of froms k) ≡ raws.raw (at_of froms k)
next-same raws now froms tos k n lt once has m = m.same (at_of froms k) has (λ i below. once i k below lt)

module _ (raws : Raws) (froms tos : List Addr) (n : ℕ) (has : (i : ℕ) → i < n → raws.has (at_of froms i) ≡ true) (once : (i j : ℕ) → i < j → j < n → at_of froms i ≢ at_of froms j) where
  pub moved-none : AreMoved raws raws froms tos 0
  moved-none = record {
    has = λ a is. is;
    only = λ a is. inl is;
    same = λ a is none. refl;
    fresh = λ i below. absurd (omega (arith, below));
    has_copy = λ i below. absurd (omega (arith, below));
    copy = λ i below. absurd (omega (arith, below));
    forwarded = λ i below. absurd (omega (arith, below));
  }

  moved-next : (k : ℕ) → k < n → (now : Raws) → AreMoved raws now froms tos k → now.has (at_of tos k) ≡ false → AreMoved raws (evacuated now (at_of froms k) (at_of tos k)) froms tos (suc k)
  moved-next k lt now m free =
      let from : ℕ = at_of froms k in
      let to : ℕ = at_of tos k in
      let here : now.raw from ≡ raws.raw from = next-same raws now froms tos k n lt once (has k lt) m in
      let new : (a : ℕ) → raws.has a ≡ true → a ≢ to = λ a is e. true≢false (sym (m.has a is) ∙ ap now.has e ∙ free) in
      let differ : (i : ℕ) → i < k → at_of tos i ≢ to = λ i below e. true≢false (sym (m.has_copy i below) ∙ ap now.has e ∙ free) in
      record {
        has = λ a is. evacuated-has now from to a (m.has a is);
        only = λ a is. elim (evacuated-only now from to a is) [
          | inl e ↦ inr (k, omega arith, sym e)
          | inr was ↦ elim (m.only a was) [ inl old ↦ inl old | inr it ↦ inr (it.0, omega (arith, it.1), it.2) ]
        ];
        same = λ a is none. evacuated-other now from to a (λ e. none k (omega arith) (sym e)) (new a is) ∙ m.same a is (λ i below. none i (omega (arith, below)));
        fresh = λ i below. elim (cases_eq i k) [
          | inl e ↦ ap (λ j. raws.has (at_of tos j)) e ∙ never (raws.has to) (λ is. true≢false (sym (m.has to is) ∙ free))
          | inr ne ↦ m.fresh i (omega (arith, below, ne))
        ];
        has_copy = λ i below. elim (cases_eq i k) [
          | inl e ↦ ap (λ j. (evacuated now from to).has (at_of tos j)) e ∙ evacuated-has_to now from to
          | inr ne ↦ evacuated-has now from to (at_of tos i) (m.has_copy i (omega (arith, below, ne)))
        ];
        copy = λ i below. elim (cases_eq i k) [
          | inl e ↦ ap (λ j. (evacuated now from to).raw (at_of tos j)) e ∙ evacuated-to now from to (λ x. new from (has k lt) (sym x)) ∙ here ∙ ap (λ j. raws.raw (at_of froms j)) (sym e)
          | inr ne ↦
              let less : i < k = omega (arith, below, ne) in
              evacuated-other now from to (at_of tos i) (λ x. true≢false (sym (has k lt) ∙ ap raws.has (sym x) ∙ m.fresh i less)) (differ i less) ∙ m.copy i less
        ];
        forwarded = λ i below. elim (cases_eq i k) [
          | inl e ↦ ap (λ j. (evacuated now from to).raw (at_of froms j)) e ∙ evacuated-from now from to ∙ ap (λ r. forwarded_raw r to) here ∙ ap (λ j. forwarded_raw (raws.raw (at_of froms j)) (at_of tos j)) (sym e)
          | inr ne ↦
              let less : i < k = omega (arith, below, ne) in
              evacuated-other now from to (at_of froms i) (once i k less lt) (new (at_of froms i) (has i (omega (arith, less, lt)))) ∙ m.forwarded i less
        ];
      }
    where
      never : (b : Bool) → (b ≡ true → ⊥) → b ≡ false
      never true fails = absurd (fails refl)
      never false fails = refl

moved-agree : (raws now : Raws) (froms tos others : List Addr) (k : ℕ) → ((j : ℕ) → j < k → at_of others j ≡ at_of tos j) → AreMoved raws now froms tos k → AreMoved raws now froms others k
moved-agree raws now froms tos others k same m = record {
  has = m.has;
  only = λ a is. elim (m.only a is) [ inl old ↦ inl old | inr it ↦ inr (it.0, it.1, same it.0 it.1 ∙ it.2) ];
  same = m.same;
  fresh = λ i below. ap raws.has (same i below) ∙ m.fresh i below;
  has_copy = λ i below. ap now.has (same i below) ∙ m.has_copy i below;
  copy = λ i below. ap now.raw (same i below) ∙ m.copy i below;
  forwarded = λ i below. m.forwarded i below ∙ ap (forwarded_raw (raws.raw (at_of froms i))) (sym (same i below));
}

-- an object that was there has its shape
pub moved-shape : (raws : Raws) (froms tos : List Addr) (k a : ℕ) → raws.has a ≡ true → ((j : ℕ) → j < k → raws.has (at_of tos j) ≡ false) → ((moved raws froms tos k).raw a).shape ≡ (raws.raw a).shape
moved-shape raws froms tos zero a is fresh = refl
moved-shape raws froms tos (suc k) a is fresh =
    evacuated-shape (moved raws froms tos k) (at_of froms k) (at_of tos k) a (λ e. true≢false (sym is ∙ ap raws.has e ∙ fresh k (omega arith)))
    ∙ moved-shape raws froms tos k a is (λ j below. fresh j (omega (arith, below)))

-- one more was moved, and its new address noted in the list
pub record MovesOn (raws : Raws) (froms tos noted : List Addr) (i to : ℕ) : Type 0 where
  pub is : evacuated (moved raws froms tos i) (at_of tos i) to ≡ moved raws froms noted (i + 1)
  pub moves : AreMoved raws (moved raws froms noted (i + 1)) froms noted (i + 1)

pub moves-on : (raws : Raws) (froms tos : List Addr) (i : ℕ) (to : Addr) → ((k : ℕ) → k < length froms → raws.has (at_of froms k) ≡ true)
    → ((k j : ℕ) → k < j → j < length froms → at_of froms k ≢ at_of froms j) → i < length froms → i < length tos → at_of tos i ≡ at_of froms i
    → AreMoved raws (moved raws froms tos i) froms tos i → (moved raws froms tos i).has to.0 ≡ false → MovesOn raws froms tos (set tos i to) i to.0
moves-on raws froms tos i to has once below there here moves free =
    let none : Addr = record { 0 = 0 } in
    let from : ℕ = at_of froms i in
    let noted : List Addr = set tos i to in
    let at : at_of noted i ≡ to.0 = ap (λ (a : Addr). a.0) (get_or-set_same tos i to none there) in
    let others : (j : ℕ) → j ≢ i → at_of noted j ≡ at_of tos j = λ j ne. ap (λ (a : Addr). a.0) (get_or-set_other tos i j to none ne) in
    let before : moved raws froms noted i ≡ moved raws froms tos i = moved-same raws froms tos noted i (λ j less. others j (omega (arith, less))) in
    let step : evacuated (moved raws froms tos i) (at_of tos i) to.0 ≡ moved raws froms noted (suc i) =
    ap (λ n. evacuated (moved raws froms tos i) n to.0) here ∙ ap (λ (x : Raws). evacuated x from to.0) (sym before) ∙ ap (evacuated (moved raws froms noted i) from) (sym at) in
    let e : i + 1 ≡ suc i = omega arith in
    let was : AreMoved raws (moved raws froms noted i) froms noted i = moved-agree raws (moved raws froms noted i) froms tos noted i (λ j less. others j (omega (arith, less))) (subst (λ (x : Raws). AreMoved raws x froms tos i) (sym before) moves) in
    let next : AreMoved raws (moved raws froms noted (suc i)) froms noted (suc i) = moved-next raws froms noted (length froms) has once i below (moved raws froms noted i) was (ap (λ (x : Raws). x.has (at_of noted i)) before ∙ ap (moved raws froms tos i).has at ∙ free) in
    record {
      is = step ∙ ap (λ (k : ℕ). moved raws froms noted k) (sym e);
      moves = subst (λ (k : ℕ). AreMoved raws (moved raws froms noted k) froms noted k) (sym e) next;
    }

-- PLACES

places-more : (p : ℕ) (sizes : List ℕ) (s : ℕ) → places_from p (sizes ++ s ∷ []) ≡ places_from p sizes ++ place (end_from p sizes) s ∷ []
places-more p [] s = refl
places-more p (x ∷ sizes) s = ap (λ ps. place p x ∷ ps) (places-more (after p x) sizes s)

place-behind : (p s : ℕ) → p ≤ place p s
place-behind p s = by (nat_eq (p / region_bytes) ((p + s - 1) / region_bytes))
  where
    by : (b : Bool) → p ≤ place_if b p
    by true = omega arith
    by false = omega arith

end-rises : (p : ℕ) (sizes : List ℕ) → p ≤ end_from p sizes
end-rises p [] = omega arith
end-rises p (s ∷ sizes) = omega (arith, place-behind p s, end-rises (after p s) sizes)

places-below : (p : ℕ) (sizes : List ℕ) → All IsSize sizes → All (λ q. q < end_from p sizes) (places_from p sizes)
places-below p [] all = All-nil (λ q. q < p)
places-below p (s ∷ sizes) all =
    All-cons (λ q. q < end_from (after p s) sizes) (place p s) (places_from (after p s) sizes)
    (omega (arith, end-rises (after p s) sizes, (All-head IsSize s sizes all).least)) (places-below (after p s) sizes (All-tail IsSize s sizes all))

stay-all : (rows : List Row) (region s : ℕ) (ps : List ℕ) → All IsFilled rows → All (λ p. p < end_of_rows rows) ps → map (address_in (with_object rows region s)) ps ≡ map (address_in rows) ps
stay-all rows region s [] filled below = refl
stay-all rows region s (p ∷ ps) filled below =
    ap (λ q. q ∷ map (address_in (with_object rows region s)) ps) (object-stays rows region s p filled (All-head (λ q. q < end_of_rows rows) p ps below))
    ∙ ap (λ qs. address_in rows p ∷ qs) (stay-all rows region s ps filled (All-tail (λ q. q < end_of_rows rows) p ps below))

-- the pages of the rows in use, with an object more
in_use-grown : (old new : Lists) (at size p : ℕ) → IsSize size → Places old new at size → list_any (holds_page p) new.in_use ≡ (list_any (holds_page p) old.in_use || covers at size p)
in_use-grown old new at size p fits places =
    let few : Lists = record old { from = [] } in
    let more : Lists = record new { from = [] } in
    let same : Places few more at size = record { region = places.region; free = places.free; in_use = places.in_use; spot = places.spot; from = refl; count = places.count } in
    ap (list_any (holds_page p)) (sym (append-nil new.in_use)) ∙ pages-grown few more at size p fits same
    ∙ ap (λ (rows : List Row). list_any (holds_page p) rows || covers at size p) (append-nil old.in_use)

-- ALL OF THEM

pub outside-both : (one two three : Memory) (t : ℕ) → KeepsOutside one two t → KeepsOutside two three t → KeepsOutside one three t
outside-both one two three t a b = record { others = λ u q off. b.others u q off ∙ a.others u q off; live = λ u. b.live u ∙ a.live u; reads = b.reads ∙ a.reads }

pub outside-none : (m : Memory) (t : ℕ) → KeepsOutside m m t
outside-none m t = record { others = λ u q off. refl; live = λ u. refl; reads = refl }

module _ (cs : List Class) (m : Memory) (t : ℕ) (s : Lists) (raws : Raws) (froms : List Addr) where
  abbrev sizes : List ℕ
  sizes = sizes_at cs raws froms

  abbrev none : Addr
  none = record { 0 = 0 }

  -- the state after the first i of them
  pub record Copying (now : Memory) (s' : Lists) (tos : List Addr) (i : ℕ) : Type 0 where
    pub held : HoldsRegions cs now t s' (moved raws froms tos i)
    pub moves : AreMoved raws (moved raws froms tos i) froms tos i
    pub pack : Pack s'.in_use (take i sizes)
    pub places : map (λ (a : Addr). a.0) (take i tos) ≡ map (address_in s'.in_use) (places_from 0 (take i sizes))
    pub covers_it : (p k : ℕ) → k < i → covers (at_of tos k) (get_or sizes k 0) p ≡ true → list_any (holds_page p) s'.in_use ≡ true
    pub covered : (p : ℕ) → list_any (holds_page p) s'.in_use ≡ true → (k : ℕ) × (k < i) × (covers (at_of tos k) (get_or sizes k 0) p ≡ true)
    pub rest : (k : ℕ) → i ≤ k → at_of tos k ≡ at_of froms k
    pub spare : packed_pages sizes ≤ now.spare + packed_pages (take i sizes)
    pub from : s'.from ≡ s.from
    pub count : s'.count ≡ s.count

  module _ (ok : CanCopyAll cs m t s raws froms) where
    -- an object of the regions has a size that packing knows
    size-young : (a : ℕ) → raws.has a ≡ true → in_regions a ≡ true → IsSize (raw_size cs raws a)
    size-young a has inside =
        let bounds = size-bounds cs (raws.raw a).shape in
        let row = row-of s a (raw_size cs raws a) ok.held.space (ok.held.rows a has inside) in
        record { multiple = bounds.3; least = omega (arith, bounds.0, bounds.1, bounds.2); greatest = omega (arith, row.from, row.to, row.holds.most) }

    sizes-fit : All IsSize sizes
    sizes-fit k d below =
        let less : k < length froms = omega (arith, below, length-map froms (λ (a : Addr). raw_size cs raws a.0)) in
        subst IsSize (sym (get_or-map (λ (a : Addr). raw_size cs raws a.0) froms k none d less)) (size-young (at_of froms k) (ok.has k less) (ok.inside k less))

    size-at : (i : ℕ) → i < length froms → get_or sizes i 0 ≡ raw_size cs raws (at_of froms i)
    size-at i below = get_or-map (λ (a : Addr). raw_size cs raws a.0) froms i none 0 below

    sizes-more : (i : ℕ) → i < length froms → take (i + 1) sizes ≡ take i sizes ++ raw_size cs raws (at_of froms i) ∷ []
    sizes-more i below =
        let less : i < length sizes = omega (arith, below, length-map froms (λ (a : Addr). raw_size cs raws a.0)) in
        let e : i + 1 ≡ suc i = omega arith in
        ap (λ n. take n sizes) e ∙ take-suc sizes i 0 less ∙ ap (λ n. take i sizes ++ n ∷ []) (size-at i below)

    pub copying-none : Copying m s froms 0
    copying-none = record {
      held = ok.held;
      moves = moved-none raws froms froms (length froms) ok.has ok.once;
      pack = subst (λ (rows : List Row). Pack rows []) (sym ok.none_yet) (record { end = refl; used = refl; fills = refl });
      places = refl;
      covers_it = λ p k less. absurd (omega (arith, less));
      covered = λ p is. absurd (true≢false (sym is ∙ ap (list_any (holds_page p)) ok.none_yet));
      rest = λ k le. refl;
      spare = omega (arith, ok.spare);
      from = refl;
      count = refl;
    }

    module _ (now : Memory) (s' : Lists) (tos : List Addr) (i : ℕ) (below : i < length froms) (c : Copying now s' tos i) where
      abbrev from : ℕ
      from = at_of froms i

      size-now : raw_size cs (moved raws froms tos i) from ≡ raw_size cs raws from
      size-now = ap (size_in cs) (moved-shape raws froms tos i from (ok.has i below) c.moves.fresh)

      -- with the rest of the sizes the first ones are all of them
      split : sizes ≡ take (i + 1) sizes ++ drop (i + 1) sizes
      split = sym (take-append-drop (i + 1) sizes)

      -- how many pages it adds, and that all of them suffice
      pages-step : packed_pages (take (i + 1) sizes) ≡ packed_pages (take i sizes) + further_pages s'.in_use (raw_size cs raws from)
      pages-step =
          let size = size-young from (ok.has i below) (ok.inside i below) in
          let more : Pack (with_object s'.in_use 0 (raw_size cs raws from)) (take (i + 1) sizes) =
          subst (Pack (with_object s'.in_use 0 (raw_size cs raws from))) (sym (sizes-more i below)) (pack-more s'.in_use (take i sizes) 0 (raw_size cs raws from) c.pack size) in
          sym (packed-rows _ _ more) ∙ packed-step s'.in_use 0 (raw_size cs raws from) ∙ ap (λ n. n + further_pages s'.in_use (raw_size cs raws from)) (packed-rows s'.in_use (take i sizes) c.pack)

      pages-most : packed_pages (take (i + 1) sizes) ≤ packed_pages sizes
      pages-most = subst (λ (xs : List ℕ). packed_pages (take (i + 1) sizes) ≤ packed_pages xs) (sym split) (packed-before (take (i + 1) sizes) (drop (i + 1) sizes) (All-take IsSize (i + 1) sizes sizes-fit))

      -- the next one can be copied
      pub copying-can : CanCopy cs now t s' (moved raws froms tos i) (at_of tos i)
      copying-can =
          let here : at_of tos i ≡ from = c.rest i (omega arith) in
          let opens = pack-opens s'.in_use (take i sizes) (raw_size cs raws from) c.pack (size-young from (ok.has i below) (ok.inside i below)) in
          let end : end_from 0 (take (i + 1) sizes) ≡ after (end_from 0 (take i sizes)) (raw_size cs raws from) = ap (end_from 0) (sizes-more i below) ∙ end-more 0 (take i sizes) (raw_size cs raws from ∷ []) in
          let parts : parts_for region_bytes (end_from 0 (take (i + 1) sizes)) ≡ parts_for region_bytes (end_from 0 (take i sizes)) + would_open s'.in_use (raw_size cs raws from) = ap (parts_for region_bytes) end ∙ opens in
          let most : parts_for region_bytes (end_from 0 (take (i + 1) sizes)) ≤ parts_for region_bytes (end_from 0 sizes) = subst (λ (xs : List ℕ). parts_for region_bytes (end_from 0 (take (i + 1) sizes)) ≤ parts_for region_bytes (end_from 0 xs)) (sym split) (used-before (take (i + 1) sizes) (drop (i + 1) sizes)) in
          let opened : would_open s'.in_use (raw_size cs (moved raws froms tos i) from) ≡ would_open s'.in_use (raw_size cs raws from) = ap (would_open s'.in_use) size-now in
          let lists : length s'.from ≡ length s.from = ap (λ (rows : List Row). length rows) c.from in
          let pages : further_pages s'.in_use (raw_size cs (moved raws froms tos i) from) ≡ further_pages s'.in_use (raw_size cs raws from) = ap (further_pages s'.in_use) size-now in
          let can : CanCopy cs now t s' (moved raws froms tos i) from = record {
            held = c.held;
            has = c.moves.has from (ok.has i below);
            inside = ok.inside i below;
            room = omega (arith, opened, parts, most, c.pack.used, lists, c.count, ok.room);
            spare = omega (arith, pages, pages-step, pages-most, c.spare);
          } in
          subst (CanCopy cs now t s' (moved raws froms tos i)) (sym here) can

      pub copying-next : (new : Memory) (s2 : Lists) (to : Addr) → HoldsRegions cs new t s2 (evacuated (moved raws froms tos i) (at_of tos i) to.0) → (moved raws froms tos i).has to.0 ≡ false
          → Places s' s2 to.0 (raw_size cs (moved raws froms tos i) (at_of tos i)) → now.spare ≤ new.spare + further_pages s'.in_use (raw_size cs (moved raws froms tos i) (at_of tos i)) → i < length tos
          → Copying new s2 (set tos i to) (i + 1)
      copying-next new s2 to held free places' spare' there =
          let size : ℕ = raw_size cs raws from in
          let fits = size-young from (ok.has i below) (ok.inside i below) in
          let here : at_of tos i ≡ from = c.rest i (omega arith) in
          let is : raw_size cs (moved raws froms tos i) (at_of tos i) ≡ size = ap (raw_size cs (moved raws froms tos i)) here ∙ size-now in
          let places : Places s' s2 to.0 size = subst (Places s' s2 to.0) is places' in
          let tos' : List Addr = set tos i to in
          let at : at_of tos' i ≡ to.0 = ap (λ (a : Addr). a.0) (get_or-set_same tos i to none there) in
          let others : (j : ℕ) → j ≢ i → at_of tos' j ≡ at_of tos j = λ j ne. ap (λ (a : Addr). a.0) (get_or-set_other tos i j to none ne) in
          let on = moves-on raws froms tos i to ok.has ok.once below there here c.moves free in
          let rows : s2.in_use ≡ with_object s'.in_use places.region size = places.in_use in
          let spot : to.0 ≡ address_in s2.in_use (place (end_from 0 (take i sizes)) size) =
          places.spot ∙ pack-spot s'.in_use (take i sizes) places.region size c.pack fits ∙ ap (λ (xs : List Row). address_in xs (place (end_from 0 (take i sizes)) size)) (sym rows) in
          let stay : map (address_in s'.in_use) (places_from 0 (take i sizes)) ≡ map (address_in s2.in_use) (places_from 0 (take i sizes)) =
          sym (stay-all s'.in_use places.region size (places_from 0 (take i sizes)) (in_use-filled s' c.held.space)
          (subst (λ (n : ℕ). All (λ q. q < n) (places_from 0 (take i sizes))) (sym c.pack.end) (places-below 0 (take i sizes) (All-take IsSize i sizes sizes-fit))))
          ∙ ap (λ (xs : List Row). map (address_in xs) (places_from 0 (take i sizes))) (sym rows) in
          let pages-new : (p : ℕ) → list_any (holds_page p) s2.in_use ≡ (list_any (holds_page p) s'.in_use || covers to.0 size p) = λ p. in_use-grown s' s2 to.0 size p fits places in
          let ps : places_from 0 (take (i + 1) sizes) ≡ places_from 0 (take i sizes) ++ place (end_from 0 (take i sizes)) size ∷ [] = ap (places_from 0) (sizes-more i below) ∙ places-more 0 (take i sizes) size in
          record {
            held = subst (HoldsRegions cs new t s2) on.is held;
            moves = on.moves;
            pack = subst (λ (xs : List Row). Pack xs (take (i + 1) sizes)) (sym rows) (subst (Pack (with_object s'.in_use places.region size)) (sym (sizes-more i below)) (pack-more s'.in_use (take i sizes) places.region size c.pack fits));
            places =
                ap (map (λ (a : Addr). a.0)) (take_more_set tos i to there) ∙ map-append (λ (a : Addr). a.0) (take i tos) (to ∷ [])
                ∙ ap (λ (xs : List ℕ). xs ++ to.0 ∷ []) (c.places ∙ stay) ∙ ap (λ n. map (address_in s2.in_use) (places_from 0 (take i sizes)) ++ n ∷ []) spot
                ∙ sym (ap (map (address_in s2.in_use)) ps ∙ map-append (address_in s2.in_use) (places_from 0 (take i sizes)) (place (end_from 0 (take i sizes)) size ∷ []));
            covers_it = λ p k less is2. pages-new p ∙ elim (cases_eq k i) [
              | inl e2 ↦ or_right (list_any (holds_page p) s'.in_use) (covers to.0 size p)
                  (sym (ap (λ n. covers n (get_or sizes k 0) p) (ap (at_of tos') e2 ∙ at) ∙ ap (λ n. covers to.0 n p) (ap (λ j. get_or sizes j 0) e2 ∙ size-at i below)) ∙ is2)
              | inr ne ↦ or_left (list_any (holds_page p) s'.in_use) (covers to.0 size p) (c.covers_it p k (omega (arith, less, ne)) (sym (ap (λ n. covers n (get_or sizes k 0) p) (others k ne)) ∙ is2))
            ];
            covered = λ p is2. elim (or_cases (list_any (holds_page p) s'.in_use) (covers to.0 size p) (sym (pages-new p) ∙ is2)) [
              | inl old ↦
                  let it = c.covered p old in
                  (it.0, omega (arith, it.1), ap (λ n. covers n (get_or sizes it.0 0) p) (others it.0 (λ same. omega (arith, it.1, same))) ∙ it.2)
              | inr new' ↦ (i, omega arith, ap (λ n. covers n (get_or sizes i 0) p) at ∙ ap (λ n. covers to.0 n p) (size-at i below) ∙ new')
            ];
            rest = λ k le. others k (omega (arith, le)) ∙ c.rest k (omega (arith, le));
            spare =
                let pages : further_pages s'.in_use (raw_size cs (moved raws froms tos i) (at_of tos i)) ≡ further_pages s'.in_use size = ap (further_pages s'.in_use) is in
                omega (arith, pages, pages-step, c.spare, spare');
            from = places.from ∙ c.from;
            count = places.count ∙ c.count;
          }

    pub copying-all : (now : Memory) (s' : Lists) (tos : List Addr) → length tos ≡ length froms → Copying now s' tos (length froms) → PacksAt s'.in_use sizes tos
    copying-all now s' tos same c =
        let whole : take (length froms) sizes ≡ sizes = take_all (length froms) sizes (omega (arith, length-map froms (λ (a : Addr). raw_size cs raws a.0))) in
        record {
          pack = subst (Pack s'.in_use) whole c.pack;
          each = λ p i less is. c.covers_it p i (omega (arith, less, same)) is;
          covered = λ p is. let it = c.covered p is in (it.0, omega (arith, it.1, same), it.2);
          places = ap (map (λ (a : Addr). a.0)) (sym (take_all (length froms) tos (omega (arith, same)))) ∙ c.places ∙ ap (λ (xs : List ℕ). map (address_in s'.in_use) (places_from 0 xs)) whole;
        }
