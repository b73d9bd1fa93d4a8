-- One object of the regions that is copied to the next spot of a segment.
use Rattle.std.proofs.Common.{◌≡◌, ◌≢◌, ◌∙◌, ◌⊎◌, ℕ, ◌+◌, ◌-◌, ◌%◌, ◌<◌, ◌≤◌, Bool, true, false, List, refl, sym, ap, subst, inl, inr, arith, nat_le}
use Rattle.std.specs.Prelude.{IfSome}
use Rattle.std.specs.List.{list_any}
use Rattle.std.proofs.lemmas.Bool.{and_from, and_parts, cases_Bool, cases_eq, cases_lt, le-leb, leb-true, true≢false}
use Rattle.std.proofs.lemmas.Option.{same_Some}
use Rattle.model_numbers.specs.Numbers.{region_base}
use Rattle.class_layout.specs.ClassList.{Class}
use Rattle.cow_pages.specs.Memory.{HasOneSharer, IsSound, Memory}
use Rattle.cow_pages.specs.View.{view_of}
use Rattle.heap_graph.specs.Sizes.{size_in}
use Rattle.heap_graph.specs.declared.names.Shape.{Shape}
use Rattle.object_view.specs.Changes.{pages_in, AreAlone}
use Rattle.object_view.specs.Objects as objects
use Rattle.object_view.proofs.Laid.{size-bounds}
use Rattle.page_tables.specs.Address.{page_of}
use Rattle.page_runs.specs.Covered.{covers}
use Rattle.raw_objects.specs.Keeps.{Covers, Keeps}
use Rattle.raw_objects.specs.Raws.{evacuated, raw_size, HoldsRaws, IsFreeSpace, Raw, Raws}
use Rattle.raw_objects.specs.References.{in_regions}
use Rattle.raw_objects.proofs.Uncounted.{regions-low}
use Rattle.region_lists.specs.Rows.{Lists}
use Rattle.region_space.specs.Pages.{IsObjectIn}
use Rattle.region_space.specs.Space as regions
use Rattle.region_space.proofs.LieLemmas.{any-holds}
use Rattle.object_moves.specs.Copies.{HoldsRegions, IsBesideRegions, IsYoungAt}
use Rattle.object_moves.proofs.One.{covered-page, evacuated-only, evacuated-shape, evacuated-to, row-of}
use Rattle.object_collection.proofs.Running.{filled-window}
use Rattle.zygote_space.specs.Space.{zygote_spot, HasRest, IsSegment, Places, Segment, Space}
use Rattle.object_promotion.specs.Phases.{CanPlace}

-- an address below the first region lies in none
pub below-out : (a : ℕ) → a < region_base → in_regions a ≡ false
below-out a low = elim (cases_Bool (in_regions a)) [ inl inside ↦ absurd (let high = regions-low a inside in omega (arith, low, high)) | inr out ↦ out ]

-- what covers some of so many bytes covers some of them all
pub covers-inside : (a n b k p : ℕ) → b ≤ a → a + n ≤ b + k → covers a n p ≡ true → covers b k p ≡ true
covers-inside a n b k p first last is =
    let parts = and_parts (nat_le (page_of a) p) (nat_le p (page_of (a + n - 1))) is in
    let low = leb-true (page_of a) p parts.0 in
    let high = leb-true p (page_of (a + n - 1)) parts.1 in
    and_from (nat_le (page_of b) p) (nat_le p (page_of (b + k - 1))) (le-leb (page_of b) p (omega (arith, low, first))) (le-leb p (page_of (b + k - 1)) (omega (arith, high, last)))

module _ (cs : List Class) (m : Memory) (t : ℕ) (s : Lists) (raws : Raws) (z : Space) (at : ℕ) (can : CanPlace cs m t s raws z at) where
  abbrev size : ℕ
  size = raw_size cs raws at

  abbrev to : ℕ
  to = zygote_spot can.segment.next

  segment-is : IsSegment z.fill can.segment
  segment-is = subst (λ it. IfSome it (IsSegment z.fill)) can.open_is can.space.segment

  pub size-fits : regions.IsSize size
  size-fits =
      let bounds = size-bounds cs (raws.raw at).shape in
      let row = row-of s at size can.held.space (can.held.rows at can.has can.inside) in
      record { multiple = bounds.3; least = omega (arith, bounds.0, bounds.1, bounds.2); greatest = omega (arith, row.from, row.to, row.holds.most) }

  pub young-here : IsYoungAt cs (view_of m t) raws at
  young-here = record { holds = can.held.holds; has = can.has; inside = can.inside; fits = size-fits.greatest }

  pub to-aligned : to % 8 ≡ 0
  to-aligned = let next = segment-is.next_multiple in omega (arith, next)

  -- the copy ends before the regions
  pub to-below : to + size ≤ region_base
  to-below = let bounded = segment-is.bounded in let room = can.room in omega (arith, bounded, room)

  at-high : region_base ≤ at
  at-high = regions-low at can.inside

  covers-within : (p : ℕ) → covers to size p ≡ true → covers to can.segment.rest p ≡ true
  covers-within p is = let room = can.room in covers-inside to size to can.segment.rest p (omega arith) (omega (arith, room)) is

  covered : (i : ℕ) → i < size → covers to size (page_of (to + i)) ≡ true
  covered i less =
      and_from (nat_le (page_of to) (page_of (to + i))) (nat_le (page_of (to + i)) (page_of (to + size - 1))) (le-leb (page_of to) (page_of (to + i)) (omega arith)) (le-leb (page_of (to + i)) (page_of (to + size - 1)) (omega (arith, less)))

  pub to-space : objects.IsSpace (view_of m t) to size
  to-space = record {
    below = let below = to-below in omega (arith, below);
    mapped = λ i less. can.pages.mapped (page_of (to + i)) (covers-within (page_of (to + i)) (covered i less));
  }

  pub from-space : objects.IsSpace (view_of m t) at size
  from-space = (can.held.holds.stands at can.has).space

  pub from-aligned : at % 8 ≡ 0
  from-aligned = (can.held.holds.stands at can.has).aligned

  pub apart : (at + size ≤ to) ⊎ (to + size ≤ at)
  apart = let below = to-below in let high = at-high in inr (omega (arith, below, high))

  pub to-free : IsFreeSpace cs raws to size
  to-free a has = elim (cases_lt a region_base) [
    | inl low ↦ inl (can.behind a has low)
    | inr high ↦ let below = to-below in inr (omega (arith, below, high))
  ]

  pub to-fresh : raws.has to ≡ false
  to-fresh = elim (cases_Bool (raws.has to)) [
    | inr none ↦ none
    | inl there ↦
        let bounds = size-bounds cs (raws.raw to).shape in
        let least = size-fits.least in
        elim (to-free to there) [ inl low ↦ absurd (omega (arith, low, bounds.0, bounds.1, bounds.2)) | inr high ↦ absurd (omega (arith, high, least)) ]
  ]

  pub to-alone : AreAlone m t (page_of to) (pages_in to (to + size))
  to-alone p low high = let least = size-fits.least in can.pages.alone p (covers-within p (covered-page to size p (omega (arith, least)) low high))

  pub from-alone : HasOneSharer m t (page_of at)
  from-alone =
      let here : at + 0 ≡ at = omega arith in
      let least = size-fits.least in
      can.held.alone (page_of at) (ap (λ (a : ℕ). list_any (regions.holds_page (page_of a)) (regions.filled s)) (sym here)
      ∙ any-holds (regions.filled s) at size 0 (can.held.rows at can.has can.inside).there (omega (arith, least)))

  pub has-rest : HasRest z size
  has-rest = (can.segment, can.open_is, can.room)

  to-out : in_regions to ≡ false
  to-out = let below = to-below in let least = size-fits.least in below-out to (omega (arith, below, least))

  to-other : to ≢ at
  to-other e = let below = to-below in let high = at-high in let least = size-fits.least in omega (arith, e, below, high, least)

  -- what stands once it is copied
  pub copied : (n : Memory) → Keeps m n t (λ p. true) → HoldsRaws cs (view_of n t) (evacuated raws at to) → IsSound n → HoldsRegions cs n t s (evacuated raws at to)
  copied n keeps held sound = record {
    live = keeps.live t ∙ can.held.live;
    sound = sound;
    space = can.held.space;
    pages = λ p window. keeps.mapped p ∙ can.held.pages p window;
    alone = λ p is. keeps.alone p (can.held.pages p (filled-window s p can.held.space is) ∙ is) (can.held.alone p is);
    holds = held;
    rows = λ a has inside. elim (cases_eq a to) [
      | inl e ↦ absurd (true≢false (sym inside ∙ ap in_regions e ∙ to-out))
      | inr ne ↦ subst (λ (x : Shape). IsObjectIn (regions.filled s) a (size_in cs x)) (sym (evacuated-shape raws at to a ne)) (can.held.rows a (was a has ne) inside)
    ];
    others = λ a has out. elim (cases_eq a to) [
      | inl e ↦ subst (λ (b : ℕ). IsBesideRegions b (raw_size cs (evacuated raws at to) b)) (sym e) (subst (λ (r : Raw). IsBesideRegions to (size_in cs r.shape)) (sym (evacuated-to raws at to to-other)) (inl to-below))
      | inr ne ↦ subst (λ (x : Shape). IsBesideRegions a (size_in cs x)) (sym (evacuated-shape raws at to a ne)) (can.held.others a (was a has ne) out)
    ];
  }
    where
      was : (a : ℕ) → (evacuated raws at to).has a ≡ true → a ≢ to → raws.has a ≡ true
      was a has ne = elim (evacuated-only raws at to a has) [ inl e ↦ absurd (ne e) | inr it ↦ it ]

-- what is known once the size was read, in a memory that reading left as it was
pub record Sized (cs : List Class) (m : Memory) (t : ℕ) (s : Lists) (raws : Raws) (z : Space) (at size : ℕ) : Type 0 where
  pub can : CanPlace cs m t s raws z at
  pub size_is : size ≡ raw_size cs raws at

pub sized : (cs : List Class) (old m : Memory) (t : ℕ) (s : Lists) (raws : Raws) (z : Space) (at found : ℕ) → CanPlace cs old t s raws z at → m ≡ old
    → (IsYoungAt cs (view_of old t) raws at → found ≡ raw_size cs raws at) → Sized cs m t s raws z at found
sized cs old m t s raws z at found can same size_is = record {
  can = subst (λ (x : Memory). CanPlace cs x t s raws z at) (sym same) can;
  size_is = size_is (young-here cs old t s raws z at can);
}

-- what the copy asks for
pub record Ready (cs : List Class) (m : Memory) (t : ℕ) (raws : Raws) (at size to : ℕ) : Type 0 where
  pub from_aligned : at % 8 ≡ 0
  pub to_aligned : to % 8 ≡ 0
  pub from_space : objects.IsSpace (view_of m t) at size
  pub to_space : objects.IsSpace (view_of m t) to size
  pub apart : (at + size ≤ to) ⊎ (to + size ≤ at)
  pub free : IsFreeSpace cs raws to size
  pub fresh : raws.has to ≡ false
  pub alone : AreAlone m t (page_of to) (pages_in to (to + size))
  pub from_alone : HasOneSharer m t (page_of at)

module _ (cs : List Class) (m : Memory) (t : ℕ) (s : Lists) (raws : Raws) (z : Space) (at size' : ℕ) (k : Sized cs m t s raws z at size') where
  pub sized-fits : regions.IsSize size'
  sized-fits = subst regions.IsSize (sym k.size_is) (size-fits cs m t s raws z at k.can)

  pub sized-rest : HasRest z size'
  sized-rest = subst (HasRest z) (sym k.size_is) (has-rest cs m t s raws z at k.can)

  module _ (z' : Space) (to' : ℕ) (places : Places z z' to' size') where
    to-is : to' ≡ zygote_spot k.can.segment.next
    to-is = places.spot ∙ ap (λ (g : Segment). zygote_spot g.next) (same_Some places.segment k.can.segment (sym places.was ∙ k.can.open_is))

    pub ready : Ready cs m t raws at size' to'
    ready =
        subst (λ (a : ℕ). Ready cs m t raws at size' a) (sym to-is) (subst (λ (n : ℕ). Ready cs m t raws at n (zygote_spot k.can.segment.next)) (sym k.size_is) (record {
          from_aligned = from-aligned cs m t s raws z at k.can;
          to_aligned = to-aligned cs m t s raws z at k.can;
          from_space = from-space cs m t s raws z at k.can;
          to_space = to-space cs m t s raws z at k.can;
          apart = apart cs m t s raws z at k.can;
          free = to-free cs m t s raws z at k.can;
          fresh = to-fresh cs m t s raws z at k.can;
          alone = to-alone cs m t s raws z at k.can;
          from_alone = from-alone cs m t s raws z at k.can;
        }))

    pub copied-there : (n : Memory) → ((may : ℕ → Bool) → Covers may to' size' → may (page_of at) ≡ true → Keeps m n t may)
        → (HoldsRaws cs (view_of m t) raws → raws.has at ≡ true → raw_size cs raws at ≡ size' → IsFreeSpace cs raws to' size' → HoldsRaws cs (view_of n t) (evacuated raws at to'))
        → IsSound n → HoldsRegions cs n t s (evacuated raws at to')
    copied-there n keeps held sound =
        subst (λ (a : ℕ). HoldsRegions cs n t s (evacuated raws at a)) (sym to-is)
        (copied cs m t s raws z at k.can n (keeps (λ p. true) (λ p low high. refl) refl)
        (subst (λ (a : ℕ). HoldsRaws cs (view_of n t) (evacuated raws at a)) to-is (held k.can.held.holds k.can.has (sym k.size_is) ready.free)) sound)
