-- The objects that are left are held once the from regions and the rows that go were released.
use Rattle.std.proofs.Common.{◌≡◌, ◌≢◌, ◌∙◌, ◌⊎◌, ◌||◌, ℕ, ◌+◌, ◌-◌, ◌/◌, ◌<◌, ◌≤◌, inl, inr, Bool, true, false, List, [], ◌++◌, Option, Some, None, All, filter, get_or, length, map, nat_eq, nat_le, nat_lt, refl, sym, ap, subst, arith, is_some}
use Rattle.std.specs.Prelude.{not, IsTrue}
use Rattle.std.specs.List.{list_any, Contains, IsDistinct}
use Rattle.std.proofs.lemmas.Bool.{and_from, and_parts, cases_order, eq-eqb, le-leb, or_cases, or_left, or_right, true≢false}
use Rattle.std.proofs.lemmas.List.{append-nil}
use Rattle.std.proofs.lemmas.List.Elements.{Contains-append_left, Contains-append_right}
use Rattle.std.proofs.lemmas.List.Folds.{list_any-append}
use borrow.Author.Tests.{leb-true, ltb-true}
use Rattle.class_layout.specs.ClassList.{Class}
use Rattle.page_tables.specs.declared.address.Addr.{Addr}
use Rattle.page_tables.specs.declared.address.Window.TheVariants.{Large}
use Rattle.page_tables.specs.Address.{is_in, page_of}
use Rattle.cow_pages.specs.Memory.{is_live, IsSound, Memory}
use Rattle.cow_pages.specs.Only.{OnlyTable}
use Rattle.cow_pages.specs.View.{view_of}
use Rattle.cow_pages.proofs.ViewLemmas.{byte-page, mapped-page}
use Rattle.heap_graph.specs.Sizes.{size_in}
use Rattle.raw_objects.specs.Raws.{among, raw_size, HoldsRaws, Raw, Raws}
use Rattle.raw_objects.specs.References.{in_regions, turned_where}
use Rattle.raw_objects.proofs.Paging.{raws-among, raws-gone}
use Rattle.region_lists.specs.Rows.{Lists, Row}
use Rattle.region_lists.proofs.MoveLemmas.{apart-parts, distinct-left}
use Rattle.region_space.specs.Pages.{lies_in, IsObjectIn}
use Rattle.region_space.specs.Space.{filled, lists_of, IsFilled, IsSpace, Space}
use Rattle.region_space.specs.Space.{HasPages as HasRegionPages}
use Rattle.region_space.specs.Space.{holds_page as region_page}
use Rattle.region_space.proofs.DropLemmas.{from-window, held-run}
use Rattle.region_space.proofs.LieLemmas.{any-holds}
use Rattle.region_space.proofs.PageLemmas.{inside}
use Rattle.large_objects.specs.declared.rows.LargeRow.{LargeRow}
use Rattle.large_objects.specs.Pages.{holds_page}
use Rattle.large_objects.specs.Rows.{row_at, slot_base, waits, IsBytes}
use Rattle.large_objects.proofs.TableLemmas.{row-spot}
use Rattle.image_space.specs.Space.{pages_up_to}
use Rattle.live_objects.specs.Live.{addresses}
use Rattle.live_objects.specs.Reach.{in_large, is_mortal, waits_in}
use Rattle.live_objects.proofs.YoungLemmas.{map-in}
use Rattle.object_moves.specs.Copies.{at_of, moved, sizes_at, HoldsRegions}
use Rattle.object_collection.specs.Collects.{CanCollect, HeapState, IsKept}
use Rattle.object_collection.specs.Phases.{goes_by, stays_by, HaveMoved, IsPlan, Listed, LosesPages}
use Rattle.object_collection.proofs.Dropping.{dead-window, mapped-alone, windows-apart}
use Rattle.object_collection.proofs.Facts.{all-at, any-at, any-of, filter-from}
use Rattle.object_collection.proofs.Marked.{row-found-at}
use Rattle.object_collection.proofs.Nulled.{null}
use Rattle.object_collection.proofs.PageLemmas.{size-at}
use Rattle.object_collection.proofs.Running.{filled-window, get-in}

not-so : (b : Bool) → (b ≡ true → ⊥) → b ≡ false
not-so true fails = absurd (fails refl)
not-so false fails = refl

both-so : (b : Bool) → b ≡ true → b ≡ false → ⊥
both-so b e f = true≢false (sym e ∙ f)

off-of : (b : Bool) → not b ≡ true → b ≡ false
off-of true e = sym e
off-of false e = refl

-- a page of a row lies in the row's region
page-region : (row : Row) (p : ℕ) → IsFilled row → region_page p row ≡ true → (p - 262144) / 64 ≡ row.region
page-region row p filled is = let here = held-run row p is in let most = filled.most in omega (arith, here.from, here.to, most)

-- no page is one of a region in use and of a from region
pub rows-apart : (s : Lists) (p : ℕ) → IsSpace s → list_any (region_page p) s.in_use ≡ true → list_any (region_page p) s.from ≡ true → ⊥
rows-apart s p space one two =
    let regions = λ (rows : List Row). map (λ (row : Row). row.region) rows in
    let both : IsDistinct nat_eq (regions s.in_use ++ regions s.from) = distinct-left (regions s.in_use ++ regions s.from) s.free space.lists.apart in
    let apart : All (λ (k : ℕ). All (λ (n : ℕ). n ≢ k) (regions s.in_use)) (regions s.from) = apart-parts (regions s.in_use) (regions s.from) both in
    let a = any-at (region_page p) s.in_use one in
    let b = any-at (region_page p) s.from two in
    let fills = λ (row : Row) (any : Contains (filled s) row). all-at IsFilled (filled s) row space.filled any in
    let same : a.0.region ≡ b.0.region = sym (page-region a.0 p (fills a.0 (Contains-append_left s.in_use s.from a.0 a.1)) a.2) ∙ page-region b.0 p (fills b.0 (Contains-append_right s.in_use s.from b.0 b.1)) b.2 in
    all-at (λ (n : ℕ). n ≢ b.0.region) (regions s.in_use) a.0.region (all-at (λ (k : ℕ). All (λ (n : ℕ). n ≢ k) (regions s.in_use)) (regions s.from) b.0.region apart (map-in (λ (row : Row). row.region) s.from b.0 b.1)) (map-in (λ (row : Row). row.region) s.in_use a.0 a.1) same

module _ (h : HeapState) (m : Memory) (t : ℕ) (raws : Raws) (plan : Listed) (can : CanCollect h m t raws) (ok : IsPlan h m raws plan) (tos : List Addr) (test is_left : ℕ → Bool) where
  abbrev cs : List Class
  cs = h.classes

  abbrev young : List Addr
  young = plan.young

  abbrev cleared : Raws
  cleared = null h m t raws plan can ok

  abbrev now : Raws
  now = moved cleared young tos (length young)

  abbrev left : Raws
  left = among (turned_where now test) is_left

  -- what is left is a copy, or a kept object outside the regions
  abbrev pub Stays : ℕ → Type 0
  Stays b = ((i : ℕ) × (i < length young) × (at_of tos i ≡ b)) ⊎ (IsKept h raws b × (in_regions b ≡ false))

  -- THE ROWS THAT GO

  -- a row that goes isn't promoted
  goes-waits : (row : LargeRow) → goes_by plan.large row ≡ true → waits row ≡ true
  goes-waits row is = ap not (not-so row.promoted (λ promoted. both-so (stays_by plan.large row) (or_left row.promoted (list_any (nat_eq (slot_base row.slot)) (addresses plan.large)) promoted) (off-of (stays_by plan.large row) is)))

  -- and its object isn't kept
  goes-lost : (row : LargeRow) → Contains h.rows row → goes_by plan.large row ≡ true → in_regions (slot_base row.slot) ≡ false → IsKept h raws (slot_base row.slot) → ⊥
  goes-lost row c is out kept =
      let s : ℕ = slot_base row.slot in
      elim kept.stays [
        | inl immune ↦ both-so (is_mortal h.rows s) (or_right (in_regions s) (waits_in (row_at h.rows s)) (ap waits_in (row-found-at h.rows row can.large.rows c) ∙ goes-waits row is)) immune
        | inr r ↦
            let any : list_any (nat_eq s) (addresses plan.large) ≡ true = any-of (nat_eq s) (addresses plan.large) s ((ok.large.only s).1 (out, r)) (eq-eqb s s refl) in
            both-so (stays_by plan.large row) (or_right row.promoted (list_any (nat_eq s) (addresses plan.large)) any) (off-of (stays_by plan.large row) is)
      ]

  -- a kept object has no byte in the pages of a row that goes
  beside-row : (b k : ℕ) (row : LargeRow) → IsKept h raws b → in_regions b ≡ false → k < raw_size cs raws b
      → Contains h.rows row → goes_by plan.large row ≡ true → holds_page (page_of (b + k)) row ≡ true → is_in Large (page_of (b + k)) ≡ true → ⊥
  beside-row b k row kept out less c goes holds window =
      let s : ℕ = slot_base row.slot in
      let q : ℕ = page_of (b + k) in
      let its = can.large.has row c in
      let most : row.bytes ≤ 1048576 = (all-at (λ (r : LargeRow). IsBytes r.bytes) h.rows row can.large.rows.bytes c).most in
      let parts = and_parts (nat_le (page_of s) q) (nat_lt q (page_of s + pages_up_to row.bytes)) holds in
      let low : page_of s ≤ q = leb-true (page_of s) q parts.0 in
      let high : q < page_of s + pages_up_to row.bytes = ltb-true q (page_of s + pages_up_to row.bytes) parts.1 in
      let within = and_parts (nat_le 524288 q) (nat_lt q 655360) window in
      elim (cases_order b s) [
        | inl same ↦ goes-lost row c goes (ap in_regions (sym same) ∙ out) (subst (λ (n : ℕ). IsKept h raws n) same kept)
        | inr o ↦ elim o [
          | inl before ↦ let apart = can.held.holds.apart b s kept.has its.0 before in omega (arith, apart, less, low)
          | inr behind ↦
              let large : in_large b ≡ true = inside 524288 655360 (page_of b) (omega (arith, behind)) (omega (arith, ltb-true q 655360 within.1)) in
              another (row_at h.rows b) refl (can.large.only b kept.has large) behind most high
        ]
      ]
    where
      another : (o : Option LargeRow) → row_at h.rows b ≡ o → IsTrue (is_some (row_at h.rows b)) → slot_base row.slot < b → row.bytes ≤ 1048576 → page_of (b + k) < page_of (slot_base row.slot) + pages_up_to row.bytes → ⊥
      another None e some behind most high = true≢false (sym some ∙ ap (λ (o : Option LargeRow). is_some o) e)
      another (Some other) e some behind most high = let at = row-spot h.rows b other e in omega (arith, at, behind, most, high)

  module _ (m2 m3 m4 : Memory) (s2 s4 : Space) (moves : HaveMoved cs m2 t s2 cleared young tos) (same-length : length tos ≡ length young) where
    -- what was released
    abbrev gone : ℕ → Bool
    gone p = list_any (region_page p) s2.from || list_any (holds_page p) (filter (goes_by plan.large) h.rows)

    copy-size : (i : ℕ) → i < length young → get_or (sizes_at cs cleared young) i 0 ≡ raw_size cs now (at_of tos i)
    copy-size i below = size-at cs cleared young i below ∙ sym (ap (λ (r : Raw). size_in cs r.shape) (moves.moves.copy i below))

    -- the pages of the copies are those of regions in use
    copy-in_use : (i k : ℕ) → i < length young → k < raw_size cs now (at_of tos i) → list_any (region_page (page_of (at_of tos i + k))) s2.in_use ≡ true
    copy-in_use i k below less =
        let at : ℕ = at_of tos i in
        let p : ℕ = page_of (at + k) in
        let size : ℕ = get_or (sizes_at cs cleared young) i 0 in
        let is = copy-size i below in
        let low : page_of at ≤ p = omega arith in
        let high : p ≤ page_of (at + size - 1) = omega (arith, is, less) in
        moves.packed.each p i (subst (λ (n : ℕ). i < n) (sym same-length) below) (and_from (nat_le (page_of at) p) (nat_le p (page_of (at + size - 1))) (le-leb (page_of at) p low) (le-leb p (page_of (at + size - 1)) high))

    in_use-filled : (p : ℕ) → list_any (region_page p) s2.in_use ≡ true → list_any (region_page p) (filled (lists_of s2)) ≡ true
    in_use-filled p is = list_any-append (region_page p) s2.in_use s2.from ∙ or_left (list_any (region_page p) s2.in_use) (list_any (region_page p) s2.from) is

    copy-off : (i k : ℕ) → i < length young → k < raw_size cs now (at_of tos i) → gone (page_of (at_of tos i + k)) ≡ true → ⊥
    copy-off i k below less is =
        let p : ℕ = page_of (at_of tos i + k) in
        let mine = copy-in_use i k below less in
        elim (or_cases (list_any (region_page p) s2.from) (list_any (holds_page p) (filter (goes_by plan.large) h.rows)) is) [
          | inl from ↦ rows-apart (lists_of s2) p moves.held.space mine from
          | inr large ↦ windows-apart p (filled-window (lists_of s2) p moves.held.space (in_use-filled p mine)) (dead-window h.rows (goes_by plan.large) p can.large.rows large)
        ]

    unmoved : (b : ℕ) → raws.has b ≡ true → in_regions b ≡ false → now.raw b ≡ cleared.raw b
    unmoved b has out = moves.moves.same b has (λ i below same. both-so (in_regions b) (subst (λ (n : ℕ). in_regions n ≡ true) same ((ok.young.only (at_of young i)).0 (get-in young i below)).0) out)

    outside-off : (b k : ℕ) → IsKept h raws b → in_regions b ≡ false → k < raw_size cs now b → gone (page_of (b + k)) ≡ true → ⊥
    outside-off b k kept out less is =
        let p : ℕ = page_of (b + k) in
        elim (or_cases (list_any (region_page p) s2.from) (list_any (holds_page p) (filter (goes_by plan.large) h.rows)) is) [
          | inl from ↦
              let parts = and_parts (nat_le 262144 p) (nat_lt p 327680) (from-window (lists_of s2) p moves.held.space from) in
              let low = leb-true 262144 p parts.0 in
              let high = ltb-true p 327680 parts.1 in
              elim (moves.held.others b (moves.moves.has b kept.has) out) [ inl before ↦ omega (arith, before, less, low) | inr behind ↦ omega (arith, behind, high) ]
          | inr large ↦
              let it = any-at (holds_page p) (filter (goes_by plan.large) h.rows) large in
              let row = filter-from (goes_by plan.large) h.rows it.0 it.1 in
              let size : raw_size cs now b ≡ raw_size cs raws b = ap (λ (r : Raw). size_in cs r.shape) (unmoved b kept.has out) in
              beside-row b k it.0 kept out (subst (λ (n : ℕ). k < n) size less) row.0 row.1 it.2 (dead-window h.rows (goes_by plan.large) p can.large.rows large)
        ]

    module _ (cases : (b : ℕ) → left.has b ≡ true → Stays b) where
      left-off : (p : ℕ) → gone p ≡ true → (b k : ℕ) → left.has b ≡ true → k < raw_size cs left b → page_of (b + k) ≡ p → ⊥
      left-off p is b k has less at =
          let there : gone (page_of (b + k)) ≡ true = ap gone at ∙ is in
          elim (cases b has) [
            | inl it ↦ copy-off it.0 k it.1 (subst (λ (n : ℕ). k < raw_size cs now n) (sym it.2) less) (subst (λ (n : ℕ). gone (page_of (n + k)) ≡ true) (sym it.2) there)
            | inr it ↦ outside-off b k it.0 it.1 less there
          ]

      pub held-left : IsTrue (is_live m3 t) → HoldsRaws cs (view_of m3 t) (turned_where now test) → LosesPages m3 m4 t gone → OnlyTable m2 m4 t → IsSound m4 → IsSpace (lists_of s4) → HasRegionPages m4 t (filled (lists_of s4))
          → s4.in_use ≡ s2.in_use → s4.from ≡ [] → HoldsRegions cs m4 t (lists_of s4) left
      held-left live turned loses only sound space pages in_use from = record {
        live = loses.live t ∙ live;
        sound = sound;
        space = space;
        pages = pages;
        alone = λ p any.
            let here : list_any (region_page p) s2.in_use ≡ true = ap (λ (rows : List Row). list_any (region_page p) rows) (sym rows-are) ∙ any in
            mapped-alone m2 m4 t p only (moves.held.alone p (in_use-filled p here)) (pages p (filled-window (lists_of s4) p space any) ∙ any);
        holds = raws-gone cs (view_of m3 t) (view_of m4 t) left gone (raws-among cs (view_of m3 t) (turned_where now test) is_left turned) left-off
            (λ at none. let same = loses.others t (page_of at) (inr none) in (byte-page m3 m4 t t at same, mapped-page m3 m4 t t at same));
        rows = λ b has young. subst (λ (rows : List Row). IsObjectIn rows b (raw_size cs left b)) (sym rows-are) (lies b has young);
        others = λ b has out. moves.held.others b (and_parts (now.has b) (is_left b) has).0 out;
      }
        where
          rows-are : filled (lists_of s4) ≡ s2.in_use
          rows-are = ap (λ (rows : List Row). rows ++ s4.from) in_use ∙ ap (λ (rows : List Row). s2.in_use ++ rows) from ∙ append-nil s2.in_use

          lies : (b : ℕ) → left.has b ≡ true → in_regions b ≡ true → IsObjectIn s2.in_use b (raw_size cs left b)
          lies b has young' =
              let parts = and_parts (now.has b) (is_left b) has in
              let object = moves.held.rows b parts.0 young' in
              let size : ℕ = raw_size cs now b in
              record {
                some = object.some;
                there = elim (or_cases (list_any (lies_in b size) s2.in_use) (list_any (lies_in b size) s2.from) (sym (list_any-append (lies_in b size) s2.in_use s2.from) ∙ object.there)) [
                  | inl here ↦ here
                  | inr old ↦ absurd (elim (cases b has) [
                    | inr it ↦ both-so (in_regions b) young' it.1
                    | inl it ↦
                        let mine = copy-in_use it.0 0 it.1 (subst (λ (n : ℕ). 0 < raw_size cs now n) (sym it.2) object.some) in
                        rows-apart (lists_of s2) (page_of (b + 0)) moves.held.space (subst (λ (n : ℕ). list_any (region_page (page_of (n + 0))) s2.in_use ≡ true) it.2 mine) (any-holds s2.from b size 0 old object.some)
                  ])
                ];
              }
