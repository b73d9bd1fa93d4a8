-- What stands once a segment is opened: the objects can be copied to it.
use Rattle.std.proofs.Common.{◌≡◌, ◌≢◌, ◌∙◌, ◌⊎◌, ℕ, ◌+◌, ◌-◌, ◌*◌, ◌<◌, ◌≤◌, inl, inr, true, false, List, ◌++◌, All, Option, Some, get_or, length, nat_le, nat_lt, sum, sym, ap, subst, arith, is_some}
use Rattle.std.specs.Prelude.{IfSome}
use Rattle.std.proofs.lemmas.Bool.{and_from, and_parts, le-leb, leb-true, true≢false}
use Rattle.std.proofs.lemmas.List.{append-nil, get_or-map, length-map}
use Rattle.model_numbers.specs.Numbers.{region_bytes}
use Rattle.class_layout.specs.ClassList.{Class}
use Rattle.page_tables.specs.declared.address.Addr.{Addr}
use Rattle.page_tables.specs.declared.address.Window.TheVariants.{Regions, Zygote}
use Rattle.page_tables.specs.Address.{first_page, is_in, page_of}
use Rattle.cow_pages.specs.Memory.{is_mapped, Memory, Page}
use Rattle.cow_pages.specs.Only.{OnlyTable}
use Rattle.cow_pages.specs.View.{view_of}
use Rattle.heap_graph.specs.Packing.{end_from, places_from}
use Rattle.image_space.specs.Space.{pages_up_to}
use Rattle.object_view.proofs.Laid.{size-bounds}
use Rattle.page_runs.specs.Runs.{IsBeside, IsInRun}
use Rattle.page_runs.proofs.RunLemmas.{run-only, side}
use Rattle.raw_objects.specs.Raws.{raw_size, Raws}
use Rattle.raw_objects.specs.References.{in_regions}
use Rattle.raw_objects.proofs.Paging.{raws-run}
use Rattle.region_lists.specs.Rows.{Row}
use Rattle.region_space.specs.Pages.{IsObjectIn}
use Rattle.region_space.specs.Space.{lists_of}
use Rattle.object_moves.specs.Copies.{at_of, sizes_at, HoldsRegions}
use Rattle.object_collection.specs.Collects.{AreYoung, CanCollect, HeapState}
use Rattle.object_collection.specs.Phases.{Turning}
use Rattle.object_collection.proofs.Dropping.{mapped-alone}
use Rattle.object_collection.proofs.Room.{at-place, places-rising, places-within, rank-back, rank_in, rising-apart}
use Rattle.object_collection.proofs.Running.{filled-window, get-in, places-length}
use Rattle.zygote_space.specs.Space.{segment_behind, to_page, zygote_spot, IsSegment, Space}
use Rattle.object_promotion.specs.Listed.{ArePacked}
use Rattle.object_promotion.specs.Promotes.{in_segment}
use Rattle.object_promotion.specs.Phases.{CanPlaceAll, HasOwnPages, IsOpened}

-- the objects of the regions, for the walk
pub packed-there : (h : HeapState) (m : Memory) (t : ℕ) (raws : Raws) (young : List Addr) → CanCollect h m t raws → AreYoung h raws young → ArePacked h.classes (view_of m t) h.regions raws young
packed-there h m t raws young can are =
    let found = λ (i : ℕ) (below : i < length young). (are.only (at_of young i)).0 (get-in young i below) in
    record {
      holds = can.held.holds;
      space = can.held.space;
      has = λ i below. (found i below).0;
      inside = λ i below. (found i below).1;
      rows = λ i below. subst (λ (rows : List Row). IsObjectIn rows (at_of young i) (raw_size h.classes raws (at_of young i)))
          (ap (λ (rows : List Row). h.regions.in_use ++ rows) are.no_from ∙ append-nil h.regions.in_use) (can.held.rows (at_of young i) (found i below).0 (found i below).1);
      packed = are.packed;
      count = are.count;
      half = are.half;
    }

module _ (h : HeapState) (m m1 : Memory) (t : ℕ) (raws : Raws) (z z1 : Space) (plan : Turning) (ok : IsOpened h m m1 t raws z z1 plan) where
  abbrev cs : List Class
  cs = h.classes

  abbrev young : List Addr
  young = plan.young

  abbrev pub sizes : List ℕ
  sizes = sizes_at h.classes raws plan.young

  abbrev pub total : ℕ
  total = sum sizes

  abbrev can : CanCollect h m t raws
  can = ok.can.can

  abbrev pub first : ℕ
  first = first_page Zygote + pages_up_to z.fill

  pub young-there : (i : ℕ) → i < length young → (raws.has (at_of young i) ≡ true) × (in_regions (at_of young i) ≡ true)
  young-there i below = (ok.plan_is.young.only (at_of young i)).0 (get-in young i below)

  segment-is : IsSegment z1.fill (segment_behind z.fill total)
  segment-is = subst (λ it. IfSome it (IsSegment z1.fill)) ok.opens.segment ok.space.segment

  pub bounded : to_page z.fill + total ≤ 268435456
  bounded = segment-is.bounded

  -- the pages of the segment are those of the run
  pub in-run : (p : ℕ) → in_segment z.fill total p ≡ true → IsInRun first (pages_up_to total) p
  in-run p is =
      let a : ℕ = zygote_spot (to_page z.fill) in
      let parts = and_parts (nat_le (page_of a) p) (nat_le p (page_of (a + total - 1))) is in
      let low = leb-true (page_of a) p parts.0 in
      let high = leb-true p (page_of (a + total - 1)) parts.1 in
      record { from = omega (arith, low); to = omega (arith, low, high) }

  pub beside-run : (u q : ℕ) → (u ≢ t) ⊎ (in_segment z.fill total q ≡ false) → IsBeside t first (pages_up_to total) u q
  beside-run u q (inl ne) = inl ne
  beside-run u q (inr off) = elim (side t first (pages_up_to total) u q) [
    | inl beside ↦ beside
    | inr run ↦
        let a : ℕ = zygote_spot (to_page z.fill) in
        let from = run.1.from in
        let to = run.1.to in
        let is : in_segment z.fill total q ≡ true = and_from (nat_le (page_of a) q) (nat_le q (page_of (a + total - 1))) (le-leb (page_of a) q (omega (arith, from))) (le-leb q (page_of (a + total - 1)) (omega (arith, from, to))) in
        absurd (true≢false (sym is ∙ off))
  ]

  -- they lie below the regions
  pub run-below : (p : ℕ) → IsInRun first (pages_up_to total) p → p < 262144
  run-below p run = let most = bounded in let to = run.to in omega (arith, most, to)

  pub segment-below : (p : ℕ) → in_segment z.fill total p ≡ true → p < 262144
  segment-below p is = run-below p (in-run p is)

  pub region-beside : (p : ℕ) → is_in Regions p ≡ true → IsBeside t first (pages_up_to total) t p
  region-beside p inside =
      let low = leb-true 262144 p (and_parts (nat_le 262144 p) (nat_lt p 327680) inside).0 in
      let most = bounded in
      inr (inr (omega (arith, low, most)))

  pub only1 : OnlyTable m m1 t
  only1 = run-only m m1 t first (pages_up_to total) ok.maps

  pub own1 : HasOwnPages m1 t (zygote_spot (to_page z.fill)) total
  own1 = record {
    mapped = λ p is. ap (λ (o : Option Page). is_some o) (ok.maps.zeros p (in-run p is)).now;
    alone = λ p is. ok.maps.alone p (in-run p is);
  }

  region-mapped : (p : ℕ) → is_in Regions p ≡ true → is_mapped m1 t p ≡ is_mapped m t p
  region-mapped p inside = ap (λ (o : Option Page). is_some o) (ok.maps.others t p (region-beside p inside))

  pub held1 : HoldsRegions cs m1 t (lists_of h.regions) raws
  held1 = record {
    live = ok.maps.live t ∙ can.held.live;
    sound = ok.sound;
    space = can.held.space;
    pages = λ p inside. region-mapped p inside ∙ can.held.pages p inside;
    alone = λ p is.
        let inside = filled-window (lists_of h.regions) p can.held.space is in
        mapped-alone m m1 t p only1 (can.held.alone p is) (region-mapped p inside ∙ can.held.pages p inside ∙ is);
    holds = raws-run cs m m1 t first (pages_up_to total) raws can.held.holds ok.maps;
    rows = can.held.rows;
    others = can.held.others;
  }

  -- no two of them stand at one address
  sizes-some : All (λ s. 0 < s) sizes
  sizes-some k d below =
      let less : k < length young = omega (arith, below, length-map young (λ (a : Addr). raw_size cs raws a.0)) in
      let is : get_or sizes k d ≡ raw_size cs raws (at_of young k) = get_or-map (λ (a : Addr). raw_size cs raws a.0) young k (record { 0 = 0 }) d less in
      let bounds = size-bounds cs (raws.raw (at_of young k)).shape in
      omega (arith, is, bounds.0, bounds.1, bounds.2)

  pub young-once : (i j : ℕ) → i < j → j < length young → at_of young i ≢ at_of young j
  young-once i j low below same =
      let in_use : List Row = h.regions.in_use in
      let packed = ok.plan_is.young.packed in
      let ps : List ℕ = places_from 0 sizes in
      let n = places-length 0 sizes in
      let k = length-map young (λ (a : Addr). raw_size cs raws a.0) in
      let under : j < length ps = omega (arith, below, n, k) in
      let before : i < length ps = omega (arith, low, under) in
      let here = at-place young in_use ps packed.places i (omega (arith, low, below)) before in
      let there = at-place young in_use ps packed.places j below under in
      let back = rank-back h can.held.space in
      let used = packed.pack.used in
      let end : end_from 0 sizes ≤ region_bytes * length in_use = omega (arith, used) in
      let within = places-within 0 (region_bytes * length in_use) sizes sizes-some end in
      let p : get_or ps i 0 ≡ get_or ps j 0 = sym (back (get_or ps i 0) (within i 0 before)) ∙ ap (rank_in in_use) (sym here ∙ same ∙ there) ∙ back (get_or ps j 0) (within j 0 under) in
      omega (arith, p, rising-apart 0 ps i j (places-rising 0 sizes sizes-some) low under)

  pub can-place : CanPlaceAll cs m1 t (lists_of h.regions) raws z1 young
  can-place =
      let fill = sym ok.opens.fill in
      record {
        held = held1;
        has = λ i below. (young-there i below).0;
        inside = λ i below. (young-there i below).1;
        once = young-once;
        space = ok.space;
        open_is = ok.opens.segment ∙ ap (λ (n : ℕ). Some (segment_behind n total)) fill;
        behind = λ a has low. let below = ok.can.below a has low in let same = ok.opens.fill in omega (arith, below, same);
        pages = subst (λ (n : ℕ). HasOwnPages m1 t (zygote_spot (to_page n)) total) fill own1;
      }
