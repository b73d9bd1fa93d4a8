-- A promotion of objects in memory: what it stands on, and what it leaves.
use Rattle.std.specs.Prelude.{◌≡◌, ◌≢◌, ◌↔◌, ◌⊎◌, ℕ, ◌+◌, ◌<◌, ◌≤◌, ◌||◌, Bool, true, false, IsTrue, List, [], length, map, sum, slice_index_or, None}
use Rattle.model_numbers.specs.Numbers.{region_base, zygote_length}
use Rattle.page_tables.specs.declared.address.Addr.{Addr}
use Rattle.page_tables.specs.declared.address.Window.TheVariants.{Regions}
use Rattle.page_tables.specs.Address.{is_in}
use Rattle.cow_pages.specs.Memory.{frame_at, is_live, is_mapped, is_written, page_at, HasOneSharer, Memory}
use Rattle.image_space.specs.Space.{spots_from}
use Rattle.page_runs.specs.Covered.{covers}
use Rattle.raw_objects.specs.Raws.{raw_size, Raws, SameRaw}
use Rattle.raw_objects.specs.References.{in_regions}
use Rattle.region_space.specs.Space.{lists_of, Space}
use Rattle.large_objects.specs.declared.rows.LargeRow.{LargeRow}
use Rattle.large_objects.specs.Pages.{HasPages}
use Rattle.large_objects.specs.Rows.{promoted_row}
use Rattle.live_objects.specs.Live.{addresses}
use Rattle.object_moves.specs.Copies.{at_of, sizes_at, HoldsRegions}
use Rattle.object_collection.specs.Collects.{led, may_change, AreYoung, CanCollect, HeapState}
use Rattle.zygote_space.specs.Space as zygote
use Rattle.zygote_space.specs.Space.{to_page, zygote_spot, GainsSegment, HasPagesUpTo}

-- what a promotion stands on: what a collection does, and a zygote space without an open segment, whose pages are mapped,
-- with each object below the regions before its end
pub record CanPromote (h : HeapState) (m : Memory) (t : ℕ) (raws : Raws) (z : zygote.Space) : Type 0 where
  pub can : CanCollect h m t raws
  pub closed : z.segment ≡ None
  pub pages : HasPagesUpTo m t z.fill
  pub below : (a : ℕ) → raws.has a ≡ true → a < region_base → a + raw_size h.classes raws a ≤ zygote_spot z.fill

-- how many bytes the objects at these addresses take together
abbrev pub bytes_at : HeapState → Raws → List Addr → ℕ
bytes_at h raws young = sum (sizes_at h.classes raws young)

-- the zygote window has no room for so many bytes in a segment behind so many others
abbrev pub IsTooMuch : ℕ → ℕ → Type 0
IsTooMuch fill total = zygote_length < to_page fill + total

-- the spots of objects of these sizes in a new segment: one directly behind the other, from the next whole page on
abbrev pub spots_for : ℕ → List ℕ → List ℕ
spots_for fill sizes = spots_from (zygote_spot (to_page fill)) sizes

-- where an address leads after a promotion: to its object's spot where that was in the regions, else to itself
pub record Leads (young : List Addr) (spots : List ℕ) (go : ℕ → ℕ) : Type 0 where
  pub moves : (i : ℕ) → i < length young → go (at_of young i) ≡ slice_index_or spots i 0
  pub stays : (a : ℕ) → in_regions a ≡ false → go a ≡ a

-- what a promotion leaves: all objects, each where it leads, with its references turned, and none of them in the regions
pub record IsPromoted (h : HeapState) (m : Memory) (t : ℕ) (raws : Raws) (old : zygote.Space) (regions : Space) (rows : List LargeRow) (roots : List Addr) (z : zygote.Space) : Type 0 where
  pub go : ℕ → ℕ
  pub young : List Addr
  pub now : Raws
  pub are_young : AreYoung h raws young
  pub leads : Leads young (spots_for old.fill (sizes_at h.classes raws young)) go
  pub has : (b : ℕ) → (now.has b ≡ true) ↔ ((a : ℕ) × (raws.has a ≡ true) × (go a ≡ b))
  pub same : (a : ℕ) → raws.has a ≡ true → SameRaw h.classes (led go (raws.raw a)) (now.raw (go a))
  pub held : HoldsRegions h.classes m t (lists_of regions) now
  pub none_in_use : (regions.in_use ≡ []) × (regions.from ≡ []) × (regions.objects ≡ 0) × (regions.from_objects ≡ 0)
  pub count : regions.count ≡ h.regions.count
  pub rows_promoted : rows ≡ map promoted_row h.rows
  pub large_pages : HasPages m t rows
  pub roots_lead : addresses roots ≡ map go (addresses h.roots)
  pub gains : GainsSegment old z (sizes_at h.classes raws young)
  pub zygote_pages : HasPagesUpTo m t z.fill

-- a page of a segment of so many bytes, which begins at the next whole page behind so many others
abbrev pub in_segment : ℕ → ℕ → ℕ → Bool
in_segment fill total p = covers (zygote_spot (to_page fill)) total p

-- a page that a promotion may write, map or unmap: one that a collection may change, or of the new segment
abbrev pub may_promote : HeapState → ℕ → ℕ → ℕ → Bool
may_promote h fill total p = may_change h p || in_segment fill total p

-- every other page is as it was, with its frame; a mapped one that may change has its frame alone. Outside the regions each
-- page that was mapped keeps its frame, and a flag that was set stays set
pub record LeavesPages (h : HeapState) (old new : Memory) (t : ℕ) (fill total : ℕ) : Type 0 where
  pub others : (u q : ℕ) → (u ≢ t) ⊎ (may_promote h fill total q ≡ false) → page_at new u q ≡ page_at old u q
  pub live : (u : ℕ) → is_live new u ≡ is_live old u
  pub alone : (q : ℕ) → may_promote h fill total q ≡ true → IsTrue (is_mapped new t q) → HasOneSharer new t q
  pub mapped : (q : ℕ) → is_in Regions q ≡ false → in_segment fill total q ≡ false → is_mapped new t q ≡ is_mapped old t q
  pub frames : (q : ℕ) → is_in Regions q ≡ false → IsTrue (is_mapped old t q) → frame_at new t q ≡ frame_at old t q
  pub written : (q : ℕ) → is_in Regions q ≡ false → IsTrue (is_mapped old t q) → IsTrue (is_written old t q) → IsTrue (is_written new t q)
