-- What stands after each step of a promotion.
use Rattle.std.specs.Prelude.{◌≡◌, ◌≢◌, ℕ, ◌+◌, filter, ◌<◌, ◌≤◌, ◌||◌, ◌==◌, true, IsTrue, List, length, sum, Some}
use Rattle.std.specs.List.{list_any}
use Rattle.model_numbers.specs.Numbers.{region_base}
use Rattle.class_layout.specs.ClassList.{Class}
use Rattle.page_tables.specs.declared.address.Addr.{Addr}
use Rattle.page_tables.specs.declared.address.Window.TheVariants.{Zygote}
use Rattle.page_tables.specs.Address.{first_page}
use Rattle.cow_pages.specs.Memory.{is_mapped, HasOneSharer, IsSound, Memory}
use Rattle.image_space.specs.Space.{pages_up_to}
use Rattle.mark_bitmap.specs.Marks.{is_marked}
use Rattle.page_runs.specs.Covered.{covers}
use Rattle.page_runs.specs.Runs.{MapsRun}
use Rattle.raw_objects.specs.Raws.{raw_size, Raws}
use Rattle.raw_objects.specs.References.{in_regions}
use Rattle.region_lists.specs.Rows.{Lists}
use Rattle.object_moves.specs.Copies.{at_of, sizes_at, HoldsRegions}
use Rattle.zygote_space.specs.Space.{end_of, segment_behind, segment_end, to_page, zygote_spot, HasPagesUpTo, IsSpace, Opens, Segment, Space}
use Rattle.live_objects.specs.Live.{addresses}
use Rattle.object_collection.specs.Collects.{AreYoung, HeapState}
use Rattle.object_collection.specs.Listed.{leads_young}
use Rattle.object_collection.specs.Phases.{Turning}
use Rattle.object_promotion.specs.declared.plan.Plan.{Plan}
use Rattle.object_promotion.specs.Listed.{waiting_at}
use Rattle.object_promotion.specs.Promotes.{bytes_at, spots_for, CanPromote}

-- the pages of so many bytes from an address on are mapped, each with its frame alone
pub record HasOwnPages (m : Memory) (t at size : ℕ) : Type 0 where
  pub mapped : (p : ℕ) → covers at size p ≡ true → IsTrue (is_mapped m t p)
  pub alone : (p : ℕ) → covers at size p ≡ true → HasOneSharer m t p

-- no object below the regions ends behind the spot
abbrev pub IsBehindAll : List Class → Raws → ℕ → Type 0
IsBehindAll cs raws spot = (a : ℕ) → raws.has a ≡ true → a < region_base → a + raw_size cs raws a ≤ spot

-- the object of the regions can be copied to the next spot of the open segment
pub record CanPlace (cs : List Class) (m : Memory) (t : ℕ) (s : Lists) (raws : Raws) (z : Space) (at : ℕ) : Type 0 where
  pub held : HoldsRegions cs m t s raws
  pub has : raws.has at ≡ true
  pub inside : in_regions at ≡ true
  pub space : IsSpace z
  pub segment : Segment
  pub open_is : z.segment ≡ Some segment
  pub room : raw_size cs raws at ≤ segment.rest
  pub behind : IsBehindAll cs raws (zygote_spot segment.next)
  pub pages : HasOwnPages m t (zygote_spot segment.next) segment.rest

-- a segment was opened for these objects of the regions, and nothing stands in it
pub record CanPlaceAll (cs : List Class) (m : Memory) (t : ℕ) (s : Lists) (raws : Raws) (z : Space) (ats : List Addr) : Type 0 where
  pub held : HoldsRegions cs m t s raws
  pub has : (i : ℕ) → i < length ats → raws.has (at_of ats i) ≡ true
  pub inside : (i : ℕ) → i < length ats → in_regions (at_of ats i) ≡ true
  pub once : (i j : ℕ) → i < j → j < length ats → at_of ats i ≢ at_of ats j
  pub space : IsSpace z
  pub open_is : z.segment ≡ Some (segment_behind z.fill (sum (sizes_at cs raws ats)))
  pub behind : IsBehindAll cs raws (zygote_spot (to_page z.fill))
  pub pages : HasOwnPages m t (zygote_spot (to_page z.fill)) (sum (sizes_at cs raws ats))

-- behind what stood, objects of these sizes were placed in a new segment, in which so many bytes are left
pub record Fills (old new : Space) (sizes : List ℕ) (rest : ℕ) : Type 0 where
  pub segment : new.segment ≡ Some (record { next = to_page old.fill + sum sizes; rest = rest })
  pub fill : new.fill ≡ segment_end old.fill sizes
  pub starts : (q : ℕ) → is_marked new.starts q ≡ (is_marked old.starts q || list_any (λ spot. q == spot) (spots_for old.fill sizes))

-- what a promotion has listed: the objects of the regions, the large ones that aren't promoted, and the slots that lead into
-- the regions
abbrev pub listed_in : Plan → Turning
listed_in plan = record { young = plan.young.items; large = plan.large.items; slots = plan.turned.items }

pub record IsPlan (h : HeapState) (raws : Raws) (plan : Turning) : Type 0 where
  pub young : AreYoung h raws plan.young
  pub large : addresses plan.large ≡ waiting_at h.rows
  pub turned : plan.slots ≡ filter leads_young h.slots

-- a promotion can be made, its lists are made, and a segment was opened for the objects that move
pub record IsOpened (h : HeapState) (old now : Memory) (t : ℕ) (raws : Raws) (z opened : Space) (plan : Turning) : Type 0 where
  pub can : CanPromote h old t raws z
  pub plan_is : IsPlan h raws plan
  pub opens : Opens z opened (bytes_at h raws plan.young)
  pub maps : MapsRun old now t (first_page Zygote + pages_up_to z.fill) (pages_up_to (bytes_at h raws plan.young))
  pub space : IsSpace opened
  pub sound : IsSound now
  pub pages : HasPagesUpTo now t (end_of opened)
