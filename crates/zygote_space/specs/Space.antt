-- The zygote space: segments of objects, each from a whole page on, and the pages that hold their bytes.
use Rattle.std.specs.Prelude.{◌≡◌, ℕ, ◌+◌, ◌-◌, ◌*◌, ◌%◌, ◌≤◌, ◌==◌, ◌||◌, List, [], ◌∷◌, ◌++◌, sum, Option, None, Some, IfSome}
use Rattle.std.specs.List.{list_any}
use Rattle.model_numbers.specs.Numbers.{page_bytes, zygote_base, zygote_length}
use Rattle.page_tables.specs.declared.address.Window.TheVariants.{Zygote}
use Rattle.page_tables.specs.Address.{first_page}
use Rattle.cow_pages.specs.Memory.{Memory}
use Rattle.image_space.specs.Space.{pages_up_to, spots_from}
use Rattle.mark_bitmap.specs.Marks.{Marks, is_marked}
use Rattle.page_runs.specs.Runs.{HasRun}

-- an open segment: where its next object stands, from the window's start, and how many bytes are still to be placed
pub record Segment : Type 0 where
  pub next : ℕ
  pub rest : ℕ

-- how many bytes there are up to the end of the last object, the open segment, and the set of the addresses at which
-- objects start
pub record Space : Type 0 where
  pub fill : ℕ
  pub segment : Option Segment
  pub starts : Marks

-- so many bytes, rounded up to a whole page
abbrev pub to_page : ℕ → ℕ
to_page bytes = page_bytes * pages_up_to bytes

-- the segment that begins behind so many bytes
abbrev pub segment_behind : ℕ → ℕ → Segment
segment_behind fill total = record { next = to_page fill; rest = total }

-- where the bytes end that have pages: those of the objects, or of the open segment
abbrev pub end_in : ℕ → Option Segment → ℕ
end_in fill None = fill
end_in fill (Some segment) = segment.next + segment.rest

abbrev pub end_of : Space → ℕ
end_of s = end_in s.fill s.segment

-- the address that stands so many bytes behind the window's start
abbrev pub zygote_spot : ℕ → ℕ
zygote_spot bytes = zygote_base + bytes

-- of the zygote window's pages, exactly those are mapped that hold so many bytes
abbrev pub HasPagesUpTo : Memory → ℕ → ℕ → Type 0
HasPagesUpTo m t bytes = HasRun m t Zygote (first_page Zygote) (pages_up_to bytes)

-- what holds of an open segment behind so many bytes
pub record IsSegment (fill : ℕ) (segment : Segment) : Type 0 where
  pub next_multiple : segment.next % 8 ≡ 0
  pub rest_multiple : segment.rest % 8 ≡ 0
  pub behind : fill ≤ segment.next
  pub same_pages : pages_up_to segment.next ≡ pages_up_to fill
  pub bounded : segment.next + segment.rest ≤ zygote_length

-- what holds of each space: it ends at a multiple of 8 in its window, and its starts are kept over its bytes
pub record IsSpace (s : Space) : Type 0 where
  pub multiple : s.fill % 8 ≡ 0
  pub bounded : s.fill ≤ zygote_length
  pub segment : IfSome s.segment (IsSegment s.fill)
  pub start : s.starts.start ≡ zygote_base
  pub span : end_of s ≤ s.starts.span
  pub span_bounded : s.starts.span ≤ zygote_length

-- a segment of so many bytes was opened: it begins at the next whole page, and nothing stands in it
pub record Opens (old new : Space) (total : ℕ) : Type 0 where
  pub fill : new.fill ≡ old.fill
  pub segment : new.segment ≡ Some (segment_behind old.fill total)
  pub starts : (q : ℕ) → is_marked new.starts q ≡ is_marked old.starts q

-- the open segment has so many bytes still to be placed, or more
abbrev pub HasRest : Space → ℕ → Type 0
HasRest s size = (segment : Segment) × (s.segment ≡ Some segment) × (size ≤ segment.rest)

-- an object of this size was placed at this address: at the open segment's next spot
pub record Places (old new : Space) (at size : ℕ) : Type 0 where
  pub segment : Segment
  pub was : old.segment ≡ Some segment
  pub spot : at ≡ zygote_spot segment.next
  pub fill : new.fill ≡ segment.next + size
  pub now : new.segment ≡ Some (record { next = segment.next + size; rest = segment.rest - size })
  pub starts : (q : ℕ) → is_marked new.starts q ≡ (q == at || is_marked old.starts q)

-- where objects of these sizes end that stand from the next whole page on; without objects nothing is added
abbrev pub segment_end : ℕ → List ℕ → ℕ
segment_end fill [] = fill
segment_end fill (size ∷ more) = to_page fill + sum (size ∷ more)

-- the spots of segments of objects of these sizes, behind so many bytes
abbrev pub segment_spots : ℕ → List (List ℕ) → List ℕ
segment_spots fill [] = []
segment_spots fill (sizes ∷ more) = spots_from (zygote_spot (to_page fill)) sizes ++ segment_spots (segment_end fill sizes) more

-- where segments of objects of these sizes end, behind so many bytes
abbrev pub segments_end : ℕ → List (List ℕ) → ℕ
segments_end fill [] = fill
segments_end fill (sizes ∷ more) = segments_end (segment_end fill sizes) more

-- no segment is open, and the space has closed ones of objects of exactly these sizes, in the order of their placing
pub record HasSegments (s : Space) (segments : List (List ℕ)) : Type 0 where
  pub closed : s.segment ≡ None
  pub fill : s.fill ≡ segments_end 0 segments
  pub starts : (q : ℕ) → is_marked s.starts q ≡ list_any (λ spot. q == spot) (segment_spots 0 segments)

-- besides closed segments the space has an open one, in which objects of these sizes stand and so many bytes are left
pub record HasOpen (s : Space) (segments : List (List ℕ)) (sizes : List ℕ) (rest : ℕ) : Type 0 where
  pub segment : s.segment ≡ Some (record { next = to_page (segments_end 0 segments) + sum sizes; rest = rest })
  pub fill : s.fill ≡ segment_end (segments_end 0 segments) sizes
  pub starts : (q : ℕ) → is_marked s.starts q ≡ list_any (λ spot. q == spot) (segment_spots 0 (segments ++ sizes ∷ []))

-- besides what stood, the space has a closed segment of objects of exactly these sizes, where there are some
pub record GainsSegment (old new : Space) (sizes : List ℕ) : Type 0 where
  pub closed : new.segment ≡ None
  pub fill : new.fill ≡ segment_end old.fill sizes
  pub starts : (q : ℕ) → is_marked new.starts q ≡ (is_marked old.starts q || list_any (λ spot. q == spot) (spots_from (zygote_spot (to_page old.fill)) sizes))
