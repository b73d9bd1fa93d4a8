-- The region space: which regions are in use and how far they are filled, where the next object stands, and which pages
-- hold bytes of objects.
use Rattle.std.specs.Prelude.{◌≡◌, ℕ, ◌+◌, ◌-◌, ◌*◌, ◌%◌, ◌≤◌, Bool, true, false, ◌&&◌, IsTrue, List, [], ◌∷◌, ◌++◌, All, Option, None, Some, if◌then◌else◌, map, sum, nat_le, nat_lt}
use Rattle.std.specs.List.{list_any}
use Rattle.model_numbers.specs.Numbers.{most_regions, region_base, region_bytes}
use Rattle.page_tables.specs.declared.address.Window.TheVariants.{Regions}
use Rattle.page_tables.specs.Address.{is_in, page_of}
use Rattle.cow_pages.specs.Memory.{Memory, is_mapped, HasOneSharer}
use Rattle.image_space.specs.Space.{pages_up_to}
use Rattle.region_lists.specs.Rows.{IsLists, Lists, Row, last_of, with_last}

-- a space: the lists of its regions, and how many objects stand in the regions in use and in the from regions
pub record Space : Type 0 where
  pub in_use : List Row
  pub from : List Row
  pub free : List ℕ
  pub count : ℕ
  pub objects : ℕ
  pub from_objects : ℕ

-- its lists alone
abbrev pub lists_of : Space → Lists
lists_of s = record { in_use = s.in_use; from = s.from; free = s.free; count = s.count }

-- lists whose regions hold so many objects
abbrev pub space_of : Lists → ℕ → ℕ → Space
space_of s objects from_objects = record { in_use = s.in_use; from = s.from; free = s.free; count = s.count; objects = objects; from_objects = from_objects }

-- a size that an object in a region may have
pub record IsSize (size : ℕ) : Type 0 where
  pub multiple : size % 8 ≡ 0
  pub least : 8 ≤ size
  pub greatest : size ≤ region_bytes

-- the address of a region's first byte
abbrev pub base_of : ℕ → ℕ
base_of region = region_base + region * region_bytes

-- the region of a row has room for so many bytes behind those that hold objects
abbrev pub has_room : Option Row → ℕ → Bool
has_room None size = false
has_room (Some row) size = nat_le (row.fill + size) region_bytes

-- an object of this size opens a region
abbrev pub would_open : List Row → ℕ → ℕ
would_open rows size = if has_room (last_of rows) size then 0 else 1

-- where the next object stands: behind those of the last row, or at the start of a region that is opened
abbrev pub spot_if : Bool → Option Row → ℕ → ℕ
spot_if true (Some row) region = base_of row.region + row.fill
spot_if true None region = base_of region
spot_if false last region = base_of region

-- the rows with an object more
abbrev pub with_object_if : Bool → List Row → Option Row → ℕ → ℕ → List Row
with_object_if true rows (Some row) region size = with_last rows (row.fill + size)
with_object_if true rows None region size = rows ++ record { region = region; fill = size } ∷ []
with_object_if false rows last region size = rows ++ record { region = region; fill = size } ∷ []

abbrev pub spot_in : List Row → ℕ → ℕ → ℕ
spot_in rows region size = spot_if (has_room (last_of rows) size) (last_of rows) region

abbrev pub with_object : List Row → ℕ → ℕ → List Row
with_object rows region size = with_object_if (has_room (last_of rows) size) rows (last_of rows) region size

-- how many pages the bytes of a row's objects have
abbrev pub row_pages : Row → ℕ
row_pages row = pages_up_to row.fill

-- a page holds bytes of a row's objects
abbrev pub holds_page : ℕ → Row → Bool
holds_page p row = nat_le (page_of (base_of row.region)) p && nat_lt p (page_of (base_of row.region) + row_pages row)

-- of the region window exactly the pages are mapped that hold bytes of objects
abbrev pub HasPages : Memory → ℕ → List Row → Type 0
HasPages m t rows = (p : ℕ) → IsTrue (is_in Regions p) → is_mapped m t p ≡ list_any (holds_page p) rows

-- each of these pages has its frame alone
abbrev pub AreAlone : Memory → ℕ → List Row → Type 0
AreAlone m t rows = (p : ℕ) → IsTrue (list_any (holds_page p) rows) → HasOneSharer m t p

-- the rows of both lists whose regions hold objects
abbrev pub filled : Lists → List Row
filled s = s.in_use ++ s.from

-- a row has bytes of objects, in multiples of 8, and lies in its region
pub record IsFilled (row : Row) : Type 0 where
  pub multiple : row.fill % 8 ≡ 0
  pub some : 8 ≤ row.fill
  pub most : row.fill ≤ region_bytes

-- what holds of each space: there are twice as many regions as a process may use, at most 1,024, and each region in use
-- or from holds objects
pub record IsSpace (s : Lists) : Type 0 where
  pub lists : IsLists s
  pub even : s.count % 2 ≡ 0
  pub some : 2 ≤ s.count
  pub few : s.count ≤ 2 * most_regions
  pub filled : All IsFilled (filled s)

-- how many bytes the rows' objects have
abbrev pub fill_sum : List Row → ℕ
fill_sum rows = sum (map (λ row. row.fill) rows)

-- the rows have bytes for so many objects: each has at least 8
abbrev pub HasBytesFor : List Row → ℕ → Type 0
HasBytesFor rows objects = 8 * objects ≤ fill_sum rows

-- an object of this size was placed at this address, behind all others, in the last region in use or in one that was free
pub record Places (old new : Lists) (at size : ℕ) : Type 0 where
  pub region : ℕ
  pub free : old.free ≡ (if has_room (last_of old.in_use) size then new.free else region ∷ new.free)
  pub in_use : new.in_use ≡ with_object old.in_use region size
  pub spot : at ≡ spot_in old.in_use region size
  pub from : new.from ≡ old.from
  pub count : new.count ≡ old.count

-- how many bytes of the region were filled in which the next object stands
abbrev pub fill_if : Bool → Option Row → ℕ
fill_if true (Some row) = row.fill
fill_if true None = 0
fill_if false last = 0

-- how many pages an object of this size needs besides those that are mapped
abbrev pub further_pages : List Row → ℕ → ℕ
further_pages rows size =
    let fill = fill_if (has_room (last_of rows) size) (last_of rows) in
    pages_up_to (fill + size) - pages_up_to fill

-- the first of them, for an object at this address
abbrev pub further_from : List Row → ℕ → ℕ → ℕ
further_from rows at size =
    let fill = fill_if (has_room (last_of rows) size) (last_of rows) in
    page_of (at - fill) + pages_up_to fill
