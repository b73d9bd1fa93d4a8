-- How rows hold objects by the rule of packing: which object stands where, counted by bytes from the first region on.
use Rattle.std.specs.Prelude.{◌≡◌, ℕ, ◌+◌, ◌-◌, ◌*◌, ◌/◌, ◌%◌, List, [], ◌∷◌, length, map, sum, Option, None, Some, if◌then◌else◌, nat_le, slice_index_or}
use Rattle.model_numbers.specs.Numbers.{region_bytes}
use Rattle.heap_graph.specs.Packing.{end_from}
use Rattle.heap_graph.specs.Sizes.{parts_for}
use Rattle.image_space.specs.Space.{pages_up_to}
use Rattle.region_lists.specs.Rows.{Row, last_of}
use Rattle.region_space.specs.Space.{base_of}

-- the region that serves as a packing region
abbrev pub region_at : List Row → ℕ → ℕ
region_at rows i = slice_index_or (map (λ row. row.region) rows) i 0

-- the address of a packing place: as far from the start of its region as the place is from that of its own
abbrev pub address_in : List Row → ℕ → ℕ
address_in rows place = base_of (region_at rows (place / region_bytes)) + place % region_bytes

-- how many bytes of its region the last row fills; 0 where there is none
abbrev pub last_fill : Option Row → ℕ
last_fill None = 0
last_fill (Some row) = row.fill

-- where the rows end, counted from the first one's start
abbrev pub end_of_rows : List Row → ℕ
end_of_rows [] = 0
end_of_rows (row ∷ rest) = region_bytes * length rest + last_fill (last_of (row ∷ rest))

-- how far regions are filled where objects of these sizes stand one behind the other, the first behind so many bytes of the
-- first region, and each that doesn't fit there in the next region
abbrev pub fills_from : ℕ → List ℕ → List ℕ
fills_from fill [] = fill ∷ []
fills_from fill (size ∷ more) = if nat_le (fill + size) region_bytes then fills_from (fill + size) more else fill ∷ fills_from size more

-- the rows are those that objects of these sizes fill, packed one after the other from 0 on
pub record Pack (rows : List Row) (sizes : List ℕ) : Type 0 where
  pub end : end_of_rows rows ≡ end_from 0 sizes
  pub used : length rows ≡ parts_for region_bytes (end_from 0 sizes)
  -- as if behind a region that is full
  pub fills : region_bytes ∷ map (λ row. row.fill) rows ≡ fills_from region_bytes sizes

-- how many pages hold bytes of objects of these sizes, packed from 0 on; 64 are those of the full region that the fills begin
-- with
abbrev pub packed_pages : List ℕ → ℕ
packed_pages sizes = sum (map pages_up_to (fills_from region_bytes sizes)) - 64
