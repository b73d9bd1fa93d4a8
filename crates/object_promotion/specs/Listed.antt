-- The objects that a promotion lists before it writes.
use Rattle.std.specs.Prelude.{◌≡◌, ℕ, ◌*◌, ◌<◌, ◌≤◌, true, List, filter, length, map, Option, Some, None, if◌then◌else◌, nat_lt}
use Rattle.class_layout.specs.ClassList.{Class}
use Rattle.page_tables.specs.declared.address.Addr.{Addr}
use Rattle.cow_pages.specs.View.{View}
use Rattle.raw_objects.specs.Raws.{raw_size, HoldsRaws, Raws}
use Rattle.raw_objects.specs.References.{in_regions}
use Rattle.region_space.specs.Pages.{IsObjectIn}
use Rattle.region_space.specs.Space.{lists_of, IsSpace, Space}
use Rattle.large_objects.specs.declared.rows.LargeRow.{LargeRow}
use Rattle.large_objects.specs.Rows.{slot_base, waits}
use Rattle.object_moves.specs.Copies.{at_of, sizes_at, PacksAt}

-- memory holds the objects, and those at these addresses are the ones that are packed in the regions in use
pub record ArePacked (cs : List Class) (v : View) (s : Space) (raws : Raws) (young : List Addr) : Type 0 where
  pub holds : HoldsRaws cs v raws
  pub space : IsSpace (lists_of s)
  pub has : (i : ℕ) → i < length young → raws.has (at_of young i) ≡ true
  pub inside : (i : ℕ) → i < length young → in_regions (at_of young i) ≡ true
  pub rows : (i : ℕ) → i < length young → IsObjectIn s.in_use (at_of young i) (raw_size cs raws (at_of young i))
  pub packed : PacksAt s.in_use (sizes_at cs raws young) young
  pub count : s.objects ≡ length young
  pub half : 2 * length s.in_use ≤ s.count

-- the i-th of the addresses, where there is one
abbrev pub found_at : List Addr → ℕ → Option ℕ
found_at young i = if nat_lt i (length young) then Some (at_of young i) else None

-- where the large objects stand that aren't promoted
abbrev pub waiting_at : List LargeRow → List ℕ
waiting_at rows = map (λ (row : LargeRow). slot_base row.slot) (filter waits rows)
