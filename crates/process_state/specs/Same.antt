-- What a process needs of a memory, as other processes leave it.
use Rattle.std.specs.Prelude.{◌≡◌, ℕ, Bool, true, not, ◌&&◌, ◌||◌, filter}
use Rattle.std.specs.List.{list_any}
use Rattle.page_tables.specs.declared.address.Window.TheVariants.{Image}
use Rattle.page_tables.specs.Address.{is_in}
use Rattle.cow_pages.specs.Memory.{is_live, page_at, HasOneSharer, Memory}
use Rattle.heap_world.specs.Part.{Part}
use Rattle.region_space.specs.Space.{filled, lists_of}
use Rattle.region_space.specs.Space as space
use Rattle.large_objects.specs.Pages as large
use Rattle.large_objects.specs.Rows.{waits}
use Rattle.process_state.specs.State.{State}

-- a page that no other process may share: of the regions, of a large object that isn't promoted, and of the image before
-- the seal
abbrev pub is_own_page : State → Part → ℕ → Bool
is_own_page s p q = list_any (space.holds_page q) (filled (lists_of s.regions)) || list_any (large.holds_page q) (filter waits s.rows) || (not p.graph.sealed && is_in Image q)

-- the process's table has the pages that it had, and its own pages have their frames alone as before
pub record SameFor (s : State) (p : Part) (old new : Memory) : Type 0 where
  pub live : is_live new s.page_table ≡ is_live old s.page_table
  pub pages : (q : ℕ) → page_at new s.page_table q ≡ page_at old s.page_table q
  pub alone : (q : ℕ) → is_own_page s p q ≡ true → HasOneSharer old s.page_table q → HasOneSharer new s.page_table q
