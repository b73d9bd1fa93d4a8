-- What the laws say of every memory that is sound.
use Rattle.std.specs.Prelude.{◌≡◌, ◌≢◌, ◌↔◌, is_some, ℕ, ◌<◌, ◌^◌, false, List, count_by, Contains, Some, IsTrue, nat_eq}
use Rattle.std.specs.Int.{w16, w32, w64, to_le_bytes}
use Rattle.std.specs.List.{IsDistinct}
use Rattle.page_tables.specs.declared.address.Window.{Window}
use Rattle.page_tables.specs.Address.{page_of, first_page, page_count, is_in_window, leaf_index}
use Rattle.cow_pages.specs.Memory.{Memory, frame_at, is_mapped, is_written, mapped_in, written_in, leaf_in, leaf_at}
use Rattle.cow_pages.specs.View.{View, numbers_from, bytes_at, u16_at, u32_at, u64_at}

-- a byte is below 256, and 0 where no page is; the 4,096 addresses of a page are mapped together, in a window
pub record IsPaged (v : View) : Type 0 where
  pub byte : (at : ℕ) → v.byte at < 256
  pub unmapped : (at : ℕ) → v.mapped at ≡ false → v.byte at ≡ 0
  pub whole : (at other : ℕ) → page_of at ≡ page_of other → v.mapped at ≡ v.mapped other
  pub window : (at : ℕ) → IsTrue (v.mapped at) → IsTrue (is_in_window (page_of at))

-- the numbers at an address fit their bits, and are written as the bytes there
pub record HasNumbers (v : View) (at : ℕ) : Type 0 where
  pub u16_fits : u16_at v at < 2 ^ 16
  pub u32_fits : u32_at v at < 2 ^ 32
  pub u64_fits : u64_at v at < 2 ^ 64
  pub u16_bytes : to_le_bytes w16 (u16_at v at) ≡ bytes_at v at 2
  pub u32_bytes : to_le_bytes w32 (u32_at v at) ≡ bytes_at v at 4
  pub u64_bytes : to_le_bytes w64 (u64_at v at) ≡ bytes_at v at 8

-- the numbers of the pages of a window
abbrev pub pages_in : Window → List ℕ
pages_in w = numbers_from (first_page w) (page_count w)

-- what a table counts in a window is how many of the window's pages it has, and how many with their flag set
pub record CountsPages (m : Memory) (t : ℕ) (w : Window) : Type 0 where
  pub mapped : mapped_in m t w ≡ count_by (is_mapped m t) (pages_in w)
  pub written : written_in m t w ≡ count_by (is_written m t) (pages_in w)

-- some table has the frame at some page
abbrev pub HasEntry : Memory → ℕ → Type 0
HasEntry m f = (t : ℕ) × (p : ℕ) × (frame_at m t p ≡ Some f)

-- these are the frames that have an entry, each of them once
pub record AreUsed (m : Memory) (fs : List ℕ) : Type 0 where
  pub differ : IsDistinct nat_eq fs
  pub used : (f : ℕ) → Contains fs f → HasEntry m f
  pub all : (t p f : ℕ) → frame_at m t p ≡ Some f → Contains fs f

-- these are the leaves that some table has, each of them once
pub record AreUsedLeaves (m : Memory) (ls : List ℕ) : Type 0 where
  pub differ : IsDistinct nat_eq ls
  pub used : (l : ℕ) → Contains ls l → (t : ℕ) × (i : ℕ) × (leaf_in m t i ≡ Some l)
  pub all : (t i l : ℕ) → leaf_in m t i ≡ Some l → Contains ls l

-- the leaves of two tables: pages of one table share a leaf by their numbers alone, two tables that share one have the
-- same pages there, no flag among them, and no leaf is without a page
pub record ShareLeaves (m : Memory) : Type 0 where
  pub there : (t p : ℕ) → is_some (leaf_at m t p) ≡ is_mapped m t p
  pub together : (t p q : ℕ) → IsTrue (is_mapped m t p) → IsTrue (is_mapped m t q) → (leaf_at m t p ≡ leaf_at m t q) ↔ (leaf_index p ≡ leaf_index q)
  pub unwritten : (t u p l : ℕ) → t ≢ u → leaf_at m t p ≡ Some l → leaf_at m u p ≡ Some l → is_written m t p ≡ false
  pub filled : (t i l : ℕ) → leaf_in m t i ≡ Some l → (p : ℕ) × (leaf_at m t p ≡ Some l)
