-- A table as its addresses: a byte at each, and whether it is mapped. The layers above speak of memory by this alone.
use Rattle.std.specs.Prelude.{◌≡◌, ◌≢◌, ◌⊎◌, true, false, ℕ, zero, suc, ◌+◌, ◌<◌, ◌≤◌, Bool, List, [], ◌∷◌, map, length, Option, Some, None, slice_index}
use Rattle.std.specs.Int.{w16, w32, w64, from_le_bytes}
use Rattle.page_tables.specs.Address.{page_of, offset_of}
use Rattle.cow_pages.specs.Memory.{Memory, Page, page_at, is_mapped}

-- the byte at each address, 0 where none is mapped, and whether the address is mapped
pub record View : Type 0 where
  pub byte : ℕ → ℕ
  pub mapped : ℕ → Bool

-- one byte of a page, 0 where there is no page
abbrev pub byte_in : Option Page → ℕ → ℕ
byte_in None offset = 0
byte_in (Some page) offset = slice_index page.bytes offset

-- the byte of a table at an address
unfoldable pub byte_at : Memory → ℕ → ℕ → ℕ
byte_at m t at = byte_in (page_at m t (page_of at)) (offset_of at)

-- a table as its addresses
abbrev pub view_of : Memory → ℕ → View
view_of m t = record { byte = byte_at m t; mapped = λ at. is_mapped m t (page_of at) }

-- so many numbers from this one on
abbrev pub numbers_from : ℕ → ℕ → List ℕ
numbers_from k zero = []
numbers_from k (suc n) = k ∷ numbers_from (k + 1) n

-- the bytes from an address on
abbrev pub bytes_at : View → ℕ → ℕ → List ℕ
bytes_at v at count = map (λ i. v.byte (at + i)) (numbers_from 0 count)

-- the number of two bytes at an address, the lowest byte first
unfoldable pub u16_at : View → ℕ → ℕ
u16_at v at = from_le_bytes w16 (bytes_at v at 2)

-- the number of four bytes
unfoldable pub u32_at : View → ℕ → ℕ
u32_at v at = from_le_bytes w32 (bytes_at v at 4)

-- the number of eight bytes
unfoldable pub u64_at : View → ℕ → ℕ
u64_at v at = from_le_bytes w64 (bytes_at v at 8)

-- the new view has these bytes from the address on, and else every byte and every mapped address of the old one
pub record WritesBytes (old new : View) (at : ℕ) (bytes : List ℕ) : Type 0 where
  pub there : bytes_at new at (length bytes) ≡ bytes
  pub others : (b : ℕ) → (b < at) ⊎ (at + length bytes ≤ b) → new.byte b ≡ old.byte b
  pub mapped : (b : ℕ) → new.mapped b ≡ old.mapped b

-- the same byte at each address, and the same addresses mapped
pub record SameView (old new : View) : Type 0 where
  pub byte : (at : ℕ) → new.byte at ≡ old.byte at
  pub mapped : (at : ℕ) → new.mapped at ≡ old.mapped at

-- every other table has its view
abbrev pub OthersSeen : Memory → Memory → ℕ → Type 0
OthersSeen old new t = (u : ℕ) → u ≢ t → SameView (view_of old u) (view_of new u)

-- every table has its view
abbrev pub AllSeen : Memory → Memory → Type 0
AllSeen old new = (u : ℕ) → SameView (view_of old u) (view_of new u)

-- no address is mapped
abbrev pub IsEmptyView : View → Type 0
IsEmptyView v = (at : ℕ) → v.mapped at ≡ false

-- every address that does not lie in the page is as it was
abbrev pub SameBeside : View → View → ℕ → Type 0
SameBeside old new p = (at : ℕ) → page_of at ≢ p → (new.byte at ≡ old.byte at) × (new.mapped at ≡ old.mapped at)

-- the addresses of the page are mapped now, each with the byte 0
pub record MapsPage (old new : View) (p : ℕ) : Type 0 where
  pub mapped : (at : ℕ) → page_of at ≡ p → new.mapped at ≡ true
  pub zero : (at : ℕ) → page_of at ≡ p → new.byte at ≡ 0
  pub others : SameBeside old new p

-- the addresses of the page are mapped no longer
pub record UnmapsPage (old new : View) (p : ℕ) : Type 0 where
  pub unmapped : (at : ℕ) → page_of at ≡ p → new.mapped at ≡ false
  pub others : SameBeside old new p
