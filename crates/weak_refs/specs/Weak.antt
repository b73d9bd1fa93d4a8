-- Which references are dead, and what it is to clear them.
use Rattle.std.specs.Prelude.{◌≡◌, ◌≢◌, ◌⊎◌, ℕ, ◌+◌, ◌%◌, ◌≤◌, ◌==◌, Bool, true, false, not, ◌&&◌, ◌||◌, nat_le, nat_lt, nat_eq, if◌then◌else◌, List, [], ◌∷◌, map, Some, IsTrue}
use Rattle.std.specs.List.{list_any, filter, All, IsDistinct}
use Rattle.page_tables.specs.declared.address.Addr.{Addr}
use Rattle.page_tables.specs.Address.{page_of}
use Rattle.cow_pages.specs.Memory.{Memory, page_at, frame_at, is_live, is_written, HasOneSharer, IsShared, IsFree}
use Rattle.cow_pages.specs.Change.{KeepsRoom}
use Rattle.cow_pages.specs.View.{View, view_of, u32_at, SameView}

-- the addresses as numbers
abbrev pub addresses : List Addr → List ℕ
addresses slots = map (λ (it : Addr). it.0) slots

-- the reference at an address names an object that is not kept: it is not null, and its target is not kept
abbrev pub is_dead : (ℕ → Bool) → View → ℕ → Bool
is_dead kept v at = not (u32_at v at == 0) && not (kept (u32_at v at))

-- the dead ones of these slots
abbrev pub dead_in : (ℕ → Bool) → View → List ℕ → List ℕ
dead_in kept v slots = filter (is_dead kept v) slots

-- the address is one of the four of one of these slots
abbrev pub is_byte_of : List ℕ → ℕ → Bool
is_byte_of slots b = list_any (λ at. nat_le at b && nat_lt b (at + 4)) slots

-- one of these slots lies in the page
abbrev pub is_page_of : List ℕ → ℕ → Bool
is_page_of slots p = list_any (λ at. page_of at == p) slots

-- the view with null in each of these slots
abbrev pub cleared : List ℕ → View → View
cleared slots v = record { byte = λ b. if is_byte_of slots b then 0 else v.byte b; mapped = v.mapped }

-- each of these slots is a multiple of 4 in a mapped page, and none is there twice
pub record AreSlots (v : View) (slots : List ℕ) : Type 0 where
  pub aligned : All (λ at. at % 4 ≡ 0) slots
  pub mapped : All (λ at. IsTrue (v.mapped at)) slots
  pub once : IsDistinct nat_eq slots

-- in how many pages these slots lie, without the pages that are known to have a frame of their own
abbrev pub shared_pages : (ℕ → Bool) → List ℕ → ℕ
shared_pages alone [] = 0
shared_pages alone (at ∷ rest) = (if alone (page_of at) || is_page_of rest (page_of at) then 0 else 1) + shared_pages alone rest

-- these slots of the table were set to null, and nothing else has changed but the count of reads
pub record ClearsSlots (old new : Memory) (t : ℕ) (slots : List ℕ) : Type 0 where
  -- the bytes of the slots are 0, and every other byte of the table is as it was
  pub bytes : SameView (cleared slots (view_of old t)) (view_of new t)
  -- a page without one of them has its bytes, flag and frame, and so has each page of another table
  pub others : (u q : ℕ) → (u ≢ t) ⊎ (is_page_of slots q ≡ false) → page_at new u q ≡ page_at old u q
  pub live : (u : ℕ) → is_live new u ≡ is_live old u
  -- a page with one of them has its flag set, and a frame of its own
  pub written : (p : ℕ) → is_page_of slots p ≡ true → IsTrue (is_written new t p)
  pub alone : (p : ℕ) → is_page_of slots p ≡ true → HasOneSharer new t p
  -- it is the frame that it had, or that was shared and it has one that no entry had
  pub frames : (p f : ℕ) → frame_at new t p ≡ Some f → (frame_at old t p ≡ Some f) ⊎ (IsShared old t p × IsFree old f)
  -- at most one free frame is taken for each of their pages whose frame was shared
  pub spare : (own : ℕ → Bool) → ((p : ℕ) → is_page_of slots p ≡ true → own p ≡ true → HasOneSharer old t p) → old.spare ≤ new.spare + shared_pages own slots
  -- and none where each of their pages had a frame of its own
  pub in_place : ((p : ℕ) → is_page_of slots p ≡ true → HasOneSharer old t p) → KeepsRoom old new
