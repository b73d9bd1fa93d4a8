-- What the calls change in memory, and what stays as it was.
use Rattle.std.specs.Prelude.{◌≡◌, ◌≢◌, ◌⊎◌, ℕ, zero, suc, ◌+◌, ◌*◌, ◌-◌, ◌<◌, ◌≤◌, Bool, true, if◌then◌else◌, List, [], ◌∷◌, Option, Some, None, Result, OnOk, OnErr, IsOk, IsTrue, nat_lt}
use Rattle.class_layout.specs.declared.kind.Kind.{Kind}
use Rattle.class_layout.specs.Kinds.{kind_bytes}
use Rattle.page_tables.specs.Address.{page_of}
use Rattle.cow_pages.specs.Memory.{Memory, page_at, frame_at, is_live, is_written, HasOneSharer, IsShared, IsFree, IsSound}
use Rattle.cow_pages.specs.Change.{KeepsRoom, TakesOnCopy, reads_after}
use Rattle.cow_pages.specs.View.{View, byte_at, view_of, OthersSeen}
use Rattle.heap_graph.specs.declared.names.Shape.{Shape}
use Rattle.heap_graph.specs.declared.names.Shape.TheVariants.{Instance, Array}
use Rattle.object_view.specs.declared.names.Slot.{Slot}
use Rattle.object_view.specs.Values.{number_at}

-- bytes from one address up to another may have changed: every other byte, and every mapped address, is as it was
pub record ChangesWithin (old new : View) (from to : ℕ) : Type 0 where
  pub others : (b : ℕ) → (b < from) ⊎ (to ≤ b) → new.byte b ≡ old.byte b
  pub mapped : (b : ℕ) → new.mapped b ≡ old.mapped b

-- this number of the kind's bytes stands at the address, and every other byte is as it was
pub record PutsNumber (old new : View) (kind : Kind) (at number : ℕ) : Type 0 where
  pub there : number_at new kind at ≡ number
  pub rest : ChangesWithin old new at (at + kind_bytes kind)

-- the bytes that stood at one address stand at another
abbrev pub HasBytes : View → View → ℕ → ℕ → ℕ → Type 0
HasBytes old new from to size = (i : ℕ) → i < size → new.byte (to + i) ≡ old.byte (from + i)

-- in how many pages the bytes from one address up to another lie
abbrev pub pages_in : ℕ → ℕ → ℕ
pages_in from to = if nat_lt from to then page_of (to - 1) + 1 - page_of from else 0

-- how many of these pages are not known to have a frame of their own
abbrev pub others_among : (ℕ → Bool) → ℕ → ℕ → ℕ
others_among alone first zero = 0
others_among alone first (suc n) = others_among alone first n + (if alone (first + n) then 0 else 1)

-- each of these pages of the table has a frame of its own
abbrev pub AreAlone : Memory → ℕ → ℕ → ℕ → Type 0
AreAlone m t first n = (p : ℕ) → first ≤ p → p < first + n → HasOneSharer m t p

-- each of these pages of the table has its flag set
abbrev pub AreWritten : Memory → ℕ → ℕ → ℕ → Type 0
AreWritten m t first n = (p : ℕ) → first ≤ p → p < first + n → IsTrue (is_written m t p)

-- some pages of the table may have changed, n of them from the first on, and no other page of any table
pub record ChangesPages (old new : Memory) (t first n : ℕ) : Type 0 where
  -- every other page is as it was, with its bytes, flag and frame
  pub others : (u q : ℕ) → (u ≢ t) ⊎ ((q < first) ⊎ (first + n ≤ q)) → page_at new u q ≡ page_at old u q
  pub live : (u : ℕ) → is_live new u ≡ is_live old u
  -- a page has the frame that it had, or its frame was shared and it has one that no entry had
  pub frames : (p f : ℕ) → frame_at new t p ≡ Some f → (frame_at old t p ≡ Some f) ⊎ (IsShared old t p × IsFree old f)
  -- at most one free frame is taken for each page whose frame was shared
  pub spare : (alone : ℕ → Bool) → ((p : ℕ) → alone p ≡ true → HasOneSharer old t p) → old.spare ≤ new.spare + others_among alone first n
  -- and none where each page had a frame of its own
  pub in_place : AreAlone old t first n → KeepsRoom old new

-- what the store of a number does, with its outcome: nothing, where memory was wanting
pub record StoresNumber {T E : Type 0} (result : Result T E) (old new : Memory) (t : ℕ) (kind : Kind) (at number : ℕ) : Type 0 where
  pub puts : OnOk result (PutsNumber (view_of old t) (view_of new t) kind at number)
  pub pages : ChangesPages old new t (page_of at) 1
  pub written : OnOk result (AreWritten new t (page_of at) 1)
  pub others_seen : OthersSeen old new t
  pub reads : new.reads ≡ old.reads
  pub takes : OnOk result (TakesOnCopy old new t (page_of at))
  pub succeeds : HasOneSharer old t (page_of at) ⊎ (old.spare ≢ 0) → IsOk result
  pub only : OnErr result (IsShared old t (page_of at) × (old.spare ≡ 0))
  pub err : OnErr result (new ≡ old)
  pub sound : IsSound new

-- bytes were written from one address up to another, in pages that now have frames of their own
pub record WritesSpan (old new : Memory) (t from to : ℕ) : Type 0 where
  pub pages : ChangesPages old new t (page_of from) (pages_in from to)
  pub written : AreWritten new t (page_of from) (pages_in from to)
  pub alone : AreAlone new t (page_of from) (pages_in from to)

-- so many words of 8 bytes were written from an address on, and no other byte
pub record WritesWords (old new : Memory) (t at n : ℕ) : Type 0 where
  pub span : WritesSpan old new t at (at + 8 * n)
  pub bytes : ChangesWithin (view_of old t) (view_of new t) at (at + 8 * n)

-- the count of reads after reads at these addresses
abbrev pub reads_after_all : ℕ → List ℕ → ℕ
reads_after_all reads [] = reads
reads_after_all reads (at ∷ more) = reads_after_all (reads_after reads at) more

-- each 8 bytes from an address on, so many times
abbrev pub steps_from : ℕ → ℕ → List ℕ
steps_from at zero = []
steps_from at (suc n) = at ∷ steps_from (at + 8) n

-- so many words of 8 bytes were copied from an address, and no other byte changed
pub record IsCopying (old new : Memory) (t from to n : ℕ) : Type 0 where
  pub words : WritesWords old new t to n
  pub copied : (b : ℕ) → b < 8 * n → byte_at new t (to + b) ≡ byte_at old t (from + b)
  pub reads : new.reads ≡ reads_after_all old.reads (steps_from from n)

-- where the shape of an object is read
abbrev pub shape_reads : ℕ → Shape → List ℕ
shape_reads at (Instance class) = at ∷ []
shape_reads at (Array kind count) = at ∷ (at + 8) ∷ []

-- where a slot is read
abbrev pub slot_reads : Option Slot → List ℕ
slot_reads None = []
slot_reads (Some slot) = slot.at.0 ∷ []
