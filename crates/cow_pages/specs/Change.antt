-- What a call changes, and what stays as it was.
use Rattle.std.specs.Prelude.{◌≡◌, ◌≢◌, ◌⊎◌, ℕ, ◌+◌, ◌≤◌, min, ◌^◌, ◌-◌, true, false, if◌then◌else◌, List, Option, Some, None, option_map, replicate}
use Rattle.model_numbers.specs.Numbers.{page_bytes}
use Rattle.page_tables.specs.Address.{page_of, offset_of, is_immune}
use Rattle.page_tables.specs.Frame.{patched}
use Rattle.cow_pages.specs.Memory.{Memory, Page, page_at, frame_at, is_live, HasOneSharer, IsShared, IsFree, used_frames, leaf_in, used_leaves, HasOwnLeaf, HasSharedLeaf, IsFreeLeaf}

-- this page may have changed: every other page of every table is as it was, with its bytes, flag and frame
pub record ChangesPage (old new : Memory) (t p : ℕ) : Type 0 where
  pub others : (u q : ℕ) → (u ≢ t) ⊎ (q ≢ p) → page_at new u q ≡ page_at old u q
  pub live : (u : ℕ) → is_live new u ≡ is_live old u
  pub reads : new.reads ≡ old.reads

-- this table may have changed: every other table is as it was
pub record ChangesTable (old new : Memory) (t : ℕ) : Type 0 where
  pub others : (u q : ℕ) → u ≢ t → page_at new u q ≡ page_at old u q
  pub live : (u : ℕ) → u ≢ t → is_live new u ≡ is_live old u
  pub reads : new.reads ≡ old.reads

-- as many frames and leaves as before, and as many of them used
pub record KeepsRoom (old new : Memory) : Type 0 where
  pub frames : new.frames ≡ old.frames
  pub leaf_count : new.leaf_count ≡ old.leaf_count
  pub spare : new.spare ≡ old.spare
  pub used : used_frames new ≡ used_frames old
  pub used_leaves : used_leaves new ≡ used_leaves old

-- at most one less is spare; no frame and no leaf was lost; where something was spare none was made, and else at most
-- one of each
pub record TakesFrame (old new : Memory) : Type 0 where
  pub spare : old.spare ≤ new.spare + 1
  pub had_spare : old.spare ≢ 0 → (new.frames ≡ old.frames) × (new.leaf_count ≡ old.leaf_count)
  pub frames_stay : old.frames ≤ new.frames
  pub leaves_stay : old.leaf_count ≤ new.leaf_count
  pub frames : new.frames ≤ old.frames + 1
  pub leaf_count : new.leaf_count ≤ old.leaf_count + 1

-- exactly one frame more is used, which was made where nothing was spare, if it was made at all; no frame and no leaf
-- was lost
pub record TakesOne (old new : Memory) : Type 0 where
  pub spare : old.spare ≤ new.spare + 1
  pub frames_stay : old.frames ≤ new.frames
  pub leaves_stay : old.leaf_count ≤ new.leaf_count
  pub frames : new.frames ≤ old.frames + (1 - old.spare)
  pub leaf_count : new.leaf_count ≤ old.leaf_count + (1 - old.spare)
  pub used : used_frames new ≡ used_frames old + 1

-- no frame or leaf was made or lost, and no more of them are used
pub record FreesFrames (old new : Memory) : Type 0 where
  pub frames : new.frames ≡ old.frames
  pub leaf_count : new.leaf_count ≡ old.leaf_count
  pub spare : old.spare ≤ new.spare
  pub used : used_frames new ≤ used_frames old
  pub used_leaves : used_leaves new ≤ used_leaves old

-- the reads counted after a read at this address
abbrev pub reads_after : ℕ → ℕ → ℕ
reads_after reads at = if is_immune at then min (reads + 1) (2 ^ 64 - 1) else reads

-- a page of zeros that is not written
abbrev pub zero_page : ℕ → Page
zero_page frame = record { bytes = replicate page_bytes 0; written = false; frame = frame }

-- a written page of these bytes
abbrev pub written_page : List ℕ → ℕ → Page
written_page bytes frame = record { bytes = bytes; written = true; frame = frame }

-- the page without its flag
abbrev pub settled : Option Page → Option Page
settled page = option_map (λ (it : Page). record it { written = false }) page

-- the page keeps its frame where that had one sharer, and else has one that no entry had
abbrev pub KeepsOrCopies : Memory → ℕ → ℕ → ℕ → Type 0
KeepsOrCopies old t p frame =
    (HasOneSharer old t p × (frame_at old t p ≡ Some frame)) ⊎ (IsShared old t p × IsFree old frame)

-- the bytes were written in one page of the table, whose flag is set
pub record WritesPage (old new : Memory) (t at : ℕ) (bytes : List ℕ) : Type 0 where
  pub was : Page
  pub was_there : page_at old t (page_of at) ≡ Some was
  pub frame : ℕ
  pub frame_is : KeepsOrCopies old t (page_of at) frame
  pub now : page_at new t (page_of at) ≡ Some (written_page (patched was.bytes (offset_of at) bytes) frame)
  pub rest : ChangesPage old new t (page_of at)

-- where the frame had one sharer none is taken, and else one
pub record TakesOnCopy (old new : Memory) (t p : ℕ) : Type 0 where
  pub copied : TakesFrame old new
  pub in_place : HasOneSharer old t p → KeepsRoom old new
  pub one : IsShared old t p → TakesOne old new

-- the page has zeros, no flag, and a frame that no entry had
pub record MapsZeros (old new : Memory) (t p : ℕ) : Type 0 where
  pub frame : ℕ
  pub frame_is : IsFree old frame
  pub now : page_at new t p ≡ Some (zero_page frame)

-- every other table has the leaves that it had
abbrev pub OtherLeaves : Memory → Memory → ℕ → Type 0
OtherLeaves old new t = (u i : ℕ) → u ≢ t → leaf_in new u i ≡ leaf_in old u i

-- every table has the leaves that it had
abbrev pub SameLeaves : Memory → Memory → Type 0
SameLeaves old new = (u i : ℕ) → leaf_in new u i ≡ leaf_in old u i

-- the table has a leaf of its own at this index: a free one in place of one that another table has, or where it had none
pub record OwnsLeaf (old new : Memory) (t i : ℕ) : Type 0 where
  pub others : (u j : ℕ) → (u ≢ t) ⊎ (j ≢ i) → leaf_in new u j ≡ leaf_in old u j
  pub leaf : ℕ
  pub now : leaf_in new t i ≡ Some leaf
  pub alone : HasOwnLeaf new t i
  pub own : leaf_in old t i ≢ None → HasOwnLeaf old t i → (leaf_in old t i ≡ Some leaf) × (used_leaves new ≡ used_leaves old)
  pub shared : HasSharedLeaf old t i ⊎ (leaf_in old t i ≡ None) → IsFreeLeaf old leaf × (used_leaves new ≡ used_leaves old + 1)
  pub taken : ((leaf_in old t i ≡ Some leaf) × (used_leaves new ≡ used_leaves old)) ⊎ (IsFreeLeaf old leaf × (used_leaves new ≡ used_leaves old + 1))

-- the table has at this index the leaf that it had, or none any more; every other leaf stays
pub record LeavesLeaf (old new : Memory) (t i : ℕ) : Type 0 where
  pub others : (u j : ℕ) → (u ≢ t) ⊎ (j ≢ i) → leaf_in new u j ≡ leaf_in old u j
  pub here : ((leaf_in new t i ≡ leaf_in old t i) × (used_leaves new ≡ used_leaves old))
      ⊎ ((leaf_in new t i ≡ None) × (used_leaves new + 1 ≡ used_leaves old))
