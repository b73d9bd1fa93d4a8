-- Reads and writes of numbers of 2, 4 and 8 bytes, the lowest byte first.
use Rattle.std.specs.Prelude.{◌≡◌, ◌≢◌, ◌⊎◌, ℕ, Result, OnOk, OnErr, IsOk}
use Rattle.std.specs.Int.{Width, to_le_bytes}
use Rattle.page_tables.specs.Address.{page_of, leaf_index}
use Rattle.cow_pages.specs.Memory.{Memory, HasOneSharer, IsShared, IsSound}
use Rattle.cow_pages.specs.View.{View, view_of, bytes_at, WritesBytes, OthersSeen}
use Rattle.cow_pages.specs.Change.{WritesPage, TakesOnCopy, OwnsLeaf, reads_after}

-- what reading a number at an address gives and changes
pub record ReadsNumber (number_at : View → ℕ → ℕ) (w : Width) (count : ℕ) (old new : Memory) (t at result : ℕ) : Type 0 where
  pub value : result ≡ number_at (view_of old t) at
  pub bytes : to_le_bytes w result ≡ bytes_at (view_of old t) at count
  pub counts : new ≡ record old { reads = reads_after old.reads at }
  pub sound : IsSound new

-- what writing a number at an address gives and changes
pub record WritesNumber (number_at : View → ℕ → ℕ) (w : Width) {A E : Type 0} (result : Result A E) (old new : Memory) (t at v : ℕ) : Type 0 where
  pub page : OnOk result (WritesPage old new t at (to_le_bytes w v))
  pub view : OnOk result (WritesBytes (view_of old t) (view_of new t) at (to_le_bytes w v))
  pub others_seen : OnOk result (OthersSeen old new t)
  pub reads_back : OnOk result (number_at (view_of new t) at ≡ v)
  pub takes : OnOk result (TakesOnCopy old new t (page_of at))
  pub leaf : OnOk result (OwnsLeaf old new t (leaf_index (page_of at)))
  pub succeeds : HasOneSharer old t (page_of at) ⊎ (old.spare ≢ 0) → IsOk result
  pub only : OnErr result (IsShared old t (page_of at) × (old.spare ≡ 0))
  pub err : OnErr result (new ≡ old)
  pub sound : IsSound new
