-- The image space: objects placed one directly behind the other, and the pages that hold their bytes.
use Rattle.std.specs.Prelude.{◌≡◌, ℕ, ◌+◌, ◌-◌, ◌/◌, ◌%◌, ◌≤◌, ◌==◌, ◌||◌, ◌&&◌, Bool, nat_le, nat_lt, List, [], ◌∷◌, max, sum}
use Rattle.std.specs.List.{list_any}
use Rattle.model_numbers.specs.Numbers.{image_base, image_length, page_bytes, most_array_bytes}
use Rattle.page_tables.specs.declared.address.Window.{Window}
use Rattle.page_tables.specs.declared.address.Window.TheVariants.{Image}
use Rattle.page_tables.specs.Address.{first_page}
use Rattle.cow_pages.specs.Memory.{Memory, used_frames, used_leaves}
use Rattle.mark_bitmap.specs.Marks.{Marks, is_marked}
use Rattle.page_runs.specs.Runs.{HasRun}

-- how many bytes the objects have together, and the set of the addresses at which they start
pub record Space : Type 0 where
  pub fill : ℕ
  pub starts : Marks

-- the address of the next object, behind so many bytes
abbrev pub image_spot : ℕ → ℕ
image_spot fill = image_base + fill

-- how many pages hold so many bytes
abbrev pub pages_up_to : ℕ → ℕ
pages_up_to fill = (fill + (page_bytes - 1)) / page_bytes

-- the page behind those that hold so many bytes of the image
abbrev pub end_page : ℕ → ℕ
end_page fill = first_page Image + pages_up_to fill

-- how many pages hold bytes up to the second fill, and none up to the first
abbrev pub further_pages : ℕ → ℕ → ℕ
further_pages fill next = pages_up_to next - pages_up_to fill

-- a size that an object may have
pub record IsSize (size : ℕ) : Type 0 where
  pub multiple : size % 8 ≡ 0
  pub least : 8 ≤ size
  pub greatest : size ≤ most_array_bytes

-- what holds of each space: it ends at a multiple of 8 in its window, and its starts are kept over its bytes
pub record IsSpace (s : Space) : Type 0 where
  pub multiple : s.fill % 8 ≡ 0
  pub bounded : s.fill ≤ image_length
  pub start : s.starts.start ≡ image_base
  pub span : s.starts.span ≡ s.fill

-- a page holds some of the first so many bytes of a window
abbrev pub holds_first : Window → ℕ → ℕ → Bool
holds_first w bytes p = nat_le (first_page w) p && nat_lt p (first_page w + pages_up_to bytes)

-- of the image window's pages, exactly those are mapped that hold so many bytes
abbrev pub HasPagesUpTo : Memory → ℕ → ℕ → Type 0
HasPagesUpTo m t fill = HasRun m t Image (first_page Image) (pages_up_to fill)

-- an object of this size was placed at this address: behind all others, and one more start
pub record Places (old new : Space) (at size : ℕ) : Type 0 where
  pub spot : at ≡ image_spot old.fill
  pub fill : new.fill ≡ old.fill + size
  pub starts : (q : ℕ) → is_marked new.starts q ≡ (q == at || is_marked old.starts q)

-- nothing changed but that more frames and leaves may be free: as many were made as lacked for n pages, or none
pub record KeepsPages (old new : Memory) (n : ℕ) : Type 0 where
  pub rest : new ≡ record old { frames = new.frames; leaf_count = new.leaf_count; spare = new.spare }
  pub frames : old.frames ≤ new.frames
  pub leaf_count : old.leaf_count ≤ new.leaf_count
  pub spare : old.spare ≤ new.spare
  pub frames_made : new.frames ≤ max old.frames (used_frames old + n)
  pub leaves_made : new.leaf_count ≤ max old.leaf_count (used_leaves old + n)

-- the addresses of objects of these sizes, each directly behind the one before, from an address on
abbrev pub spots_from : ℕ → List ℕ → List ℕ
spots_from at [] = []
spots_from at (size ∷ more) = at ∷ spots_from (at + size) more

-- the space has objects of exactly these sizes, in the order in which they were placed
pub record HasSizes (s : Space) (sizes : List ℕ) : Type 0 where
  pub fill : s.fill ≡ sum sizes
  pub starts : (q : ℕ) → is_marked s.starts q ≡ list_any (λ spot. q == spot) (spots_from image_base sizes)
