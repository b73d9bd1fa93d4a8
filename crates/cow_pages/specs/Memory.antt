-- What a contract sees of a `Frames`: its tables, each as the list of its pages.
use Rattle.std.specs.Prelude.{◌≡◌, ◌≢◌, ℕ, ◌+◌, ◌-◌, ◌^◌, ◌<◌, ◌≤◌, min, ◌==◌, Bool, false, if◌then◌else◌, List, [], ◌∷◌, ◌++◌, length, map, All, count_by, Option, Some, None, is_some, option_map, slice_index_or, IsTrue, ◌&&◌, nat_le}
use Rattle.std.specs.List.{list_any}
use Rattle.model_numbers.specs.Numbers.{page_bytes}
use Rattle.page_tables.specs.declared.address.Window.{Window}
use Rattle.page_tables.specs.Address.{is_in, is_in_window, leaf_index}

-- the bytes of a page, whether it was written since it was last settled, and the frame that it stands in
pub record Page : Type 0 where
  pub bytes : List ℕ
  pub written : Bool
  pub frame : ℕ

-- the pages of a table by rising page number, each with that number
abbrev pub Table : Type 0
Table = List (ℕ × Page)

-- the live tables by number, the leaves of each of them by their index, how many frames and leaves there are, how many
-- of the frames and of the leaves are free, the lesser of both, and the reads counted so far
pub record Memory : Type 0 where
  pub tables : List (Option Table)
  pub leaves : List (List (Option ℕ))
  pub frames : ℕ
  pub leaf_count : ℕ
  pub spare : ℕ
  pub reads : ℕ

-- the page of this number in a list of pages
abbrev pub page_in : Table → ℕ → Option Page
page_in [] p = None
page_in ((q, page) ∷ rest) p = if q == p then Some page else page_in rest p

-- the pages of a table that may have ended
abbrev pub pages_of : Option Table → Table
pages_of None = []
pages_of (Some pages) = pages

-- the table is live
abbrev pub is_live : Memory → ℕ → Bool
is_live m t = is_some (slice_index_or m.tables t None)

-- what the pages of a table are; a table that is not live has none
abbrev pub table_of : Memory → ℕ → Table
table_of m t = pages_of (slice_index_or m.tables t None)

-- what a table has at a page
abbrev pub page_at : Memory → ℕ → ℕ → Option Page
page_at m t p = page_in (table_of m t) p

-- a table has the page
abbrev pub is_mapped : Memory → ℕ → ℕ → Bool
is_mapped m t p = is_some (page_at m t p)

-- the frame of a table's page
abbrev pub frame_at : Memory → ℕ → ℕ → Option ℕ
frame_at m t p = option_map (λ (page : Page). page.frame) (page_at m t p)

-- the flag of a page, unset where there is no page
abbrev pub flag_of : Option Page → Bool
flag_of None = false
flag_of (Some page) = page.written

-- the flag of a table's page
abbrev pub is_written : Memory → ℕ → ℕ → Bool
is_written m t p = flag_of (page_at m t p)

-- no page of the table has its flag set
abbrev pub IsSettled : Memory → ℕ → Type 0
IsSettled m t = (p : ℕ) → is_written m t p ≡ false

-- no other entry of any table has the frame of this page
abbrev pub HasOneSharer : Memory → ℕ → ℕ → Type 0
HasOneSharer m t p = (u q : ℕ) → frame_at m u q ≡ frame_at m t p → (u ≡ t) × (q ≡ p)

-- another table has the frame of this page, at the same page
abbrev pub IsShared : Memory → ℕ → ℕ → Type 0
IsShared m t p = (u : ℕ) × (u ≢ t) × (frame_at m u p ≡ frame_at m t p)

-- no entry of any table has the frame
abbrev pub IsFree : Memory → ℕ → Type 0
IsFree m f = (t p : ℕ) → frame_at m t p ≢ Some f

-- the frames of all entries, one for each entry
abbrev pub frames_of : List (Option Table) → List ℕ
frames_of [] = []
frames_of (table ∷ rest) = map (λ (it : ℕ × Page). it.1.frame) (pages_of table) ++ frames_of rest

-- how many different numbers a list has
abbrev pub distinct_count : List ℕ → ℕ
distinct_count [] = 0
distinct_count (x ∷ xs) = (if list_any (λ y. y == x) xs then 0 else 1) + distinct_count xs

-- how many frames have an entry
abbrev pub used_frames : Memory → ℕ
used_frames m = distinct_count (frames_of m.tables)

-- the leaf that a table has for the pages of an index
abbrev pub leaf_in : Memory → ℕ → ℕ → Option ℕ
leaf_in m t i = slice_index_or (slice_index_or m.leaves t []) i None

-- the leaf in which a table's page stands, if the page is mapped
abbrev pub leaf_at : Memory → ℕ → ℕ → Option ℕ
leaf_at m t p = if is_mapped m t p then leaf_in m t (leaf_index p) else None

-- no other table has this leaf
abbrev pub HasOwnLeaf : Memory → ℕ → ℕ → Type 0
HasOwnLeaf m t i = (u : ℕ) → leaf_in m u i ≡ leaf_in m t i → u ≡ t

-- another table has this leaf, for the same pages
abbrev pub HasSharedLeaf : Memory → ℕ → ℕ → Type 0
HasSharedLeaf m t i = (u : ℕ) × (u ≢ t) × (leaf_in m u i ≡ leaf_in m t i)

-- no table has the leaf
abbrev pub IsFreeLeaf : Memory → ℕ → Type 0
IsFreeLeaf m l = (t i : ℕ) → leaf_in m t i ≢ Some l

-- the leaf that may stand at an index, in a list
abbrev pub leaf_list : Option ℕ → List ℕ
leaf_list None = []
leaf_list (Some l) = l ∷ []

-- the leaves of a row of them
abbrev pub row_leaves : List (Option ℕ) → List ℕ
row_leaves [] = []
row_leaves (leaf ∷ rest) = leaf_list leaf ++ row_leaves rest

-- the leaves of all tables, one for each table that has it
abbrev pub leaves_of : List (List (Option ℕ)) → List ℕ
leaves_of [] = []
leaves_of (row ∷ rest) = row_leaves row ++ leaves_of rest

-- how many leaves some table has
abbrev pub used_leaves : Memory → ℕ
used_leaves m = distinct_count (leaves_of m.leaves)

-- how many pages of a window a table has
abbrev pub mapped_in : Memory → ℕ → Window → ℕ
mapped_in m t w = count_by (λ (it : ℕ × Page). is_in w it.0) (table_of m t)

-- how many of them have their flag set
abbrev pub written_in : Memory → ℕ → Window → ℕ
written_in m t w = count_by (λ (it : ℕ × Page). is_in w it.0 && it.1.written) (table_of m t)

-- the numbers of these pages rise, the first of them at or above this one
abbrev pub RisesFrom : ℕ → Table → Type 0
RisesFrom k [] = Unit {0}
RisesFrom k ((p, page) ∷ rest) = IsTrue (nat_le k p) × RisesFrom (p + 1) rest

-- what holds of each `Frames`
pub record IsSound (m : Memory) : Type 0 where
  pub rising : (t : ℕ) → RisesFrom 0 (table_of m t)
  pub in_range : (t p f : ℕ) → frame_at m t p ≡ Some f → f < m.frames
  pub in_window : (t p : ℕ) → IsTrue (is_mapped m t p) → IsTrue (is_in_window p)
  pub whole : (t p : ℕ) (page : Page) → page_at m t p ≡ Some page → length page.bytes ≡ page_bytes
  pub bytes : (t p : ℕ) (page : Page) → page_at m t p ≡ Some page → All (λ b. b < 256) page.bytes
  pub same_page : (t p u q f : ℕ) → frame_at m t p ≡ Some f → frame_at m u q ≡ Some f → p ≡ q
  pub same_bytes : (t u p : ℕ) (one other : Page) → page_at m t p ≡ Some one → page_at m u p ≡ Some other
      → one.frame ≡ other.frame → one.bytes ≡ other.bytes
  pub written_alone : (t p : ℕ) → IsTrue (is_written m t p) → HasOneSharer m t p
  pub frames_counted : used_frames m ≤ m.frames
  pub leaves_counted : used_leaves m ≤ m.leaf_count
  pub spare_is : m.spare ≡ min (m.frames - used_frames m) (m.leaf_count - used_leaves m)
  pub reads_fit : m.reads < 2 ^ 64
  pub leaf_there : (t p : ℕ) → IsTrue (is_mapped m t p) → IsTrue (is_some (leaf_in m t (leaf_index p)))
  pub leaf_filled : (t i l : ℕ) → leaf_in m t i ≡ Some l → (p : ℕ) × (leaf_index p ≡ i) × IsTrue (is_mapped m t p)
  pub same_leaf : (t i u j l : ℕ) → leaf_in m t i ≡ Some l → leaf_in m u j ≡ Some l
      → (i ≡ j) × ((p : ℕ) → leaf_index p ≡ i → page_at m t p ≡ page_at m u p)
