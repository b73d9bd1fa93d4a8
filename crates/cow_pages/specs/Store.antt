-- Frames, leaves that share frames, and tables that share leaves; what they show. No public clause cites this module.
use Rattle.std.specs.Prelude.{◌≡◌, ◌≢◌, ℕ, ◌+◌, ◌<◌, ◌/◌, ◌%◌, ◌^◌, if◌then◌else◌, List, [], ◌∷◌, ◌++◌, length, map, replicate, min, All, Option, Some, None, slice_index_or, true, is_some, IsTrue}
use Rattle.model_numbers.specs.Numbers.{page_bytes}
use Rattle.sharers.specs.Shares.{count_of, AreTallied}
use Rattle.page_tables.specs.Address.{is_in_window, leaf_pages, table_leaves}
use Rattle.cow_pages.specs.Memory.{Memory, Page, Table as Pages}
use Rattle.page_tables.specs.declared.address.Window.{Window}
use Rattle.page_tables.specs.declared.leaf.Entry.{Entry}
use Rattle.page_tables.specs.declared.table.Counts.{Counts}
use Rattle.page_tables.specs.declared.table.Table.{Table}
use Rattle.cow_pages.specs.declared.store.Store.{Store}
use Rattle.page_tables.specs.Counts.{count_in, no_counts}
use Rattle.page_tables.specs.Frame.{frame_bytes}
use Rattle.page_tables.specs.Leaf.{Leaf, present}
use Rattle.page_tables.specs.Tables.{mapped_from, written_from}
use Rattle.page_tables.specs.Grid.{cell, all_held}

-- the places of a table, each with the number of its leaf
abbrev pub Row : Type 0
Row = List (Option ℕ)

abbrev pub frame_key : Entry → ℕ
frame_key e = e.frame

abbrev pub leaf_key : ℕ → ℕ
leaf_key l = l

abbrev pub row_of : Option Table → Row
row_of None = []
row_of (Some table) = table.leaves.items

abbrev pub leaf_grid : Store → List (List (Option Entry))
leaf_grid s = map (λ (it : Leaf). it.entries) s.leaves.items

abbrev pub table_grid : Store → List Row
table_grid s = map row_of s.tables.items

abbrev pub bytes_of : Store → ℕ → List ℕ
bytes_of s f = frame_bytes s.frames.items f

abbrev pub frame_sharers : Store → ℕ → ℕ
frame_sharers s f = count_of s.frame_counts f

abbrev pub leaf_sharers : Store → ℕ → ℕ
leaf_sharers s l = count_of s.leaf_counts l

-- how many pages a leaf counts
abbrev pub pages_kept : Store → ℕ → ℕ
pages_kept s l = slice_index_or (map (λ (it : Leaf). it.mapped) s.leaves.items) l 0

-- the leaf of a table at an index
abbrev pub place_at : Store → ℕ → ℕ → Option ℕ
place_at s t i = cell (table_grid s) t i

abbrev pub entry_in : Store → Option ℕ → ℕ → Option Entry
entry_in s None a = None
entry_in s (Some l) a = cell (leaf_grid s) l a

-- the entry of a table at a page
abbrev pub entry_at : Store → ℕ → ℕ → Option Entry
entry_at s t p = entry_in s (place_at s t (p / leaf_pages)) (p % leaf_pages)

-- the rows have their lengths, and there is a count for each leaf
pub record IsWhole (s : Store) : Type 0 where
  pub count : length s.leaf_counts.counts ≡ length (leaf_grid s)
  pub leaves : (l : ℕ) → l < length (leaf_grid s) → length (slice_index_or (leaf_grid s) l []) ≡ leaf_pages

-- each count is that of the places
pub record HasCounts (s : Store) : Type 0 where
  pub frames : (f : ℕ) → frame_sharers s f ≡ all_held frame_key (leaf_grid s) f
  pub leaves : (l : ℕ) → leaf_sharers s l ≡ all_held leaf_key (table_grid s) l
  pub empty : (l a : ℕ) → leaf_sharers s l ≡ 0 → cell (leaf_grid s) l a ≡ None

-- what holds of the entries as tables have them, whatever leaves there are
pub record HasPages (s : Store) : Type 0 where
  pub same_page : (t p u q : ℕ) (e d : Entry) → entry_at s t p ≡ Some e → entry_at s u q ≡ Some d → e.frame ≡ d.frame → p ≡ q
  pub alone : (t p u q : ℕ) (e d : Entry) → entry_at s t p ≡ Some e → entry_at s u q ≡ Some d → e.frame ≡ d.frame → e.written ≡ true → t ≡ u
  pub in_window : (t p : ℕ) (e : Entry) → entry_at s t p ≡ Some e → IsTrue (is_in_window p)

pub record IsKept (s : Store) : Type 0 where
  pub whole : IsWhole s
  pub counts : HasCounts s
  pub pages : HasPages s

-- there is a count for each frame and table, a live table has its places, and frames have their bytes
pub record HasRoom (s : Store) : Type 0 where
  pub frames : length s.frame_counts.counts ≡ length s.frames.items
  pub reads : s.reads < 2 ^ 64
  pub tables : length s.table_counts.counts ≡ length s.tables.items
  pub frames_tallied : AreTallied s.frame_counts
  pub leaves_tallied : AreTallied s.leaf_counts
  pub tables_tallied : AreTallied s.table_counts
  pub numbers : (t : ℕ) → count_of s.table_counts t ≡ (if is_some (slice_index_or s.tables.items t None) then 1 else 0)
  pub rows : (t : ℕ) → IsTrue (is_some (slice_index_or s.tables.items t None)) → length (slice_index_or (table_grid s) t []) ≡ table_leaves
  pub whole : (f : ℕ) → f < length s.frames.items → length (bytes_of s f) ≡ page_bytes
  pub bytes : (f : ℕ) → f < length s.frames.items → All (λ b. b < 256) (bytes_of s f)

-- a leaf counts its pages
abbrev pub CountsSlots : Store → Type 0
CountsSlots s = (l : ℕ) → pages_kept s l ≡ present (slice_index_or (leaf_grid s) l [])

-- each leaf that a table has, but for this one, has a page
abbrev pub FilledBeside : Store → ℕ → Type 0
FilledBeside s but = (t i l : ℕ) → place_at s t i ≡ Some l → l ≢ but → 0 < pages_kept s l

abbrev pub IsFilled : Store → Type 0
IsFilled s = (t i l : ℕ) → place_at s t i ≡ Some l → 0 < pages_kept s l

-- the entries of a row of leaves, one after the other
abbrev pub entries_of_leaf : Store → Option ℕ → List (Option Entry)
entries_of_leaf s None = replicate leaf_pages None
entries_of_leaf s (Some l) = slice_index_or (leaf_grid s) l []

abbrev pub flat : Store → Row → List (Option Entry)
flat s [] = []
flat s (o ∷ rest) = entries_of_leaf s o ++ flat s rest

-- the entries of a table, by their pages
abbrev pub table_entries : Store → ℕ → List (Option Entry)
table_entries s t = flat s (slice_index_or (table_grid s) t [])

abbrev pub mapped_counts : Option Table → Counts
mapped_counts None = no_counts
mapped_counts (Some table) = table.mapped

abbrev pub written_counts : Option Table → Counts
written_counts None = no_counts
written_counts (Some table) = table.written

-- how many pages of a window a table counts, and how many with their flag set
abbrev pub mapped_kept : Store → ℕ → Window → ℕ
mapped_kept s t w = count_in (mapped_counts (slice_index_or s.tables.items t None)) w

abbrev pub written_kept : Store → ℕ → Window → ℕ
written_kept s t w = count_in (written_counts (slice_index_or s.tables.items t None)) w

-- this table's counts are those of its entries
pub record IsCounted (s : Store) (t : ℕ) : Type 0 where
  pub mapped : (w : Window) → mapped_kept s t w ≡ mapped_from w 0 (table_entries s t)
  pub written : (w : Window) → written_kept s t w ≡ written_from w 0 (table_entries s t)

-- what holds of each `Store`
pub record IsStore (s : Store) : Type 0 where
  pub kept : IsKept s
  pub room : HasRoom s
  pub slots : CountsSlots s
  pub filled : IsFilled s
  pub counted : (t : ℕ) → IsCounted s t

-- the same, but for a leaf that may have no page yet, which this table alone has
pub record IsReady (s : Store) (t i l : ℕ) : Type 0 where
  pub kept : IsKept s
  pub room : HasRoom s
  pub slots : CountsSlots s
  pub filled : FilledBeside s l
  pub counted : (u : ℕ) → IsCounted s u
  pub place : place_at s t i ≡ Some l
  pub own : leaf_sharers s l ≡ 1

-- WHAT IS SHOWN

abbrev pub page_of_entry : Store → Entry → Page
page_of_entry s e = record { bytes = bytes_of s e.frame; written = e.written; frame = e.frame }

abbrev pub pages_from : Store → ℕ → List (Option Entry) → Pages
pages_from s p [] = []
pages_from s p (None ∷ rest) = pages_from s (p + 1) rest
pages_from s p (Some e ∷ rest) = (p, page_of_entry s e) ∷ pages_from s (p + 1) rest

abbrev pub shown_table : Store → Option Table → Option Pages
shown_table s None = None
shown_table s (Some table) = Some (pages_from s 0 (flat s table.leaves.items))

-- how many frames and leaves are free, the lesser of both
abbrev pub spare_of : Store → ℕ
spare_of s = min s.frame_counts.spare s.leaf_counts.spare

abbrev pub shown : Store → Memory
shown s = record {
  tables = map (shown_table s) s.tables.items;
  leaves = table_grid s;
  frames = length s.frames.items;
  leaf_count = length s.leaves.items;
  spare = spare_of s;
  reads = s.reads;
}
