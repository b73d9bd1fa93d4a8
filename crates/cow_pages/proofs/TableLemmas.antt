-- A store to which a table joined.
use Rattle.std.proofs.Common.{◌≡◌, ◌≢◌, ℕ, zero, suc, ◌+◌, ◌*◌, ◌^◌, ◌<◌, ◌≤◌, ◌/◌, ◌%◌, ◌++◌, cond, false, List, [], ◌∷◌, length, map, get_or, set, Some, None, Option, is_some, IsTrue, refl, sym, ap, subst, ◌∙◌, inl, inr, arith}
use Rattle.std.specs.Prelude.{All, replicate, option_map}
use Rattle.std.proofs.lemmas.List.{length-append, length-replicate, length-map, length-set, map-set, get_or-map, get_or-set_same, get_or-set_other}
use Rattle.std.proofs.lemmas.Bool.{cases_eq}
use Rattle.std.proofs.lemmas.Option.{none-some}
use Rattle.sharers.specs.Shares.{Shares, AreTallied, count_of}
use Rattle.page_tables.specs.declared.address.Window.{Window}
use Rattle.page_tables.specs.declared.leaf.Entry.{Entry}
use Rattle.page_tables.specs.declared.table.Counts.{Counts}
use Rattle.page_tables.specs.declared.table.Table.{Table}
use Rattle.cow_pages.specs.declared.store.Store.{Store}
use Rattle.cow_pages.specs.Memory.{page_at, is_live, used_leaves, IsSettled}
use Rattle.cow_pages.specs.Change.{ChangesTable, KeepsRoom, OtherLeaves}
use Rattle.page_tables.specs.Counts.{count_in, no_counts}
use Rattle.page_tables.specs.Tables.{mapped_from, written_from, mapped_one, written_one}
use Rattle.page_tables.specs.Grid.{held, all_held}
use Rattle.cow_pages.specs.Store.{Row, row_of, leaf_key, leaf_grid, table_grid, table_entries, bytes_of, frame_sharers, leaf_sharers, pages_kept, place_at, entry_in, entry_at, flat, page_of_entry, mapped_counts, written_counts, shown, spare_of, CountsSlots, IsCounted, IsKept, HasRoom, IsStore}
use Rattle.cow_pages.specs.Steps.{SetsRow, KeepsLeaves, SameEntries, SameBytes, SeemsSame, AddsTable, Forks, Settled}
use Rattle.page_tables.proofs.GridLemmas.{held-empty}
use Rattle.cow_pages.proofs.CountLemmas.{count-joined, count-here, count-other, held-le, take-all}
use Rattle.page_tables.proofs.ListLemmas.{table-here}
use Rattle.cow_pages.proofs.ShownLemmas.{page_at-shown}
use Rattle.cow_pages.proofs.StepLemmas.{HasPages-fewer, frames-same, leaves-row, entry_in-same}
use Rattle.cow_pages.proofs.OpLemmas.{whole-same, fork_entries, fork_kept}
use Rattle.cow_pages.proofs.FlatLemmas.{entry-flat}
use Rattle.cow_pages.proofs.SeenLemmas.{page-kept, live-shown, settled_entries}
use Rattle.cow_pages.proofs.SoundLemmas.{leaves_counted}
use Rattle.cow_pages.proofs.RoomLemmas.{keeps_room}
use Rattle.cow_pages.proofs.StoreLemmas.{IsCounted-same}
use Rattle.cow_pages.proofs.SharedLemmas.{leaf_held, leaf_within}
use Rattle.cow_pages.proofs.ReadLemmas.{grid_row}
use Rattle.cow_pages.proofs.JoinLemmas.{joined-at, tables-same, memory-same}

-- NUMBERS THAT NAME NO TABLE YET

pub record Widens (s new : Store) (n : ℕ) : Type 0 where
  pub tables : new.tables.items ≡ s.tables.items ++ replicate n None
  pub counts : new.table_counts.counts ≡ s.table_counts.counts ++ replicate n 0
  pub tallied : AreTallied new.table_counts
  pub rest : new ≡ record s { tables = new.tables; table_counts = new.table_counts }

pub none-joined : (xs : List (Option Table)) (n k : ℕ) → get_or (xs ++ replicate n None) k None ≡ get_or xs k None
none-joined [] zero k = refl
none-joined [] (suc n) zero = refl
none-joined [] (suc n) (suc k) = none-joined [] n k
none-joined (x ∷ xs) n zero = refl
none-joined (x ∷ xs) n (suc k) = none-joined xs n k

pub rows-joined : (l : ℕ) (xs : List (Option Table)) (n : ℕ) → all_held leaf_key (map row_of (xs ++ replicate n None)) l ≡ all_held leaf_key (map row_of xs) l
rows-joined l [] zero = refl
rows-joined l [] (suc n) = omega (arith, rows-joined l [] n)
rows-joined l (x ∷ xs) n = omega (arith, rows-joined l xs n)

pub widened_tables : (s new : Store) (n : ℕ) → Widens s new n → (u : ℕ) → get_or new.tables.items u None ≡ get_or s.tables.items u None
widened_tables s new n w u = ap (λ (ts : List (Option Table)). get_or ts u None) w.tables ∙ none-joined s.tables.items n u

pub widened_row : (s new : Store) (n : ℕ) → Widens s new n → (u : ℕ) → get_or (table_grid new) u [] ≡ get_or (table_grid s) u []
widened_row s new n w u = ap (λ (ts : List (Option Table)). get_or (map row_of ts) u []) w.tables ∙ joined-at row_of (λ (row : Row). row) [] None refl s.tables.items n u

pub widened_entries : (s new : Store) (n : ℕ) → Widens s new n → SameEntries s new
widened_entries s new n w u q =
    ap (λ (row : Row). entry_in new (get_or row (q / 1024) None) (q % 1024)) (widened_row s new n w u)
    ∙ entry_in-same s new (ap (λ (it : Store). leaf_grid it) w.rest) (place_at s u (q / 1024)) (q % 1024)

pub widened_kept : (s new : Store) (n : ℕ) → IsKept s → Widens s new n → IsKept new
widened_kept s new n kept w =
    let leaves = ap (λ (it : Store). leaf_grid it) w.rest in
    record {
      whole = whole-same s new kept.whole leaves (ap (λ (it : Store). length it.leaf_counts.counts) w.rest);
      counts = record {
        frames = frames-same s new kept.counts (record { leaves = leaves; sharers = λ f. ap (λ (it : Store). frame_sharers it f) w.rest });
        leaves = λ l.
            ap (λ (it : Store). leaf_sharers it l) w.rest ∙ kept.counts.leaves l
            ∙ sym (ap (λ (ts : List (Option Table)). all_held leaf_key (map row_of ts) l) w.tables ∙ rows-joined l s.tables.items n);
        empty = λ l a none. entry_in-same s new leaves (Some l) a ∙ kept.counts.empty l a (sym (ap (λ (it : Store). leaf_sharers it l) w.rest) ∙ none);
      };
      pages = HasPages-fewer s new kept.pages (λ u q d is. sym (widened_entries s new n w u q) ∙ is);
    }

pub widened_store : (s new : Store) (n : ℕ) → IsStore s → Widens s new n → IsStore new
widened_store s new n store w =
    let room = store.room in
    let also = widened_kept s new n store.kept w in
    let at = widened_tables s new n w in
    record {
      kept = also;
      room = record {
        frames = ap (λ (it : Store). length it.frame_counts.counts) w.rest ∙ room.frames ∙ sym (ap (λ (it : Store). length it.frames.items) w.rest);
        reads = omega (arith, room.reads, ap (λ (it : Store). it.reads) w.rest);
        tables =
            omega (
              arith,
              ap (λ (cs : List ℕ). length cs) w.counts,
              length-append s.table_counts.counts (replicate n 0),
              length-replicate {A = ℕ} n 0,
              ap (λ (ts : List (Option Table)). length ts) w.tables,
              length-append s.tables.items (replicate n None),
              length-replicate {A = Option Table} n None,
              room.tables,
            );
        frames_tallied = subst (λ (it : Store). AreTallied it.frame_counts) (sym w.rest) room.frames_tallied;
        leaves_tallied = subst (λ (it : Store). AreTallied it.leaf_counts) (sym w.rest) room.leaves_tallied;
        tables_tallied = w.tallied;
        numbers = λ t.
            count-joined s.table_counts new.table_counts n w.counts t ∙ room.numbers t
            ∙ sym (ap (λ (o : Option Table). cond {A = ℕ} (is_some o) 1 0) (at t));
        rows = λ t live. ap (λ (row : Row). length row) (widened_row s new n w t) ∙ room.rows t (sym (ap (λ (o : Option Table). is_some o) (at t)) ∙ live);
        whole = λ f within. ap (λ (it : Store). length (bytes_of it f)) w.rest ∙ room.whole f (omega (arith, within, ap (λ (it : Store). length it.frames.items) w.rest));
        bytes = λ f within. subst (λ (it : Store). All (λ b. b < 256) (bytes_of it f)) (sym w.rest) (room.bytes f (omega (arith, within, ap (λ (it : Store). length it.frames.items) w.rest)));
      };
      slots = subst (λ (it : Store). CountsSlots it) (sym w.rest) store.slots;
      filled = λ t i l is.
          omega (
            arith,
            ap (λ (it : Store). pages_kept it l) w.rest,
            store.filled t i l (sym (ap (λ (row : Row). get_or row i None) (widened_row s new n w t)) ∙ is),
          );
      counted = λ t.
          IsCounted-same s new t store.kept also (widened_entries s new n w t) (ap (λ (row : Row). length row) (widened_row s new n w t))
          (λ v. (ap (λ (o : Option Table). count_in (mapped_counts o) v) (at t), ap (λ (o : Option Table). count_in (written_counts o) v) (at t))) (store.counted t);
    }

-- what is seen where each number names what it named
pub seems_row : (s new : Store) → SeemsSame s new → (u : ℕ) → get_or (table_grid new) u [] ≡ get_or (table_grid s) u []
seems_row s new seems u = row_at new.tables.items u ∙ ap row_of (seems.tables u) ∙ sym (row_at s.tables.items u)
  where
    row_at : (ts : List (Option Table)) (u : ℕ) → get_or (map row_of ts) u [] ≡ row_of (get_or ts u None)
    row_at [] u = refl
    row_at (x ∷ ts) zero = refl
    row_at (x ∷ ts) (suc u) = row_at ts u

pub seems_entries : (s new : Store) → SeemsSame s new → SameEntries s new
seems_entries s new seems u q =
    ap (λ (row : Row). entry_in new (get_or row (q / 1024) None) (q % 1024)) (seems_row s new seems u)
    ∙ entry_in-same s new (ap (λ (it : Store). leaf_grid it) seems.rest) (place_at s u (q / 1024)) (q % 1024)

pub seems_pages : (s new : Store) → IsKept s → IsKept new → SeemsSame s new → (u q : ℕ) → page_at (shown new) u q ≡ page_at (shown s) u q
seems_pages s new kept also seems u q = page-kept s new kept also u q u q (seems_entries s new seems u q) (λ e is. ap (λ (it : Store). bytes_of it e.frame) seems.rest)

-- a list of as many numbers shows the same
pub seems_shown : (s new : Store) → IsKept s → IsKept new → SeemsSame s new → new.tables.items ≡ s.tables.items → shown new ≡ shown s
seems_shown s new kept also seems tables =
    memory-same (shown new) (shown s)
    (tables-same s new kept also tables (seems_entries s new seems) (λ u q e is. ap (λ (it : Store). bytes_of it e.frame) seems.rest))
    (ap (λ (ts : List (Option Table)). map row_of ts) tables)
    (ap (λ (it : Store). length it.frames.items) seems.rest)
    (ap (λ (it : Store). length it.leaves.items) seems.rest)
    (ap (λ (it : Store). spare_of it) seems.rest)
    (ap (λ (it : Store). it.reads) seems.rest)

-- A TABLE THAT JOINS

-- beside the table that joined, the leaves that it has got sharers
pub record Adds (s new : Store) (u : ℕ) (table : Table) : Type 0 where
  pub adds : AddsTable s new u table
  pub leaves : new.leaves ≡ s.leaves
  pub frames : new.frames ≡ s.frames
  pub frame_counts : new.frame_counts ≡ s.frame_counts
  pub reads : new.reads ≡ s.reads
  pub sharers : (l : ℕ) → leaf_sharers new l ≡ leaf_sharers s l + held leaf_key table.leaves.items l
  pub len : length new.leaf_counts.counts ≡ length s.leaf_counts.counts
  pub spare : new.leaf_counts.spare ≡ s.leaf_counts.spare
  pub tallied : AreTallied new.leaf_counts

pub adds_grid : (s new : Store) (u : ℕ) (table : Table) → AddsTable s new u table → table_grid new ≡ set (table_grid s) u table.leaves.items
adds_grid s new u table adds = ap (λ (ts : List (Option Table)). map row_of ts) adds.tables ∙ map-set row_of s.tables.items u (Some table)

pub adds_row : (s new : Store) (u : ℕ) (table : Table) → AddsTable s new u table → get_or (table_grid new) u [] ≡ table.leaves.items
adds_row s new u table adds =
    ap (λ (g : List Row). get_or g u []) (adds_grid s new u table adds)
    ∙ get_or-set_same (table_grid s) u table.leaves.items [] (omega (arith, adds.within, length-map s.tables.items row_of))

pub adds_other_row : (s new : Store) (u : ℕ) (table : Table) → AddsTable s new u table → (v : ℕ) → v ≢ u → get_or (table_grid new) v [] ≡ get_or (table_grid s) v []
adds_other_row s new u table adds v off =
    ap (λ (g : List Row). get_or g v []) (adds_grid s new u table adds) ∙ get_or-set_other (table_grid s) u v table.leaves.items [] off

pub adds_here : (s new : Store) (u : ℕ) (table : Table) → AddsTable s new u table → get_or new.tables.items u None ≡ Some table
adds_here s new u table adds = ap (λ (ts : List (Option Table)). get_or ts u None) adds.tables ∙ table-here s.tables.items u table adds.within

pub adds_other : (s new : Store) (u : ℕ) (table : Table) → AddsTable s new u table → (v : ℕ) → v ≢ u → get_or new.tables.items v None ≡ get_or s.tables.items v None
adds_other s new u table adds v off = ap (λ (ts : List (Option Table)). get_or ts v None) adds.tables ∙ get_or-set_other s.tables.items u v (Some table) None off

-- before, the number had no row
pub adds_no_row : (s new : Store) (u : ℕ) (table : Table) → AddsTable s new u table → get_or (table_grid s) u [] ≡ []
adds_no_row s new u table adds = get_or-map row_of s.tables.items u None [] adds.within ∙ ap row_of adds.fresh

pub adds_leaves : (s new : Store) (u : ℕ) (table : Table) → Adds s new u table → leaf_grid new ≡ leaf_grid s
adds_leaves s new u table a = ap (λ (it : Rattle.std.specs.declared.vec.Vec.Vec Rattle.page_tables.specs.Leaf.Leaf Rattle.std.specs.declared.alloc.Global.Global). map (λ (it : Rattle.page_tables.specs.Leaf.Leaf). it.entries) it.items) a.leaves

pub adds_keeps : (s new : Store) (u : ℕ) (table : Table) → Adds s new u table → KeepsLeaves s new
adds_keeps s new u table a = record { leaves = adds_leaves s new u table a; sharers = λ f. ap (λ (it : Shares). count_of it f) a.frame_counts }

pub adds_sets : (s new : Store) (u : ℕ) (table : Table) → Adds s new u table → SetsRow s new u table.leaves.items
adds_sets s new u table a = record {
  there = omega (arith, a.adds.within, length-map s.tables.items row_of);
  tables = adds_grid s new u table a.adds;
  sharers = λ l. omega (arith, a.sharers l, ap (λ (row : Row). held leaf_key row l) (adds_no_row s new u table a.adds));
  len = a.len;
}

pub adds_bytes : (s new : Store) (u : ℕ) (table : Table) → Adds s new u table → SameBytes s new
adds_bytes s new u table a f = ap (λ (it : Rattle.std.specs.declared.vec.Vec.Vec Rattle.page_tables.specs.declared.frame.Frame.Frame Rattle.std.specs.declared.alloc.Global.Global). Rattle.page_tables.specs.Frame.frame_bytes it.items f) a.frames

-- the entries of the other tables
pub adds_entries : (s new : Store) (u : ℕ) (table : Table) → Adds s new u table → (v q : ℕ) → v ≢ u → entry_at new v q ≡ entry_at s v q
adds_entries s new u table a v q off =
    ap (λ (row : Row). entry_in new (get_or row (q / 1024) None) (q % 1024)) (adds_other_row s new u table a.adds v off)
    ∙ entry_in-same s new (adds_leaves s new u table a) (place_at s v (q / 1024)) (q % 1024)

pub adds_room : (s new : Store) (u : ℕ) (table : Table) → HasRoom s → Adds s new u table → length table.leaves.items ≡ 1024 → HasRoom new
adds_room s new u table room a rows =
    let fs = ap (λ (it : Rattle.std.specs.declared.vec.Vec.Vec Rattle.page_tables.specs.declared.frame.Frame.Frame Rattle.std.specs.declared.alloc.Global.Global). length it.items) a.frames in
    record {
      frames = omega (arith, ap (λ (it : Shares). length it.counts) a.frame_counts, room.frames, fs);
      reads = omega (arith, room.reads, a.reads);
      tables =
          omega (
            arith,
            ap (λ (cs : List ℕ). length cs) a.adds.counts,
            length-set s.table_counts.counts u 1,
            ap (λ (ts : List (Option Table)). length ts) a.adds.tables,
            length-set s.tables.items u (Some table),
            room.tables,
          );
      frames_tallied = subst AreTallied (sym a.frame_counts) room.frames_tallied;
      leaves_tallied = a.tallied;
      tables_tallied = a.adds.tallied;
      numbers = λ t. elim (cases_eq t u) [
        | inl here ↦
            ap (count_of new.table_counts) here ∙ count-here s.table_counts new.table_counts u 1 a.adds.counts (omega (arith, a.adds.within, room.tables))
            ∙ sym (ap (λ n. cond {A = ℕ} (is_some (get_or new.tables.items n None)) 1 0) here ∙ ap (λ (o : Option Table). cond {A = ℕ} (is_some o) 1 0) (adds_here s new u table a.adds))
        | inr off ↦
            count-other s.table_counts new.table_counts u 1 a.adds.counts t off ∙ room.numbers t
            ∙ sym (ap (λ (o : Option Table). cond {A = ℕ} (is_some o) 1 0) (adds_other s new u table a.adds t off))
      ];
      rows = λ t live. elim (cases_eq t u) [
        | inl here ↦ ap (λ n. length (get_or (table_grid new) n [])) here ∙ ap (λ (row : Row). length row) (adds_row s new u table a.adds) ∙ rows
        | inr off ↦
            ap (λ (row : Row). length row) (adds_other_row s new u table a.adds t off)
            ∙ room.rows t (sym (ap (λ (o : Option Table). is_some o) (adds_other s new u table a.adds t off)) ∙ live)
      ];
      whole = λ f within. ap (λ (bs : List ℕ). length bs) (adds_bytes s new u table a f) ∙ room.whole f (omega (arith, within, fs));
      bytes = λ f within. subst (All (λ b. b < 256)) (sym (adds_bytes s new u table a f)) (room.bytes f (omega (arith, within, fs)));
    }

pub adds_store : (s new : Store) (u : ℕ) (table : Table) → IsStore s → IsKept new → Adds s new u table → length table.leaves.items ≡ 1024 → ((i l : ℕ) → get_or table.leaves.items i None ≡ Some l → 0 < pages_kept s l)
    → IsCounted new u → IsStore new
adds_store s new u table store also a rows filled counted =
    let pages : (l : ℕ) → pages_kept new l ≡ pages_kept s l = λ l.
    ap (λ (it : Rattle.std.specs.declared.vec.Vec.Vec Rattle.page_tables.specs.Leaf.Leaf Rattle.std.specs.declared.alloc.Global.Global). get_or (map (λ (it : Rattle.page_tables.specs.Leaf.Leaf). it.mapped) it.items) l 0) a.leaves in
    record {
      kept = also;
      room = adds_room s new u table store.room a rows;
      slots = λ l. pages l ∙ store.slots l ∙ sym (ap (λ (g : List (List (Option Entry))). Rattle.page_tables.specs.Leaf.present (get_or g l [])) (adds_leaves s new u table a));
      filled = λ t i l is. elim (cases_eq t u) [
        | inl here ↦
            omega (
              arith,
              pages l,
              filled i l (sym (ap (λ (row : Row). get_or row i None) (adds_row s new u table a.adds)) ∙ ap (λ n. place_at new n i) (sym here) ∙ is),
            )
        | inr off ↦ omega (arith, pages l, store.filled t i l (sym (ap (λ (row : Row). get_or row i None) (adds_other_row s new u table a.adds t off)) ∙ is))
      ];
      counted = λ t. elim (cases_eq t u) [
        | inl here ↦ subst (IsCounted new) (sym here) counted
        | inr off ↦
            IsCounted-same s new t store.kept also (λ q. adds_entries s new u table a t q off) (ap (λ (row : Row). length row) (adds_other_row s new u table a.adds t off))
            (λ w. (
              ap (λ (o : Option Table). count_in (mapped_counts o) w) (adds_other s new u table a.adds t off),
              ap (λ (o : Option Table). count_in (written_counts o) w) (adds_other s new u table a.adds t off),
            )) (store.counted t)
      ];
    }

-- WITHOUT LEAVES

pub mapped-none : (w : Window) (k : ℕ) (es : List (Option Entry)) → ((i : ℕ) → get_or es i None ≡ None) → mapped_from w k es ≡ 0
mapped-none w k [] none = refl
mapped-none w k (o ∷ rest) none = omega (arith, ap (mapped_one w k) (none 0), mapped-none w (k + 1) rest (λ i. none (suc i)))

pub written-none : (w : Window) (k : ℕ) (es : List (Option Entry)) → ((i : ℕ) → get_or es i None ≡ None) → written_from w k es ≡ 0
written-none w k [] none = refl
written-none w k (o ∷ rest) none = omega (arith, ap (written_one w k) (none 0), written-none w (k + 1) rest (λ i. none (suc i)))

pub count_in-none : (w : Window) → count_in no_counts w ≡ 0
count_in-none w = Rattle.page_tables.proofs.WindowLemmas.count-none w

pub get_or-no_leaf : (n i : ℕ) → get_or {A = Option ℕ} (replicate n None) i None ≡ None
get_or-no_leaf zero i = refl
get_or-no_leaf (suc n) zero = refl
get_or-no_leaf (suc n) (suc i) = get_or-no_leaf n i

-- a table without leaves, and without counts
pub record IsBare (table : Table) : Type 0 where
  pub leaves : table.leaves.items ≡ replicate 1024 None
  pub mapped : table.mapped ≡ no_counts
  pub written : table.written ≡ no_counts

pub bare_at : (table : Table) → IsBare table → (i : ℕ) → get_or table.leaves.items i None ≡ None
bare_at table bare i = ap (λ (row : Row). get_or row i None) bare.leaves ∙ get_or-no_leaf 1024 i

pub bare_place : (s new : Store) (u : ℕ) (table : Table) → AddsTable s new u table → IsBare table → (i : ℕ) → place_at new u i ≡ None
bare_place s new u table adds bare i = ap (λ (row : Row). get_or row i None) (adds_row s new u table adds) ∙ bare_at table bare i

pub bare_entry : (s new : Store) (u : ℕ) (table : Table) → AddsTable s new u table → IsBare table → (q : ℕ) → entry_at new u q ≡ None
bare_entry s new u table adds bare q = ap (λ (o : Option ℕ). entry_in new o (q % 1024)) (bare_place s new u table adds bare (q / 1024))

pub bare_kept : (s new : Store) (u : ℕ) (table : Table) → IsKept s → Adds s new u table → IsBare table → IsKept new
bare_kept s new u table kept a bare =
    let keeps = adds_keeps s new u table a in
    record {
      whole = whole-same s new kept.whole keeps.leaves a.len;
      counts = record {
        frames = frames-same s new kept.counts keeps;
        leaves = leaves-row s new u table.leaves.items kept.counts (adds_sets s new u table a);
        empty = λ l i none. entry_in-same s new keeps.leaves (Some l) i ∙ kept.counts.empty l i (omega (arith, none, a.sharers l));
      };
      pages = HasPages-fewer s new kept.pages (λ v q d is. elim (cases_eq v u) [
        | inl here ↦ absurd (none-some d (sym (bare_entry s new u table a.adds bare q) ∙ ap (λ n. entry_at new n q) (sym here) ∙ is))
        | inr off ↦ sym (adds_entries s new u table a v q off) ∙ is
      ]);
    }

pub bare_store : (s new : Store) (u : ℕ) (table : Table) → IsStore s → Adds s new u table → IsBare table → IsStore new
bare_store s new u table store a bare =
    let also = bare_kept s new u table store.kept a bare in
    let here = adds_here s new u table a.adds in
    let none = λ (i : ℕ). entry-flat new also u i ∙ bare_entry s new u table a.adds bare i in
    adds_store s new u table store also a (ap (λ (row : Row). length row) bare.leaves ∙ length-replicate {A = Option ℕ} 1024 None)
    (λ i l is. absurd (none-some l (sym (bare_at table bare i) ∙ is)))
    (record {
      mapped = λ w.
          ap (λ (o : Option Table). count_in (mapped_counts o) w) here ∙ ap (λ (c : Counts). count_in c w) bare.mapped ∙ count_in-none w
          ∙ sym (mapped-none w 0 (table_entries new u) none);
      written = λ w.
          ap (λ (o : Option Table). count_in (written_counts o) w) here ∙ ap (λ (c : Counts). count_in c w) bare.written ∙ count_in-none w
          ∙ sym (written-none w 0 (table_entries new u) none);
    })

-- WITH THE LEAVES OF ANOTHER

pub flat-grid : (s new : Store) → leaf_grid new ≡ leaf_grid s → (row : Row) → flat new row ≡ flat s row
flat-grid s new same [] = refl
flat-grid s new same (None ∷ rest) = ap (λ (it : List (Option Entry)). replicate 1024 None ++ it) (flat-grid s new same rest)
flat-grid s new same (Some l ∷ rest) =
    ap (λ (g : List (List (Option Entry))). get_or g l [] ++ flat new rest) same ∙ ap (λ (it : List (Option Entry)). get_or (leaf_grid s) l [] ++ it) (flat-grid s new same rest)

-- the leaves and the counts of a table
pub record IsCopy (s : Store) (t : ℕ) (table : Table) : Type 0 where
  pub leaves : table.leaves.items ≡ get_or (table_grid s) t []
  pub mapped : table.mapped ≡ mapped_counts (get_or s.tables.items t None)
  pub written : table.written ≡ written_counts (get_or s.tables.items t None)

pub copy_forks : (s new : Store) (t u : ℕ) (table : Table) → Adds s new u table → IsCopy s t table → Settled s t → Forks s new t u
copy_forks s new t u table a copy settled = record {
  fresh = λ i. ap (λ (row : Row). get_or row i None) (adds_no_row s new u table a.adds);
  settled = settled;
  row = subst (SetsRow s new u) copy.leaves (adds_sets s new u table a);
  leaves = adds_keeps s new u table a;
}

pub copy_store : (s new : Store) (t u : ℕ) (table : Table) → IsStore s → Adds s new u table → IsCopy s t table → Settled s t → IsTrue (is_some (get_or s.tables.items t None)) → IsStore new
copy_store s new t u table store a copy settled live =
    let also = fork_kept s new t u store.kept (copy_forks s new t u table a copy settled) in
    let here = adds_here s new u table a.adds in
    let entries : table_entries new u ≡ table_entries s t =
    flat-grid s new (adds_leaves s new u table a) (get_or (table_grid new) u []) ∙ ap (λ (row : Row). flat s row) (adds_row s new u table a.adds ∙ copy.leaves) in
    adds_store s new u table store also a (ap (λ (row : Row). length row) copy.leaves ∙ store.room.rows t live)
    (λ i l is. store.filled t i l (ap (λ (row : Row). get_or row i None) (sym copy.leaves) ∙ is))
    (record {
      mapped = λ w.
          ap (λ (o : Option Table). count_in (mapped_counts o) w) here ∙ ap (λ (c : Counts). count_in c w) copy.mapped ∙ (store.counted t).mapped w
          ∙ sym (ap (mapped_from w 0) entries);
      written = λ w.
          ap (λ (o : Option Table). count_in (written_counts o) w) here ∙ ap (λ (c : Counts). count_in c w) copy.written ∙ (store.counted t).written w
          ∙ sym (ap (written_from w 0) entries);
    })

-- WHAT IS SEEN OF EITHER

pub record Added (s new : Store) (u : ℕ) : Type 0 where
  pub fresh : is_live (shown s) u ≡ false
  pub live : IsTrue (is_live (shown new) u)
  pub rest : ChangesTable (shown s) (shown new) u
  pub others : OtherLeaves (shown s) (shown new) u
  pub used : used_leaves (shown new) ≡ used_leaves (shown s)
  pub room : KeepsRoom (shown s) (shown new)

pub added : (s m new : Store) (u : ℕ) (table : Table) → IsStore s → IsStore m → SeemsSame s m → Adds m new u table → IsStore new → Added s new u
added s m new u table store wide seems a also = record {
  fresh = live-shown s s.tables.items u ∙ ap (λ (o : Option Table). is_some o) (sym (seems.tables u) ∙ a.adds.fresh);
  live = live-shown new new.tables.items u ∙ ap (λ (o : Option Table). is_some o) (adds_here m new u table a.adds);
  rest = record {
    others = λ v q off.
        page-kept m new wide.kept also.kept v q v q (adds_entries m new u table a v q off) (λ e is. adds_bytes m new u table a e.frame)
        ∙ seems_pages s m store.kept wide.kept seems v q;
    live = λ v off.
        live-shown new new.tables.items v ∙ ap (λ (o : Option Table). is_some o) (adds_other m new u table a.adds v off ∙ seems.tables v)
        ∙ sym (live-shown s s.tables.items v);
    reads = a.reads ∙ ap (λ (it : Store). it.reads) seems.rest;
  };
  others = λ v i off. ap (λ (row : Row). get_or row i None) (adds_other_row m new u table a.adds v off ∙ seems_row s m seems v);
  used =
      omega (
        arith,
        leaves_counted s store.kept store.room,
        leaves_counted new also.kept also.room,
        a.spare,
        a.len,
        ap (λ (it : Store). it.leaf_counts.spare) seems.rest,
        ap (λ (it : Store). length it.leaf_counts.counts) seems.rest,
      );
  room =
      keeps_room s new store also
      (ap (λ (it : Rattle.std.specs.declared.vec.Vec.Vec Rattle.page_tables.specs.declared.frame.Frame.Frame Rattle.std.specs.declared.alloc.Global.Global). length it.items) a.frames
      ∙ ap (λ (it : Store). length it.frames.items) seems.rest)
      (a.len ∙ ap (λ (it : Store). length it.leaf_counts.counts) seems.rest)
      (ap (λ (it : Shares). it.spare) a.frame_counts ∙ ap (λ (it : Store). it.frame_counts.spare) seems.rest)
      (a.spare ∙ ap (λ (it : Store). it.leaf_counts.spare) seems.rest);
}

-- a table without leaves
pub bare_pages : (new : Store) (s : Store) (u : ℕ) (table : Table) → IsStore new → Adds s new u table → IsBare table → (p : ℕ) → page_at (shown new) u p ≡ None
bare_pages new s u table also a bare p =
    page_at-shown new also.kept u p ∙ ap (option_map (page_of_entry new)) (bare_entry s new u table a.adds bare p)

-- a table with the leaves of another
pub copy_pages : (s m new : Store) (t u : ℕ) (table : Table) → IsStore s → IsStore m → SeemsSame s m → Adds m new u table → IsCopy m t table → Settled m t → IsStore new
    → (p : ℕ) → page_at (shown new) u p ≡ page_at (shown s) t p
copy_pages s m new t u table store wide seems a copy settled also p =
    page-kept m new wide.kept also.kept t p u p ((fork_entries m new t u (copy_forks m new t u table a copy settled)).here p) (λ e is. adds_bytes m new u table a e.frame)
    ∙ seems_pages s m store.kept wide.kept seems t p

-- WHAT THE STEPS WANT

-- a number that nobody has names no table
pub free_number : (s : Store) → HasRoom s → (u : ℕ) → count_of s.table_counts u ≡ 0 → get_or s.tables.items u None ≡ None
free_number s room u free = by (get_or s.tables.items u None) refl
  where
    by : (o : Option Table) → get_or s.tables.items u None ≡ o → get_or s.tables.items u None ≡ None
    by None at = at
    by (Some table) at = absurd (omega (arith, free, room.numbers u, ap (λ (o : Option Table). cond {A = ℕ} (is_some o) 1 0) at))

pub rows-le : (g : List Row) (l : ℕ) → ((r : ℕ) → length (get_or g r []) ≤ 1024) → all_held leaf_key g l ≤ length g * 1024
rows-le [] l rows = omega arith
rows-le (row ∷ rest) l rows =
    omega (
      arith,
      rows-le rest l (λ r. rows (suc r)),
      held-le leaf_key row 1024 l,
      ap (λ (it : Row). held leaf_key it l) (take-all row 1024 (rows 0)),
    )

pub row-le : (s : Store) → HasRoom s → (t : ℕ) → length (get_or (table_grid s) t []) ≤ 1024
row-le s room t = by (get_or s.tables.items t None) refl
  where
    by : (o : Option Table) → get_or s.tables.items t None ≡ o → length (get_or (table_grid s) t []) ≤ 1024
    by None at = omega (arith, ap (λ (row : Row). length row) (grid_row s.tables.items t ∙ ap row_of at))
    by (Some table) at = omega (arith, room.rows t (ap (λ (o : Option Table). is_some o) at))

-- each leaf may be shared once more by each place of a table
pub leaves_fit : (s : Store) → IsStore s → (l : ℕ) → leaf_sharers s l + 1024 < 2 ^ 64
leaves_fit s store l =
    omega (
      arith,
      store.kept.counts.leaves l,
      rows-le (table_grid s) l (row-le s store.room),
      length-map s.tables.items row_of,
      store.room.tables,
      store.room.tables_tallied.few,
    )

-- a leaf of a table has a sharer
pub row_leaf : (s : Store) → IsKept s → (t : ℕ) (row : Row) → row ≡ get_or (table_grid s) t [] → (i l : ℕ) → get_or row i None ≡ Some l → (l < length s.leaf_counts.counts) × (0 < leaf_sharers s l)
row_leaf s kept t row same i l is =
    let some = leaf_held s kept.counts t i l (ap (λ (it : Row). get_or it i None) (sym same) ∙ is) in
    (leaf_within s l some, omega (arith, some))

pub room_shares : (s : Store) (shares : Shares) → HasRoom s → AreTallied shares → HasRoom (record s { leaf_counts = shares })
room_shares s shares room tallied = record {
  frames = room.frames;
  reads = room.reads;
  tables = room.tables;
  frames_tallied = room.frames_tallied;
  leaves_tallied = tallied;
  tables_tallied = room.tables_tallied;
  numbers = room.numbers;
  rows = room.rows;
  whole = room.whole;
  bytes = room.bytes;
}

pub seems_used : (s new : Store) → IsStore s → IsStore new → SeemsSame s new → used_leaves (shown new) ≡ used_leaves (shown s)
seems_used s new store also seems =
    omega (
      arith,
      leaves_counted s store.kept store.room,
      leaves_counted new also.kept also.room,
      ap (λ (it : Store). it.leaf_counts.spare) seems.rest,
      ap (λ (it : Store). length it.leaf_counts.counts) seems.rest,
    )

pub seems_room : (s new : Store) → IsStore s → IsStore new → SeemsSame s new → KeepsRoom (shown s) (shown new)
seems_room s new store also seems =
    keeps_room s new store also
    (ap (λ (it : Store). length it.frames.items) seems.rest)
    (ap (λ (it : Store). length it.leaf_counts.counts) seems.rest)
    (ap (λ (it : Store). it.frame_counts.spare) seems.rest)
    (ap (λ (it : Store). it.leaf_counts.spare) seems.rest)

-- A NEW TABLE, AND A FORK

pub record NewTable (s new : Store) (u : ℕ) : Type 0 where
  pub store : IsStore new
  pub seen : Added s new u
  pub pages : (p : ℕ) → page_at (shown new) u p ≡ None
  pub none : (i : ℕ) → place_at new u i ≡ None

pub new_begins : (s m new : Store) (u : ℕ) (table : Table) → IsStore s → IsStore m → SeemsSame s m → AddsTable m new u table → new ≡ record m { tables = new.tables; table_counts = new.table_counts } → IsBare table
    → NewTable s new u
new_begins s m new u table store wide seems adds rest bare =
    let a : Adds m new u table = record {
      adds = adds;
      leaves = ap (λ (it : Store). it.leaves) rest;
      frames = ap (λ (it : Store). it.frames) rest;
      frame_counts = ap (λ (it : Store). it.frame_counts) rest;
      reads = ap (λ (it : Store). it.reads) rest;
      sharers = λ l. omega (arith, ap (λ (it : Store). leaf_sharers it l) rest, held-empty leaf_key table.leaves.items l (bare_at table bare));
      len = ap (λ (it : Store). length it.leaf_counts.counts) rest;
      spare = ap (λ (it : Store). it.leaf_counts.spare) rest;
      tallied = subst (λ (it : Store). AreTallied it.leaf_counts) (sym rest) wide.room.leaves_tallied;
    } in
    let also = bare_store m new u table wide a bare in
    record {
      store = also;
      seen = added s m new u table store wide seems a also;
      pages = bare_pages new m u table also a bare;
      none = bare_place m new u table adds bare;
    }

-- the leaves of a table got a sharer more for each place
pub record SharesRow (s : Store) (table : Table) (shares : Shares) : Type 0 where
  pub sharers : (l : ℕ) → count_of shares l ≡ leaf_sharers s l + held leaf_key table.leaves.items l
  pub spare : shares.spare ≡ s.leaf_counts.spare
  pub len : length shares.counts ≡ length s.leaf_counts.counts
  pub tallied : AreTallied shares

pub record ForkedTable (s new : Store) (t u : ℕ) : Type 0 where
  pub store : IsStore new
  pub seen : Added s new u
  pub pages : (p : ℕ) → page_at (shown new) u p ≡ page_at (shown s) t p
  pub same : (i : ℕ) → place_at new u i ≡ place_at s t i

pub fork_begins : (s m new : Store) (t u : ℕ) (table : Table) (shares : Shares) → IsStore s → IsStore m → SeemsSame s m → IsTrue (is_some (get_or s.tables.items t None)) → IsSettled (shown s) t → IsCopy s t table → SharesRow m table shares
    → AddsTable m new u table → new ≡ record m { leaf_counts = shares; tables = new.tables; table_counts = new.table_counts } → ForkedTable s new t u
fork_begins s m new t u table shares store wide seems live unwritten copy more adds rest =
    let is : new.leaf_counts ≡ shares = ap (λ (it : Store). it.leaf_counts) rest in
    let a : Adds m new u table = record {
      adds = adds;
      leaves = ap (λ (it : Store). it.leaves) rest;
      frames = ap (λ (it : Store). it.frames) rest;
      frame_counts = ap (λ (it : Store). it.frame_counts) rest;
      reads = ap (λ (it : Store). it.reads) rest;
      sharers = λ l. ap (λ (it : Shares). count_of it l) is ∙ more.sharers l;
      len = ap (λ (it : Shares). length it.counts) is ∙ more.len;
      spare = ap (λ (it : Shares). it.spare) is ∙ more.spare;
      tallied = subst AreTallied (sym is) more.tallied;
    } in
    let copied : IsCopy m t table = record {
      leaves = copy.leaves ∙ sym (seems_row s m seems t);
      mapped = copy.mapped ∙ sym (ap mapped_counts (seems.tables t));
      written = copy.written ∙ sym (ap written_counts (seems.tables t));
    } in
    let plain = settled_entries s t store.kept unwritten in
    let settled : Settled m t = (λ p e at. plain p e (sym (seems_entries s m seems t p) ∙ at)) in
    let also = copy_store m new t u table wide a copied settled (ap (λ (o : Option Table). is_some o) (seems.tables t) ∙ live) in
    record {
      store = also;
      seen = added s m new u table store wide seems a also;
      pages = copy_pages s m new t u table store wide seems a copied settled also;
      same = λ i. ap (λ (row : Row). get_or row i None) (adds_row m new u table adds ∙ copy.leaves);
    }
