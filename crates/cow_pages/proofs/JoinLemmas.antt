-- A store to which free frames and leaves joined, or for which memory alone was taken.
use Rattle.std.proofs.Common.{◌≡◌, ℕ, zero, suc, ◌+◌, ◌<◌, ◌/◌, ◌%◌, ◌++◌, List, [], ◌∷◌, length, map, get_or, Some, None, Option, refl, sym, ap, subst, ◌∙◌, arith}
use Rattle.std.specs.Prelude.{All, replicate, min}
use Rattle.std.proofs.lemmas.List.{length-append, length-replicate, length-map, get_or-replicate, append-nil}
use Rattle.sharers.specs.Shares.{Shares, AreTallied, count_of}
use Rattle.page_tables.specs.declared.frame.Frame.{Frame}
use Rattle.page_tables.specs.declared.leaf.Entry.{Entry}
use Rattle.page_tables.specs.declared.table.Table.{Table}
use Rattle.cow_pages.specs.declared.store.Store.{Store}
use Rattle.cow_pages.specs.Memory.{Memory, Table as Pages}
use Rattle.page_tables.specs.Frame.{zero_frame, frame_bytes}
use Rattle.page_tables.specs.Leaf.{Leaf, no_leaf, present}
use Rattle.page_tables.specs.Grid.{cell, all_held}
use Rattle.cow_pages.specs.Store.{Row, row_of, frame_key, leaf_key, leaf_grid, table_grid, bytes_of, frame_sharers, leaf_sharers, pages_kept, place_at, entry_in, entry_at, flat, page_of_entry, pages_from, shown_table, shown, CountsSlots, IsKept, HasRoom, IsStore}
use Rattle.cow_pages.specs.Steps.{SameEntries, AddsRoom}
use Rattle.page_tables.proofs.GridLemmas.{held-empty}
use Rattle.cow_pages.proofs.CountLemmas.{count-joined}
use Rattle.cow_pages.proofs.ShownLemmas.{get_or-none}
use Rattle.cow_pages.proofs.SeenLemmas.{page_as}
use Rattle.cow_pages.proofs.StepLemmas.{HasPages-fewer}
use Rattle.cow_pages.proofs.FlatLemmas.{flat-same, entry-flat}
use Rattle.cow_pages.proofs.SoundLemmas.{entry_within}
use Rattle.cow_pages.proofs.StoreLemmas.{IsCounted-same}

-- so many frames and leaves joined, none of them used
pub record Joins (s new : Store) (n m : ℕ) : Type 0 where
  pub frames : new.frames.items ≡ s.frames.items ++ replicate n zero_frame
  pub leaves : new.leaves.items ≡ s.leaves.items ++ replicate m no_leaf
  pub frame_counts : new.frame_counts.counts ≡ s.frame_counts.counts ++ replicate n 0
  pub leaf_counts : new.leaf_counts.counts ≡ s.leaf_counts.counts ++ replicate m 0
  pub frames_tallied : AreTallied new.frame_counts
  pub leaves_tallied : AreTallied new.leaf_counts
  pub tables : new.tables ≡ s.tables
  pub numbers : new.table_counts ≡ s.table_counts
  pub reads : new.reads ≡ s.reads

-- WHAT STANDS IN A LIST WHEN MORE JOINED

-- a field that the new ones have as it is of none is as it was
pub joined-at : {X B C : Type 0} (f : X → B) (g : B → C) (d : B) (y : X) → g (f y) ≡ g d → (xs : List X) (n k : ℕ) → g (get_or (map f (xs ++ replicate n y)) k d) ≡ g (get_or (map f xs) k d)
joined-at f g d y same [] zero k = refl
joined-at f g d y same [] (suc n) zero = same
joined-at f g d y same [] (suc n) (suc k) = joined-at f g d y same [] n k
joined-at f g d y same (x ∷ xs) n zero = refl
joined-at f g d y same (x ∷ xs) n (suc k) = joined-at f g d y same xs n k

-- what holds of a field of each, and of the new one
pub joined-all : {X B : Type 0} (f : X → B) (P : B → Type 0) (d : B) (y : X) → P (f y) → (xs : List X) → ((k : ℕ) → k < length xs → P (get_or (map f xs) k d))
    → (n k : ℕ) → k < length xs + n → P (get_or (map f (xs ++ replicate n y)) k d)
joined-all f P d y new [] all zero k within = absurd (omega arith)
joined-all f P d y new [] all (suc n) zero within = new
joined-all f P d y new [] all (suc n) (suc k) within = joined-all f P d y new [] all n k (omega arith)
joined-all f P d y new (x ∷ xs) all n zero within = all 0 (omega arith)
joined-all f P d y new (x ∷ xs) all n (suc k) within = joined-all f P d y new xs (λ i below. all (suc i) (omega arith)) n k (omega arith)

pub all-joined : (x : ℕ) (xs : List Leaf) (m : ℕ) → all_held frame_key (map (λ (it : Leaf). it.entries) (xs ++ replicate m no_leaf)) x ≡ all_held frame_key (map (λ (it : Leaf). it.entries) xs) x
all-joined x [] zero = refl
all-joined x [] (suc m) = omega (arith, all-joined x [] m, held-empty frame_key (replicate 1024 None) x (get_or-none 1024))
all-joined x (l ∷ xs) m = omega (arith, all-joined x xs m)

pub present-none : (n : ℕ) → present (replicate n None) ≡ 0
present-none zero = refl
present-none (suc n) = omega (arith, present-none n)

-- WHAT HOLDS OF THE STORE

pub joined_cell : (s new : Store) (n m : ℕ) → Joins s new n m → (l a : ℕ) → cell (leaf_grid new) l a ≡ cell (leaf_grid s) l a
joined_cell s new n m j l a =
    ap (λ (ls : List Leaf). get_or (get_or (map (λ (it : Leaf). it.entries) ls) l []) a None) j.leaves
    ∙ joined-at (λ (it : Leaf). it.entries) (λ (row : List (Option Entry)). get_or row a None) [] no_leaf (get_or-none 1024 a) s.leaves.items m l

pub joined_grid : (s new : Store) (n m : ℕ) → Joins s new n m → table_grid new ≡ table_grid s
joined_grid s new n m j = ap (λ (it : Rattle.std.specs.declared.vec.Vec.Vec (Option Table) Rattle.std.specs.declared.alloc.Global.Global). map row_of it.items) j.tables

pub joined_entries : (s new : Store) (n m : ℕ) → Joins s new n m → SameEntries s new
joined_entries s new n m j u q =
    ap (λ (g : List Row). entry_in new (cell g u (q / 1024)) (q % 1024)) (joined_grid s new n m j) ∙ by_leaf (place_at s u (q / 1024))
  where
    by_leaf : (o : Option ℕ) → entry_in new o (q % 1024) ≡ entry_in s o (q % 1024)
    by_leaf None = refl
    by_leaf (Some l) = joined_cell s new n m j l (q % 1024)

pub joined_kept : (s new : Store) (n m : ℕ) → IsStore s → Joins s new n m → IsKept new
joined_kept s new n m store j =
    let kept = store.kept in
    let len = length-map s.leaves.items (λ (it : Leaf). it.entries) in
    record {
      whole = record {
        count =
            omega (
              arith,
              ap (λ (cs : List ℕ). length cs) j.leaf_counts,
              length-append s.leaf_counts.counts (replicate m 0),
              length-replicate {A = ℕ} m 0,
              ap (λ (ls : List Leaf). length ls) j.leaves,
              length-append s.leaves.items (replicate m no_leaf),
              length-replicate m no_leaf,
              length-map new.leaves.items (λ (it : Leaf). it.entries),
              kept.whole.count,
              len,
            );
        leaves = λ l within.
            ap (λ (ls : List Leaf). length (get_or (map (λ (it : Leaf). it.entries) ls) l [])) j.leaves
            ∙ joined-all (λ (it : Leaf). it.entries) (λ (row : List (Option Entry)). length row ≡ 1024) [] no_leaf (length-replicate {A = Option Entry} 1024 None) s.leaves.items
            (λ k below. kept.whole.leaves k (omega (arith, below, len))) m l
            (omega (
              arith,
              within,
              length-map new.leaves.items (λ (it : Leaf). it.entries),
              ap (λ (ls : List Leaf). length ls) j.leaves,
              length-append s.leaves.items (replicate m no_leaf),
              length-replicate m no_leaf,
            ));
      };
      counts = record {
        frames = λ f.
            count-joined s.frame_counts new.frame_counts n j.frame_counts f ∙ kept.counts.frames f
            ∙ sym (ap (λ (ls : List Leaf). all_held frame_key (map (λ (it : Leaf). it.entries) ls) f) j.leaves ∙ all-joined f s.leaves.items m);
        leaves = λ l.
            count-joined s.leaf_counts new.leaf_counts m j.leaf_counts l ∙ kept.counts.leaves l
            ∙ sym (ap (λ (g : List Row). all_held leaf_key g l) (joined_grid s new n m j));
        empty = λ l a none. joined_cell s new n m j l a ∙ kept.counts.empty l a (sym (count-joined s.leaf_counts new.leaf_counts m j.leaf_counts l) ∙ none);
      };
      pages = HasPages-fewer s new kept.pages (λ u q d is. sym (joined_entries s new n m j u q) ∙ is);
    }

pub joined_room : (s new : Store) (n m : ℕ) → HasRoom s → Joins s new n m → HasRoom new
joined_room s new n m room j =
    let len : length new.frames.items ≡ length s.frames.items + n = omega (arith, ap (λ (fs : List Frame). length fs) j.frames, length-append s.frames.items (replicate n zero_frame), length-replicate n zero_frame) in
    let grid = joined_grid s new n m j in
    let items : new.tables.items ≡ s.tables.items = ap (λ (it : Rattle.std.specs.declared.vec.Vec.Vec (Option Table) Rattle.std.specs.declared.alloc.Global.Global). it.items) j.tables in
    record {
      frames = omega (arith, ap (λ (cs : List ℕ). length cs) j.frame_counts, length-append s.frame_counts.counts (replicate n 0), length-replicate {A = ℕ} n 0, room.frames, len);
      reads = omega (arith, room.reads, j.reads);
      tables = omega (arith, ap (λ (it : Shares). length it.counts) j.numbers, room.tables, ap (λ (ts : List (Option Table)). length ts) items);
      frames_tallied = j.frames_tallied;
      leaves_tallied = j.leaves_tallied;
      tables_tallied = subst AreTallied (sym j.numbers) room.tables_tallied;
      numbers = λ t.
          ap (λ (it : Shares). count_of it t) j.numbers ∙ room.numbers t
          ∙ sym (ap (λ (ts : List (Option Table)). Rattle.std.proofs.Common.cond {A = ℕ} (Rattle.std.proofs.Common.is_some (get_or ts t None)) 1 0) items);
      rows = λ t live.
          ap (λ (g : List Row). length (get_or g t [])) grid
          ∙ room.rows t (sym (ap (λ (ts : List (Option Table)). Rattle.std.proofs.Common.is_some (get_or ts t None)) items) ∙ live);
      whole = λ f within.
          ap (λ (fs : List Frame). length (frame_bytes fs f)) j.frames
          ∙ joined-all (λ (it : Frame). it.bytes) (λ (bs : List ℕ). length bs ≡ 4096) [] zero_frame (length-replicate {A = ℕ} 4096 0) s.frames.items room.whole n f (omega (arith, within, len));
      bytes = λ f within.
          subst (λ (fs : List Frame). All (λ b. b < 256) (frame_bytes fs f)) (sym j.frames)
          (joined-all (λ (it : Frame). it.bytes) (λ (bs : List ℕ). All (λ b. b < 256) bs) [] zero_frame (small_zeros 4096) s.frames.items room.bytes n f (omega (arith, within, len)));
    }
  where
    small_zeros : (n : ℕ) → All (λ b. b < 256) (replicate n 0)
    small_zeros n k d within = rw (get_or-replicate n k 0 d (omega (arith, length-replicate {A = ℕ} n 0))) (omega arith)

pub joined_store : (s new : Store) (n m : ℕ) → IsStore s → Joins s new n m → IsStore new
joined_store s new n m store j =
    let also = joined_kept s new n m store j in
    let grid = joined_grid s new n m j in
    let pages : (l : ℕ) → pages_kept new l ≡ pages_kept s l = λ l.
    ap (λ (ls : List Leaf). get_or (map (λ (it : Leaf). it.mapped) ls) l 0) j.leaves ∙ joined-at (λ (it : Leaf). it.mapped) (λ (c : ℕ). c) 0 no_leaf refl s.leaves.items m l in
    record {
      kept = also;
      room = joined_room s new n m store.room j;
      slots = λ l.
          pages l ∙ store.slots l
          ∙ sym (ap (λ (ls : List Leaf). present (get_or (map (λ (it : Leaf). it.entries) ls) l [])) j.leaves ∙ joined-at (λ (it : Leaf). it.entries) present [] no_leaf (present-none 1024) s.leaves.items m l);
      filled = λ t i l is. omega (arith, pages l, store.filled t i l (sym (ap (λ (g : List Row). cell g t i) grid) ∙ is));
      counted = λ t.
          IsCounted-same s new t store.kept also (joined_entries s new n m j t) (ap (λ (g : List Row). length (get_or g t [])) grid)
          (λ w. (
            ap (λ (it : Rattle.std.specs.declared.vec.Vec.Vec (Option Table) Rattle.std.specs.declared.alloc.Global.Global). Rattle.page_tables.specs.Counts.count_in (Rattle.cow_pages.specs.Store.mapped_counts (get_or it.items t None)) w) j.tables,
            ap (λ (it : Rattle.std.specs.declared.vec.Vec.Vec (Option Table) Rattle.std.specs.declared.alloc.Global.Global). Rattle.page_tables.specs.Counts.count_in (Rattle.cow_pages.specs.Store.written_counts (get_or it.items t None)) w) j.tables,
          )) (store.counted t);
    }

-- WHAT IS SHOWN

pub pages_from-same : (s new : Store) (es : List (Option Entry)) (p : ℕ) → ((i : ℕ) (e : Entry) → get_or es i None ≡ Some e → bytes_of new e.frame ≡ bytes_of s e.frame) → pages_from new p es ≡ pages_from s p es
pages_from-same s new [] p same = refl
pages_from-same s new (None ∷ rest) p same = pages_from-same s new rest (p + 1) (λ i. same (suc i))
pages_from-same s new (Some e ∷ rest) p same =
    ap (λ (bs : List ℕ). (p, page_as bs e.written e.frame) ∷ pages_from new (p + 1) rest) (same 0 e refl)
    ∙ ap (λ (it : Pages). (p, page_of_entry s e) ∷ it) (pages_from-same s new rest (p + 1) (λ i. same (suc i)))

pub shown-tables : (s new : Store) (tables : List (Option Table)) → ((t : ℕ) → pages_from new 0 (flat new (get_or (map row_of tables) t [])) ≡ pages_from s 0 (flat s (get_or (map row_of tables) t [])))
    → map (shown_table new) tables ≡ map (shown_table s) tables
shown-tables s new [] same = refl
shown-tables s new (None ∷ rest) same = ap (λ (it : List (Option Pages)). None ∷ it) (shown-tables s new rest (λ t. same (suc t)))
shown-tables s new (Some table ∷ rest) same =
    ap (λ (it : Pages). Some it ∷ map (shown_table new) rest) (same 0)
    ∙ ap (λ (it : List (Option Pages)). Some (pages_from s 0 (flat s table.leaves.items)) ∷ it) (shown-tables s new rest (λ t. same (suc t)))

-- tables with the entries that they had, whose frames have the bytes that they had
pub tables-same : (s new : Store) → IsKept s → IsKept new → new.tables.items ≡ s.tables.items → SameEntries s new → ((u q : ℕ) (e : Entry) → entry_at s u q ≡ Some e → bytes_of new e.frame ≡ bytes_of s e.frame)
    → map (shown_table new) new.tables.items ≡ map (shown_table s) s.tables.items
tables-same s new kept also tables same bytes =
    let grid : table_grid new ≡ table_grid s = ap (λ (ts : List (Option Table)). map row_of ts) tables in
    ap (λ (ts : List (Option Table)). map (shown_table new) ts) tables
    ∙ shown-tables s new s.tables.items (λ t.
    let flats = flat-same s new t kept also (ap (λ (g : List Row). length (get_or g t [])) grid) (λ q. same t q) in
    ap (pages_from new 0) (ap (λ (g : List Row). flat new (get_or g t [])) (sym grid) ∙ flats)
    ∙ pages_from-same s new (flat s (get_or (table_grid s) t [])) 0 (λ i e is. bytes t i e (sym (entry-flat s kept t i) ∙ is)))

abbrev pub memory_as : List (Option Pages) → List Row → ℕ → ℕ → ℕ → ℕ → Memory
memory_as tables leaves frames leaf_count spare reads = record { tables = tables; leaves = leaves; frames = frames; leaf_count = leaf_count; spare = spare; reads = reads }

-- memories are the same whose fields are
pub memory-same : (one two : Memory) → one.tables ≡ two.tables → one.leaves ≡ two.leaves → one.frames ≡ two.frames → one.leaf_count ≡ two.leaf_count → one.spare ≡ two.spare → one.reads ≡ two.reads → one ≡ two
memory-same one two tables leaves frames leaf_count spare reads =
    ap (λ (it : List (Option Pages)). memory_as it one.leaves one.frames one.leaf_count one.spare one.reads) tables
    ∙ ap (λ (it : List Row). memory_as two.tables it one.frames one.leaf_count one.spare one.reads) leaves
    ∙ ap (λ (n : ℕ). memory_as two.tables two.leaves n one.leaf_count one.spare one.reads) frames
    ∙ ap (λ (n : ℕ). memory_as two.tables two.leaves two.frames n one.spare one.reads) leaf_count
    ∙ ap (λ (n : ℕ). memory_as two.tables two.leaves two.frames two.leaf_count n one.reads) spare
    ∙ ap (λ (n : ℕ). memory_as two.tables two.leaves two.frames two.leaf_count two.spare n) reads

pub joined_shown : (s new : Store) (n m : ℕ) → IsStore s → Joins s new n m → new.frame_counts.spare ≡ s.frame_counts.spare + n → new.leaf_counts.spare ≡ s.leaf_counts.spare + m → AddsRoom s new n m
joined_shown s new n m store j frames leaves =
    let also = joined_kept s new n m store j in
    record {
      seen =
          memory-same (shown new) (record (shown s) { frames = length s.frames.items + n; leaf_count = length s.leaves.items + m; spare = min (s.frame_counts.spare + n) (s.leaf_counts.spare + m) })
          (tables-same s new store.kept also (ap (λ (it : Rattle.std.specs.declared.vec.Vec.Vec (Option Table) Rattle.std.specs.declared.alloc.Global.Global). it.items) j.tables) (joined_entries s new n m j)
          (λ u q e is.
          let within = entry_within s store.kept store.room u q e is in
          ap (λ (fs : List Frame). frame_bytes fs e.frame) j.frames ∙ bytes_kept e.frame within))
          (joined_grid s new n m j)
          (omega (arith, ap (λ (fs : List Frame). length fs) j.frames, length-append s.frames.items (replicate n zero_frame), length-replicate n zero_frame))
          (omega (arith, ap (λ (ls : List Leaf). length ls) j.leaves, length-append s.leaves.items (replicate m no_leaf), length-replicate m no_leaf))
          (ap (λ (k : ℕ). min k new.leaf_counts.spare) frames ∙ ap (λ (k : ℕ). min (s.frame_counts.spare + n) k) leaves)
          j.reads;
      frames_spare = frames;
      leaves_spare = leaves;
    }
  where
    kept_at : (fs : List Frame) (f : ℕ) → f < length fs → frame_bytes (fs ++ replicate n zero_frame) f ≡ frame_bytes fs f
    kept_at [] f within = absurd (omega arith)
    kept_at (x ∷ fs) zero within = refl
    kept_at (x ∷ fs) (suc f) within = kept_at fs f (omega arith)

    bytes_kept : (f : ℕ) → f < length s.frames.items → frame_bytes (s.frames.items ++ replicate n zero_frame) f ≡ frame_bytes s.frames.items f
    bytes_kept f within = kept_at s.frames.items f within

-- MEMORY ALONE WAS TAKEN

-- nothing but memory taken differs
pub record Spaced (s new : Store) : Type 0 where
  pub frames : new.frames.items ≡ s.frames.items
  pub leaves : new.leaves.items ≡ s.leaves.items
  pub frame_counts : new.frame_counts.counts ≡ s.frame_counts.counts
  pub leaf_counts : new.leaf_counts.counts ≡ s.leaf_counts.counts
  pub frame_spare : new.frame_counts.spare ≡ s.frame_counts.spare
  pub leaf_spare : new.leaf_counts.spare ≡ s.leaf_counts.spare
  pub frames_tallied : AreTallied new.frame_counts
  pub leaves_tallied : AreTallied new.leaf_counts
  pub tables : new.tables ≡ s.tables
  pub numbers : new.table_counts ≡ s.table_counts
  pub reads : new.reads ≡ s.reads

pub spaced_joins : (s new : Store) → Spaced s new → Joins s new 0 0
spaced_joins s new same = record {
  frames = same.frames ∙ sym (append-nil s.frames.items);
  leaves = same.leaves ∙ sym (append-nil s.leaves.items);
  frame_counts = same.frame_counts ∙ sym (append-nil s.frame_counts.counts);
  leaf_counts = same.leaf_counts ∙ sym (append-nil s.leaf_counts.counts);
  frames_tallied = same.frames_tallied;
  leaves_tallied = same.leaves_tallied;
  tables = same.tables;
  numbers = same.numbers;
  reads = same.reads;
}

-- what a call leaves that took memory alone
pub record Took (s new : Store) : Type 0 where
  pub store : IsStore new
  pub same : shown new ≡ shown s
  pub spare : (new.frame_counts.spare ≡ s.frame_counts.spare) × (new.leaf_counts.spare ≡ s.leaf_counts.spare)

pub took : (s new : Store) → IsStore s → Spaced s new → Took s new
took s new store same =
    let j = spaced_joins s new same in
    let adds = joined_shown s new 0 0 store j (omega (arith, same.frame_spare)) (omega (arith, same.leaf_spare)) in
    record {
      store = joined_store s new 0 0 store j;
      same =
          adds.seen
          ∙ memory-same (record (shown s) { frames = length s.frames.items + 0; leaf_count = length s.leaves.items + 0; spare = min (s.frame_counts.spare + 0) (s.leaf_counts.spare + 0) }) (shown s) refl refl (plus (length s.frames.items))
          (plus (length s.leaves.items))
          (ap (λ (k : ℕ). min k (s.leaf_counts.spare + 0)) (plus s.frame_counts.spare) ∙ ap (λ (k : ℕ). min s.frame_counts.spare k) (plus s.leaf_counts.spare)) refl;
      spare = (same.frame_spare, same.leaf_spare);
    }
  where
    plus : (k : ℕ) → k + 0 ≡ k
    plus k = omega arith

-- FRAMES, THEN LEAVES

-- the steps of a reserve, once memory is taken
pub record AddSteps (m mid new : Store) (n k : ℕ) : Type 0 where
  pub frames : mid.frames.items ≡ m.frames.items ++ replicate n zero_frame
  pub frame_counts : mid.frame_counts.counts ≡ m.frame_counts.counts ++ replicate n 0
  pub frame_spare : mid.frame_counts.spare ≡ m.frame_counts.spare + n
  pub frames_tallied : AreTallied mid.frame_counts
  pub frames_rest : mid ≡ record m { frames = mid.frames; frame_counts = mid.frame_counts }
  pub leaves : new.leaves.items ≡ mid.leaves.items ++ replicate k no_leaf
  pub leaf_counts : new.leaf_counts.counts ≡ mid.leaf_counts.counts ++ replicate k 0
  pub leaf_spare : new.leaf_counts.spare ≡ mid.leaf_counts.spare + k
  pub leaves_tallied : AreTallied new.leaf_counts
  pub leaves_rest : new ≡ record mid { leaves = new.leaves; leaf_counts = new.leaf_counts }

pub steps_join : (m mid new : Store) (n k : ℕ) → AddSteps m mid new n k → Joins m new n k
steps_join m mid new n k c = record {
  frames = ap (λ (it : Store). it.frames.items) c.leaves_rest ∙ c.frames;
  leaves = c.leaves ∙ ap (λ (it : Store). it.leaves.items ++ replicate k no_leaf) c.frames_rest;
  frame_counts = ap (λ (it : Store). it.frame_counts.counts) c.leaves_rest ∙ c.frame_counts;
  leaf_counts = c.leaf_counts ∙ ap (λ (it : Store). it.leaf_counts.counts ++ replicate k 0) c.frames_rest;
  frames_tallied = subst (λ (it : Store). AreTallied it.frame_counts) (sym c.leaves_rest) c.frames_tallied;
  leaves_tallied = c.leaves_tallied;
  tables = ap (λ (it : Store). it.tables) c.leaves_rest ∙ ap (λ (it : Store). it.tables) c.frames_rest;
  numbers = ap (λ (it : Store). it.table_counts) c.leaves_rest ∙ ap (λ (it : Store). it.table_counts) c.frames_rest;
  reads = ap (λ (it : Store). it.reads) c.leaves_rest ∙ ap (λ (it : Store). it.reads) c.frames_rest;
}

pub record Reserves (s new : Store) (n k : ℕ) : Type 0 where
  pub store : IsStore new
  pub made : AddsRoom s new n k

pub reserved : (s m mid new : Store) (n k : ℕ) → IsStore m → shown m ≡ shown s → (m.frame_counts.spare ≡ s.frame_counts.spare) × (m.leaf_counts.spare ≡ s.leaf_counts.spare) → AddSteps m mid new n k → Reserves s new n k
reserved s m mid new n k store same spare c =
    let j = steps_join m mid new n k c in
    let adds = joined_shown m new n k store j (ap (λ (it : Store). it.frame_counts.spare) c.leaves_rest ∙ c.frame_spare) (c.leaf_spare ∙ ap (λ (it : Store). it.leaf_counts.spare + k) c.frames_rest) in
    record {
      store = joined_store m new n k store j;
      made = record {
        seen =
            adds.seen
            ∙ ap (λ (it : Memory). more it (min (m.frame_counts.spare + n) (m.leaf_counts.spare + k))) same
            ∙ ap (λ (a : ℕ). more (shown s) (min (a + n) (m.leaf_counts.spare + k))) spare.0
            ∙ ap (λ (b : ℕ). more (shown s) (min (s.frame_counts.spare + n) (b + k))) spare.1;
        frames_spare = adds.frames_spare ∙ ap (λ (a : ℕ). a + n) spare.0;
        leaves_spare = adds.leaves_spare ∙ ap (λ (b : ℕ). b + k) spare.1;
      };
    }
  where
    more : Memory → ℕ → Memory
    more it spare = record it { frames = it.frames + n; leaf_count = it.leaf_count + k; spare = spare }

-- nothing was wanting
pub reserved_none : (s : Store) (n k : ℕ) → n ≡ 0 → k ≡ 0 → AddsRoom s s n k
reserved_none s n k no_frame no_leaf = record {
  seen =
      memory-same (shown s) (record (shown s) { frames = length s.frames.items + n; leaf_count = length s.leaves.items + k; spare = min (s.frame_counts.spare + n) (s.leaf_counts.spare + k) }) refl refl
      (same (length s.frames.items) n no_frame) (same (length s.leaves.items) k no_leaf)
      (ap (λ (a : ℕ). min a s.leaf_counts.spare) (same s.frame_counts.spare n no_frame) ∙ ap (λ (b : ℕ). min (s.frame_counts.spare + n) b) (same s.leaf_counts.spare k no_leaf)) refl;
  frames_spare = same s.frame_counts.spare n no_frame;
  leaves_spare = same s.leaf_counts.spare k no_leaf;
}
  where
    same : (a n : ℕ) → n ≡ 0 → a ≡ a + n
    same a n none = omega (arith, none)
