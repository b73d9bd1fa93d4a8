-- A table that ends, with what else holds of its store.
use Rattle.std.proofs.Common.{◌≡◌, ◌≢◌, ◌⊎◌, ℕ, ◌+◌, ◌-◌, ◌<◌, ◌≤◌, false, cond, true≢false, List, [], length, map, get_or, set, Some, None, Option, is_some, IsTrue, refl, sym, ap, subst, ◌∙◌, inl, inr, arith}
use Rattle.std.specs.Prelude.{All, replicate}
use Rattle.std.proofs.lemmas.List.{length-map, length-set, length-replicate, map-set, get_or-set_same, get_or-set_other, get_or_past}
use Rattle.std.proofs.lemmas.Bool.{cases_eq, cases_lt}
use Rattle.std.proofs.lemmas.Option.{none-some}
use Rattle.sharers.specs.Shares.{Shares, AreTallied, count_of}
use Rattle.page_tables.specs.declared.frame.Frame.{Frame}
use Rattle.page_tables.specs.declared.leaf.Entry.{Entry}
use Rattle.page_tables.specs.declared.table.Table.{Table}
use Rattle.cow_pages.specs.declared.store.Store.{Store}
use Rattle.cow_pages.specs.Memory.{is_live, leaf_in, used_leaves}
use Rattle.cow_pages.specs.Change.{ChangesTable, FreesFrames, OtherLeaves}
use Rattle.page_tables.specs.Leaf.{Leaf, no_leaf, present}
use Rattle.page_tables.specs.Counts.{count_in}
use Rattle.page_tables.specs.Tables.{mapped_from, written_from}
use Rattle.page_tables.specs.Grid.{cell, held, one_held}
use Rattle.cow_pages.specs.Store.{Row, row_of, frame_key, leaf_key, leaf_grid, table_grid, bytes_of, frame_sharers, leaf_sharers, pages_kept, place_at, flat, mapped_counts, written_counts, shown, CountsSlots, IsCounted, IsKept, HasRoom, IsStore}
use Rattle.cow_pages.specs.Steps.{KeepsCounts, SetsPlace, ClearsLeaf, LeavesPlace, Dropping, EmptiesLeaf, Ending, Ends}
use Rattle.page_tables.proofs.GridLemmas.{all-set, cell-row, cell-column, held-empty, one-yes, one-no}
use Rattle.cow_pages.proofs.CountLemmas.{count-here, count-other}
use Rattle.page_tables.proofs.ListLemmas.{field-other, live_within, slots-set}
use Rattle.cow_pages.proofs.SharedLemmas.{leaf_held, leaf_within}
use Rattle.cow_pages.proofs.ShownLemmas.{get_or-none}
use Rattle.cow_pages.proofs.StepLemmas.{leaf-here, leaf-other, only_place, this_or_other}
use Rattle.cow_pages.proofs.SeenLemmas.{live-shown}
use Rattle.cow_pages.proofs.SoundLemmas.{leaf_there, leaves_counted}
use Rattle.cow_pages.proofs.RoomLemmas.{frees_frames}
use Rattle.cow_pages.proofs.StoreLemmas.{row-length, IsCounted-same, HasRoom-tables}
use Rattle.cow_pages.proofs.DropLemmas.{dropping_none, dropping_skip, dropping_own, dropping_shared, ends_entries, drop_shown}
use Rattle.page_tables.proofs.WindowLemmas.{count-none}
use Rattle.cow_pages.proofs.JoinLemmas.{present-none}

-- the frames of a leaf have as many sharers as it has entries with them
pub row_held : (s : Store) → IsKept s → (l : ℕ) → l < length (leaf_grid s) → (f : ℕ) → held frame_key (get_or (leaf_grid s) l []) f ≤ frame_sharers s f
row_held s kept l within f = omega (arith, kept.counts.frames f, all-set frame_key (leaf_grid s) l [] f within)

pub row_there : (s : Store) (l : ℕ) → l < length s.leaves.items → l < length (leaf_grid s)
row_there s l within = omega (arith, within, length-map s.leaves.items (λ (it : Leaf). it.entries))

pub row_whole : (s : Store) → IsKept s → (l : ℕ) → l < length s.leaves.items → length (get_or (leaf_grid s) l []) ≡ 1024
row_whole s kept l within = kept.whole.leaves l (row_there s l within)

pub ending_none : (s : Store) (t : ℕ) → IsStore s → Ending s s t 0
ending_none s t store = record {
  drops = dropping_none s t store.kept;
  room = store.room;
  slots = store.slots;
  filled = store.filled;
  counted = λ u off. store.counted u;
  bytes = refl;
  live = λ u. refl;
  len = refl;
  leaves = λ j more. refl;
  places = λ u j off. refl;
  leaf_len = refl;
  numbers = refl;
  reads = refl;
  frames_spare = omega arith;
  leaves_spare = omega arith;
}

pub ending_skip : (s mid : Store) (t i : ℕ) → Ending s mid t i → place_at mid t i ≡ None → Ending s mid t (i + 1)
ending_skip s mid t i e none = record {
  drops = dropping_skip s mid t i e.drops none;
  room = e.room;
  slots = e.slots;
  filled = e.filled;
  counted = e.counted;
  bytes = e.bytes;
  live = e.live;
  len = e.len;
  leaves = λ j more. e.leaves j (omega (arith, more));
  places = e.places;
  leaf_len = e.leaf_len;
  numbers = e.numbers;
  reads = e.reads;
  frames_spare = e.frames_spare;
  leaves_spare = e.leaves_spare;
}

-- beside entries and counts of sharers, what differs after a leaf went from a place
pub record Left (s new : Store) (t i l : ℕ) : Type 0 where
  pub counts : KeepsCounts s new
  pub rows : (u : ℕ) → length (get_or (table_grid new) u []) ≡ length (get_or (table_grid s) u [])
  pub gone : place_at new t i ≡ None
  pub places : (u j : ℕ) → (u ≢ t) ⊎ (j ≢ i) → place_at new u j ≡ place_at s u j
  pub frames : new.frames ≡ s.frames
  pub frame_len : length new.frame_counts.counts ≡ length s.frame_counts.counts
  pub frames_tallied : AreTallied new.frame_counts
  pub leaves_tallied : AreTallied new.leaf_counts
  pub leaf_len : length new.leaf_counts.counts ≡ length s.leaf_counts.counts
  pub numbers : new.table_counts ≡ s.table_counts
  pub reads : new.reads ≡ s.reads
  pub slots : CountsSlots new
  pub pages : (u j k : ℕ) → (u ≢ t) ⊎ (j ≢ i) → place_at s u j ≡ Some k → pages_kept new k ≡ pages_kept s k
  pub frames_spare : s.frame_counts.spare ≤ new.frame_counts.spare
  pub leaves_spare : s.leaf_counts.spare ≤ new.leaf_counts.spare

pub ending_more : (s mid new : Store) (t i l : ℕ) → Ending s mid t i → Dropping s new t (i + 1) → Left mid new t i l → Ending s new t (i + 1)
ending_more s mid new t i l e drops left = record {
  drops = drops;
  room = HasRoom-tables mid new e.room left.frames left.frame_len left.frames_tallied left.leaves_tallied left.numbers left.counts.live left.counts.len left.rows left.reads;
  slots = left.slots;
  filled = λ u j k is. elim (this_or_other u t j i) [
    | inl here ↦ absurd (none-some k (sym left.gone ∙ ap (place_at new t) (sym here.1) ∙ ap (λ n. place_at new n j) (sym here.0) ∙ is))
    | inr off ↦
        let was : place_at mid u j ≡ Some k = sym (left.places u j off) ∙ is in
        omega (arith, left.pages u j k off was, e.filled u j k was)
  ];
  counted = λ u off.
      IsCounted-same mid new u e.drops.kept drops.kept (λ q. drops.others u q off ∙ sym (e.drops.others u q off)) (left.rows u) (left.counts.kept u) (e.counted u off);
  bytes = left.frames ∙ e.bytes;
  live = λ u. left.counts.live u ∙ e.live u;
  len = left.counts.len ∙ e.len;
  leaves = λ j more. left.places t j (inr (λ same. omega (arith, same, more))) ∙ e.leaves j (omega (arith, more));
  places = λ u j off. left.places u j (inl off) ∙ e.places u j off;
  leaf_len = left.leaf_len ∙ e.leaf_len;
  numbers = left.numbers ∙ e.numbers;
  reads = left.reads ∙ e.reads;
  frames_spare = omega (arith, left.frames_spare, e.frames_spare);
  leaves_spare = omega (arith, left.leaves_spare, e.leaves_spare);
}

-- THE STEPS OF ONE LEAF

-- a leaf was taken from its place, after its entries went, or not
pub record Takes (s new : Store) (t i l : ℕ) (shares : Shares) : Type 0 where
  pub counts : shares.counts ≡ set s.leaf_counts.counts l (leaf_sharers s l - 1)
  pub more : 1 < leaf_sharers s l → shares.spare ≡ s.leaf_counts.spare
  pub freed : leaf_sharers s l ≡ 1 → shares.spare ≡ s.leaf_counts.spare + 1
  pub tallied : AreTallied shares
  pub grid : table_grid new ≡ set (table_grid s) t (set (get_or (table_grid s) t []) i None)
  pub keeps : KeepsCounts s new
  pub rest : new ≡ record s { tables = new.tables; leaf_counts = shares }

pub takes_place : (s new : Store) (t i l : ℕ) (shares : Shares) → place_at s t i ≡ Some l → l < length s.leaf_counts.counts → 1 ≤ leaf_sharers s l → Takes s new t i l shares → SetsPlace s new t i None
takes_place s new t i l shares place within some c =
    let is : new.leaf_counts ≡ shares = ap (λ (it : Store). it.leaf_counts) c.rest in
    record {
      there = cell-row (table_grid s) t i l place;
      room = cell-column (table_grid s) t i l place;
      tables = c.grid;
      sharers = λ k. elim (cases_eq k l) [
        | inl here ↦
            omega (
              arith,
              ap (λ (it : Shares). count_of it k) is,
              ap (count_of shares) here,
              count-here s.leaf_counts shares l (leaf_sharers s l - 1) c.counts within,
              ap (leaf_sharers s) here,
              some,
              ap (λ (o : Option ℕ). one_held leaf_key o k) place,
              one-yes l k (sym here),
            )
        | inr off ↦
            omega (
              arith,
              ap (λ (it : Shares). count_of it k) is,
              count-other s.leaf_counts shares l (leaf_sharers s l - 1) c.counts k off,
              ap (λ (o : Option ℕ). one_held leaf_key o k) place,
              one-no l k (λ same. off (sym same)),
            )
      ];
      len = ap (λ (it : Shares). length it.counts) is ∙ ap (λ (cs : List ℕ). length cs) c.counts ∙ length-set s.leaf_counts.counts l (leaf_sharers s l - 1);
    }

pub takes_leaves : (s new : Store) (t i l : ℕ) (shares : Shares) → place_at s t i ≡ Some l → l < length s.leaf_counts.counts → 1 ≤ leaf_sharers s l → Takes s new t i l shares
    → (2 ≤ leaf_sharers s l) ⊎ ((a : ℕ) → cell (leaf_grid s) l a ≡ None) → LeavesPlace s new t i l
takes_leaves s new t i l shares place within some c may = record {
  place = place;
  may = may;
  sets = takes_place s new t i l shares place within some c;
  leaves = record { leaves = ap (λ (it : Store). leaf_grid it) c.rest; sharers = λ f. ap (λ (it : Store). frame_sharers it f) c.rest };
}

-- what was left, where the entries went first or not: s, and a store that differs in its leaves and the counts of frames
pub record Bares (s bare : Store) (t i l : ℕ) : Type 0 where
  pub frame_len : length bare.frame_counts.counts ≡ length s.frame_counts.counts
  pub frames_tallied : AreTallied bare.frame_counts
  pub frames_spare : s.frame_counts.spare ≤ bare.frame_counts.spare
  pub slots : CountsSlots bare
  pub pages : (u j k : ℕ) → (u ≢ t) ⊎ (j ≢ i) → place_at s u j ≡ Some k → pages_kept bare k ≡ pages_kept s k
  pub rest : bare ≡ record s { leaves = bare.leaves; frame_counts = bare.frame_counts }

pub left_of : (s bare new : Store) (t i l : ℕ) (shares : Shares) → 1 ≤ leaf_sharers bare l → Bares s bare t i l → SetsPlace bare new t i None → Takes bare new t i l shares → Left s new t i l
left_of s bare new t i l shares some b sets c =
    let tables : table_grid bare ≡ table_grid s = ap (λ (it : Store). table_grid it) b.rest in
    record {
      counts = record {
        kept = λ u w. (
          (c.keeps.kept u w).0 ∙ ap (λ (it : Store). count_in (mapped_counts (get_or it.tables.items u None)) w) b.rest,
          (c.keeps.kept u w).1 ∙ ap (λ (it : Store). count_in (written_counts (get_or it.tables.items u None)) w) b.rest,
        );
        live = λ u. c.keeps.live u ∙ ap (λ (it : Store). is_some (get_or it.tables.items u None)) b.rest;
        len = c.keeps.len ∙ ap (λ (it : Store). length it.tables.items) b.rest;
      };
      rows = λ u. row-length bare new t i None sets u ∙ ap (λ (g : List Row). length (get_or g u [])) tables;
      gone = leaf-here bare new t i None sets;
      places = λ u j off. leaf-other bare new t i u j None sets off ∙ ap (λ (g : List Row). cell g u j) tables;
      frames = ap (λ (it : Store). it.frames) c.rest ∙ ap (λ (it : Store). it.frames) b.rest;
      frame_len = ap (λ (it : Store). length it.frame_counts.counts) c.rest ∙ b.frame_len;
      frames_tallied = subst (λ (it : Store). AreTallied it.frame_counts) (sym c.rest) b.frames_tallied;
      leaves_tallied = subst (λ (it : Store). AreTallied it.leaf_counts) (sym c.rest) c.tallied;
      leaf_len = sets.len ∙ ap (λ (it : Store). length it.leaf_counts.counts) b.rest;
      numbers = ap (λ (it : Store). it.table_counts) c.rest ∙ ap (λ (it : Store). it.table_counts) b.rest;
      reads = ap (λ (it : Store). it.reads) c.rest ∙ ap (λ (it : Store). it.reads) b.rest;
      slots = subst (λ (it : Store). CountsSlots it) (sym c.rest) b.slots;
      pages = λ u j k off is. ap (λ (it : Store). pages_kept it k) c.rest ∙ b.pages u j k off is;
      frames_spare = omega (arith, ap (λ (it : Store). it.frame_counts.spare) c.rest, b.frames_spare);
      leaves_spare = elim (cases_eq (leaf_sharers bare l) 1) [
        | inl one ↦ omega (arith, ap (λ (it : Store). it.leaf_counts.spare) c.rest, c.freed one, ap (λ (it : Store). it.leaf_counts.spare) b.rest)
        | inr more ↦ omega (arith, ap (λ (it : Store). it.leaf_counts.spare) c.rest, c.more (omega (arith, some, more)), ap (λ (it : Store). it.leaf_counts.spare) b.rest)
      ];
    }

-- a leaf that others have
pub ending_shared : (first s new : Store) (t i l : ℕ) (shares : Shares) → place_at s t i ≡ Some l → leaf_sharers s l ≢ 1 → Takes s new t i l shares → Ending first s t i → Ending first new t (i + 1)
ending_shared first s new t i l shares place more c e =
    let kept = e.drops.kept in
    let some = leaf_held s kept.counts t i l place in
    let within = leaf_within s l some in
    let leaves = takes_leaves s new t i l shares place within some c (inl (omega (arith, some, more))) in
    let b : Bares s s t i l = record {
      frame_len = refl;
      frames_tallied = e.room.frames_tallied;
      frames_spare = omega arith;
      slots = e.slots;
      pages = λ u j k off is. refl;
      rest = refl;
    } in
    ending_more first s new t i l e (dropping_shared first s new t i l e.drops leaves) (left_of s s new t i l shares some b leaves.sets c)

-- a leaf of one's own, whose frames are taken from its entries and which is emptied
pub clears_leaf : (s bare : Store) (t i l : ℕ) → IsKept s → place_at s t i ≡ Some l → leaf_sharers s l ≡ 1 → EmptiesLeaf s bare l → bare ≡ record s { leaves = bare.leaves; frame_counts = bare.frame_counts }
    → ClearsLeaf s bare t i l (replicate 1024 None)
clears_leaf s bare t i l kept place own c rest = record {
  place = place;
  own = own;
  tables = record {
    tables = ap (λ (it : Store). table_grid it) rest;
    sharers = λ k. ap (λ (it : Store). leaf_sharers it k) rest;
    len = ap (λ (it : Store). length it.leaf_counts.counts) rest;
  };
  empty = λ a. get_or-none 1024 a;
  len = length-replicate {A = Option Entry} 1024 None;
  clears = record {
    there = omega (arith, leaf_within s l (leaf_held s kept.counts t i l place), kept.whole.count);
    leaves = ap (λ (ls : List Leaf). map (λ (it : Leaf). it.entries) ls) c.leaves ∙ map-set (λ (it : Leaf). it.entries) s.leaves.items l no_leaf;
    sharers = λ f. omega (arith, c.sharers f, held-empty frame_key (replicate 1024 None) f (get_or-none 1024));
  };
}

pub ending_own : (first s bare new : Store) (t i l : ℕ) (shares : Shares) → place_at s t i ≡ Some l → leaf_sharers s l ≡ 1 → EmptiesLeaf s bare l → bare ≡ record s { leaves = bare.leaves; frame_counts = bare.frame_counts } → Takes bare new t i l shares
    → Ending first s t i → Ending first new t (i + 1)
ending_own first s bare new t i l shares place own c rest takes e =
    let kept = e.drops.kept in
    let inside : l < length s.leaves.items = leaf_there s kept t i l place in
    let clears = clears_leaf s bare t i l kept place own c rest in
    let now : place_at bare t i ≡ Some l = ap (λ (it : Store). place_at it t i) rest ∙ place in
    let still : leaf_sharers bare l ≡ 1 = ap (λ (it : Store). leaf_sharers it l) rest ∙ own in
    let within : l < length bare.leaf_counts.counts = omega (arith, leaf_within s l (leaf_held s kept.counts t i l place), ap (λ (it : Store). length it.leaf_counts.counts) rest) in
    let empty : (a : ℕ) → cell (leaf_grid bare) l a ≡ None = λ a.
    ap (λ (g : List (List (Option Entry))). cell g l a) clears.clears.leaves
    ∙ ap (λ (row : List (Option Entry)). get_or row a None) (get_or-set_same (leaf_grid s) l (replicate 1024 None) [] clears.clears.there)
    ∙ get_or-none 1024 a in
    let leaves = takes_leaves bare new t i l shares now within (omega (arith, still)) takes (inr empty) in
    let b : Bares s bare t i l = record {
      frame_len = c.len;
      frames_tallied = c.tallied;
      frames_spare = c.spare;
      slots = λ k.
          ap (λ (ls : List Leaf). get_or (map (λ (it : Leaf). it.mapped) ls) k 0) c.leaves
          ∙ slots-set s.leaves.items l no_leaf inside (sym (present-none 1024)) e.slots k
          ∙ sym (ap (λ (ls : List Leaf). present (get_or (map (λ (it : Leaf). it.entries) ls) k [])) c.leaves);
      pages = λ u j k off is.
          ap (λ (ls : List Leaf). get_or (map (λ (it : Leaf). it.mapped) ls) k 0) c.leaves
          ∙ field-other (λ (it : Leaf). it.mapped) s.leaves.items l k no_leaf 0 (only_place s kept.counts t i l u j k place own is off);
      rest = rest;
    } in
    ending_more first s new t i l e (dropping_own first s bare new t i l (replicate 1024 None) e.drops clears leaves) (left_of s bare new t i l shares (omega (arith, still)) b leaves.sets takes)

-- a leaf of either kind
pub ending_leaf : (first s bare new : Store) (t i l : ℕ) (shares : Shares) → place_at s t i ≡ Some l → (leaf_sharers s l ≡ 1 → EmptiesLeaf s bare l) → (leaf_sharers s l ≢ 1 → bare ≡ s)
    → bare ≡ record s { leaves = bare.leaves; frame_counts = bare.frame_counts } → Takes bare new t i l shares → Ending first s t i → Ending first new t (i + 1)
ending_leaf first s bare new t i l shares place own shared rest takes e = elim (cases_eq (leaf_sharers s l) 1) [
  | inl one ↦ ending_own first s bare new t i l shares place one (own one) rest takes e
  | inr more ↦ ending_shared first s new t i l shares place more (subst (λ (it : Store). Takes it new t i l shares) (shared more) takes) e
]

-- AT ITS END

-- the table has no leaf any more, and its number names none
pub record Unnames (s new : Store) (t : ℕ) : Type 0 where
  pub tables : new.tables.items ≡ set s.tables.items t None
  pub counts : new.table_counts.counts ≡ set s.table_counts.counts t 0
  pub tallied : AreTallied new.table_counts
  pub rest : new ≡ record s { tables = new.tables; table_counts = new.table_counts }

pub record Ended (s new : Store) (t : ℕ) : Type 0 where
  pub store : IsStore new
  pub ended : is_live (shown new) t ≡ false
  pub rest : ChangesTable (shown s) (shown new) t
  pub others : OtherLeaves (shown s) (shown new) t
  pub none : (i : ℕ) → leaf_in (shown new) t i ≡ None
  pub used : used_leaves (shown new) ≤ used_leaves (shown s)
  pub room : FreesFrames (shown s) (shown new)

pub ends : (s m new : Store) (t : ℕ) → IsTrue (is_some (get_or s.tables.items t None)) → Ending s m t 1024 → Unnames m new t → Ends m new t
ends s m new t live e c =
    let alive : IsTrue (is_some (get_or m.tables.items t None)) = e.live t ∙ live in
    let empty : (j : ℕ) → place_at m t j ≡ None = λ j. elim (cases_lt j 1024) [
      | inl less ↦ e.drops.leaves j less
      | inr past ↦ get_or_past (get_or (table_grid m) t []) j None (omega (arith, past, e.room.rows t alive))
    ] in
    record {
      empty = empty;
      row = record {
        there = omega (arith, live_within m.tables.items t alive, length-map m.tables.items row_of);
        tables = ap (λ (ts : List (Option Table)). map row_of ts) c.tables ∙ map-set row_of m.tables.items t None;
        sharers = λ l. omega (arith, ap (λ (it : Store). leaf_sharers it l) c.rest, held-empty leaf_key (get_or (table_grid m) t []) l empty);
        len = ap (λ (it : Store). length it.leaf_counts.counts) c.rest;
      };
      leaves = record { leaves = ap (λ (it : Store). leaf_grid it) c.rest; sharers = λ f. ap (λ (it : Store). frame_sharers it f) c.rest };
    }

-- room after a table lost its number
pub ended_room : (m new : Store) (t : ℕ) → HasRoom m → t < length m.tables.items → Unnames m new t → HasRoom new
ended_room m new t room within c =
    let here : get_or new.tables.items t None ≡ None = ap (λ (ts : List (Option Table)). get_or ts t None) c.tables ∙ get_or-set_same m.tables.items t None None within in
    let other : (u : ℕ) → u ≢ t → get_or new.tables.items u None ≡ get_or m.tables.items u None = λ u off.
    ap (λ (ts : List (Option Table)). get_or ts u None) c.tables ∙ get_or-set_other m.tables.items t u None None off in
    let frames = ap (λ (it : Store). length it.frames.items) c.rest in
    record {
      frames = ap (λ (it : Store). length it.frame_counts.counts) c.rest ∙ room.frames ∙ sym frames;
      reads = omega (arith, room.reads, ap (λ (it : Store). it.reads) c.rest);
      tables =
          omega (
            arith,
            ap (λ (cs : List ℕ). length cs) c.counts,
            length-set m.table_counts.counts t 0,
            ap (λ (ts : List (Option Table)). length ts) c.tables,
            length-set m.tables.items t None,
            room.tables,
          );
      frames_tallied = subst (λ (it : Store). AreTallied it.frame_counts) (sym c.rest) room.frames_tallied;
      leaves_tallied = subst (λ (it : Store). AreTallied it.leaf_counts) (sym c.rest) room.leaves_tallied;
      tables_tallied = c.tallied;
      numbers = λ u. elim (cases_eq u t) [
        | inl at ↦
            ap (count_of new.table_counts) at ∙ count-here m.table_counts new.table_counts t 0 c.counts (omega (arith, within, room.tables))
            ∙ sym (ap (λ n. cond {A = ℕ} (is_some (get_or new.tables.items n None)) 1 0) at ∙ ap (λ (o : Option Table). cond {A = ℕ} (is_some o) 1 0) here)
        | inr off ↦
            count-other m.table_counts new.table_counts t 0 c.counts u off ∙ room.numbers u
            ∙ sym (ap (λ (o : Option Table). cond {A = ℕ} (is_some o) 1 0) (other u off))
      ];
      rows = λ u live. elim (cases_eq u t) [
        | inl at ↦ absurd (true≢false (sym live ∙ ap (λ n. is_some (get_or new.tables.items n None)) at ∙ ap (λ (o : Option Table). is_some o) here))
        | inr off ↦
            ap (λ (ts : List (Option Table)). length (get_or (map row_of ts) u [])) c.tables
            ∙ ap (λ (g : List Row). length (get_or g u [])) (map-set row_of m.tables.items t None)
            ∙ ap (λ (row : Row). length row) (get_or-set_other (table_grid m) t u [] [] off)
            ∙ room.rows u (sym (ap (λ (o : Option Table). is_some o) (other u off)) ∙ live)
      ];
      whole = λ f inside. ap (λ (it : Store). length (bytes_of it f)) c.rest ∙ room.whole f (omega (arith, inside, frames));
      bytes = λ f inside. subst (λ (it : Store). All (λ b. b < 256) (bytes_of it f)) (sym c.rest) (room.bytes f (omega (arith, inside, frames)));
    }

pub ended : (s m new : Store) (t : ℕ) → IsStore s → IsTrue (is_some (get_or s.tables.items t None)) → Ending s m t 1024 → Unnames m new t → Ended s new t
ended s m new t store live e c =
    let alive : IsTrue (is_some (get_or m.tables.items t None)) = e.live t ∙ live in
    let within = live_within m.tables.items t alive in
    let fin = ends s m new t live e c in
    let here : get_or new.tables.items t None ≡ None = ap (λ (ts : List (Option Table)). get_or ts t None) c.tables ∙ get_or-set_same m.tables.items t None None within in
    let other : (u : ℕ) → u ≢ t → get_or new.tables.items u None ≡ get_or m.tables.items u None = λ u off.
    ap (λ (ts : List (Option Table)). get_or ts u None) c.tables ∙ get_or-set_other m.tables.items t u None None off in
    let row : get_or (table_grid new) t [] ≡ [] = ap (λ (g : List Row). get_or g t []) fin.row.tables ∙ get_or-set_same (table_grid m) t [] [] fin.row.there in
    let rows : (u : ℕ) → u ≢ t → get_or (table_grid new) u [] ≡ get_or (table_grid m) u [] = λ u off.
    ap (λ (g : List Row). get_or g u []) fin.row.tables ∙ get_or-set_other (table_grid m) t u [] [] off in
    let seen = drop_shown s m new t store.kept e.drops fin
    (λ f. ap (λ (it : Store). bytes_of it f) c.rest ∙ ap (λ (it : Rattle.std.specs.declared.vec.Vec.Vec Frame Rattle.std.specs.declared.alloc.Global.Global). Rattle.page_tables.specs.Frame.frame_bytes it.items f) e.bytes)
    (λ v off. ap (λ (o : Option Table). is_some o) (other v off) ∙ e.live v) (ap (λ (it : Store). it.reads) c.rest ∙ e.reads) in
    let room = ended_room m new t e.room within c in
    let entries = ends_entries m new t fin in
    let frames = ap (λ (it : Store). it.frame_counts.spare) c.rest in
    let leaves = ap (λ (it : Store). it.leaf_counts.spare) c.rest in
    let also : IsStore new = record {
      kept = seen.kept;
      room = room;
      slots = subst (λ (it : Store). CountsSlots it) (sym c.rest) e.slots;
      filled = λ u j k is. elim (cases_eq u t) [
        | inl at ↦ absurd (none-some k (sym (ap (λ (r : Row). get_or r j None) row) ∙ ap (λ n. place_at new n j) (sym at) ∙ is))
        | inr off ↦ omega (arith, ap (λ (it : Store). pages_kept it k) c.rest, e.filled u j k (sym (ap (λ (r : Row). get_or r j None) (rows u off)) ∙ is))
      ];
      counted = λ u. elim (cases_eq u t) [
        | inl at ↦
            let none : flat new (get_or (table_grid new) t []) ≡ [] = ap (λ (r : Row). flat new r) row in
            subst (IsCounted new) (sym at)
            (record {
              mapped = λ w. ap (λ (o : Option Table). count_in (mapped_counts o) w) here ∙ count-none w ∙ sym (ap (mapped_from w 0) none);
              written = λ w. ap (λ (o : Option Table). count_in (written_counts o) w) here ∙ count-none w ∙ sym (ap (written_from w 0) none);
            })
        | inr off ↦
            IsCounted-same m new u e.drops.kept seen.kept (λ q. entries u q) (ap (λ (r : Row). length r) (rows u off))
            (λ w. (ap (λ (o : Option Table). count_in (mapped_counts o) w) (other u off), ap (λ (o : Option Table). count_in (written_counts o) w) (other u off))) (e.counted u off)
      ];
    } in
    record {
      store = also;
      ended = live-shown new new.tables.items t ∙ ap (λ (o : Option Table). is_some o) here;
      rest = seen.rest;
      others = λ u i off. ap (λ (r : Row). get_or r i None) (rows u off) ∙ e.places u i off;
      none = λ i. ap (λ (r : Row). get_or r i None) row;
      used =
          omega (
            arith,
            leaves_counted s store.kept store.room,
            leaves_counted new seen.kept room,
            ap (λ (it : Store). length it.leaf_counts.counts) c.rest,
            e.leaf_len,
            leaves,
            e.leaves_spare,
          );
      room =
          frees_frames s new store also
          (ap (λ (it : Store). length it.frames.items) c.rest ∙ ap (λ (it : Rattle.std.specs.declared.vec.Vec.Vec Frame Rattle.std.specs.declared.alloc.Global.Global). length it.items) e.bytes)
          (ap (λ (it : Store). length it.leaf_counts.counts) c.rest ∙ e.leaf_len) (omega (arith, frames, e.frames_spare)) (omega (arith, leaves, e.leaves_spare));
    }
