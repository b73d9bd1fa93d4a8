-- A table that loses its flags, one leaf after the other.
use Rattle.std.proofs.Common.{◌≡◌, ◌≢◌, ◌⊎◌, ℕ, ◌+◌, ◌<◌, ◌/◌, ◌%◌, Bool, true, false, true≢false, List, [], ◌∷◌, length, map, get_or, set, Some, None, Option, is_some, IsTrue, refl, sym, ap, subst, ◌∙◌, inl, inr, arith}
use Rattle.std.specs.Prelude.{option_map}
use Rattle.std.proofs.lemmas.List.{length-map, length-set, get_or-set_same, get_or-set_other, get_or_past}
use Rattle.std.proofs.lemmas.Bool.{cases_eq, cases_lt}
use Rattle.std.proofs.lemmas.Option.{none-some, same_Some}
use Rattle.sharers.specs.Shares.{Shares, count_of}
use Rattle.page_tables.specs.declared.leaf.Entry.{Entry}
use Rattle.page_tables.specs.declared.table.Table.{Table}
use Rattle.cow_pages.specs.declared.store.Store.{Store}
use Rattle.cow_pages.specs.Memory.{Page, page_at, is_live, used_leaves, distinct_count, leaves_of}
use Rattle.cow_pages.specs.Change.{ChangesTable, KeepsRoom, SameLeaves, settled}
use Rattle.page_tables.specs.Counts.{count_in}
use Rattle.page_tables.specs.Leaf.{Leaf, cleared}
use Rattle.page_tables.specs.Tables.{mapped_from, written_from}
use Rattle.page_tables.specs.Grid.{cell, held}
use Rattle.cow_pages.specs.Store.{Row, frame_key, leaf_grid, table_grid, table_entries, bytes_of, frame_sharers, leaf_sharers, pages_kept, place_at, entry_in, entry_at, page_of_entry, mapped_counts, written_counts, mapped_kept, written_kept, shown, CountsSlots, IsCounted, HasPages, IsKept, IsStore}
use Rattle.cow_pages.specs.Steps.{SetsLeaf, KeepsTables, SameEntries, SettlesLeaf, Settling, ClearsWritten}
use Rattle.page_tables.proofs.LeafLemmas.{cleared-at, mapped-cleared, written-cleared}
use Rattle.cow_pages.proofs.SharedLemmas.{leaf_held, leaf_within, leaf_length, shared_leaf}
use Rattle.cow_pages.proofs.ShownLemmas.{page_at-shown}
use Rattle.cow_pages.proofs.StepLemmas.{HasPages-fewer, frames-leaf, frames-same, leaves-same, entry_in-same, only_place, this_or_other}
use Rattle.cow_pages.proofs.OpLemmas.{whole-same, whole-set}
use Rattle.cow_pages.proofs.FlatLemmas.{same_row, length-flat, entry-flat}
use Rattle.cow_pages.proofs.SeenLemmas.{page-kept, live-shown}
use Rattle.cow_pages.proofs.RoomLemmas.{keeps_room}
use Rattle.cow_pages.proofs.StoreLemmas.{IsCounted-same, HasRoom-tables}

pub held-cleared : (es : List (Option Entry)) (f : ℕ) → held frame_key (map cleared es) f ≡ held frame_key es f
held-cleared [] f = refl
held-cleared (None ∷ rest) f = omega (arith, held-cleared rest f)
held-cleared (Some e ∷ rest) f = omega (arith, held-cleared rest f)

-- an entry that lost its flag, or was left as it was
pub record Was (s : Store) (u q : ℕ) (d : Entry) : Type 0 where
  pub entry : Entry
  pub is : entry_at s u q ≡ Some entry
  pub frame : entry.frame ≡ d.frame
  pub flag : d.written ≡ true → entry.written ≡ true

pub HasPages-cleared : (s new : Store) → HasPages s → ((u q : ℕ) (d : Entry) → entry_at new u q ≡ Some d → Was s u q d) → HasPages new
HasPages-cleared s new pages was = record {
  same_page = λ t p u q e d is also same.
      let a = was t p e is in
      let b = was u q d also in
      pages.same_page t p u q a.entry b.entry a.is b.is (a.frame ∙ same ∙ sym b.frame);
  alone = λ t p u q e d is also same written.
      let a = was t p e is in
      let b = was u q d also in
      pages.alone t p u q a.entry b.entry a.is b.is (a.frame ∙ same ∙ sym b.frame) (a.flag written);
  in_window = λ t p e is. let a = was t p e is in pages.in_window t p a.entry a.is;
}

pub was_cleared : (s : Store) (u q : ℕ) (o : Option Entry) → entry_at s u q ≡ o → (d : Entry) → cleared o ≡ Some d → Was s u q d
was_cleared s u q None at d is = absurd (none-some d is)
was_cleared s u q (Some e) at d is = record {
  entry = e;
  is = at;
  frame = ap (λ (it : Entry). it.frame) (same_Some (bare e) d is);
  flag = λ on. absurd (true≢false (sym on ∙ sym (ap (λ (it : Entry). it.written) (same_Some (bare e) d is))));
}
  where
    bare : Entry → Entry
    bare e = record e { written = false }

pub entries_as : (s new : Store) → leaf_grid new ≡ leaf_grid s → table_grid new ≡ table_grid s → SameEntries s new
entries_as s new leaves tables u q =
    ap (λ (g : List Row). entry_in new (cell g u (q / 1024)) (q % 1024)) tables ∙ entry_in-same s new leaves (place_at s u (q / 1024)) (q % 1024)

-- a store with the same entries and the same counts of sharers
pub kept_as : (s new : Store) → IsKept s → leaf_grid new ≡ leaf_grid s → table_grid new ≡ table_grid s → new.frame_counts ≡ s.frame_counts → new.leaf_counts ≡ s.leaf_counts → IsKept new
kept_as s new kept leaves tables frame_counts leaf_counts =
    let sharers = λ (l : ℕ). ap (λ (it : Shares). count_of it l) leaf_counts in
    let len = ap (λ (it : Shares). length it.counts) leaf_counts in
    record {
      whole = whole-same s new kept.whole leaves len;
      counts = record {
        frames = frames-same s new kept.counts (record { leaves = leaves; sharers = λ f. ap (λ (it : Shares). count_of it f) frame_counts });
        leaves = leaves-same s new kept.counts (record { tables = tables; sharers = sharers; len = len });
        empty = λ l a none. entry_in-same s new leaves (Some l) a ∙ kept.counts.empty l a (sym (sharers l) ∙ none);
      };
      pages = HasPages-fewer s new kept.pages (λ u q d is. sym (entries_as s new leaves tables u q) ∙ is);
    }

-- the entries of a table from an index lost their flags
pub record ClearsIndex (s new : Store) (t i : ℕ) : Type 0 where
  pub kept : IsKept new
  pub here : (q : ℕ) → q / 1024 ≡ i → entry_at new t q ≡ cleared (entry_at s t q)
  pub others : (u q : ℕ) → (u ≢ t) ⊎ (q / 1024 ≢ i) → entry_at new u q ≡ entry_at s u q

-- of a leaf of one's own
pub clears_own : (s new : Store) (t i l : ℕ) → IsKept s → place_at s t i ≡ Some l → leaf_sharers s l ≡ 1 → leaf_grid new ≡ set (leaf_grid s) l (map cleared (get_or (leaf_grid s) l [])) → new ≡ record s { leaves = new.leaves }
    → ClearsIndex s new t i
clears_own s new t i l kept place own grid rest =
    let tables : table_grid new ≡ table_grid s = ap (λ (it : Store). table_grid it) rest in
    let row = get_or (leaf_grid s) l [] in
    let there : l < length (leaf_grid s) = omega (arith, leaf_within s l (leaf_held s kept.counts t i l place), kept.whole.count) in
    let sharers : (k : ℕ) → leaf_sharers new k ≡ leaf_sharers s k = λ k. ap (λ (it : Store). leaf_sharers it k) rest in
    let len = ap (λ (it : Store). length it.leaf_counts.counts) rest in
    let keeps : KeepsTables s new = record { tables = tables; sharers = sharers; len = len } in
    let sets : SetsLeaf s new l (map cleared row) = record {
      there = there;
      leaves = grid;
      sharers = λ f. omega (arith, ap (λ (it : Store). frame_sharers it f) rest, held-cleared row f);
    } in
    let here : (q : ℕ) → q / 1024 ≡ i → entry_at new t q ≡ cleared (entry_at s t q) = λ q at.
    ap (λ (g : List Row). entry_in new (cell g t (q / 1024)) (q % 1024)) tables
    ∙ ap (λ (o : Option ℕ). entry_in new o (q % 1024)) (ap (place_at s t) at ∙ place)
    ∙ ap (λ (g : List (List (Option Entry))). cell g l (q % 1024)) grid
    ∙ ap (λ (it : List (Option Entry)). get_or it (q % 1024) None) (get_or-set_same (leaf_grid s) l (map cleared row) [] there)
    ∙ cleared-at row (q % 1024)
    ∙ sym (ap (λ (o : Option ℕ). cleared (entry_in s o (q % 1024))) (ap (place_at s t) at ∙ place)) in
    let others : (u q : ℕ) → (u ≢ t) ⊎ (q / 1024 ≢ i) → entry_at new u q ≡ entry_at s u q = λ u q off.
    ap (λ (g : List Row). entry_in new (cell g u (q / 1024)) (q % 1024)) tables ∙ by_leaf there u q off (place_at s u (q / 1024)) refl in
    record {
      kept = record {
        whole = whole-set s new l (map cleared row) kept.whole grid there (length-map row cleared ∙ leaf_length s kept t i l place) len;
        counts = record {
          frames = frames-leaf s new l (map cleared row) kept.counts sets;
          leaves = leaves-same s new kept.counts keeps;
          empty = λ k a none.
              let off : k ≢ l = (λ same. omega (arith, none, sharers k, ap (leaf_sharers s) same, own)) in
              ap (λ (g : List (List (Option Entry))). cell g k a) grid
              ∙ ap (λ (it : List (Option Entry)). get_or it a None) (get_or-set_other (leaf_grid s) l k (map cleared row) [] off)
              ∙ kept.counts.empty k a (sym (sharers k) ∙ none);
        };
        pages = HasPages-cleared s new kept.pages (λ u q d is. elim (this_or_other u t (q / 1024) i) [
          | inl at ↦
              was_cleared s u q (entry_at s u q) refl d
              (ap (λ n. cleared (entry_at s n q)) at.0 ∙ sym (here q at.1) ∙ ap (λ n. entry_at new n q) (sym at.0) ∙ is)
          | inr off ↦ record { entry = d; is = sym (others u q off) ∙ is; frame = refl; flag = λ on. on }
        ]);
      };
      here = here;
      others = others;
    }
  where
    by_leaf : l < length (leaf_grid s) → (u q : ℕ) → (u ≢ t) ⊎ (q / 1024 ≢ i) → (o : Option ℕ) → place_at s u (q / 1024) ≡ o → entry_in new o (q % 1024) ≡ entry_in s o (q % 1024)
    by_leaf there u q off None is = refl
    by_leaf there u q off (Some k) is =
        ap (λ (g : List (List (Option Entry))). cell g k (q % 1024)) grid
        ∙ ap (λ (it : List (Option Entry)). get_or it (q % 1024) None)
        (get_or-set_other (leaf_grid s) l k (map cleared (get_or (leaf_grid s) l [])) [] (only_place s kept.counts t i l u (q / 1024) k place own is off))

-- an entry of a leaf that others have has no flag
pub shared_cleared : (s : Store) (t q l : ℕ) → IsKept s → place_at s t (q / 1024) ≡ Some l → leaf_sharers s l ≢ 1 → (o : Option Entry) → entry_at s t q ≡ o → o ≡ cleared o
shared_cleared s t q l kept place more None is = refl
shared_cleared s t q l kept place more (Some e) is =
    let other = shared_leaf s kept t q l e place (sym (ap (λ (o : Option ℕ). entry_in s o (q % 1024)) place) ∙ is) (omega (arith, more, leaf_held s kept.counts t (q / 1024) l place)) in
    by_flag e.written refl (λ on. other.apart (sym (kept.pages.alone t q other.table q e other.entry is other.is (sym other.same) on)))
  where
    bare : Bool → Entry
    bare b = record e { written = b }

    by_flag : (b : Bool) → e.written ≡ b → (e.written ≡ true → ⊥) → Some e ≡ Some (bare false)
    by_flag false at not = ap (λ (b : Bool). Some (bare b)) at
    by_flag true at not = absurd (not at)

pub clears_shared : (s new : Store) (t i l : ℕ) → IsKept s → place_at s t i ≡ Some l → leaf_sharers s l ≢ 1 → leaf_grid new ≡ leaf_grid s → new ≡ record s { leaves = new.leaves } → ClearsIndex s new t i
clears_shared s new t i l kept place more grid rest =
    let tables : table_grid new ≡ table_grid s = ap (λ (it : Store). table_grid it) rest in
    let same = entries_as s new grid tables in
    record {
      kept = kept_as s new kept grid tables (ap (λ (it : Store). it.frame_counts) rest) (ap (λ (it : Store). it.leaf_counts) rest);
      here = λ q at. same t q ∙ shared_cleared s t q l kept (ap (place_at s t) at ∙ place) more (entry_at s t q) refl;
      others = λ u q off. same u q;
    }

-- THE LOOP

pub settling_none : (s : Store) (t : ℕ) → IsKept s → CountsSlots s → Settling s s t 0
settling_none s t kept slots = record {
  kept = kept;
  slots = slots;
  pages = λ l. refl;
  below = λ q less. absurd (omega (arith, less));
  above = λ q more. refl;
  others = λ u q off. refl;
  len = refl;
  rest = refl;
}

pub settling_skip : (s mid : Store) (t i : ℕ) → Settling s mid t i → place_at mid t i ≡ None → Settling s mid t (i + 1)
settling_skip s mid t i inv none = record {
  kept = inv.kept;
  slots = inv.slots;
  pages = inv.pages;
  below = λ q less. elim (cases_eq (q / 1024) i) [
    | inl at ↦
        let now : entry_at mid t q ≡ None = ap (λ (o : Option ℕ). entry_in mid o (q % 1024)) (ap (place_at mid t) at ∙ none) in
        now ∙ sym (ap cleared (sym (inv.above q (omega (arith, at))) ∙ now))
    | inr off ↦ inv.below q (omega (arith, less, off))
  ];
  above = λ q more. inv.above q (omega (arith, more));
  others = inv.others;
  len = inv.len;
  rest = inv.rest;
}

pub settling_more : (s mid new : Store) (t i : ℕ) → Settling s mid t i → ClearsIndex mid new t i → CountsSlots new → ((k : ℕ) → pages_kept new k ≡ pages_kept mid k) → length new.leaves.items ≡ length mid.leaves.items
    → new ≡ record mid { leaves = new.leaves } → Settling s new t (i + 1)
settling_more s mid new t i inv clears slots pages len rest = record {
  kept = clears.kept;
  slots = slots;
  pages = λ l. pages l ∙ inv.pages l;
  below = λ q less. elim (cases_eq (q / 1024) i) [
    | inl at ↦ clears.here q at ∙ ap cleared (inv.above q (omega (arith, at)))
    | inr off ↦ clears.others t q (inr off) ∙ inv.below q (omega (arith, less, off))
  ];
  above = λ q more. clears.others t q (inr (λ at. omega (arith, at, more))) ∙ inv.above q (omega (arith, more));
  others = λ u q off. clears.others u q (inl off) ∙ inv.others u q off;
  len = len ∙ inv.len;
  rest = rest ∙ ap (λ (it : Store). record it { leaves = new.leaves }) inv.rest;
}

pub settling_leaf : (s mid new : Store) (t i l : ℕ) → Settling s mid t i → place_at mid t i ≡ Some l → SettlesLeaf mid new l → Settling s new t (i + 1)
settling_leaf s mid new t i l inv place done = elim (cases_eq (leaf_sharers mid l) 1) [
  | inl own ↦
      settling_more s mid new t i inv (clears_own mid new t i l inv.kept place own (done.own own) done.rest) (done.slots inv.slots) done.kept
      (len (ap (λ (g : List (List (Option Entry))). length g) (done.own own) ∙ length-set (leaf_grid mid) l (map cleared (get_or (leaf_grid mid) l [])))) done.rest
  | inr more ↦
      settling_more s mid new t i inv (clears_shared mid new t i l inv.kept place more (done.shared more) done.rest) (done.slots inv.slots) done.kept
      (len (ap (λ (g : List (List (Option Entry))). length g) (done.shared more))) done.rest
]
  where
    len : length (leaf_grid new) ≡ length (leaf_grid mid) → length new.leaves.items ≡ length mid.leaves.items
    len same = sym (length-map new.leaves.items (λ (it : Leaf). it.entries)) ∙ same ∙ length-map mid.leaves.items (λ (it : Leaf). it.entries)

-- AT ITS END

-- what a table leaves that lost its flags
pub record Settles (s new : Store) (t : ℕ) : Type 0 where
  pub store : IsStore new
  pub live : IsTrue (is_live (shown new) t)
  pub pages : (p : ℕ) → page_at (shown new) t p ≡ settled (page_at (shown s) t p)
  pub rest : ChangesTable (shown s) (shown new) t
  pub leaves : SameLeaves (shown s) (shown new)
  pub used : used_leaves (shown new) ≡ used_leaves (shown s)
  pub room : KeepsRoom (shown s) (shown new)

pub settled_all : (s m : Store) (t : ℕ) → IsStore s → IsTrue (is_some (get_or s.tables.items t None)) → Settling s m t 1024 → (q : ℕ) → entry_at m t q ≡ cleared (entry_at s t q)
settled_all s m t store live inv q = elim (cases_lt (q / 1024) 1024) [
  | inl less ↦ inv.below q less
  | inr past ↦
      let none : entry_at s t q ≡ None = ap (λ (o : Option ℕ). entry_in s o (q % 1024)) (get_or_past (get_or (table_grid s) t []) (q / 1024) None (omega (arith, past, store.room.rows t live))) in
      inv.above q (omega (arith, past)) ∙ none ∙ sym (ap cleared none)
]

pub settles : (s m new : Store) (t : ℕ) → IsStore s → IsTrue (is_some (get_or s.tables.items t None)) → Settling s m t 1024 → ClearsWritten m new t → Settles s new t
settles s m new t store live inv clear =
    let kept = store.kept in
    let leaves1 : leaf_grid new ≡ leaf_grid m = ap (λ (it : Store). leaf_grid it) clear.rest in
    let also : IsKept new = kept_as m new inv.kept leaves1 clear.grid (ap (λ (it : Store). it.frame_counts) clear.rest) (ap (λ (it : Store). it.leaf_counts) clear.rest) in
    let grid : table_grid new ≡ table_grid s = clear.grid ∙ ap (λ (it : Store). table_grid it) inv.rest in
    let entries = entries_as m new leaves1 clear.grid in
    let here : (q : ℕ) → entry_at new t q ≡ cleared (entry_at s t q) = λ q. entries t q ∙ settled_all s m t store live inv q in
    let others : (u q : ℕ) → u ≢ t → entry_at new u q ≡ entry_at s u q = λ u q off. entries u q ∙ inv.others u q off in
    let bytes : (f : ℕ) → bytes_of new f ≡ bytes_of s f = λ f. ap (λ (it : Store). bytes_of it f) clear.rest ∙ ap (λ (it : Store). bytes_of it f) inv.rest in
    let alive : (u : ℕ) → is_some (get_or new.tables.items u None) ≡ is_some (get_or s.tables.items u None) = λ u. clear.live u ∙ ap (λ (it : Store). is_some (get_or it.tables.items u None)) inv.rest in
    let rows : (u : ℕ) → length (get_or (table_grid new) u []) ≡ length (get_or (table_grid s) u []) = λ u. ap (λ (g : List Row). length (get_or g u [])) grid in
    let row : table_entries new t ≡ map cleared (table_entries s t) =
    same_row (table_entries new t) (map cleared (table_entries s t))
    (omega (
      arith,
      length-flat new (get_or (table_grid new) t []) (leaf_length new also t),
      length-flat s (get_or (table_grid s) t []) (leaf_length s kept t),
      rows t,
      length-map (table_entries s t) cleared,
    ))
    (λ q. entry-flat new also t q ∙ here q ∙ ap cleared (sym (entry-flat s kept t q)) ∙ sym (cleared-at (table_entries s t) q)) in
    let reads : new.reads ≡ s.reads = ap (λ (it : Store). it.reads) clear.rest ∙ ap (λ (it : Store). it.reads) inv.rest in
    let sets : IsStore new = record {
      kept = also;
      room =
          HasRoom-tables s new store.room (ap (λ (it : Store). it.frames) clear.rest ∙ ap (λ (it : Store). it.frames) inv.rest)
          (ap (λ (it : Store). length it.frame_counts.counts) clear.rest ∙ ap (λ (it : Store). length it.frame_counts.counts) inv.rest)
          (subst (λ (it : Shares). Rattle.sharers.specs.Shares.AreTallied it) (sym (ap (λ (it : Store). it.frame_counts) clear.rest ∙ ap (λ (it : Store). it.frame_counts) inv.rest)) store.room.frames_tallied)
          (subst (λ (it : Shares). Rattle.sharers.specs.Shares.AreTallied it) (sym (ap (λ (it : Store). it.leaf_counts) clear.rest ∙ ap (λ (it : Store). it.leaf_counts) inv.rest)) store.room.leaves_tallied)
          (ap (λ (it : Store). it.table_counts) clear.rest ∙ ap (λ (it : Store). it.table_counts) inv.rest)
          alive (clear.len ∙ ap (λ (it : Store). length it.tables.items) inv.rest) rows reads;
      slots = subst (λ (it : Store). CountsSlots it) (sym clear.rest) inv.slots;
      filled = λ u i l is.
          omega (
            arith,
            ap (λ (it : Store). pages_kept it l) clear.rest,
            inv.pages l,
            store.filled u i l (sym (ap (λ (g : List Row). cell g u i) grid) ∙ is),
          );
      counted = λ u. elim (cases_eq u t) [
        | inl at ↦
            subst (IsCounted new) (sym at)
            (record {
              mapped = λ w.
                  clear.mapped w ∙ ap (λ (it : Store). mapped_kept it t w) inv.rest ∙ (store.counted t).mapped w
                  ∙ sym (ap (mapped_from w 0) row ∙ mapped-cleared w 0 (table_entries s t));
              written = λ w. clear.written w ∙ sym (ap (written_from w 0) row ∙ written-cleared w 0 (table_entries s t));
            })
        | inr off ↦
            IsCounted-same s new u kept also (λ q. others u q off) (rows u)
            (λ w. (
              ap (λ (o : Option Table). count_in (mapped_counts o) w) (clear.others u off) ∙ ap (λ (it : Store). mapped_kept it u w) inv.rest,
              ap (λ (o : Option Table). count_in (written_counts o) w) (clear.others u off) ∙ ap (λ (it : Store). written_kept it u w) inv.rest,
            )) (store.counted u)
      ];
    } in
    record {
      store = sets;
      live = live-shown new new.tables.items t ∙ alive t ∙ live;
      pages = λ p.
          page_at-shown new also t p ∙ ap (option_map (page_of_entry new)) (here p) ∙ by_entry bytes (entry_at s t p) ∙ ap settled (sym (page_at-shown s kept t p));
      rest = record {
        others = λ u q off. page-kept s new kept also u q u q (others u q off) (λ e is. bytes e.frame);
        live = λ u off. live-shown new new.tables.items u ∙ alive u ∙ sym (live-shown s s.tables.items u);
        reads = reads;
      };
      leaves = λ u i. ap (λ (g : List Row). cell g u i) grid;
      used = ap (λ (g : List Row). distinct_count (leaves_of g)) grid;
      room =
          keeps_room s new store sets
          (ap (λ (it : Store). length it.frames.items) clear.rest ∙ ap (λ (it : Store). length it.frames.items) inv.rest)
          (ap (λ (it : Store). length it.leaf_counts.counts) clear.rest ∙ ap (λ (it : Store). length it.leaf_counts.counts) inv.rest)
          (ap (λ (it : Store). it.frame_counts.spare) clear.rest ∙ ap (λ (it : Store). it.frame_counts.spare) inv.rest)
          (ap (λ (it : Store). it.leaf_counts.spare) clear.rest ∙ ap (λ (it : Store). it.leaf_counts.spare) inv.rest);
    }
  where
    page_as : List ℕ → ℕ → Page
    page_as bytes frame = record { bytes = bytes; written = false; frame = frame }

    by_entry : ((f : ℕ) → bytes_of new f ≡ bytes_of s f) → (o : Option Entry) → option_map (page_of_entry new) (cleared o) ≡ settled (option_map (page_of_entry s) o)
    by_entry bytes None = refl
    by_entry bytes (Some e) = ap (λ (bs : List ℕ). Some (page_as bs e.frame)) (bytes e.frame)
