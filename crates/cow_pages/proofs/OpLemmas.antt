-- What each operation does to the entries that tables have, and that the store is kept.
use Rattle.std.proofs.Common.{◌≡◌, ◌≢◌, ◌⊎◌, ℕ, ◌<◌, ◌/◌, ◌%◌, List, [], length, get_or, set, Some, None, Option, IsTrue, refl, sym, ap, subst, ◌∙◌, inl, inr, arith}
use Rattle.std.proofs.lemmas.List.{get_or-set_same, get_or-set_other, length-set}
use Rattle.std.proofs.lemmas.Bool.{cases_eq}
use Rattle.std.proofs.lemmas.Option.{none-some}
use Rattle.page_tables.specs.Address.{is_in_window}
use Rattle.page_tables.specs.declared.leaf.Entry.{Entry}
use Rattle.cow_pages.specs.declared.store.Store.{Store}
use Rattle.page_tables.specs.Grid.{cell, one_held}
use Rattle.cow_pages.specs.Store.{Row, leaf_key, leaf_grid, table_grid, leaf_sharers, place_at, entry_in, entry_at, IsWhole, HasCounts, HasPages, IsKept}
use Rattle.cow_pages.specs.Steps.{Lone, SetsEntry, DropsIndex, SameEntries, ForksEntries, Forks, CopiesLeaf, TakesLeaf, SetsOwn, ClearsLeaf, LeavesPlace}
use Rattle.page_tables.proofs.GridLemmas.{cell-set_same, cell-set_other, held-empty, one-no, one-yes}
use Rattle.cow_pages.proofs.SharedLemmas.{leaf_length, same_parts}
use Rattle.cow_pages.proofs.StepLemmas.{leaves-place, leaves-row, leaves-same, frames-slot, frames-leaf, frames-same, HasPages-fewer, HasPages-put, HasPages-fork, this_or_other, leaf-here, leaf-other, entry_in-same, not_this, only_place}

-- rows of the same lengths
pub whole-same : (s new : Store) → IsWhole s → leaf_grid new ≡ leaf_grid s → length new.leaf_counts.counts ≡ length s.leaf_counts.counts → IsWhole new
whole-same s new whole same counts = record {
  count = omega (arith, counts, whole.count, ap length same);
  leaves = λ l within. ap (λ (g : List (List (Option Entry))). length (get_or g l [])) same ∙ whole.leaves l (omega (arith, within, ap length same));
}

pub whole-set : (s new : Store) (m : ℕ) (row : List (Option Entry)) → IsWhole s → leaf_grid new ≡ set (leaf_grid s) m row → m < length (leaf_grid s) → length row ≡ 1024 → length new.leaf_counts.counts ≡ length s.leaf_counts.counts → IsWhole new
whole-set s new m row whole same there len counts = record {
  count = omega (arith, counts, whole.count, ap length same, length-set (leaf_grid s) m row);
  leaves = λ l within.
      ap (λ (g : List (List (Option Entry))). length (get_or g l [])) same
      ∙ elim (cases_eq l m) [
        | inl here ↦ ap (λ n. length (get_or (set (leaf_grid s) m row) n [])) here ∙ ap length (get_or-set_same (leaf_grid s) m row [] there) ∙ len
        | inr off ↦ ap length (get_or-set_other (leaf_grid s) m l row [] off) ∙ whole.leaves l (omega (arith, within, ap length same, length-set (leaf_grid s) m row))
      ];
}

-- FORK

pub fork_entries : (s new : Store) (t u : ℕ) → Forks s new t u → ForksEntries s new t u
fork_entries s new t u forks = record {
  here = λ q.
      entry_in-same s new forks.leaves.leaves (place_at new u (q / 1024)) (q % 1024)
      ∙ ap (λ (row : Row). entry_in s (get_or row (q / 1024) None) (q % 1024)) (ap (λ (g : List Row). get_or g u []) forks.row.tables ∙ get_or-set_same (table_grid s) u (get_or (table_grid s) t []) [] forks.row.there);
  others = λ v q off.
      entry_in-same s new forks.leaves.leaves (place_at new v (q / 1024)) (q % 1024)
      ∙ ap (λ (row : Row). entry_in s (get_or row (q / 1024) None) (q % 1024)) (ap (λ (g : List Row). get_or g v []) forks.row.tables ∙ get_or-set_other (table_grid s) u v (get_or (table_grid s) t []) [] off);
}

pub fork_kept : (s new : Store) (t u : ℕ) → IsKept s → Forks s new t u → IsKept new
fork_kept s new t u kept forks = record {
  whole = whole-same s new kept.whole forks.leaves.leaves forks.row.len;
  counts = record {
    frames = frames-same s new kept.counts forks.leaves;
    leaves = leaves-row s new u (get_or (table_grid s) t []) kept.counts forks.row;
    empty = λ l a none.
        entry_in-same s new forks.leaves.leaves (Some l) a
        ∙ kept.counts.empty l a (omega (arith, none, forks.row.sharers l, held-empty leaf_key (get_or (table_grid s) u []) l forks.fresh));
  };
  pages = HasPages-fork s new t u kept.pages (fork_entries s new t u forks) forks.settled (λ q. ap (λ (o : Option ℕ). entry_in s o (q % 1024)) (forks.fresh (q / 1024)));
}

-- A LEAF OF ITS OWN

pub own_entries : (s new : Store) (t i l m : ℕ) → IsKept s → CopiesLeaf s new t i l m → SameEntries s new
own_entries s new t i l m kept owns u q = elim (this_or_other u t (q / 1024) i) [
  | inl here ↦
      ap (λ n. entry_in new (place_at new n (q / 1024)) (q % 1024)) here.0 ∙ ap (λ n. entry_in new (place_at new t n) (q % 1024)) here.1
      ∙ ap (λ (o : Option ℕ). entry_in new o (q % 1024)) (leaf-here s new t i (Some m) owns.sets)
      ∙ ap (λ (g : List (List (Option Entry))). cell g m (q % 1024)) owns.copies.leaves
      ∙ ap (λ (row : List (Option Entry)). get_or row (q % 1024) None) (get_or-set_same (leaf_grid s) m (get_or (leaf_grid s) l []) [] owns.copies.there)
      ∙ sym (ap (λ (o : Option ℕ). entry_in s o (q % 1024)) owns.place)
      ∙ sym (ap (λ n. entry_in s (place_at s n (q / 1024)) (q % 1024)) here.0 ∙ ap (λ n. entry_in s (place_at s t n) (q % 1024)) here.1)
  | inr off ↦
      ap (λ (o : Option ℕ). entry_in new o (q % 1024)) (leaf-other s new t i u (q / 1024) (Some m) owns.sets off)
      ∙ by_leaf (place_at s u (q / 1024)) refl
]
  where
    by_leaf : (o : Option ℕ) → place_at s u (q / 1024) ≡ o → entry_in new o (q % 1024) ≡ entry_in s o (q % 1024)
    by_leaf None is = refl
    by_leaf (Some k) is =
        ap (λ (g : List (List (Option Entry))). cell g k (q % 1024)) owns.copies.leaves
        ∙ ap (λ (row : List (Option Entry)). get_or row (q % 1024) None) (get_or-set_other (leaf_grid s) m k (get_or (leaf_grid s) l []) [] (not_this s kept.counts u (q / 1024) k m is owns.free))

pub own_kept : (s new : Store) (t i l m : ℕ) → IsKept s → CopiesLeaf s new t i l m → IsKept new
own_kept s new t i l m kept owns =
    let entries = own_entries s new t i l m kept owns in
    let row = get_or (leaf_grid s) l [] in
    record {
      whole = whole-set s new m row kept.whole owns.copies.leaves owns.copies.there (leaf_length s kept t i l owns.place) owns.sets.len;
      counts = record {
        frames = frames-leaf s new m row kept.counts owns.copies;
        leaves = leaves-place s new t i (Some m) kept.counts owns.sets;
        empty = λ k a none.
            let change = owns.sets.sharers k in
            let old = ap (λ (o : Option ℕ). one_held leaf_key o k) owns.place in
            let off_m : k ≢ m = (λ same. omega (arith, change, old, none, ap (leaf_sharers s) same, owns.free, one-yes m k (sym same), not_l k m same)) in
            let off_l : k ≢ l = (λ same. omega (arith, change, old, none, ap (leaf_sharers s) same, owns.shared, one-no m k (λ at. off_m (sym at)), one-yes l k (sym same))) in
            ap (λ (g : List (List (Option Entry))). cell g k a) owns.copies.leaves
            ∙ ap (λ (it : List (Option Entry)). get_or it a None) (get_or-set_other (leaf_grid s) m k row [] off_m)
            ∙ kept.counts.empty k a (omega (arith, change, old, none, one-no m k (λ at. off_m (sym at)), one-no l k (λ at. off_l (sym at))));
      };
      pages = HasPages-fewer s new kept.pages (λ u q d is. sym (entries u q) ∙ is);
    }
  where
    not_l : (k n : ℕ) → k ≡ n → n ≡ m → one_held leaf_key (Some l) k ≡ 0
    not_l k n same at = one-no l k (λ equal. omega (arith, owns.shared, owns.free, ap (leaf_sharers s) (equal ∙ same ∙ at)))

-- A LEAF WHERE NONE WAS

pub take_entries : (s new : Store) (t i m : ℕ) → IsKept s → TakesLeaf s new t i m → SameEntries s new
take_entries s new t i m kept takes u q =
    entry_in-same s new takes.leaves.leaves (place_at new u (q / 1024)) (q % 1024)
    ∙ elim (this_or_other u t (q / 1024) i) [
      | inl here ↦
          ap (λ n. entry_in s (place_at new n (q / 1024)) (q % 1024)) here.0 ∙ ap (λ n. entry_in s (place_at new t n) (q % 1024)) here.1
          ∙ ap (λ (o : Option ℕ). entry_in s o (q % 1024)) (leaf-here s new t i (Some m) takes.sets)
          ∙ kept.counts.empty m (q % 1024) takes.free
          ∙ sym (ap (λ (o : Option ℕ). entry_in s o (q % 1024)) takes.absent)
          ∙ sym (ap (λ n. entry_in s (place_at s n (q / 1024)) (q % 1024)) here.0 ∙ ap (λ n. entry_in s (place_at s t n) (q % 1024)) here.1)
      | inr off ↦ ap (λ (o : Option ℕ). entry_in s o (q % 1024)) (leaf-other s new t i u (q / 1024) (Some m) takes.sets off)
    ]

pub take_kept : (s new : Store) (t i m : ℕ) → IsKept s → TakesLeaf s new t i m → IsKept new
take_kept s new t i m kept takes = record {
  whole = whole-same s new kept.whole takes.leaves.leaves takes.sets.len;
  counts = record {
    frames = frames-same s new kept.counts takes.leaves;
    leaves = leaves-place s new t i (Some m) kept.counts takes.sets;
    empty = λ k a none.
        entry_in-same s new takes.leaves.leaves (Some k) a
        ∙ kept.counts.empty k a (omega (arith, takes.sets.sharers k, ap (λ (o : Option ℕ). one_held leaf_key o k) takes.absent, none));
  };
  pages = HasPages-fewer s new kept.pages (λ u q d is. sym (take_entries s new t i m kept takes u q) ∙ is);
}

-- AN ENTRY OF A LEAF OF ITS OWN

pub set_entries : (s new : Store) (t p l : ℕ) (o : Option Entry) → IsKept s → SetsOwn s new t p l o → SetsEntry s new t p o
set_entries s new t p l o kept sets = record {
  here =
      ap (λ (it : Option ℕ). entry_in new it (p % 1024)) (same_leaf t (p / 1024) ∙ sets.place)
      ∙ ap (λ (g : List (List (Option Entry))). cell g l (p % 1024)) sets.slot.leaves
      ∙ cell-set_same (leaf_grid s) l (p % 1024) o sets.slot.there sets.slot.room;
  others = λ u q off. ap (λ (it : Option ℕ). entry_in new it (q % 1024)) (same_leaf u (q / 1024)) ∙ by_leaf u q off (place_at s u (q / 1024)) refl;
}
  where
    same_leaf : (u j : ℕ) → place_at new u j ≡ place_at s u j
    same_leaf u j = ap (λ (g : List Row). cell g u j) sets.tables.tables

    apart : (u q k : ℕ) → (u ≢ t) ⊎ (q ≢ p) → place_at s u (q / 1024) ≡ Some k → (k ≢ l) ⊎ (q % 1024 ≢ p % 1024)
    apart u q k off is = elim (cases_eq k l) [
      | inl same ↦ elim (this_or_other u t (q / 1024) (p / 1024)) [
        | inl here ↦ inr (λ slot. elim off [ inl far ↦ far here.0 | inr far ↦ far (same_parts q p here.1 slot) ])
        | inr other ↦ absurd (only_place s kept.counts t (p / 1024) l u (q / 1024) k sets.place sets.own is other same)
      ]
      | inr other ↦ inl other
    ]

    by_leaf : (u q : ℕ) → (u ≢ t) ⊎ (q ≢ p) → (it : Option ℕ) → place_at s u (q / 1024) ≡ it → entry_in new it (q % 1024) ≡ entry_in s it (q % 1024)
    by_leaf u q off None is = refl
    by_leaf u q off (Some k) is =
        ap (λ (g : List (List (Option Entry))). cell g k (q % 1024)) sets.slot.leaves
        ∙ cell-set_other (leaf_grid s) l (p % 1024) k (q % 1024) o sets.slot.there (apart u q k off is)

pub set_counts : (s new : Store) (t p l : ℕ) (o : Option Entry) → IsKept s → SetsOwn s new t p l o → HasCounts new
set_counts s new t p l o kept sets = record {
  frames = frames-slot s new l (p % 1024) o kept.counts sets.slot;
  leaves = leaves-same s new kept.counts sets.tables;
  empty = λ k a none.
      let off : k ≢ l = (λ same. omega (arith, none, sets.tables.sharers k, ap (leaf_sharers s) same, sets.own)) in
      ap (λ (g : List (List (Option Entry))). cell g k a) sets.slot.leaves
      ∙ cell-set_other (leaf_grid s) l (p % 1024) k a o sets.slot.there (inl off)
      ∙ kept.counts.empty k a (omega (arith, none, sets.tables.sharers k));
}

pub set_whole : (s new : Store) (t p l : ℕ) (o : Option Entry) → IsKept s → SetsOwn s new t p l o → IsWhole new
set_whole s new t p l o kept sets =
    whole-set s new l (set (get_or (leaf_grid s) l []) (p % 1024) o) kept.whole sets.slot.leaves sets.slot.there
    (length-set (get_or (leaf_grid s) l []) (p % 1024) o ∙ leaf_length s kept t (p / 1024) l sets.place) sets.tables.len

-- a write, a copy of a frame, and a page that is mapped
pub put_kept : (s new : Store) (t p l : ℕ) (e : Entry) → IsKept s → SetsOwn s new t p l (Some e) → IsTrue (is_in_window p) → Lone s t p e.frame → IsKept new
put_kept s new t p l e kept sets window alone = record {
  whole = set_whole s new t p l (Some e) kept sets;
  counts = set_counts s new t p l (Some e) kept sets;
  pages = HasPages-put s new t p e kept.pages (set_entries s new t p l (Some e) kept sets) window alone;
}

-- a page that is released
pub release_kept : (s new : Store) (t p l : ℕ) → IsKept s → SetsOwn s new t p l None → IsKept new
release_kept s new t p l kept sets =
    let entries = set_entries s new t p l None kept sets in
    record {
      whole = set_whole s new t p l None kept sets;
      counts = set_counts s new t p l None kept sets;
      pages = HasPages-fewer s new kept.pages (λ u q d is. elim (this_or_other u t q p) [
        | inl here ↦ absurd (none-some d (sym entries.here ∙ ap (λ n. entry_at new n p) (sym here.0) ∙ ap (entry_at new u) (sym here.1) ∙ is))
        | inr off ↦ sym (entries.others u q off) ∙ is
      ]);
    }

-- THE LEAVES OF A TABLE THAT ENDS

pub drops_pages : (s new : Store) (t i : ℕ) → HasPages s → DropsIndex s new t i → HasPages new
drops_pages s new t i pages drops = HasPages-fewer s new pages (λ u q d is. elim (this_or_other u t (q / 1024) i) [
  | inl here ↦ absurd (none-some d (sym (drops.gone q here.1) ∙ ap (λ n. entry_at new n q) (sym here.0) ∙ is))
  | inr off ↦ sym (drops.others u q off) ∙ is
])

pub clear_entries : (s new : Store) (t i l : ℕ) (row : List (Option Entry)) → IsKept s → ClearsLeaf s new t i l row → DropsIndex s new t i
clear_entries s new t i l row kept clears = record {
  gone = λ q at.
      ap (λ (it : Option ℕ). entry_in new it (q % 1024)) (same_leaf t (q / 1024) ∙ ap (place_at s t) at ∙ clears.place)
      ∙ ap (λ (g : List (List (Option Entry))). cell g l (q % 1024)) clears.clears.leaves
      ∙ ap (λ (it : List (Option Entry)). get_or it (q % 1024) None) (get_or-set_same (leaf_grid s) l row [] clears.clears.there)
      ∙ clears.empty (q % 1024);
  others = λ u q off. ap (λ (it : Option ℕ). entry_in new it (q % 1024)) (same_leaf u (q / 1024)) ∙ by_leaf u q off (place_at s u (q / 1024)) refl;
}
  where
    same_leaf : (u j : ℕ) → place_at new u j ≡ place_at s u j
    same_leaf u j = ap (λ (g : List Row). cell g u j) clears.tables.tables

    by_leaf : (u q : ℕ) → (u ≢ t) ⊎ (q / 1024 ≢ i) → (it : Option ℕ) → place_at s u (q / 1024) ≡ it → entry_in new it (q % 1024) ≡ entry_in s it (q % 1024)
    by_leaf u q off None is = refl
    by_leaf u q off (Some k) is =
        ap (λ (g : List (List (Option Entry))). cell g k (q % 1024)) clears.clears.leaves
        ∙ ap (λ (it : List (Option Entry)). get_or it (q % 1024) None) (get_or-set_other (leaf_grid s) l k row [] (only_place s kept.counts t i l u (q / 1024) k clears.place clears.own is off))

pub clear_kept : (s new : Store) (t i l : ℕ) (row : List (Option Entry)) → IsKept s → ClearsLeaf s new t i l row → IsKept new
clear_kept s new t i l row kept clears = record {
  whole = whole-set s new l row kept.whole clears.clears.leaves clears.clears.there clears.len clears.tables.len;
  counts = record {
    frames = frames-leaf s new l row kept.counts clears.clears;
    leaves = leaves-same s new kept.counts clears.tables;
    empty = λ k a none.
        let off : k ≢ l = (λ same. omega (arith, none, clears.tables.sharers k, ap (leaf_sharers s) same, clears.own)) in
        ap (λ (g : List (List (Option Entry))). cell g k a) clears.clears.leaves
        ∙ ap (λ (it : List (Option Entry)). get_or it a None) (get_or-set_other (leaf_grid s) l k row [] off)
        ∙ kept.counts.empty k a (omega (arith, none, clears.tables.sharers k));
  };
  pages = drops_pages s new t i kept.pages (clear_entries s new t i l row kept clears);
}

pub leave_entries : (s new : Store) (t i l : ℕ) → LeavesPlace s new t i l → DropsIndex s new t i
leave_entries s new t i l leaves = record {
  gone = λ q at. ap (λ (it : Option ℕ). entry_in new it (q % 1024)) (ap (place_at new t) at ∙ leaf-here s new t i None leaves.sets);
  others = λ u q off.
      ap (λ (it : Option ℕ). entry_in new it (q % 1024)) (leaf-other s new t i u (q / 1024) None leaves.sets off)
      ∙ entry_in-same s new leaves.leaves.leaves (place_at s u (q / 1024)) (q % 1024);
}

pub leave_kept : (s new : Store) (t i l : ℕ) → IsKept s → LeavesPlace s new t i l → IsKept new
leave_kept s new t i l kept leaves = record {
  whole = whole-same s new kept.whole leaves.leaves.leaves leaves.sets.len;
  counts = record {
    frames = frames-same s new kept.counts leaves.leaves;
    leaves = leaves-place s new t i None kept.counts leaves.sets;
    empty = λ k a none. entry_in-same s new leaves.leaves.leaves (Some k) a ∙ was k a none;
  };
  pages = drops_pages s new t i kept.pages (leave_entries s new t i l leaves);
}
  where
    was : (k a : ℕ) → leaf_sharers new k ≡ 0 → cell (leaf_grid s) k a ≡ None
    was k a none =
        let change = leaves.sets.sharers k in
        let old = ap (λ (o : Option ℕ). one_held leaf_key o k) leaves.place in
        elim (cases_eq l k) [
          | inl same ↦ elim leaves.may [
            | inl two ↦ absurd (omega (arith, change, old, none, one-yes l k same, ap (leaf_sharers s) same, two))
            | inr empty ↦ ap (λ n. cell (leaf_grid s) n a) (sym same) ∙ empty a
          ]
          | inr off ↦ kept.counts.empty k a (omega (arith, change, old, none, one-no l k off))
        ]

-- a store whose reads alone differ
pub kept_reads : (s new : Store) → new ≡ record s { reads = new.reads } → IsKept s → IsKept new
kept_reads s new is kept =
    subst IsKept (sym is)
    (record {
      whole = record { count = kept.whole.count; leaves = kept.whole.leaves };
      counts = record { frames = kept.counts.frames; leaves = kept.counts.leaves; empty = kept.counts.empty };
      pages = record { same_page = kept.pages.same_page; alone = kept.pages.alone; in_window = kept.pages.in_window };
    })
