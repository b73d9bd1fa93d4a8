-- What the steps do to counts, and to the entries that tables have.
use Rattle.std.proofs.Common.{◌≡◌, ◌≢◌, ◌⊎◌, ℕ, true≢false, List, Some, None, Option, IsTrue, refl, sym, ap, subst, ◌∙◌, inl, inr, arith}
use Rattle.std.proofs.lemmas.Bool.{cases_eq}
use Rattle.std.proofs.lemmas.Option.{same_Some}
use Rattle.page_tables.specs.Address.{is_in_window}
use Rattle.page_tables.specs.declared.leaf.Entry.{Entry}
use Rattle.cow_pages.specs.declared.store.Store.{Store}
use Rattle.page_tables.specs.Grid.{cell, all_held}
use Rattle.cow_pages.specs.Store.{Row, frame_key, leaf_key, leaf_grid, table_grid, frame_sharers, leaf_sharers, place_at, entry_in, entry_at, HasCounts, HasPages}
use Rattle.cow_pages.specs.Steps.{Lone, Settled, SetsPlace, SetsRow, KeepsTables, SetsSlot, SetsLeaf, KeepsLeaves, SetsEntry, ForksEntries}
use Rattle.page_tables.proofs.GridLemmas.{cell-set, all-set, cell-set_same, cell-set_other, cell-two}
use Rattle.cow_pages.proofs.SharedLemmas.{leaf_held}

-- COUNTS

pub leaves-place : (s new : Store) (t i : ℕ) (o : Option ℕ) → HasCounts s → SetsPlace s new t i o → (l : ℕ) → leaf_sharers new l ≡ all_held leaf_key (table_grid new) l
leaves-place s new t i o counts sets l =
    let at = ap (λ (g : List Row). all_held leaf_key g l) sets.tables in
    omega (arith, at, sets.sharers l, counts.leaves l, cell-set leaf_key (table_grid s) t i o l sets.there sets.room)

pub leaves-row : (s new : Store) (t : ℕ) (row : Row) → HasCounts s → SetsRow s new t row → (l : ℕ) → leaf_sharers new l ≡ all_held leaf_key (table_grid new) l
leaves-row s new t row counts sets l =
    let at = ap (λ (g : List Row). all_held leaf_key g l) sets.tables in
    omega (arith, at, sets.sharers l, counts.leaves l, all-set leaf_key (table_grid s) t row l sets.there)

pub leaves-same : (s new : Store) → HasCounts s → KeepsTables s new → (l : ℕ) → leaf_sharers new l ≡ all_held leaf_key (table_grid new) l
leaves-same s new counts keeps l = keeps.sharers l ∙ counts.leaves l ∙ sym (ap (λ (g : List Row). all_held leaf_key g l) keeps.tables)

pub frames-slot : (s new : Store) (l a : ℕ) (o : Option Entry) → HasCounts s → SetsSlot s new l a o → (f : ℕ) → frame_sharers new f ≡ all_held frame_key (leaf_grid new) f
frames-slot s new l a o counts sets f =
    let at = ap (λ (g : List (List (Option Entry))). all_held frame_key g f) sets.leaves in
    omega (arith, at, sets.sharers f, counts.frames f, cell-set frame_key (leaf_grid s) l a o f sets.there sets.room)

pub frames-leaf : (s new : Store) (l : ℕ) (row : List (Option Entry)) → HasCounts s → SetsLeaf s new l row → (f : ℕ) → frame_sharers new f ≡ all_held frame_key (leaf_grid new) f
frames-leaf s new l row counts sets f =
    let at = ap (λ (g : List (List (Option Entry))). all_held frame_key g f) sets.leaves in
    omega (arith, at, sets.sharers f, counts.frames f, all-set frame_key (leaf_grid s) l row f sets.there)

pub frames-same : (s new : Store) → HasCounts s → KeepsLeaves s new → (f : ℕ) → frame_sharers new f ≡ all_held frame_key (leaf_grid new) f
frames-same s new counts keeps f = keeps.sharers f ∙ counts.frames f ∙ sym (ap (λ (g : List (List (Option Entry))). all_held frame_key g f) keeps.leaves)

-- PAGES

pub HasPages-fewer : (s new : Store) → HasPages s → ((u q : ℕ) (d : Entry) → entry_at new u q ≡ Some d → entry_at s u q ≡ Some d) → HasPages new
HasPages-fewer s new pages from = record {
  same_page = λ t p u q e d is also same. pages.same_page t p u q e d (from t p e is) (from u q d also) same;
  alone = λ t p u q e d is also same written. pages.alone t p u q e d (from t p e is) (from u q d also) same written;
  in_window = λ t p e is. pages.in_window t p e (from t p e is);
}

-- a page of a table, or another
pub this_or_other : (u t q p : ℕ) → ((u ≡ t) × (q ≡ p)) ⊎ ((u ≢ t) ⊎ (q ≢ p))
this_or_other u t q p = elim (cases_eq u t) [
  | inl same ↦ elim (cases_eq q p) [ inl also ↦ inl (same, also) | inr off ↦ inr (inr off) ]
  | inr off ↦ inr (inl off)
]

-- one entry was put whose frame no other has
pub HasPages-put : (s new : Store) (t p : ℕ) (n : Entry) → HasPages s → SetsEntry s new t p (Some n) → IsTrue (is_in_window p) → Lone s t p n.frame → HasPages new
HasPages-put s new t p n pages sets window lone = record {
  same_page = λ u q v r e d is also same. elim (this_or_other u t q p) [
    | inl here ↦ elim (this_or_other v t r p) [
      | inl there ↦ here.1 ∙ sym there.1
      | inr off ↦ here.1 ∙ sym (lone v r d (before v r d off also) (sym same ∙ sym (now u q e here.0 here.1 is))).1
    ]
    | inr off ↦ elim (this_or_other v t r p) [
      | inl there ↦ (lone u q e (before u q e off is) (same ∙ sym (now v r d there.0 there.1 also))).1 ∙ sym there.1
      | inr off' ↦ pages.same_page u q v r e d (before u q e off is) (before v r d off' also) same
    ]
  ];
  alone = λ u q v r e d is also same written. elim (this_or_other u t q p) [
    | inl here ↦ elim (this_or_other v t r p) [
      | inl there ↦ here.0 ∙ sym there.0
      | inr off ↦ here.0 ∙ sym (lone v r d (before v r d off also) (sym same ∙ sym (now u q e here.0 here.1 is))).0
    ]
    | inr off ↦ elim (this_or_other v t r p) [
      | inl there ↦ (lone u q e (before u q e off is) (same ∙ sym (now v r d there.0 there.1 also))).0 ∙ sym there.0
      | inr off' ↦ pages.alone u q v r e d (before u q e off is) (before v r d off' also) same written
    ]
  ];
  in_window = λ u q e is. elim (this_or_other u t q p) [
    | inl here ↦ subst (λ k. IsTrue (is_in_window k)) (sym here.1) window
    | inr off ↦ pages.in_window u q e (before u q e off is)
  ];
}
  where
    before : (u q : ℕ) (d : Entry) → (u ≢ t) ⊎ (q ≢ p) → entry_at new u q ≡ Some d → entry_at s u q ≡ Some d
    before u q d off is = sym (sets.others u q off) ∙ is

    now : (u q : ℕ) (d : Entry) → u ≡ t → q ≡ p → entry_at new u q ≡ Some d → n.frame ≡ d.frame
    now u q d same also is = ap (λ (it : Entry). it.frame) (same_Some n d (sym sets.here ∙ ap (λ k. entry_at new k p) (sym same) ∙ ap (entry_at new u) (sym also) ∙ is))

-- a settled table was forked
pub HasPages-fork : (s new : Store) (t u : ℕ) → HasPages s → ForksEntries s new t u → Settled s t → ((q : ℕ) → entry_at s u q ≡ None) → HasPages new
HasPages-fork s new t u pages forks settled none = record {
  same_page = λ v p w q e d is also same. pages.same_page (from v) p (from w) q e d (old v p e is) (old w q d also) same;
  alone = λ v p w q e d is also same written. elim (cases_eq v u) [
    | inl here ↦ absurd (true≢false (sym written ∙ settled p e (sym (forks.here p) ∙ ap (λ n. entry_at new n p) (sym here) ∙ is)))
    | inr off ↦ elim (cases_eq w u) [
      | inl there ↦
          let was = sym (forks.others v p off) ∙ is in
          let at : v ≡ t = pages.alone v p t q e d was (sym (forks.here q) ∙ ap (λ n. entry_at new n q) (sym there) ∙ also) same written in
          absurd (true≢false (sym written ∙ settled p e (ap (λ n. entry_at s n p) (sym at) ∙ was)))
      | inr off' ↦ pages.alone v p w q e d (sym (forks.others v p off) ∙ is) (sym (forks.others w q off') ∙ also) same written
    ]
  ];
  in_window = λ v p e is. pages.in_window (from v) p e (old v p e is);
}
  where
    from : ℕ → ℕ
    from v = elim (cases_eq v u) [ inl here ↦ t | inr off ↦ v ]

    old : (v q : ℕ) (d : Entry) → entry_at new v q ≡ Some d → entry_at s (from v) q ≡ Some d
    old v q d is = elim (cases_eq v u) as (λ it. entry_at s (elim it [ inl here ↦ t | inr off ↦ v ]) q ≡ Some d) [
      | inl here ↦ sym (forks.here q) ∙ ap (λ n. entry_at new n q) (sym here) ∙ is
      | inr off ↦ sym (forks.others v q off) ∙ is
    ]

-- ENTRIES

pub leaf-here : (s new : Store) (t i : ℕ) (o : Option ℕ) → SetsPlace s new t i o → place_at new t i ≡ o
leaf-here s new t i o sets = ap (λ (g : List Row). cell g t i) sets.tables ∙ cell-set_same (table_grid s) t i o sets.there sets.room

pub leaf-other : (s new : Store) (t i u j : ℕ) (o : Option ℕ) → SetsPlace s new t i o → (u ≢ t) ⊎ (j ≢ i) → place_at new u j ≡ place_at s u j
leaf-other s new t i u j o sets off = ap (λ (g : List Row). cell g u j) sets.tables ∙ cell-set_other (table_grid s) t i u j o sets.there off

-- the same leaves show the same entries
pub entry_in-same : (s new : Store) → leaf_grid new ≡ leaf_grid s → (o : Option ℕ) (a : ℕ) → entry_in new o a ≡ entry_in s o a
entry_in-same s new same None a = refl
entry_in-same s new same (Some l) a = ap (λ (g : List (List (Option Entry))). cell g l a) same

-- a leaf in a place is none that no place has
pub not_this : (s : Store) → HasCounts s → (u j k m : ℕ) → place_at s u j ≡ Some k → leaf_sharers s m ≡ 0 → k ≢ m
not_this s counts u j k m is none same = omega (arith, leaf_held s counts u j k is, ap (leaf_sharers s) same, none)

-- a leaf with one sharer is in no other place
pub only_place : (s : Store) → HasCounts s → (t i l u j k : ℕ) → place_at s t i ≡ Some l → leaf_sharers s l ≡ 1 → place_at s u j ≡ Some k → (u ≢ t) ⊎ (j ≢ i) → k ≢ l
only_place s counts t i l u j k is alone also off same =
    omega (arith, alone, counts.leaves l, cell-two leaf_key (table_grid s) t i u j l k l is refl also same off)
