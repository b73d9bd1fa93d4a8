-- What a store shows.
use Rattle.std.proofs.Common.{◌≡◌, ◌≢◌, ◌⊎◌, ℕ, zero, suc, ◌+◌, ◌*◌, ◌-◌, ◌<◌, ◌≤◌, ◌/◌, ◌%◌, List, [], ◌∷◌, length, map, get_or, Some, None, Option, refl, sym, ap, ◌∙◌, inl, inr, arith, eqb}
use Rattle.std.specs.Prelude.{option_map, replicate}
use Rattle.std.proofs.lemmas.List.{get_or_append_left, get_or-append_right, length-replicate}
use Rattle.std.proofs.lemmas.Bool.{cases_eq, eq-eqb, ne_eqb, cond-true, cond-false, le-leb}
use Rattle.std.proofs.lemmas.Option.{none-some, same_Some}
use Rattle.std.proofs.lemmas.Nat.{div-add-mod', mod_below}
use Rattle.cow_pages.specs.Memory.{Page, Table as Pages, page_in, pages_of, page_at, frame_at, RisesFrom, HasOneSharer, IsShared, IsFree}
use Rattle.page_tables.specs.declared.leaf.Entry.{Entry}
use Rattle.cow_pages.specs.declared.store.Store.{Store}
use Rattle.page_tables.specs.declared.table.Table.{Table}
use Rattle.page_tables.specs.Grid.{cell}
use Rattle.cow_pages.specs.Store.{Row, row_of, leaf_grid, table_grid, place_at, entry_in, entry_at, flat, entries_of_leaf, page_of_entry, pages_from, shown_table, shown, frame_sharers, leaf_sharers, IsKept}
use Rattle.cow_pages.specs.Steps.{Lone}
use Rattle.cow_pages.proofs.SharedLemmas.{leaf_length, Stands, stands, lone, shared_leaf, shared_frame, Shared, entry_there, frame_held}

pub get_or-none : (n i : ℕ) → get_or {A = Option Entry} (replicate n None) i None ≡ None
get_or-none zero i = refl
get_or-none (suc n) zero = refl
get_or-none (suc n) (suc i) = get_or-none n i

pub length-leaf : (s : Store) (o : Option ℕ) → ((l : ℕ) → o ≡ Some l → length (get_or (leaf_grid s) l []) ≡ 1024) → length (entries_of_leaf s o) ≡ 1024
length-leaf s None whole = length-replicate {A = Option Entry} 1024 None
length-leaf s (Some l) whole = whole l refl

pub entry-leaf : (s : Store) (o : Option ℕ) (a : ℕ) → get_or (entries_of_leaf s o) a None ≡ entry_in s o a
entry-leaf s None a = get_or-none 1024 a
entry-leaf s (Some l) a = refl

-- the entries of a row, one leaf after the other
pub flat-at : (s : Store) (row : Row) (i a p : ℕ) → ((k l : ℕ) → get_or row k None ≡ Some l → length (get_or (leaf_grid s) l []) ≡ 1024) → p ≡ i * 1024 + a → a < 1024
    → get_or (flat s row) p None ≡ entry_in s (get_or row i None) a
flat-at s [] i a p whole at below = refl
flat-at s (o ∷ rest) zero a p whole at below =
    get_or_append_left (entries_of_leaf s o) (flat s rest) None p (omega (arith, at, below, length-leaf s o (λ l. whole 0 l))) ∙ ap (λ n. get_or (entries_of_leaf s o) n None) (omega arith) ∙ entry-leaf s o a
flat-at s (o ∷ rest) (suc i) a p whole at below =
    get_or-append_right (entries_of_leaf s o) (flat s rest) 1024 p None (length-leaf s o (λ l. whole 0 l)) (omega (arith, at))
    ∙ flat-at s rest i a (p - 1024) (λ k. whole (suc k)) (omega (arith, at)) below

-- no page below the first
pub page_in-below : (s : Store) (es : List (Option Entry)) (k p : ℕ) → p < k → page_in (pages_from s k es) p ≡ None
page_in-below s [] k p off = refl
page_in-below s (None ∷ rest) k p off = page_in-below s rest (k + 1) p (omega arith)
page_in-below s (Some e ∷ rest) k p off = cond-false (eqb k p) _ _ (ne_eqb _ _ (λ same. omega arith)) ∙ page_in-below s rest (k + 1) p (omega arith)

pub page_in-from : (s : Store) (es : List (Option Entry)) (k n p : ℕ) → k + n ≡ p → page_in (pages_from s k es) p ≡ option_map (page_of_entry s) (get_or es n None)
page_in-from s [] k n p at = refl
page_in-from s (None ∷ rest) k zero p at = page_in-below s rest (k + 1) p (omega arith)
page_in-from s (None ∷ rest) k (suc n) p at = page_in-from s rest (k + 1) n p (omega arith)
page_in-from s (Some e ∷ rest) k zero p at = cond-true (eqb k p) _ _ (eq-eqb _ _ (omega arith))
page_in-from s (Some e ∷ rest) k (suc n) p at = cond-false (eqb k p) _ _ (ne_eqb _ _ (λ same. omega arith)) ∙ page_in-from s rest (k + 1) n p (omega arith)

pub table_of-shown : (s : Store) (tables : List (Option Table)) (t : ℕ) → pages_of (get_or (map (shown_table s) tables) t None) ≡ pages_from s 0 (flat s (get_or (map row_of tables) t []))
table_of-shown s [] t = refl
table_of-shown s (None ∷ rest) zero = refl
table_of-shown s (Some row ∷ rest) zero = refl
table_of-shown s (row ∷ rest) (suc t) = table_of-shown s rest t

-- what is shown at a page is what the entry there shows
pub page_at-shown : (s : Store) → IsKept s → (t p : ℕ) → page_at (shown s) t p ≡ option_map (page_of_entry s) (entry_at s t p)
page_at-shown s kept t p =
    ap (λ (pages : Pages). page_in pages p) (table_of-shown s s.tables.items t)
    ∙ page_in-from s (flat s (get_or (table_grid s) t [])) 0 p p (omega arith)
    ∙ ap (option_map (page_of_entry s)) (flat-at s (get_or (table_grid s) t []) (p / 1024) (p % 1024) p (λ k l is. leaf_length s kept t k l is) (sym (div-add-mod' p 1024)) (mod_below p 1024 (omega arith)))

pub RisesFrom-pages : (s : Store) (es : List (Option Entry)) (k low : ℕ) → low ≤ k → RisesFrom low (pages_from s k es)
RisesFrom-pages s [] k low above = tt
RisesFrom-pages s (None ∷ rest) k low above = RisesFrom-pages s rest (k + 1) low (omega arith)
RisesFrom-pages s (Some e ∷ rest) k low above = (le-leb _ _ above, RisesFrom-pages s rest (k + 1) (k + 1) (omega arith))

-- the frame at a page
pub frame-shown : (s : Store) → IsKept s → (t p : ℕ) → frame_at (shown s) t p ≡ option_map (λ (e : Entry). e.frame) (entry_at s t p)
frame-shown s kept t p = ap (option_map (λ (page : Page). page.frame)) (page_at-shown s kept t p) ∙ twice (entry_at s t p)
  where
    twice : (o : Option Entry) → option_map (λ (page : Page). page.frame) (option_map (page_of_entry s) o) ≡ option_map (λ (e : Entry). e.frame) o
    twice None = refl
    twice (Some e) = refl

-- the entry that has a frame
pub framed : (s : Store) → IsKept s → (t p f : ℕ) → frame_at (shown s) t p ≡ Some f → (e : Entry) × ((entry_at s t p ≡ Some e) × (e.frame ≡ f))
framed s kept t p f is = by_entry (entry_at s t p) refl (sym (frame-shown s kept t p) ∙ is)
  where
    by_entry : (o : Option Entry) → entry_at s t p ≡ o → option_map (λ (e : Entry). e.frame) o ≡ Some f → (e : Entry) × ((entry_at s t p ≡ Some e) × (e.frame ≡ f))
    by_entry None at is = absurd (none-some f is)
    by_entry (Some e) at is = (e, (at, same_Some e.frame f is))

-- one sharer, as the memory has it
pub one_sharer : (s : Store) → IsKept s → (t p : ℕ) (e : Entry) → entry_at s t p ≡ Some e → Lone s t p e.frame → HasOneSharer (shown s) t p
one_sharer s kept t p e is alone u q same =
    let f = framed s kept u q e.frame (same ∙ frame-shown s kept t p ∙ ap (option_map (λ (it : Entry). it.frame)) is) in
    alone u q f.0 f.1.0 f.1.1

pub is_shared : (s : Store) → IsKept s → (t p : ℕ) (e : Entry) → entry_at s t p ≡ Some e → Shared s t p e.frame → IsShared (shown s) t p
is_shared s kept t p e is shared = (
  shared.table,
  shared.apart,
  frame-shown s kept shared.table p ∙ ap (option_map (λ (it : Entry). it.frame)) shared.is ∙ ap {A = ℕ} Some shared.same
      ∙ sym (frame-shown s kept t p ∙ ap (option_map (λ (it : Entry). it.frame)) is),
)

-- the two tests of a writer: both counts are 1, or one of them is more
pub one_or_more : (s : Store) → IsKept s → (t p l : ℕ) (e : Entry) → place_at s t (p / 1024) ≡ Some l → cell (leaf_grid s) l (p % 1024) ≡ Some e
    → ((leaf_sharers s l ≡ 1) × (frame_sharers s e.frame ≡ 1) × HasOneSharer (shown s) t p) ⊎ (((leaf_sharers s l ≢ 1) ⊎ (frame_sharers s e.frame ≢ 1)) × IsShared (shown s) t p)
one_or_more s kept t p l e place slot =
    let is = entry_there s t p l e place slot in
    let some = frame_held s kept.counts t p e is in
    elim (cases_eq (leaf_sharers s l) 1) [
      | inl one ↦ elim (cases_eq (frame_sharers s e.frame) 1) [
        | inl also ↦ inl (one, also, one_sharer s kept t p e is (lone s kept t p l e place slot one also))
        | inr more ↦ inr (inr more, is_shared s kept t p e is (shared_frame s kept t p l e place slot (omega (arith, some, more))))
      ]
      | inr more ↦ inr (inl more, is_shared s kept t p e is (shared_leaf s kept t p l e place slot (omega (arith, more, leaf_some))))
    ]
  where
    leaf_some : 1 ≤ leaf_sharers s l
    leaf_some = Rattle.cow_pages.proofs.SharedLemmas.leaf_held s kept.counts t (p / 1024) l place

-- a frame without sharers is free
pub is_free : (s : Store) → IsKept s → (f : ℕ) → frame_sharers s f ≡ 0 → IsFree (shown s) f
is_free s kept f none t p is =
    let at = framed s kept t p f is in
    omega (arith, frame_held s kept.counts t p at.0 at.1.0, ap (frame_sharers s) at.1.1, none)
