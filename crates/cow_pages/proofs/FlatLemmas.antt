-- The entries of a table in one row, so that what is counted of a row is counted of a table.
use Rattle.std.proofs.Common.{◌≡◌, ℕ, suc, ◌*◌, ◌<◌, ◌/◌, ◌%◌, List, [], ◌∷◌, length, get_or, set, Some, None, Option, refl, sym, ap, ◌∙◌, inl, inr, arith}
use Rattle.std.proofs.lemmas.List.{get_or-set_same, get_or-set_other, length-set, length-append}
use Rattle.std.proofs.lemmas.Bool.{cases_eq}
use Rattle.std.proofs.lemmas.Nat.{div-add-mod', mod_below}
use Rattle.page_tables.specs.declared.leaf.Entry.{Entry}
use Rattle.cow_pages.specs.declared.store.Store.{Store}
use Rattle.cow_pages.specs.Store.{Row, leaf_grid, table_grid, entry_at, flat, entries_of_leaf, IsKept}
use Rattle.cow_pages.specs.Steps.{SetsEntry}
use Rattle.cow_pages.proofs.SharedLemmas.{leaf_length}
use Rattle.cow_pages.proofs.ShownLemmas.{flat-at, length-leaf}

pub same_row : (xs ys : List (Option Entry)) → length xs ≡ length ys → ((k : ℕ) → get_or xs k None ≡ get_or ys k None) → xs ≡ ys
same_row [] [] len same = refl
same_row [] (y ∷ ys) len same = absurd (omega arith)
same_row (x ∷ xs) [] len same = absurd (omega arith)
same_row (x ∷ xs) (y ∷ ys) len same =
    ap (λ (o : Option Entry). o ∷ xs) (same 0) ∙ ap (λ (rest : List (Option Entry)). y ∷ rest) (same_row xs ys (omega arith) (λ k. same (suc k)))

pub length-flat : (s : Store) (row : Row) → ((k l : ℕ) → get_or row k None ≡ Some l → length (get_or (leaf_grid s) l []) ≡ 1024) → length (flat s row) ≡ length row * 1024
length-flat s [] whole = refl
length-flat s (o ∷ rest) whole =
    omega (arith, length-append (entries_of_leaf s o) (flat s rest), length-leaf s o (λ l. whole 0 l), length-flat s rest (λ k. whole (suc k)))

pub entry-flat : (s : Store) → IsKept s → (t p : ℕ) → get_or (flat s (get_or (table_grid s) t [])) p None ≡ entry_at s t p
entry-flat s kept t p = flat-at s (get_or (table_grid s) t []) (p / 1024) (p % 1024) p (λ k l is. leaf_length s kept t k l is) (sym (div-add-mod' p 1024)) (mod_below p 1024 (omega arith))

-- a table with the same entries has the same row
pub flat-same : (s new : Store) (t : ℕ) → IsKept s → IsKept new → length (get_or (table_grid new) t []) ≡ length (get_or (table_grid s) t []) → ((q : ℕ) → entry_at new t q ≡ entry_at s t q)
    → flat new (get_or (table_grid new) t []) ≡ flat s (get_or (table_grid s) t [])
flat-same s new t kept also len same =
    same_row (flat new (get_or (table_grid new) t [])) (flat s (get_or (table_grid s) t []))
    (omega (arith, len, length-flat new (get_or (table_grid new) t []) (leaf_length new also t), length-flat s (get_or (table_grid s) t []) (leaf_length s kept t)))
    (λ k. entry-flat new also t k ∙ same k ∙ sym (entry-flat s kept t k))

-- a table in which one entry was set has its row with that entry set
pub flat-set : (s new : Store) (t p : ℕ) (o : Option Entry) → IsKept s → IsKept new → length (get_or (table_grid new) t []) ≡ length (get_or (table_grid s) t []) → SetsEntry s new t p o
    → p < length (get_or (table_grid s) t []) * 1024 → flat new (get_or (table_grid new) t []) ≡ set (flat s (get_or (table_grid s) t [])) p o
flat-set s new t p o kept also len sets within =
    let old = flat s (get_or (table_grid s) t []) in
    let room : p < length old = omega (arith, within, length-flat s (get_or (table_grid s) t []) (leaf_length s kept t)) in
    same_row (flat new (get_or (table_grid new) t [])) (set old p o)
    (omega (arith, len, length-set old p o, length-flat new (get_or (table_grid new) t []) (leaf_length new also t), length-flat s (get_or (table_grid s) t []) (leaf_length s kept t)))
    (λ k. elim (cases_eq k p) [
      | inl here ↦
          entry-flat new also t k ∙ ap (entry_at new t) here ∙ sets.here
          ∙ sym (get_or-set_same old p o None room) ∙ ap (λ n. get_or (set old p o) n None) (sym here)
      | inr off ↦ entry-flat new also t k ∙ sets.others t k (inr off) ∙ sym (entry-flat s kept t k) ∙ sym (get_or-set_other old p k o None off)
    ])
