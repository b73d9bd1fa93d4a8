-- The tables of a store after one of them was changed.
use Rattle.std.proofs.Common.{◌≡◌, ◌≢◌, ℕ, zero, suc, ◌<◌, List, [], ◌∷◌, length, map, get_or, set, Some, None, Option, is_some, refl, sym, ap, ◌∙◌, inl, inr, arith}
use Rattle.std.proofs.lemmas.List.{get_or-set_same, get_or-set_other, get_or-map, length-set, length-map, map-set}
use Rattle.std.proofs.lemmas.Bool.{cases_eq}
use Rattle.page_tables.specs.declared.table.Table.{Table}
use Rattle.page_tables.specs.Counts.{count_in}
use Rattle.page_tables.specs.declared.table.Counts.{Counts}
use Rattle.cow_pages.specs.declared.store.Store.{Store}
use Rattle.cow_pages.specs.Store.{Row, row_of, table_grid, mapped_counts, written_counts, mapped_kept, written_kept}
use Rattle.cow_pages.specs.Steps.{KeepsCounts}

-- one place of one table
pub set_place_tables : (tables : List (Option Table)) (t i : ℕ) (o : Option ℕ) (old new : Table) (d : Option Table) → t < length tables → get_or tables t d ≡ Some old → new.leaves.items ≡ set old.leaves.items i o
    → map row_of (set tables t (Some new)) ≡ set (map row_of tables) t (set (get_or (map row_of tables) t []) i o)
set_place_tables tables t i o old new d within was now =
    map-set row_of tables t (Some new)
    ∙ ap (λ (row : Row). set (map row_of tables) t row) (now ∙ ap (λ (row : Row). set row i o) (sym (get_or-map row_of tables t d [] within ∙ ap row_of was)))

-- a table was put in the place of one
pub record ReplacesTable (s new : Store) (t : ℕ) (old table : Table) : Type 0 where
  pub within : t < length s.tables.items
  pub was : get_or s.tables.items t None ≡ Some old
  pub now : new.tables.items ≡ set s.tables.items t (Some table)

pub replaced-here : (s new : Store) (t : ℕ) (old table : Table) → ReplacesTable s new t old table → get_or new.tables.items t None ≡ Some table
replaced-here s new t old table r = ap (λ (ts : List (Option Table)). get_or ts t None) r.now ∙ get_or-set_same s.tables.items t (Some table) None r.within

pub replaced-other : (s new : Store) (t : ℕ) (old table : Table) → ReplacesTable s new t old table → (u : ℕ) → u ≢ t → get_or new.tables.items u None ≡ get_or s.tables.items u None
replaced-other s new t old table r u off = ap (λ (ts : List (Option Table)). get_or ts u None) r.now ∙ get_or-set_other s.tables.items t u (Some table) None off

pub replaced-live : (s new : Store) (t : ℕ) (old table : Table) → ReplacesTable s new t old table → (u : ℕ) → is_some (get_or new.tables.items u None) ≡ is_some (get_or s.tables.items u None)
replaced-live s new t old table r u = elim (cases_eq u t) [
  | inl here ↦
      ap (λ n. is_some (get_or new.tables.items n None)) here ∙ ap (λ (o : Option Table). is_some o) (replaced-here s new t old table r)
      ∙ sym (ap (λ n. is_some (get_or s.tables.items n None)) here ∙ ap (λ (o : Option Table). is_some o) r.was)
  | inr off ↦ ap (λ (o : Option Table). is_some o) (replaced-other s new t old table r u off)
]

pub replaced-len : (s new : Store) (t : ℕ) (old table : Table) → ReplacesTable s new t old table → length new.tables.items ≡ length s.tables.items
replaced-len s new t old table r = ap (λ (ts : List (Option Table)). length ts) r.now ∙ length-set s.tables.items t (Some table)

-- one with the same leaves shows the same grid
pub replaced-grid : (s new : Store) (t : ℕ) (old table : Table) → ReplacesTable s new t old table → table.leaves.items ≡ old.leaves.items → table_grid new ≡ table_grid s
replaced-grid s new t old table r same =
    ap (λ (ts : List (Option Table)). map row_of ts) r.now ∙ map-set row_of s.tables.items t (Some table)
    ∙ ap (λ (row : Row). set (table_grid s) t row) (same ∙ sym (get_or-map row_of s.tables.items t None [] r.within ∙ ap row_of r.was))
    ∙ set-get (table_grid s) t [] (omega (arith, r.within, length-map s.tables.items row_of))
  where
    set-get : (xs : List Row) (i : ℕ) (d : Row) → i < length xs → set xs i (get_or xs i d) ≡ xs
    set-get [] i d within = absurd (omega arith)
    set-get (x ∷ rest) zero d within = refl
    set-get (x ∷ rest) (suc i) d within = ap (λ (it : List Row). x ∷ it) (set-get rest i d (omega arith))

-- one with the same counts counts the same
pub keeps-counts : (s new : Store) (t : ℕ) (old table : Table) → ReplacesTable s new t old table → table.mapped ≡ old.mapped → table.written ≡ old.written → KeepsCounts s new
keeps-counts s new t old table r mapped written = record {
  kept = λ u w. elim (cases_eq u t) [
    | inl here ↦ (
      ap (λ n. mapped_kept new n w) here ∙ ap (λ (o : Option Table). count_in (mapped_counts o) w) (replaced-here s new t old table r) ∙ ap (λ (c : Counts). count_in c w) mapped
          ∙ sym (ap (λ n. mapped_kept s n w) here ∙ ap (λ (o : Option Table). count_in (mapped_counts o) w) r.was),
      ap (λ n. written_kept new n w) here ∙ ap (λ (o : Option Table). count_in (written_counts o) w) (replaced-here s new t old table r) ∙ ap (λ (c : Counts). count_in c w) written
          ∙ sym (ap (λ n. written_kept s n w) here ∙ ap (λ (o : Option Table). count_in (written_counts o) w) r.was),
    )
    | inr off ↦ (
      ap (λ (o : Option Table). count_in (mapped_counts o) w) (replaced-other s new t old table r u off),
      ap (λ (o : Option Table). count_in (written_counts o) w) (replaced-other s new t old table r u off),
    )
  ];
  live = replaced-live s new t old table r;
  len = replaced-len s new t old table r;
}
