-- Who shares a frame, by the counts of frames and leaves.
use Rattle.std.proofs.Common.{◌≡◌, ◌≢◌, ℕ, ◌+◌, ◌*◌, ◌<◌, ◌≤◌, ◌/◌, ◌%◌, [], length, get_or, Some, None, Option, refl, sym, ap, ◌∙◌, inl, inr, arith}
use Rattle.std.proofs.lemmas.List.{get_or_past}
use Rattle.std.proofs.lemmas.Bool.{cases_eq, cases_lt}
use Rattle.std.proofs.lemmas.Option.{none-some, same_Some}
use Rattle.std.proofs.lemmas.Nat.{div-add-mod', div-mul-add, mod-mul-add, mod_below}
use Rattle.page_tables.specs.declared.leaf.Entry.{Entry}
use Rattle.cow_pages.specs.declared.store.Store.{Store}
use Rattle.page_tables.specs.Grid.{cell}
use Rattle.cow_pages.specs.Store.{frame_key, leaf_key, leaf_grid, table_grid, frame_sharers, leaf_sharers, place_at, entry_in, entry_at, HasCounts, IsKept}
use Rattle.cow_pages.specs.Steps.{Lone}
use Rattle.page_tables.proofs.GridLemmas.{cell-there, cell-two, cell_found, cell_other, cell-column}

-- the leaf and the slot of an entry
pub record Stands (s : Store) (t p : ℕ) (e : Entry) : Type 0 where
  pub leaf : ℕ
  pub place : place_at s t (p / 1024) ≡ Some leaf
  pub slot : cell (leaf_grid s) leaf (p % 1024) ≡ Some e

pub stands : (s : Store) (t p : ℕ) (e : Entry) → entry_at s t p ≡ Some e → Stands s t p e
stands s t p e is = by_leaf (place_at s t (p / 1024)) refl is
  where
    by_leaf : (o : Option ℕ) → place_at s t (p / 1024) ≡ o → entry_in s o (p % 1024) ≡ Some e → Stands s t p e
    by_leaf None at is = absurd (none-some e is)
    by_leaf (Some l) at is = record { leaf = l; place = at; slot = is }

pub entry_there : (s : Store) (t p l : ℕ) (e : Entry) → place_at s t (p / 1024) ≡ Some l → cell (leaf_grid s) l (p % 1024) ≡ Some e → entry_at s t p ≡ Some e
entry_there s t p l e place slot = ap (λ (o : Option ℕ). entry_in s o (p % 1024)) place ∙ slot

-- the same with the index and the slot
pub entry_put : (s : Store) (t i a l : ℕ) (e : Entry) → a < 1024 → place_at s t i ≡ Some l → cell (leaf_grid s) l a ≡ Some e → entry_at s t (i * 1024 + a) ≡ Some e
entry_put s t i a l e below place slot =
    entry_there s t (i * 1024 + a) l e (ap (place_at s t) (div-mul-add i 1024 a below) ∙ place) (ap (cell (leaf_grid s) l) (mod-mul-add i 1024 a below) ∙ slot)

pub same_parts : (p q : ℕ) → p / 1024 ≡ q / 1024 → p % 1024 ≡ q % 1024 → p ≡ q
same_parts p q one two = omega (arith, div-add-mod' p 1024, div-add-mod' q 1024)

-- a leaf in a place has a sharer, and 1,024 slots
pub leaf_held : (s : Store) → HasCounts s → (t i l : ℕ) → place_at s t i ≡ Some l → 1 ≤ leaf_sharers s l
leaf_held s counts t i l is = omega (arith, counts.leaves l, cell-there leaf_key (table_grid s) t i l l is refl)

pub leaf_within : (s : Store) (l : ℕ) → 1 ≤ leaf_sharers s l → l < length s.leaf_counts.counts
leaf_within s l some = elim (cases_lt l (length s.leaf_counts.counts)) [
  | inl below ↦ below
  | inr past ↦ absurd (omega (arith, some, get_or_past s.leaf_counts.counts l 0 past))
]

pub leaf_length : (s : Store) → IsKept s → (t i l : ℕ) → place_at s t i ≡ Some l → length (get_or (leaf_grid s) l []) ≡ 1024
leaf_length s kept t i l is = kept.whole.leaves l (omega (arith, leaf_within s l (leaf_held s kept.counts t i l is), kept.whole.count))

-- the frame of an entry has a sharer
pub frame_held : (s : Store) → HasCounts s → (t p : ℕ) (e : Entry) → entry_at s t p ≡ Some e → 1 ≤ frame_sharers s e.frame
frame_held s counts t p e is =
    let st = stands s t p e is in
    omega (arith, counts.frames e.frame, cell-there frame_key (leaf_grid s) st.leaf (p % 1024) e e.frame st.slot refl)

-- an entry with a frame
pub record Used (s : Store) (f : ℕ) : Type 0 where
  pub table : ℕ
  pub page : ℕ
  pub entry : Entry
  pub is : entry_at s table page ≡ Some entry
  pub same : entry.frame ≡ f

-- an entry of a leaf is an entry of a table
pub leaf_used : (s : Store) → IsKept s → (l a : ℕ) (e : Entry) → cell (leaf_grid s) l a ≡ Some e → (t : ℕ) × (i : ℕ) × ((place_at s t i ≡ Some l) × ((a < 1024) × (entry_at s t (i * 1024 + a) ≡ Some e)))
leaf_used s kept l a e is =
    let some : 1 ≤ leaf_sharers s l = (elim (cases_lt 0 (leaf_sharers s l)) [
      | inl here ↦ omega (arith, here)
      | inr none ↦ absurd (none-some e (sym (kept.counts.empty l a (omega (arith, none))) ∙ is))
    ]) in
    let f = cell_found leaf_key (table_grid s) l (omega (arith, some, kept.counts.leaves l)) in
    let at : place_at s f.row f.column ≡ Some l = f.is ∙ ap {A = ℕ} Some f.same in
    let below : a < 1024 = omega (arith, cell-column (leaf_grid s) l a e is, leaf_length s kept f.row f.column l at) in
    (f.row, f.column, (at, (below, entry_put s f.row f.column a l e below at is)))

-- a frame with a sharer stands in a table
pub frame_used : (s : Store) → IsKept s → (f : ℕ) → 1 ≤ frame_sharers s f → Used s f
frame_used s kept f some =
    let found = cell_found frame_key (leaf_grid s) f (omega (arith, some, kept.counts.frames f)) in
    let u = leaf_used s kept found.row found.column found.it found.is in
    record { table = u.0; page = u.1 * 1024 + found.column; entry = found.it; is = u.2.1.1; same = found.same }

-- where the leaf and the frame have one sharer each, no other entry has the frame
pub lone : (s : Store) → IsKept s → (t p l : ℕ) (e : Entry) → place_at s t (p / 1024) ≡ Some l → cell (leaf_grid s) l (p % 1024) ≡ Some e → leaf_sharers s l ≡ 1 → frame_sharers s e.frame ≡ 1
    → Lone s t p e.frame
lone s kept t p l e place slot one_leaf one_frame u q d is same =
    let page : p ≡ q = kept.pages.same_page t p u q e d (entry_there s t p l e place slot) is (sym same) in
    let st = stands s u q d is in
    let parts : (place_at s u (p / 1024) ≡ Some st.leaf) × (cell (leaf_grid s) st.leaf (p % 1024) ≡ Some d) =
    (ap (λ n. place_at s u (n / 1024)) page ∙ st.place, ap (λ n. cell (leaf_grid s) st.leaf (n % 1024)) page ∙ st.slot) in
    elim (cases_eq st.leaf l) [
      | inl equal ↦ elim (cases_eq u t) [
        | inl here ↦ (here, sym page)
        | inr off ↦ absurd (omega (arith, one_leaf, kept.counts.leaves l, cell-two leaf_key (table_grid s) t (p / 1024) u (p / 1024) l st.leaf l place refl parts.0 equal (inl off)))
      ]
      | inr off ↦
          absurd (omega (arith, one_frame, kept.counts.frames e.frame, cell-two frame_key (leaf_grid s) l (p % 1024) st.leaf (p % 1024) e d e.frame slot refl parts.1 same (inl off)))
    ]

-- another table that has the frame
pub record Shared (s : Store) (t p f : ℕ) : Type 0 where
  pub table : ℕ
  pub apart : table ≢ t
  pub entry : Entry
  pub is : entry_at s table p ≡ Some entry
  pub same : entry.frame ≡ f

-- where the leaf or the frame has more sharers, another table has the frame at the page
pub shared_leaf : (s : Store) → IsKept s → (t p l : ℕ) (e : Entry) → place_at s t (p / 1024) ≡ Some l → cell (leaf_grid s) l (p % 1024) ≡ Some e → 2 ≤ leaf_sharers s l → Shared s t p e.frame
shared_leaf s kept t p l e place slot two =
    let o = cell_other leaf_key (table_grid s) l t (p / 1024) l place refl (omega (arith, two, kept.counts.leaves l)) in
    let f = o.found in
    let below : p % 1024 < 1024 = mod_below p 1024 (omega arith) in
    let is = entry_put s f.row f.column (p % 1024) l e below (f.is ∙ ap {A = ℕ} Some f.same) slot in
    let page : f.column * 1024 + p % 1024 ≡ p = kept.pages.same_page f.row (f.column * 1024 + p % 1024) t p e e is (entry_there s t p l e place slot) refl in
    let column : f.column ≡ p / 1024 = sym (div-mul-add f.column 1024 (p % 1024) below) ∙ ap (λ n. n / 1024) page in
    record {
      table = f.row;
      apart = elim o.apart [ inl off ↦ off | inr off ↦ absurd (off column) ];
      entry = e;
      is = ap (entry_at s f.row) (sym page) ∙ is;
      same = refl;
    }

pub shared_frame : (s : Store) → IsKept s → (t p l : ℕ) (e : Entry) → place_at s t (p / 1024) ≡ Some l → cell (leaf_grid s) l (p % 1024) ≡ Some e → 2 ≤ frame_sharers s e.frame → Shared s t p e.frame
shared_frame s kept t p l e place slot two =
    let o = cell_other frame_key (leaf_grid s) e.frame l (p % 1024) e slot refl (omega (arith, two, kept.counts.frames e.frame)) in
    let f = o.found in
    let u = leaf_used s kept f.row f.column f.it f.is in
    let page : u.1 * 1024 + f.column ≡ p = kept.pages.same_page u.0 (u.1 * 1024 + f.column) t p f.it e u.2.1.1 (entry_there s t p l e place slot) f.same in
    let column : f.column ≡ p % 1024 = sym (mod-mul-add u.1 1024 f.column u.2.1.0) ∙ ap (λ n. n % 1024) page in
    let index : u.1 ≡ p / 1024 = sym (div-mul-add u.1 1024 f.column u.2.1.0) ∙ ap (λ n. n / 1024) page in
    record {
      table = u.0;
      apart = λ (here : u.0 ≡ t).
          let same_leaf : f.row ≡ l = same_Some f.row l (sym u.2.0 ∙ ap (λ n. place_at s n u.1) here ∙ ap (place_at s t) index ∙ place) in
          elim o.apart [ inl off ↦ off same_leaf | inr off ↦ off column ];
      entry = f.it;
      is = ap (entry_at s u.0) (sym page) ∙ u.2.1.1;
      same = f.same;
    }
