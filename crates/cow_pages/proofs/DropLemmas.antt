-- A table that ends, one leaf after the other.
use Rattle.std.proofs.Common.{◌≡◌, ◌≢◌, ℕ, ◌+◌, ◌/◌, ◌%◌, List, [], get_or, Some, None, Option, is_some, refl, sym, ap, ◌∙◌, inl, inr, arith}
use Rattle.std.specs.Prelude.{option_map}
use Rattle.std.proofs.lemmas.List.{get_or-set_same, get_or-set_other}
use Rattle.std.proofs.lemmas.Bool.{cases_eq, cases_lt}
use Rattle.std.proofs.lemmas.Option.{none-some}
use Rattle.cow_pages.specs.Memory.{page_at, is_live, frame_at, HasOneSharer, IsFree}
use Rattle.cow_pages.specs.Change.{ChangesTable}
use Rattle.page_tables.specs.declared.leaf.Entry.{Entry}
use Rattle.cow_pages.specs.declared.store.Store.{Store}
use Rattle.page_tables.specs.Grid.{cell}
use Rattle.cow_pages.specs.Store.{Row, leaf_key, table_grid, place_at, entry_in, entry_at, page_of_entry, shown, IsKept}
use Rattle.cow_pages.specs.Steps.{DropsIndex, ClearsLeaf, LeavesPlace, Dropping, Ends, SameBytes}
use Rattle.page_tables.proofs.GridLemmas.{held-empty}
use Rattle.cow_pages.proofs.StepLemmas.{leaves-row, frames-same, entry_in-same, leaf-here, leaf-other, HasPages-fewer}
use Rattle.cow_pages.proofs.OpLemmas.{clear_entries, clear_kept, leave_entries, leave_kept, whole-same}
use Rattle.cow_pages.proofs.ShownLemmas.{page_at-shown}
use Rattle.cow_pages.proofs.SeenLemmas.{page-kept, live-shown}

pub dropping_none : (s : Store) (t : ℕ) → IsKept s → Dropping s s t 0
dropping_none s t kept = record { kept = kept; gone = λ q below. absurd (omega (arith, below)); others = λ u q off. refl; from = λ q d is. is; leaves = λ j below. absurd (omega (arith, below)) }

-- no leaf at an index
pub dropping_skip : (s new : Store) (t i : ℕ) → Dropping s new t i → place_at new t i ≡ None → Dropping s new t (i + 1)
dropping_skip s new t i d none = record {
  kept = d.kept;
  gone = λ q below. elim (cases_lt (q / 1024) i) [
    | inl less ↦ d.gone q less
    | inr past ↦ let at : q / 1024 ≡ i = omega arith in ap (λ (o : Option ℕ). entry_in new o (q % 1024)) (ap (place_at new t) at ∙ none)
  ];
  others = d.others;
  from = d.from;
  leaves = λ j below. elim (cases_lt j i) [
    | inl less ↦ d.leaves j less
    | inr past ↦ let at : j ≡ i = omega arith in ap (place_at new t) at ∙ none
  ];
}

-- the leaf at an index went
pub dropping_more : (s mid new : Store) (t i : ℕ) → Dropping s mid t i → IsKept new → DropsIndex mid new t i → ((j : ℕ) → j ≢ i → place_at new t j ≡ place_at mid t j) → place_at new t i ≡ None → Dropping s new t (i + 1)
dropping_more s mid new t i d kept drops same none = record {
  kept = kept;
  gone = λ q below. elim (cases_eq (q / 1024) i) [
    | inl at ↦ drops.gone q at
    | inr off ↦ drops.others t q (inr off) ∙ d.gone q (omega arith)
  ];
  others = λ u q off. drops.others u q (inl off) ∙ d.others u q off;
  from = λ q e is. elim (cases_eq (q / 1024) i) [
    | inl at ↦ absurd (none-some e (sym (drops.gone q at) ∙ is))
    | inr off ↦ d.from q e (sym (drops.others t q (inr off)) ∙ is)
  ];
  leaves = λ j below. elim (cases_eq j i) [
    | inl at ↦ ap (place_at new t) at ∙ none
    | inr off ↦ same j off ∙ d.leaves j (omega arith)
  ];
}

-- a leaf that others have
pub dropping_shared : (s mid new : Store) (t i l : ℕ) → Dropping s mid t i → LeavesPlace mid new t i l → Dropping s new t (i + 1)
dropping_shared s mid new t i l d leaves =
    dropping_more s mid new t i d (leave_kept mid new t i l d.kept leaves) (leave_entries mid new t i l leaves) (λ j off. leaf-other mid new t i t j None leaves.sets (inr off)) (leaf-here mid new t i None leaves.sets)

-- a leaf of one's own is emptied first
pub dropping_own : (s mid bare new : Store) (t i l : ℕ) (row : List (Option Entry)) → Dropping s mid t i → ClearsLeaf mid bare t i l row → LeavesPlace bare new t i l → Dropping s new t (i + 1)
dropping_own s mid bare new t i l row d clears leaves =
    let one = clear_entries mid bare t i l row d.kept clears in
    let two = leave_entries bare new t i l leaves in
    dropping_more s mid new t i d (leave_kept bare new t i l (clear_kept mid bare t i l row d.kept clears) leaves)
    (record { gone = two.gone; others = λ u q off. two.others u q off ∙ one.others u q off })
    (λ j off. leaf-other bare new t i t j None leaves.sets (inr off) ∙ ap (λ (g : List Row). cell g t j) clears.tables.tables)
    (leaf-here bare new t i None leaves.sets)

pub ends_kept : (s new : Store) (t : ℕ) → IsKept s → Ends s new t → IsKept new
ends_kept s new t kept ends = record {
  whole = whole-same s new kept.whole ends.leaves.leaves ends.row.len;
  counts = record {
    frames = frames-same s new kept.counts ends.leaves;
    leaves = leaves-row s new t [] kept.counts ends.row;
    empty = λ l a none.
        entry_in-same s new ends.leaves.leaves (Some l) a
        ∙ kept.counts.empty l a (omega (arith, none, ends.row.sharers l, held-empty leaf_key (get_or (table_grid s) t []) l ends.empty));
  };
  pages = HasPages-fewer s new kept.pages (λ u q d is. sym (ends_entries u q) ∙ is);
}
  where
    ends_entries : (u q : ℕ) → entry_at new u q ≡ entry_at s u q
    ends_entries u q =
        entry_in-same s new ends.leaves.leaves (place_at new u (q / 1024)) (q % 1024)
        ∙ elim (cases_eq u t) [
          | inl here ↦
              ap (λ n. entry_in s (place_at new n (q / 1024)) (q % 1024)) here
              ∙ ap (λ (row : Row). entry_in s (get_or row (q / 1024) None) (q % 1024)) (ap (λ (g : List Row). get_or g t []) ends.row.tables ∙ get_or-set_same (table_grid s) t [] [] ends.row.there)
              ∙ sym (ap (λ (o : Option ℕ). entry_in s o (q % 1024)) (ends.empty (q / 1024)))
              ∙ sym (ap (λ n. entry_in s (place_at s n (q / 1024)) (q % 1024)) here)
          | inr off ↦
              ap (λ (row : Row). entry_in s (get_or row (q / 1024) None) (q % 1024)) (ap (λ (g : List Row). get_or g u []) ends.row.tables ∙ get_or-set_other (table_grid s) t u [] [] off)
        ]

pub ends_entries : (s new : Store) (t : ℕ) → Ends s new t → (u q : ℕ) → entry_at new u q ≡ entry_at s u q
ends_entries s new t ends u q =
    entry_in-same s new ends.leaves.leaves (place_at new u (q / 1024)) (q % 1024)
    ∙ elim (cases_eq u t) [
      | inl here ↦
          ap (λ n. entry_in s (place_at new n (q / 1024)) (q % 1024)) here
          ∙ ap (λ (row : Row). entry_in s (get_or row (q / 1024) None) (q % 1024)) (ap (λ (g : List Row). get_or g t []) ends.row.tables ∙ get_or-set_same (table_grid s) t [] [] ends.row.there)
          ∙ sym (ap (λ (o : Option ℕ). entry_in s o (q % 1024)) (ends.empty (q / 1024)))
          ∙ sym (ap (λ n. entry_in s (place_at s n (q / 1024)) (q % 1024)) here)
      | inr off ↦
          ap (λ (row : Row). entry_in s (get_or row (q / 1024) None) (q % 1024)) (ap (λ (g : List Row). get_or g u []) ends.row.tables ∙ get_or-set_other (table_grid s) t u [] [] off)
    ]

pub record Dropped (s new : Store) (t : ℕ) : Type 0 where
  pub kept : IsKept new
  pub unmapped : (p : ℕ) → page_at (shown new) t p ≡ None
  pub rest : ChangesTable (shown s) (shown new) t
  pub freed : (p f : ℕ) → HasOneSharer (shown s) t p → frame_at (shown s) t p ≡ Some f → IsFree (shown new) f

pub drop_shown : (s mid new : Store) (t : ℕ) → IsKept s → Dropping s mid t 1024 → Ends mid new t → SameBytes s new → ((v : ℕ) → v ≢ t → is_some (get_or new.tables.items v None) ≡ is_some (get_or s.tables.items v None)) → new.reads ≡ s.reads
    → Dropped s new t
drop_shown s mid new t kept drops ends bytes live reads =
    let also : IsKept new = ends_kept mid new t drops.kept ends in
    let none = λ (p : ℕ). page_at-shown new also t p ∙ ap (option_map (page_of_entry new)) (ends_entries mid new t ends t p ∙ ap (λ (o : Option ℕ). entry_in mid o (p % 1024)) (ends.empty (p / 1024))) in
    let others = λ (u q : ℕ) (off : u ≢ t). page-kept s new kept also u q u q (ends_entries mid new t ends u q ∙ drops.others u q off) (λ e is. bytes e.frame) in
    record {
      kept = also;
      unmapped = none;
      rest = record {
        others = others;
        live = λ v off. live-shown new new.tables.items v ∙ live v off ∙ sym (live-shown s s.tables.items v);
        reads = reads;
      };
      freed = λ p f one is u q at. elim (cases_eq u t) [
        | inl here ↦ none-some f (sym (ap (option_map (λ (page : Rattle.cow_pages.specs.Memory.Page). page.frame)) (ap (λ v. page_at (shown new) v q) here ∙ none q)) ∙ at)
        | inr off ↦ off (one u q (sym (ap (option_map (λ (page : Rattle.cow_pages.specs.Memory.Page). page.frame)) (others u q off)) ∙ at ∙ sym is)).0
      ];
    }
