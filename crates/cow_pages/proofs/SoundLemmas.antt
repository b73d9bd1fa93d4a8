-- What holds of the memory that a store shows.
use Rattle.std.proofs.Common.{◌≡◌, ◌≢◌, ℕ, zero, suc, ◌+◌, ◌<◌, ◌≤◌, ◌*◌, ◌/◌, ◌%◌, Bool, true, false, cond, List, [], ◌∷◌, length, get_or, Some, None, Option, count_by, is_some, IsTrue, refl, sym, ap, subst, ◌∙◌, inl, inr, arith, eqb, zero-add, add-zero, true≢false}
use Rattle.std.specs.Prelude.{◌-◌, ◌^◌, option_map, min, All}
use Rattle.std.proofs.lemmas.List.{length-map}
use Rattle.std.proofs.lemmas.Bool.{cases_eq, cases_lt, eq-eqb, ne_eqb, cond-true, cond-false}
use Rattle.std.proofs.lemmas.Nat.{div-mul-add, mod_below}
use Rattle.std.proofs.lemmas.Option.{none-some, same_Some}
use Rattle.page_tables.specs.Address.{is_in_window}
use Rattle.cow_pages.specs.Memory.{Memory, Page, Table, page_at, frame_at, frames_of, is_mapped, is_written, flag_of, HasOneSharer, RisesFrom, IsSound, used_frames, used_leaves, distinct_count, row_leaves, leaves_of}
use Rattle.page_tables.specs.declared.leaf.Entry.{Entry}
use Rattle.cow_pages.specs.declared.store.Store.{Store}
use Rattle.cow_pages.specs.View.{numbers_from}
use Rattle.page_tables.specs.Grid.{cell, held, all_held}
use Rattle.cow_pages.specs.Store.{Row, place_at, entry_in, entry_at, leaf_grid, table_grid, leaf_key, frame_sharers, leaf_sharers, pages_kept, bytes_of, page_of_entry, shown, flat, HasRoom, CountsSlots, IsKept, IsStore}
use Rattle.cow_pages.proofs.HolderLemmas.{holders, count-step, holders-yes, holders-no, holders-append, distinct_and_absent, all_below, entry_with, holders-entries}
use Rattle.cow_pages.proofs.CountLemmas.{count-within}
use Rattle.page_tables.proofs.GridLemmas.{one-yes, one-no, cell-column}
use Rattle.page_tables.proofs.LeafLemmas.{present-found}
use Rattle.page_tables.specs.Leaf.{Leaf}
use Rattle.cow_pages.proofs.SharedLemmas.{leaf_held, leaf_within, leaf_length, frame_held, frame_used, stands, entry_put}
use Rattle.cow_pages.proofs.ShownLemmas.{page_at-shown, frame-shown, framed, table_of-shown, RisesFrom-pages, one_sharer}

-- the page that is shown, and its entry
pub record Behind (s : Store) (t p : ℕ) (page : Page) : Type 0 where
  pub entry : Entry
  pub is : entry_at s t p ≡ Some entry
  pub shows : page_of_entry s entry ≡ page

pub behind : (s : Store) → IsKept s → (t p : ℕ) (page : Page) → page_at (shown s) t p ≡ Some page → Behind s t p page
behind s kept t p page is = by_entry (entry_at s t p) refl (sym (page_at-shown s kept t p) ∙ is)
  where
    by_entry : (o : Option Entry) → entry_at s t p ≡ o → option_map (page_of_entry s) o ≡ Some page → Behind s t p page
    by_entry None at is = absurd (none-some page is)
    by_entry (Some e) at is = record { entry = e; is = at; shows = same_Some (page_of_entry s e) page is }

-- a frame with sharers is one of the frames
pub frame_within : (s : Store) (f : ℕ) → HasRoom s → 1 ≤ frame_sharers s f → f < length s.frames.items
frame_within s f room some = omega (arith, count-within s.frame_counts f (omega (arith, some)), room.frames)

pub entry_within : (s : Store) → IsKept s → HasRoom s → (t p : ℕ) (e : Entry) → entry_at s t p ≡ Some e → e.frame < length s.frames.items
entry_within s kept room t p e is = frame_within s e.frame room (frame_held s kept.counts t p e is)

-- so its number fits a slot
pub frame_fits : (s : Store) → HasRoom s → (f : ℕ) → f < length s.frames.items → f < 2 ^ 32 - 1
frame_fits s room f within = omega (arith, within, room.frames, room.frames_tallied.few)

pub entry_fits : (s : Store) → IsKept s → HasRoom s → (t p : ℕ) (e : Entry) → entry_at s t p ≡ Some e → e.frame < 2 ^ 32 - 1
entry_fits s kept room t p e is = frame_fits s room e.frame (entry_within s kept room t p e is)

-- a leaf in a place is one of the leaves
pub leaf_there : (s : Store) → IsKept s → (t i l : ℕ) → place_at s t i ≡ Some l → l < length s.leaves.items
leaf_there s kept t i l is = omega (arith, leaf_within s l (leaf_held s kept.counts t i l is), kept.whole.count, length-map s.leaves.items (λ (it : Leaf). it.entries))

pub rises : (s : Store) (t : ℕ) → RisesFrom 0 (Rattle.cow_pages.specs.Memory.table_of (shown s) t)
rises s t = subst (RisesFrom 0) (sym (table_of-shown s s.tables.items t)) (RisesFrom-pages s (flat s (get_or (table_grid s) t [])) 0 0 (omega arith))

-- where two counts are 0 together, as many of each are
pub zeros-same : (g h : ℕ → ℕ) (k n : ℕ) → ((i : ℕ) → g i ≡ 0 → h i ≡ 0) → ((i : ℕ) → h i ≡ 0 → g i ≡ 0) → count_by (λ i. eqb (g i) 0) (numbers_from k n) ≡ count_by (λ i. eqb (h i) 0) (numbers_from k n)
zeros-same g h k zero one other = refl
zeros-same g h k (suc n) one other =
    let head : ◌≡◌ {A = ℕ} (cond (eqb (g k) 0) 1 0) (cond (eqb (h k) 0) 1 0) =
    elim (cases_eq (g k) 0) [
      | inl none ↦ cond-true (eqb (g k) 0) 1 0 (eq-eqb _ _ none) ∙ sym (cond-true (eqb (h k) 0) 1 0 (eq-eqb _ _ (one k none)))
      | inr some ↦ cond-false (eqb (g k) 0) 1 0 (ne_eqb _ _ some) ∙ sym (cond-false (eqb (h k) 0) 1 0 (ne_eqb _ _ (λ none. some (other k none))))
    ] in
    omega (arith, head, zeros-same g h (k + 1) n one other, count-step (λ i. eqb (g i) 0) k (numbers_from (k + 1) n), count-step (λ i. eqb (h i) 0) k (numbers_from (k + 1) n))

pub later : (k i : ℕ) → k + suc i ≡ k + 1 + i
later k i = omega arith

pub free_counts : (counts : List ℕ) (k : ℕ) (g : ℕ → ℕ) → ((i : ℕ) → i < length counts → get_or counts i 0 ≡ g (k + i)) → count_by (λ i. eqb (g i) 0) (numbers_from k (length counts)) ≡ count_by (λ c. eqb c 0) counts
free_counts [] k g same = refl
free_counts (c ∷ rest) k g same =
    let head : c ≡ g k = same 0 (omega arith) ∙ ap g (add-zero k) in
    let tail = free_counts rest (k + 1) g (λ i below. same (suc i) (omega arith) ∙ ap g (later k i)) in
    count-step (λ i. eqb (g i) 0) k (numbers_from (k + 1) (length rest))
    ∙ ap (λ h. cond (eqb h 0) 1 0 + count_by (λ i. eqb (g i) 0) (numbers_from (k + 1) (length rest))) (sym head)
    ∙ ap (λ r. cond (eqb c 0) 1 0 + r) tail
    ∙ sym (count-step (λ (it : ℕ). eqb it 0) c rest)

-- a frame is in some table's pages exactly where it has a sharer
pub shown_held : (s : Store) → IsKept s → (f : ℕ) → 1 ≤ holders (frames_of (shown s).tables) f → 1 ≤ frame_sharers s f
shown_held s kept f some =
    let e = entry_with (shown s).tables f (rises s) some in
    let at = framed s kept e.table e.page.number f e.page.is in
    omega (arith, frame_held s kept.counts e.table e.page.number at.0 at.1.0, ap (frame_sharers s) at.1.1)

pub held_shown : (s : Store) → IsKept s → (f : ℕ) → 1 ≤ frame_sharers s f → 1 ≤ holders (frames_of (shown s).tables) f
held_shown s kept f some =
    let u = frame_used s kept f some in
    holders-entries (shown s).tables u.table u.page f (frame-shown s kept u.table u.page ∙ ap (option_map (λ (it : Entry). it.frame)) u.is ∙ ap {A = ℕ} Some u.same)

-- the frames that are used and those that are free are all
pub counted : (s : Store) → IsKept s → HasRoom s → used_frames (shown s) + s.frame_counts.spare ≡ length s.frames.items
counted s kept room =
    let all = frames_of (shown s).tables in
    let n = length s.frame_counts.counts in
    let total = distinct_and_absent all n (all_below n all (λ f some. omega (arith, frame_within s f room (shown_held s kept f some), room.frames))) in
    let free = free_counts s.frame_counts.counts 0 (frame_sharers s) (λ i below. ap (frame_sharers s) (sym (zero-add i))) in
    let same = zeros-same (holders all) (frame_sharers s) 0 n
    (λ i none. elim (cases_lt 0 (frame_sharers s i)) [ inl some ↦ absurd (omega (arith, none, held_shown s kept i (omega (arith, some)))) | inr past ↦ omega (arith, past) ])
    (λ i none. elim (cases_lt 0 (holders all i)) [ inl some ↦ absurd (omega (arith, none, shown_held s kept i (omega (arith, some)))) | inr past ↦ omega (arith, past) ]) in
    omega (arith, total, same, free, room.frames, room.frames_tallied.spare)

pub holders-row : (row : Row) (l : ℕ) → holders (row_leaves row) l ≡ held leaf_key row l
holders-row [] l = refl
holders-row (None ∷ rest) l = holders-append [] (row_leaves rest) l ∙ ap (λ n. 0 + n) (holders-row rest l)
holders-row (Some k ∷ rest) l =
    elim (cases_eq k l) [
      | inl same ↦ omega (arith, holders-yes (row_leaves rest) k l same, holders-row rest l, one-yes k l same, holders-append (k ∷ []) (row_leaves rest) l, holders-yes [] k l same, none l)
      | inr apart ↦ omega (arith, holders-row rest l, one-no k l apart, holders-append (k ∷ []) (row_leaves rest) l, holders-no [] k l apart, none l)
    ]
  where
    none : (l : ℕ) → holders [] l ≡ 0
    none l = refl

pub holders-rows : (g : List Row) (l : ℕ) → holders (leaves_of g) l ≡ all_held leaf_key g l
holders-rows [] l = refl
holders-rows (row ∷ rest) l = omega (arith, holders-append (row_leaves row) (leaves_of rest) l, holders-row row l, holders-rows rest l)

-- the leaves that are used and those that are free are all
pub leaves_counted : (s : Store) → IsKept s → HasRoom s → used_leaves (shown s) + s.leaf_counts.spare ≡ length s.leaf_counts.counts
leaves_counted s kept room =
    let all = leaves_of (table_grid s) in
    let n = length s.leaf_counts.counts in
    let is = λ (l : ℕ). holders-rows (table_grid s) l ∙ sym (kept.counts.leaves l) in
    let total = distinct_and_absent all n (all_below n all (λ l some. count-within s.leaf_counts l (omega (arith, some, is l)))) in
    let free = free_counts s.leaf_counts.counts 0 (leaf_sharers s) (λ i below. ap (leaf_sharers s) (sym (zero-add i))) in
    let same = zeros-same (holders all) (leaf_sharers s) 0 n (λ i none. omega (arith, none, is i)) (λ i none. omega (arith, none, is i)) in
    omega (arith, total, same, free, room.leaves_tallied.spare)

-- the same of all leaves
pub leaf_total : (s : Store) → IsKept s → length s.leaves.items ≡ length s.leaf_counts.counts
leaf_total s kept = omega (arith, kept.whole.count, length-map s.leaves.items (λ (it : Leaf). it.entries))

pub all_leaves : (s : Store) → IsKept s → HasRoom s → used_leaves (shown s) + s.leaf_counts.spare ≡ length s.leaves.items
all_leaves s kept room = leaves_counted s kept room ∙ sym (leaf_total s kept)

-- an entry of a leaf that has a page
pub leaf_page : (s : Store) → IsKept s → CountsSlots s → (t i l : ℕ) → place_at s t i ≡ Some l → 0 < pages_kept s l → (a : ℕ) × (e : Entry) × ((a < 1024) × (cell (leaf_grid s) l a ≡ Some e))
leaf_page s kept slots t i l place some =
    let f = present-found (get_or (leaf_grid s) l []) (omega (arith, some, slots l)) in
    let below : f.0 < 1024 = omega (arith, cell-column (leaf_grid s) l f.0 f.1 f.2, leaf_length s kept t i l place) in
    (f.0, f.1, (below, f.2))

-- LEAVES

-- a leaf that has an entry stands at one index
pub same_index : (s : Store) → IsKept s → (t i u j l a : ℕ) (e : Entry) → place_at s t i ≡ Some l → place_at s u j ≡ Some l → a < 1024 → cell (leaf_grid s) l a ≡ Some e → i ≡ j
same_index s kept t i u j l a e one other below is =
    let page = kept.pages.same_page t (i * 1024 + a) u (j * 1024 + a) e e (entry_put s t i a l e below one is) (entry_put s u j a l e below other is) refl in
    sym (div-mul-add i 1024 a below) ∙ ap (λ n. n / 1024) page ∙ div-mul-add j 1024 a below

-- two mapped pages of a table have the same leaf exactly where their indexes are equal
pub leaf_by_index : (s : Store) → IsKept s → (t p q : ℕ) (e d : Entry) → entry_at s t p ≡ Some e → entry_at s t q ≡ Some d → place_at s t (p / 1024) ≡ place_at s t (q / 1024) → p / 1024 ≡ q / 1024
leaf_by_index s kept t p q e d is also same =
    let a = stands s t p e is in
    same_index s kept t (p / 1024) t (q / 1024) a.leaf (p % 1024) e a.place (sym same ∙ a.place) (mod_below p 1024 (omega arith)) a.slot

-- a leaf that two tables have has no flag
pub shared_unwritten : (s : Store) → IsKept s → (t u i l a : ℕ) (e : Entry) → t ≢ u → place_at s t i ≡ Some l → place_at s u i ≡ Some l → a < 1024 → cell (leaf_grid s) l a ≡ Some e → e.written ≡ false
shared_unwritten s kept t u i l a e apart one other below is = by_flag e.written refl
  where
    by_flag : (b : Bool) → e.written ≡ b → e.written ≡ false
    by_flag false at = at
    by_flag true at = absurd (apart (kept.pages.alone t (i * 1024 + a) u (i * 1024 + a) e e (entry_put s t i a l e below one is) (entry_put s u i a l e below other is) refl at))

-- WHAT HOLDS OF EACH MEMORY

pub sound : (s : Store) → IsStore s → IsSound (shown s)
sound s store =
    let kept = store.kept in
    let room = store.room in
    record {
      rising = rises s;
      in_range = λ t p f is. let a = framed s kept t p f is in subst (λ n. n < length s.frames.items) a.1.1 (entry_within s kept room t p a.0 a.1.0);
      in_window = λ t p is. by_page t p (page_at (shown s) t p) refl is;
      whole = λ t p page is. let b = behind s kept t p page is in ap (λ (it : Page). length it.bytes) (sym b.shows) ∙ room.whole b.entry.frame (entry_within s kept room t p b.entry b.is);
      bytes = λ t p page is. let b = behind s kept t p page is in subst (λ (it : Page). All (λ b. b < 256) it.bytes) b.shows (room.bytes b.entry.frame (entry_within s kept room t p b.entry b.is));
      same_page = λ t p u q f one other.
          let a = framed s kept t p f one in
          let b = framed s kept u q f other in
          kept.pages.same_page t p u q a.0 b.0 a.1.0 b.1.0 (a.1.1 ∙ sym b.1.1);
      same_bytes = λ t u p one other is also same.
          let a = behind s kept t p one is in
          let b = behind s kept u p other also in
          sym (ap (λ (it : Page). it.bytes) a.shows) ∙ ap (bytes_of s) (ap (λ (it : Page). it.frame) a.shows ∙ same ∙ sym (ap (λ (it : Page). it.frame) b.shows)) ∙ ap (λ (it : Page). it.bytes) b.shows;
      written_alone = λ t p is.
          let w = flagged (page_at (shown s) t p) is in
          let b = behind s kept t p w.0 w.1.0 in
          one_sharer s kept t p b.entry b.is
          (λ u q d at same.
          (sym (kept.pages.alone t p u q b.entry d b.is at (sym same) (ap (λ (it : Page). it.written) b.shows ∙ w.1.1)), sym (kept.pages.same_page t p u q b.entry d b.is at (sym same))));
      frames_counted = omega (arith, counted s kept room);
      leaves_counted = omega (arith, all_leaves s kept room);
      spare_is =
          let frames : s.frame_counts.spare ≡ length s.frames.items - used_frames (shown s) = omega (arith, counted s kept room) in
          let leaves : s.leaf_counts.spare ≡ length s.leaves.items - used_leaves (shown s) = omega (arith, all_leaves s kept room) in
          ap (λ (n : ℕ). min n s.leaf_counts.spare) frames ∙ ap (λ (n : ℕ). min (length s.frames.items - used_frames (shown s)) n) leaves;
      reads_fit = room.reads;
      leaf_there = λ t p is. let e = entry_of t p (page_at (shown s) t p) refl is in ap (λ (o : Option ℕ). is_some o) (stands s t p e.0 e.1).place;
      leaf_filled = λ t i l place.
          let f = leaf_page s kept store.slots t i l place (store.filled t i l place) in
          let at = entry_put s t i f.0 l f.1 f.2.0 place f.2.1 in (
            i * 1024 + f.0,
            div-mul-add i 1024 f.0 f.2.0,
            ap (λ (o : Option Page). is_some o) (page_at-shown s kept t (i * 1024 + f.0) ∙ ap (option_map (page_of_entry s)) at),
          );
      same_leaf = λ t i u j l one other.
          let f = leaf_page s kept store.slots t i l one (store.filled t i l one) in
          let index = same_index s kept t i u j l f.0 f.1 one other f.2.0 f.2.1 in (
            index,
            λ p at.
                page_at-shown s kept t p
                ∙ ap (λ (o : Option ℕ). option_map (page_of_entry s) (entry_in s o (p % 1024))) (ap (place_at s t) at ∙ one ∙ sym other ∙ ap (place_at s u) (sym index ∙ sym at))
                ∙ sym (page_at-shown s kept u p),
          );
    }
  where
    entry_of : (t p : ℕ) (o : Option Page) → page_at (shown s) t p ≡ o → IsTrue (is_some o) → (e : Entry) × (entry_at s t p ≡ Some e)
    entry_of t p None at is = absurd (true≢false (sym is))
    entry_of t p (Some page) at is = let b = behind s store.kept t p page at in (b.entry, b.is)

    by_page : (t p : ℕ) (o : Option Page) → page_at (shown s) t p ≡ o → IsTrue (is_some o) → IsTrue (is_in_window p)
    by_page t p None at is = absurd (true≢false (sym is))
    by_page t p (Some page) at is = let b = behind s store.kept t p page at in store.kept.pages.in_window t p b.entry b.is

    flagged : (o : Option Page) → IsTrue (flag_of o) → (page : Page) × ((o ≡ Some page) × (page.written ≡ true))
    flagged None is = absurd (true≢false (sym is))
    flagged (Some page) is = (page, (refl, is))
