-- What a change of a store shows.
use Rattle.std.proofs.Common.{◌≡◌, ◌≢◌, ◌⊎◌, ℕ, zero, suc, ◌/◌, ◌%◌, Bool, true, false, List, [], ◌∷◌, map, get_or, Some, None, Option, is_some, IsTrue, refl, sym, ap, ◌∙◌, inl, inr, arith}
use Rattle.std.specs.Prelude.{option_map, replicate}
use Rattle.page_tables.specs.Address.{is_in_window, page_of, offset_of}
use Rattle.cow_pages.specs.Memory.{Memory, Page, page_at, frame_at, is_live, HasOneSharer, IsShared, IsFree, IsSettled, flag_of}
use Rattle.page_tables.specs.Frame.{patched}
use Rattle.cow_pages.specs.Change.{ChangesPage, ChangesTable, KeepsOrCopies, WritesPage, MapsZeros}
use Rattle.page_tables.specs.declared.leaf.Entry.{Entry}
use Rattle.cow_pages.specs.declared.store.Store.{Store}
use Rattle.page_tables.specs.declared.table.Table.{Table}
use Rattle.page_tables.specs.Grid.{cell, one_held}
use Rattle.cow_pages.specs.Store.{Row, row_of, leaf_grid, table_grid, place_at, entry_in, entry_at, page_of_entry, shown_table, shown, bytes_of, leaf_key, frame_sharers, leaf_sharers, IsKept}
use Rattle.cow_pages.specs.Steps.{Lone, Settled, SetsEntry, Forks, CopiesLeaf, TakesLeaf, SetsOwn, Beside, SameBytes, SetsBytes, Ready}
use Rattle.page_tables.proofs.GridLemmas.{one-no, one-yes}
use Rattle.cow_pages.proofs.SharedLemmas.{lone, frame_held}
use Rattle.cow_pages.proofs.ShownLemmas.{page_at-shown, frame-shown, one_sharer, one_or_more, is_free}
use Rattle.cow_pages.proofs.StepLemmas.{leaf-here, this_or_other}
use Rattle.cow_pages.proofs.OpLemmas.{fork_entries, fork_kept, own_entries, own_kept, take_entries, take_kept, set_entries, put_kept}

abbrev pub page_as : List ℕ → Bool → ℕ → Page
page_as bytes written frame = record { bytes = bytes; written = written; frame = frame }

-- an entry with the bytes that it had shows the page that it showed
pub page-kept : (s new : Store) → IsKept s → IsKept new → (t p u q : ℕ) → entry_at new u q ≡ entry_at s t p → ((e : Entry) → entry_at s t p ≡ Some e → bytes_of new e.frame ≡ bytes_of s e.frame)
    → page_at (shown new) u q ≡ page_at (shown s) t p
page-kept s new kept also t p u q same bytes =
    page_at-shown new also u q ∙ ap (option_map (page_of_entry new)) same ∙ by_entry (entry_at s t p) bytes ∙ sym (page_at-shown s kept t p)
  where
    by_entry : (o : Option Entry) → ((e : Entry) → o ≡ Some e → bytes_of new e.frame ≡ bytes_of s e.frame) → option_map (page_of_entry new) o ≡ option_map (page_of_entry s) o
    by_entry None bytes = refl
    by_entry (Some e) bytes = ap (λ (bs : List ℕ). Some (page_as bs e.written e.frame)) (bytes e refl)

pub live-shown : (s : Store) (tables : List (Option Table)) (u : ℕ) → is_some (get_or (map (shown_table s) tables) u None) ≡ is_some (get_or tables u None)
live-shown s [] u = refl
live-shown s (None ∷ rest) zero = refl
live-shown s (Some table ∷ rest) zero = refl
live-shown s (table ∷ rest) (suc u) = live-shown s rest u

pub live-kept : (s new : Store) → Beside s new → (u : ℕ) → is_live (shown new) u ≡ is_live (shown s) u
live-kept s new beside u = live-shown new new.tables.items u ∙ beside.live u ∙ sym (live-shown s s.tables.items u)

-- ONE PAGE

-- one entry was set, and the bytes of its frame alone may differ
pub ChangesPage-set : (s new : Store) (t p : ℕ) (o : Option Entry) → IsKept s → IsKept new → SetsEntry s new t p o → Beside s new
    → ((u q : ℕ) (d : Entry) → (u ≢ t) ⊎ (q ≢ p) → entry_at s u q ≡ Some d → bytes_of new d.frame ≡ bytes_of s d.frame) → ChangesPage (shown s) (shown new) t p
ChangesPage-set s new t p o kept also sets beside bytes = record {
  others = λ u q off. page-kept s new kept also u q u q (sets.others u q off) (λ e is. bytes u q e off is);
  live = live-kept s new beside;
  reads = beside.reads;
}

-- no page was changed
abbrev pub SamePages : Memory → Memory → Type 0
SamePages old new = (u q : ℕ) → page_at new u q ≡ page_at old u q

pub ready_pages : (s new : Store) (t i l : ℕ) → IsKept s → Ready s new t i l → SamePages (shown s) (shown new)
ready_pages s new t i l kept ready u q = page-kept s new kept ready.kept u q u q (ready.same u q) (λ e is. ready.bytes e.frame)

pub frame-kept : (old new : Memory) → SamePages old new → (u q : ℕ) → frame_at new u q ≡ frame_at old u q
frame-kept old new same u q = ap (option_map (λ (page : Page). page.frame)) (same u q)

pub sharer-back : (old new : Memory) (t p : ℕ) → SamePages old new → HasOneSharer new t p → HasOneSharer old t p
sharer-back old new t p same one u q at = one u q (frame-kept old new same u q ∙ at ∙ sym (frame-kept old new same t p))

pub shared-back : (old new : Memory) (t p : ℕ) → SamePages old new → IsShared new t p → IsShared old t p
shared-back old new t p same shared = (shared.0, shared.1, sym (frame-kept old new same shared.0 p) ∙ shared.2 ∙ frame-kept old new same t p)

pub free-back : (old new : Memory) (f : ℕ) → SamePages old new → IsFree new f → IsFree old f
free-back old new f same free t p is = free t p (frame-kept old new same t p ∙ is)

pub changes-back : (old mid new : Memory) (t p : ℕ) → SamePages old mid → ((u : ℕ) → is_live mid u ≡ is_live old u) → mid.reads ≡ old.reads → ChangesPage mid new t p → ChangesPage old new t p
changes-back old mid new t p same live reads rest = record {
  others = λ u q off. rest.others u q off ∙ same u q;
  live = λ u. rest.live u ∙ live u;
  reads = rest.reads ∙ reads;
}

-- THREE WAYS TO A LEAF OF ONE'S OWN

pub ready_own : (s : Store) (t i l : ℕ) → IsKept s → place_at s t i ≡ Some l → leaf_sharers s l ≡ 1 → Ready s s t i l
ready_own s t i l kept place own = record {
  kept = kept;
  same = λ u q. refl;
  place = place;
  own = own;
  bytes = λ f. refl;
  beside = record { live = λ u. refl; reads = refl; len = refl };
}

pub ready_take : (s new : Store) (t i m : ℕ) → IsKept s → TakesLeaf s new t i m → SameBytes s new → Beside s new → Ready s new t i m
ready_take s new t i m kept takes bytes beside = record {
  kept = take_kept s new t i m kept takes;
  same = take_entries s new t i m kept takes;
  place = leaf-here s new t i (Some m) takes.sets;
  own = omega (arith, takes.sets.sharers m, takes.free, ap (λ (o : Option ℕ). one_held leaf_key o m) takes.absent, one-yes m m refl);
  bytes = bytes;
  beside = beside;
}

pub ready_copy : (s new : Store) (t i l m : ℕ) → IsKept s → CopiesLeaf s new t i l m → SameBytes s new → Beside s new → Ready s new t i m
ready_copy s new t i l m kept owns bytes beside = record {
  kept = own_kept s new t i l m kept owns;
  same = own_entries s new t i l m kept owns;
  place = leaf-here s new t i (Some m) owns.sets;
  own =
      omega (
        arith,
        owns.sets.sharers m,
        owns.free,
        ap (λ (o : Option ℕ). one_held leaf_key o m) owns.place,
        one-yes m m refl,
        one-no l m (λ same. omega (arith, owns.shared, owns.free, ap (leaf_sharers s) same)),
      );
  bytes = bytes;
  beside = beside;
}

-- MAP ZERO

pub record Mapped (s new : Store) (t p : ℕ) : Type 0 where
  pub kept : IsKept new
  pub zeros : MapsZeros (shown s) (shown new) t p
  pub rest : ChangesPage (shown s) (shown new) t p
  pub alone : HasOneSharer (shown new) t p

abbrev pub fresh_entry : ℕ → Entry
fresh_entry f = record { frame = f; written = false }

-- no entry has a free frame
pub lone_free : (s : Store) (t p f : ℕ) → IsKept s → frame_sharers s f ≡ 0 → Lone s t p f
lone_free s t p f kept free u q d is same = absurd (omega (arith, frame_held s kept.counts u q d is, ap (frame_sharers s) same, free))

pub map_zero_shown : (s mid new : Store) (t p l f : ℕ) → IsKept s → Ready s mid t (p / 1024) l → IsTrue (is_in_window p) → frame_sharers mid f ≡ 0
    → SetsOwn mid new t p l (Some (fresh_entry f)) → SetsBytes mid new f (replicate 4096 0) → Beside mid new → Mapped s new t p
map_zero_shown s mid new t p l f kept ready window free sets bytes beside =
    let same = ready_pages s mid t (p / 1024) l kept ready in
    let entries = set_entries mid new t p l (Some (fresh_entry f)) ready.kept sets in
    let also : IsKept new = put_kept mid new t p l (fresh_entry f) ready.kept sets window (lone_free mid t p f ready.kept free) in
    record {
      kept = also;
      zeros = record {
        frame = f;
        frame_is = free-back (shown s) (shown mid) f same (is_free mid ready.kept f free);
        now = page_at-shown new also t p ∙ ap (option_map (page_of_entry new)) entries.here ∙ ap (λ (bs : List ℕ). Some (page_as bs false f)) bytes.here;
      };
      rest = changes-back (shown s) (shown mid) (shown new) t p same (live-kept s mid ready.beside) ready.beside.reads
          (ChangesPage-set mid new t p (Some (fresh_entry f)) ready.kept also entries beside
          (λ u q d off is. bytes.others d.frame (λ at. omega (arith, frame_held mid ready.kept.counts u q d is, ap (frame_sharers mid) at, free))));
      alone = one_sharer new also t p (fresh_entry f) entries.here (λ u q d is at. elim (this_or_other u t q p) [
        | inl here ↦ here
        | inr off ↦ absurd (omega (arith, frame_held mid ready.kept.counts u q d (sym (entries.others u q off) ∙ is), ap (frame_sharers mid) at, free))
      ]);
    }

-- A WRITE

-- the entry has a frame of its own, with the bytes that it had
pub record Owned (s new : Store) (t p l : ℕ) (e own : Entry) : Type 0 where
  pub ready : Ready new new t (p / 1024) l
  pub there : entry_at new t p ≡ Some own
  pub alone : frame_sharers new own.frame ≡ 1
  pub bytes : bytes_of new own.frame ≡ bytes_of s e.frame
  pub frame_is : KeepsOrCopies (shown s) t p own.frame
  pub rest : ChangesPage (shown s) (shown new) t p

-- its frame had one sharer: the leaf too, or it was not copied
pub owned_kept : (s : Store) (t p l : ℕ) (e : Entry) → IsKept s → place_at s t (p / 1024) ≡ Some l → leaf_sharers s l ≡ 1 → entry_at s t p ≡ Some e → frame_sharers s e.frame ≡ 1 → Owned s s t p l e e
owned_kept s t p l e kept place own is one = record {
  ready = ready_own s t (p / 1024) l kept place own;
  there = is;
  alone = one;
  bytes = refl;
  frame_is = inl (
    one_sharer s kept t p e is (lone s kept t p l e place (sym (ap (λ (o : Option ℕ). entry_in s o (p % 1024)) place) ∙ is) own one),
    frame-shown s kept t p ∙ ap (option_map (λ (it : Entry). it.frame)) is,
  );
  rest = record { others = λ u q off. refl; live = λ u. refl; reads = refl };
}

-- its frame had more: a free frame with the same bytes
pub owned_copied : (s mid new : Store) (t p l f : ℕ) (e : Entry) → IsKept s → Ready s mid t (p / 1024) l → entry_at s t p ≡ Some e → frame_sharers mid e.frame ≢ 1 → frame_sharers mid f ≡ 0
    → SetsOwn mid new t p l (Some (fresh_entry f)) → SetsBytes mid new f (bytes_of mid e.frame) → Beside mid new → IsTrue (is_in_window p) → Owned s new t p l e (fresh_entry f)
owned_copied s mid new t p l f e kept ready is more free sets bytes beside window =
    let same = ready_pages s mid t (p / 1024) l kept ready in
    let entries = set_entries mid new t p l (Some (fresh_entry f)) ready.kept sets in
    let also : IsKept new = put_kept mid new t p l (fresh_entry f) ready.kept sets window (lone_free mid t p f ready.kept free) in
    let there : entry_at mid t p ≡ Some e = ready.same t p ∙ is in
    let slot : cell (leaf_grid mid) l (p % 1024) ≡ Some e = sym (ap (λ (o : Option ℕ). entry_in mid o (p % 1024)) ready.place) ∙ there in
    let shared : IsShared (shown mid) t p = elim (one_or_more mid ready.kept t p l e ready.place slot) [
      | inl one ↦ absurd (more one.1)
      | inr some ↦ some.1
    ] in
    record {
      ready = ready_own new t (p / 1024) l also (ap (λ (g : List Row). cell g t (p / 1024)) sets.tables.tables ∙ ready.place) (sets.tables.sharers l ∙ ready.own);
      there = entries.here;
      alone =
          omega (
            arith,
            sets.slot.sharers f,
            free,
            ap (λ (o : Option Entry). one_held Rattle.cow_pages.specs.Store.frame_key o f) slot,
            one-yes f f refl,
            one-no e.frame f (λ at. omega (arith, frame_held mid ready.kept.counts t p e there, ap (frame_sharers mid) at, free)),
          );
      bytes = bytes.here ∙ ready.bytes e.frame;
      frame_is = inr (shared-back (shown s) (shown mid) t p same shared, free-back (shown s) (shown mid) f same (is_free mid ready.kept f free));
      rest = changes-back (shown s) (shown mid) (shown new) t p same (live-kept s mid ready.beside) ready.beside.reads
          (ChangesPage-set mid new t p (Some (fresh_entry f)) ready.kept also entries beside
          (λ u q d off at. bytes.others d.frame (λ here. omega (arith, frame_held mid ready.kept.counts u q d at, ap (frame_sharers mid) here, free))));
    }

pub record Written (s new : Store) (t at : ℕ) (bs : List ℕ) : Type 0 where
  pub kept : IsKept new
  pub page : WritesPage (shown s) (shown new) t at bs

-- bytes are put into the frame, and the flag is set
pub write_shown : (s mid new : Store) (t at l : ℕ) (e own : Entry) (bs : List ℕ) → IsKept s → entry_at s t (page_of at) ≡ Some e → Owned s mid t (page_of at) l e own
    → SetsOwn mid new t (page_of at) l (Some (record own { written = true })) → SetsBytes mid new own.frame (patched (bytes_of mid own.frame) (offset_of at) bs) → Beside mid new → Written s new t at bs
write_shown s mid new t at l e own bs kept is owned sets bytes beside =
    let p = page_of at in
    let ready = owned.ready in
    let slot : cell (leaf_grid mid) l (p % 1024) ≡ Some own = sym (ap (λ (o : Option ℕ). entry_in mid o (p % 1024)) ready.place) ∙ owned.there in
    let alone : Lone mid t p own.frame = lone mid ready.kept t p l own ready.place slot ready.own owned.alone in
    let entries = set_entries mid new t p l (Some (record own { written = true })) ready.kept sets in
    let also : IsKept new = put_kept mid new t p l (record own { written = true }) ready.kept sets (ready.kept.pages.in_window t p own owned.there) alone in
    record {
      kept = also;
      page = record {
        was = page_of_entry s e;
        was_there = page_at-shown s kept t p ∙ ap (option_map (page_of_entry s)) is;
        frame = own.frame;
        frame_is = owned.frame_is;
        now = page_at-shown new also t p ∙ ap (option_map (page_of_entry new)) entries.here
            ∙ ap (λ (it : List ℕ). Some (page_as it true own.frame)) (bytes.here ∙ ap (λ (it : List ℕ). patched it (offset_of at) bs) owned.bytes);
        rest = more (ChangesPage-set mid new t p (Some (record own { written = true })) ready.kept also entries beside
            (λ u q d off there. bytes.others d.frame (λ same. let here = alone u q d there same in elim off [ inl far ↦ far here.0 | inr far ↦ far here.1 ])));
      };
    }
  where
    more : ChangesPage (shown mid) (shown new) t (page_of at) → ChangesPage (shown s) (shown new) t (page_of at)
    more two = record {
      others = λ u q off. two.others u q off ∙ owned.rest.others u q off;
      live = λ u. two.live u ∙ owned.rest.live u;
      reads = two.reads ∙ owned.rest.reads;
    }

-- FORK

pub record Forked (s new : Store) (t u : ℕ) : Type 0 where
  pub kept : IsKept new
  pub pages : (p : ℕ) → page_at (shown new) u p ≡ page_at (shown s) t p
  pub rest : ChangesTable (shown s) (shown new) u
  pub leaves : (i : ℕ) → place_at new u i ≡ place_at s t i

pub settled_entries : (s : Store) (t : ℕ) → IsKept s → IsSettled (shown s) t → Settled s t
settled_entries s t kept settled p e is = sym (ap flag_of (page_at-shown s kept t p ∙ ap (option_map (page_of_entry s)) is)) ∙ settled p

pub fork_shown : (s new : Store) (t u : ℕ) → IsKept s → Forks s new t u → SameBytes s new → ((v : ℕ) → v ≢ u → is_some (get_or new.tables.items v None) ≡ is_some (get_or s.tables.items v None)) → new.reads ≡ s.reads → Forked s new t u
fork_shown s new t u kept forks bytes live reads =
    let also : IsKept new = fork_kept s new t u kept forks in
    let entries = fork_entries s new t u forks in
    record {
      kept = also;
      pages = λ p. page-kept s new kept also t p u p (entries.here p) (λ e is. bytes e.frame);
      rest = record {
        others = λ v q off. page-kept s new kept also v q v q (entries.others v q off) (λ e is. bytes e.frame);
        live = λ v off. live-shown new new.tables.items v ∙ live v off ∙ sym (live-shown s s.tables.items v);
        reads = reads;
      };
      leaves = λ i. ap (λ (row : Row). get_or row i None) (ap (λ (g : List Row). get_or g u []) forks.row.tables ∙ Rattle.std.proofs.lemmas.List.get_or-set_same (table_grid s) u (get_or (table_grid s) t []) [] forks.row.there);
    }
