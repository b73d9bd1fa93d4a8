-- A store after a slot of a leaf of a table's own was set, and what two steps after one another show.
use Rattle.std.proofs.Common.{◌≡◌, ◌≢◌, ◌⊎◌, ℕ, ◌+◌, ◌-◌, ◌<◌, ◌≤◌, ◌/◌, ◌%◌, Bool, true, false, List, [], length, get_or, set, Some, None, Option, is_some, refl, sym, ap, ◌∙◌, inl, inr, arith}
use Rattle.std.specs.Prelude.{option_map}
use Rattle.std.proofs.lemmas.Nat.{mod_below}
use Rattle.std.proofs.lemmas.Option.{none-some, same_Some}
use Rattle.sharers.specs.Shares.{Shares}
use Rattle.page_tables.specs.declared.leaf.Entry.{Entry}
use Rattle.page_tables.specs.declared.table.Table.{Table}
use Rattle.cow_pages.specs.declared.store.Store.{Store}
use Rattle.page_tables.specs.Counts.{count_in}
use Rattle.page_tables.specs.Grid.{cell, one_held}
use Rattle.cow_pages.specs.Memory.{Memory, Page, page_at, used_frames, distinct_count, leaves_of, HasOneSharer, IsShared}
use Rattle.cow_pages.specs.Change.{OwnsLeaf, TakesOnCopy, TakesFrame, TakesOne}
use Rattle.page_tables.specs.Tables.{window_of}
use Rattle.cow_pages.specs.Store.{Row, frame_key, leaf_grid, table_grid, bytes_of, frame_sharers, leaf_sharers, place_at, entry_in, entry_at, mapped_counts, written_counts, page_of_entry, shown, IsKept, IsStore, IsReady}
use Rattle.cow_pages.specs.Steps.{Lone, SetsOwn, IsCountedAt, AddsRoom}
use Rattle.cow_pages.proofs.RoomLemmas.{not_shared, keeps_room}
use Rattle.cow_pages.proofs.SharedLemmas.{leaf_held, leaf_within, leaf_length, frame_held}
use Rattle.cow_pages.proofs.ShownLemmas.{page_at-shown, frame-shown, one_or_more}
use Rattle.cow_pages.proofs.SeenLemmas.{SamePages}
use Rattle.cow_pages.proofs.SoundLemmas.{counted}

abbrev pub entry_as : ℕ → Bool → Entry
entry_as frame written = record { frame = frame; written = written }

-- what stands in the slot of a page
pub slot_is : (s : Store) (t p l : ℕ) (o : Option Entry) → place_at s t (p / 1024) ≡ Some l → entry_at s t p ≡ o → cell (leaf_grid s) l (p % 1024) ≡ o
slot_is s t p l o place is = sym (ap (λ (it : Option ℕ). entry_in s it (p % 1024)) place) ∙ is

-- one slot of a leaf that a table alone has was set
pub sets_own : (s new : Store) (t p l : ℕ) (o : Option Entry) → IsReady s t (p / 1024) l → leaf_grid new ≡ set (leaf_grid s) l (set (get_or (leaf_grid s) l []) (p % 1024) o) → table_grid new ≡ table_grid s → new.leaf_counts ≡ s.leaf_counts
    → ((f : ℕ) → frame_sharers new f + one_held frame_key (cell (leaf_grid s) l (p % 1024)) f ≡ frame_sharers s f + one_held frame_key o f) → SetsOwn s new t p l o
sets_own s new t p l o ready grid tables counts sharers = record {
  place = ready.place;
  own = ready.own;
  tables = record {
    tables = tables;
    sharers = λ k. ap (λ (it : Shares). Rattle.sharers.specs.Shares.count_of it k) counts;
    len = ap (λ (it : Shares). length it.counts) counts;
  };
  slot = record {
    there = omega (arith, leaf_within s l (leaf_held s ready.kept.counts t (p / 1024) l ready.place), ready.kept.whole.count);
    room = omega (arith, leaf_length s ready.kept t (p / 1024) l ready.place, mod_below p 1024 (omega arith));
    leaves = grid;
    sharers = sharers;
  };
}

-- a page whose frame no other entry has: its leaf and its frame have one sharer each
pub one_counts : (s : Store) → IsKept s → (t p l : ℕ) (e : Entry) → place_at s t (p / 1024) ≡ Some l → entry_at s t p ≡ Some e → HasOneSharer (shown s) t p → (leaf_sharers s l ≡ 1) × (frame_sharers s e.frame ≡ 1)
one_counts s kept t p l e place is one = elim (one_or_more s kept t p l e place (slot_is s t p l (Some e) place is)) [
  | inl both ↦ (both.0, both.1)
  | inr some ↦ absurd (not_shared (shown s) t p one some.1)
]

-- and one whose frame another has, in a leaf of the table's own: its frame has more
pub more_sharers : (s : Store) → IsKept s → (t p l : ℕ) (e : Entry) → place_at s t (p / 1024) ≡ Some l → entry_at s t p ≡ Some e → IsShared (shown s) t p → leaf_sharers s l ≡ 1 → 1 < frame_sharers s e.frame
more_sharers s kept t p l e place is shared own = elim (one_or_more s kept t p l e place (slot_is s t p l (Some e) place is)) [
  | inl both ↦ absurd (not_shared (shown s) t p both.2 shared)
  | inr some ↦ elim some.0 [
    | inl leaf ↦ absurd (leaf own)
    | inr frame ↦ omega (arith, frame, frame_held s kept.counts t p e is)
  ]
]

pub lone_shown : (s : Store) → IsKept s → (t p : ℕ) (e : Entry) → entry_at s t p ≡ Some e → HasOneSharer (shown s) t p → Lone s t p e.frame
lone_shown s kept t p e is one u q d at same =
    one u q (frame-shown s kept u q ∙ ap (option_map (λ (it : Entry). it.frame)) at ∙ ap {A = ℕ} Some same ∙ sym (frame-shown s kept t p ∙ ap (option_map (λ (it : Entry). it.frame)) is))

-- a page that another table shares has no flag
pub shared_flag : (s : Store) → IsKept s → (t p : ℕ) (e : Entry) → entry_at s t p ≡ Some e → IsShared (shown s) t p → e.written ≡ false
shared_flag s kept t p e is shared = by_flag e.written refl
  where
    by_flag : (b : Bool) → e.written ≡ b → e.written ≡ false
    by_flag false at = at
    by_flag true at =
        let f = Rattle.cow_pages.proofs.ShownLemmas.framed s kept shared.0 p e.frame (shared.2 ∙ frame-shown s kept t p ∙ ap (option_map (λ (it : Entry). it.frame)) is) in
        absurd (shared.1 (sym (kept.pages.alone t p shared.0 p e f.0 is f.1.0 (sym f.1.1) at)))

-- what is counted of a table is counted of it in a store with the same tables
pub counted_at-same : (s m : Store) (t p : ℕ) (gone : Option Entry) → m.tables ≡ s.tables → IsCountedAt s t p gone → IsCountedAt m t p gone
counted_at-same s m t p gone same is =
    let at : get_or m.tables.items t None ≡ get_or s.tables.items t None = ap (λ (it : Rattle.std.specs.declared.vec.Vec.Vec (Option Table) Rattle.std.specs.declared.alloc.Global.Global). get_or it.items t None) same in
    let mapped = ap (λ (o : Option Table). count_in (mapped_counts o) (window_of p)) at in
    let written = ap (λ (o : Option Table). count_in (written_counts o) (window_of p)) at in
    record {
      live = ap (λ (o : Option Table). is_some o) at ∙ is.live;
      mapped = omega (arith, mapped, is.mapped);
      written = omega (arith, written, is.written);
      mapped_few = omega (arith, mapped, is.mapped_few);
      written_few = omega (arith, written, is.written_few);
    }

-- AS MEMORIES SHOW IT

-- what frames and leaves a memory has, and which are used, is as it was
pub record SameRooms (old new : Memory) : Type 0 where
  pub frames : new.frames ≡ old.frames
  pub leaf_count : new.leaf_count ≡ old.leaf_count
  pub spare : new.spare ≡ old.spare
  pub used : used_frames new ≡ used_frames old
  pub leaves : new.leaves ≡ old.leaves

pub same_rooms : (s new : Store) → IsStore s → IsStore new → length new.frames.items ≡ length s.frames.items → length new.leaf_counts.counts ≡ length s.leaf_counts.counts → new.frame_counts.spare ≡ s.frame_counts.spare
    → new.leaf_counts.spare ≡ s.leaf_counts.spare → table_grid new ≡ table_grid s → SameRooms (shown s) (shown new)
same_rooms s new store also len leaf_len frames leaves grid =
    let k = keeps_room s new store also len leaf_len frames leaves in
    record { frames = k.frames; leaf_count = k.leaf_count; spare = k.spare; used = k.used; leaves = grid }

pub takes_later : (old mid new : Memory) (t p : ℕ) → SameRooms mid new → TakesOnCopy old mid t p → TakesOnCopy old new t p
takes_later old mid new t p same takes = record {
  copied = record {
    spare = omega (arith, takes.copied.spare, same.spare);
    had_spare = λ some. let k = takes.copied.had_spare some in (same.frames ∙ k.0, same.leaf_count ∙ k.1);
    frames_stay = omega (arith, takes.copied.frames_stay, same.frames);
    leaves_stay = omega (arith, takes.copied.leaves_stay, same.leaf_count);
    frames = omega (arith, takes.copied.frames, same.frames);
    leaf_count = omega (arith, takes.copied.leaf_count, same.leaf_count);
  };
  in_place = λ one.
      let k = takes.in_place one in
      record {
        frames = same.frames ∙ k.frames;
        leaf_count = same.leaf_count ∙ k.leaf_count;
        spare = same.spare ∙ k.spare;
        used = same.used ∙ k.used;
        used_leaves = ap (λ (g : List Row). distinct_count (leaves_of g)) same.leaves ∙ k.used_leaves;
      };
  one = λ shared.
      let k = takes.one shared in
      record {
        spare = omega (arith, k.spare, same.spare);
        frames_stay = omega (arith, k.frames_stay, same.frames);
        leaves_stay = omega (arith, k.leaves_stay, same.leaf_count);
        frames = omega (arith, k.frames, same.frames);
        leaf_count = omega (arith, k.leaf_count, same.leaf_count);
        used = same.used ∙ k.used;
      };
}

pub owns_later : (old mid new : Memory) (t i : ℕ) → new.leaves ≡ mid.leaves → OwnsLeaf old mid t i → OwnsLeaf old new t i
owns_later old mid new t i same o =
    let in_new = λ (u j : ℕ). ap (λ (g : List Row). get_or (get_or g u []) j None) same in
    let used = ap (λ (g : List Row). distinct_count (leaves_of g)) same in
    record {
      others = λ u j off. in_new u j ∙ o.others u j off;
      leaf = o.leaf;
      now = in_new t i ∙ o.now;
      alone = λ u at. o.alone u (sym (in_new u i) ∙ at ∙ in_new t i);
      own = λ there alone. let k = o.own there alone in (k.0, used ∙ k.1);
      shared = λ how. let k = o.shared how in (k.0, used ∙ k.1);
      taken = elim o.taken [ inl stays ↦ inl (stays.0, used ∙ stays.1) | inr came ↦ inr (came.0, used ∙ came.1) ];
    }

pub owns_earlier : (old mid new : Memory) (t i : ℕ) → mid.leaves ≡ old.leaves → OwnsLeaf mid new t i → OwnsLeaf old new t i
owns_earlier old mid new t i same o =
    let in_mid = λ (u j : ℕ). ap (λ (g : List Row). get_or (get_or g u []) j None) same in
    let used = ap (λ (g : List Row). distinct_count (leaves_of g)) same in
    record {
      others = λ u j off. o.others u j off ∙ in_mid u j;
      leaf = o.leaf;
      now = o.now;
      alone = o.alone;
      own = λ there alone.
          let k = o.own (λ none. there (sym (in_mid t i) ∙ none)) (λ u at. alone u (sym (in_mid u i) ∙ at ∙ in_mid t i)) in
          (sym (in_mid t i) ∙ k.0, k.1 ∙ used);
      shared = λ how.
          let k = o.shared (elim how [
            | inl other ↦ inl (other.0, other.1, in_mid other.0 i ∙ other.2 ∙ sym (in_mid t i))
            | inr none ↦ inr (in_mid t i ∙ none)
          ]) in
          (λ u j at. k.0 u j (in_mid u j ∙ at), k.1 ∙ ap (λ n. n + 1) used);
      taken = elim o.taken [
        | inl stays ↦ inl (sym (in_mid t i) ∙ stays.0, stays.1 ∙ used)
        | inr came ↦ inr (λ u j at. came.0 u j (in_mid u j ∙ at), came.1 ∙ ap (λ n. n + 1) used)
      ];
    }

-- nothing was taken
pub takes_none : (m : Memory) (t p : ℕ) → HasOneSharer m t p → TakesOnCopy m m t p
takes_none m t p one = record {
  copied = record { spare = omega arith; had_spare = λ some. (refl, refl); frames_stay = omega arith; leaves_stay = omega arith; frames = omega arith; leaf_count = omega arith };
  in_place = λ also. record { frames = refl; leaf_count = refl; spare = refl; used = refl; used_leaves = refl };
  one = λ shared. absurd (not_shared m t p one shared);
}

-- ONE FRAME AND ONE LEAF

-- a frame was taken, and a leaf at most, made where none was free
pub record TookOne (s new : Store) : Type 0 where
  pub len : length new.frames.items ≡ length s.frames.items + (1 - s.frame_counts.spare)
  pub leaf_len : length new.leaves.items ≡ length s.leaves.items + (1 - s.leaf_counts.spare)
  pub frames : new.frame_counts.spare + 1 ≡ s.frame_counts.spare + (1 - s.frame_counts.spare)
  pub leaves : s.leaf_counts.spare + (1 - s.leaf_counts.spare) ≤ new.leaf_counts.spare + 1

pub took_frame : (s new : Store) → TookOne s new → TakesFrame (shown s) (shown new)
took_frame s new took = record {
  spare = omega (arith, took.frames, took.leaves);
  had_spare = λ some. (omega (arith, took.len, some), omega (arith, took.leaf_len, some));
  frames_stay = omega (arith, took.len);
  leaves_stay = omega (arith, took.leaf_len);
  frames = omega (arith, took.len);
  leaf_count = omega (arith, took.leaf_len);
}

pub took_one : (s new : Store) → IsStore s → IsStore new → TookOne s new → TakesOne (shown s) (shown new)
took_one s new store also took = record {
  spare = omega (arith, took.frames, took.leaves);
  frames_stay = omega (arith, took.len);
  leaves_stay = omega (arith, took.leaf_len);
  frames = omega (arith, took.len);
  leaf_count = omega (arith, took.leaf_len);
  used = omega (arith, counted s store.kept store.room, counted new also.kept also.room, took.len, took.frames);
}

-- AFTER A RESERVE

pub reserved_pages : (s m : Store) (f l : ℕ) → AddsRoom s m f l → SamePages (shown s) (shown m)
reserved_pages s m f l adds u q = ap (λ (it : Memory). page_at it u q) adds.seen

-- an entry that shows what it showed is the entry that it was
pub entry_seen : (s m : Store) → IsKept s → IsKept m → SamePages (shown s) (shown m) → (t p : ℕ) (e : Entry) → entry_at s t p ≡ Some e → (entry_at m t p ≡ Some e) × (bytes_of m e.frame ≡ bytes_of s e.frame)
entry_seen s m kept also same t p e is =
    by (entry_at m t p) refl (sym (page_at-shown m also t p) ∙ same t p ∙ page_at-shown s kept t p ∙ ap (option_map (page_of_entry s)) is)
  where
    by : (o : Option Entry) → entry_at m t p ≡ o → option_map (page_of_entry m) o ≡ Some (page_of_entry s e) → (entry_at m t p ≡ Some e) × (bytes_of m e.frame ≡ bytes_of s e.frame)
    by None at shows = absurd (none-some (page_of_entry s e) shows)
    by (Some d) at shows =
        let page = same_Some (page_of_entry m d) (page_of_entry s e) shows in
        let frame : d.frame ≡ e.frame = ap (λ (it : Page). it.frame) page in
        let written : d.written ≡ e.written = ap (λ (it : Page). it.written) page in
        let equal : Some d ≡ Some e = ap (λ n. Some (entry_as n d.written)) frame ∙ ap (λ (b : Bool). Some (entry_as e.frame b)) written in
        (at ∙ equal, sym (ap (bytes_of m) frame) ∙ ap (λ (it : Page). it.bytes) page)

pub entry_none : (s m : Store) → IsKept s → IsKept m → SamePages (shown s) (shown m) → (t p : ℕ) → page_at (shown s) t p ≡ None → entry_at m t p ≡ None
entry_none s m kept also same t p none = by (entry_at m t p) refl (sym (page_at-shown m also t p) ∙ same t p ∙ none)
  where
    by : (o : Option Entry) → entry_at m t p ≡ o → option_map (page_of_entry m) o ≡ None → entry_at m t p ≡ None
    by None at shows = at
    by (Some d) at shows = absurd (none-some (page_of_entry m d) (sym shows))

-- where the leaf or the frame has more than one sharer, another table has the page's frame
pub shared_more : (s : Store) → IsKept s → (t p l : ℕ) (e : Entry) → place_at s t (p / 1024) ≡ Some l → entry_at s t p ≡ Some e → (leaf_sharers s l ≢ 1) ⊎ (frame_sharers s e.frame ≢ 1) → IsShared (shown s) t p
shared_more s kept t p l e place is how = elim (one_or_more s kept t p l e place (slot_is s t p l (Some e) place is)) [
  | inl both ↦ absurd (elim how [ inl leaf ↦ leaf both.0 | inr frame ↦ frame both.1 ])
  | inr some ↦ some.1
]
