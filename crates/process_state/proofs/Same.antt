-- A process stands in each memory that is the same for it.
use Rattle.std.proofs.Common.{◌≡◌, ◌≢◌, ◌∙◌, ℕ, Bool, true, false, not, ◌&&◌, ◌||◌, true≢false, List, [], Option, Some, None, filter, option_map, is_some, ◌⊎◌, refl, sym, ap, subst, inl, inr, arith, IsTrue}
use Rattle.std.specs.List.{list_any}
use Rattle.std.proofs.lemmas.Bool.{and_from, cases_Bool, or_left, or_right}
use Rattle.class_layout.specs.ClassList.{Class}
use Rattle.page_tables.specs.declared.address.Window.TheVariants.{Image}
use Rattle.page_tables.specs.Address.{is_in, is_in_window}
use Rattle.cow_pages.specs.Change.{ChangesTable}
use Rattle.cow_pages.specs.Memory.{flag_of, frame_at, is_live, is_mapped, page_at, HasOneSharer, IsSound, Memory, Page}
use Rattle.cow_pages.specs.Only.{OnlyTable}
use Rattle.cow_pages.specs.View.{view_of, SameView, View}
use Rattle.cow_pages.proofs.OnlyLemmas.{alone-stays, ended-stays, forked-stays}
use Rattle.cow_pages.proofs.ViewLemmas.{SameView-pages}
use Rattle.heap_graph.specs.Graph.{Graph, Object}
use Rattle.heap_world.specs.Part.{Part}
use Rattle.object_view.proofs.Standing.{Stands-seen}
use Rattle.address_table.specs.Computed.{table_of, Homes}
use Rattle.region_space.specs.Space.{filled, lists_of}
use Rattle.region_space.specs.Space as space
use Rattle.large_objects.specs.Pages as large
use Rattle.large_objects.specs.Rows.{waits}
use Rattle.graph_pages.specs.Holds.{raw_under, HoldsGraph}
use Rattle.graph_pages.specs.Pages.{page_named, PagesHold}
use Rattle.evacuate.specs.Stands.{homes_of, HoldsHeap}
use Rattle.process_state.specs.State.{addresses_in, heap_of, State}
use Rattle.process_state.specs.Stands.{HasFlags, StandsIn}
use Rattle.process_state.specs.Same.{SameFor}

-- objects in a table that is seen as it was
graph-seen : (cs : List Class) (v w : View) (table : ℕ → ℕ) (os : List Object) → SameView v w → HoldsGraph cs v table os → HoldsGraph cs w table os
graph-seen cs v w table os same h = record {
  known = h.known;
  stands = λ o is. let r = raw_under table o in Stands-seen cs v w (table o.number) r.shape r.header r.values (h.stands o is) same;
  apart = h.apart;
}

pub pages-seen : (old new : Memory) (t u : ℕ) (homes : Homes) (g : Graph) → ((q : ℕ) → page_at new u q ≡ page_at old t q) → PagesHold old t homes g → PagesHold new u homes g
pages-seen old new t u homes g same h = record {
  objects = graph-seen g.classes (view_of old t) (view_of new u) (table_of homes g) g.objects (SameView-pages old new t u same) h.objects;
  pages = λ w p is. ap is_some (same p) ∙ h.pages w p is;
}

module _ (s : State) (p : Part) (old new : Memory) (h : StandsIn s old p) (same : SameFor s p old new) where
  abbrev regions : ℕ → Bool
  regions q = list_any (space.holds_page q) (filled (lists_of s.regions))

  abbrev rows : ℕ → Bool
  rows q = list_any (large.holds_page q) (filter waits s.rows)

  abbrev image : ℕ → Bool
  image q = not p.graph.sealed && is_in Image q

  heap-same : IsSound new → HoldsHeap (heap_of s []) new s.page_table p.graph
  heap-same sound =
      let pages = pages-seen old new s.page_table s.page_table (homes_of (heap_of s [])) p.graph same.pages h.heap.pages in
      let few : space.AreAlone new s.page_table (filled (lists_of s.regions)) = λ q is. same.alone q (or_left (regions q || rows q) (image q) (or_left (regions q) (rows q) is)) (h.heap.regions q is) in
      let big : large.AreAlone new s.page_table (filter waits s.rows) =
      λ q is. same.alone q (or_left (regions q || rows q) (image q) (or_right (regions q) (rows q) is)) (h.heap.large q is) in
      let live : IsTrue (is_live new s.page_table) = same.live ∙ h.heap.live in
      assumption (h.heap, pages, few, big, sound, live)

  flags-same : HasFlags s new p
  flags-same = record {
    touched = λ a sealed is. ap flag_of (same.pages (page_named (addresses_in s p.graph) a)) ∙ h.flags.touched a sealed is;
    waiting = λ a is. ap flag_of (same.pages (page_named (addresses_in s p.graph) a)) ∙ h.flags.waiting a is;
  }

  alone-same : (q : ℕ) → p.graph.sealed ≡ false → is_in Image q ≡ true → IsTrue (is_mapped new s.page_table q) → HasOneSharer new s.page_table q
  alone-same q unsealed is mapped = same.alone q
      (or_right (regions q || rows q) (image q) (and_from (not p.graph.sealed) (is_in Image q) (ap not unsealed) is))
      (h.alone q unsealed is (sym (ap is_some (same.pages q)) ∙ mapped))

  pub stands-same : IsSound new → StandsIn s new p
  stands-same sound = assumption (h, heap-same sound, flags-same, alone-same)

-- no page outside the windows is mapped, so an entry that has its frame alone is
pub sharer-mapped : (m : Memory) (t q : ℕ) → IsSound m → HasOneSharer m t q → is_mapped m t q ≡ true
sharer-mapped m t q sound alone = by (cases_Bool (is_mapped m t q))
  where
    none : (r : ℕ) → is_mapped m t r ≡ false → frame_at m t r ≡ None
    none r = of (page_at m t r)
      where
        of : (o : Option Page) → is_some o ≡ false → option_map (λ (page : Page). page.frame) o ≡ None
        of None is = refl
        of (Some page) is = absurd (true≢false is)

    outside : (r : ℕ) → is_in_window r ≡ false → is_mapped m t r ≡ false
    outside r off = of (cases_Bool (is_mapped m t r))
      where
        of : (is_mapped m t r ≡ true) ⊎ (is_mapped m t r ≡ false) → is_mapped m t r ≡ false
        of (inl is) = absurd (true≢false (sym (sound.in_window t r is) ∙ off))
        of (inr is) = is

    by : (is_mapped m t q ≡ true) ⊎ (is_mapped m t q ≡ false) → is_mapped m t q ≡ true
    by (inl is) = is
    by (inr is) =
        let one : 1048576 ≡ q = (alone t 1048576 (none 1048576 (outside 1048576 refl) ∙ sym (none q is))).1 in
        let other : 1048577 ≡ q = (alone t 1048577 (none 1048577 (outside 1048577 refl) ∙ sym (none q is))).1 in
        absurd (omega (arith, one, other))

-- the frame of a page that is mapped
pub mapped-frame : (m : Memory) (t q : ℕ) → is_mapped m t q ≡ true → (f : ℕ) × (frame_at m t q ≡ Some f)
mapped-frame m t q = by (page_at m t q)
  where
    by : (o : Option Page) → is_some o ≡ true → (f : ℕ) × (option_map (λ (page : Page). page.frame) o ≡ Some f)
    by None is = absurd (true≢false (sym is))
    by (Some page) is = (page.frame, refl)

module _ (s : State) (p : Part) (old new : Memory) (t : ℕ) (h : StandsIn s old p) (aside : t ≢ s.page_table) where
  apart : s.page_table ≢ t
  apart e = aside (sym e)

  had : (q : ℕ) → HasOneSharer old s.page_table q → is_mapped old s.page_table q ≡ true
  had q alone = sharer-mapped old s.page_table q h.heap.sound alone

  pub stands-acted : OnlyTable old new t → IsSound new → StandsIn s new p
  stands-acted only = stands-same s p old new h (record {
    live = only.live s.page_table;
    pages = kept;
    alone = λ q is alone.
        let frame = mapped-frame new s.page_table q (ap is_some (kept q) ∙ had q alone) in
        alone-stays old new t s.page_table q frame.0 only alone frame.1;
  })
    where
      kept : (q : ℕ) → page_at new s.page_table q ≡ page_at old s.page_table q
      kept q = only.others s.page_table q apart

  pub stands-ended : ChangesTable old new t → ((q : ℕ) → page_at new t q ≡ None) → IsSound new → StandsIn s new p
  stands-ended changes none = stands-same s p old new h (record {
    live = changes.live s.page_table apart;
    pages = kept;
    alone = λ q is alone. ended-stays old new t s.page_table q changes none (ap is_some (kept q) ∙ had q alone) alone;
  })
    where
      kept : (q : ℕ) → page_at new s.page_table q ≡ page_at old s.page_table q
      kept q = changes.others s.page_table q apart

  pub stands-joined : (u : ℕ) → u ≢ s.page_table → ChangesTable old new u → ((q : ℕ) → page_at new u q ≡ page_at old t q) → IsSound new → StandsIn s new p
  stands-joined u beside changes copied = stands-same s p old new h (record {
    live = changes.live s.page_table (λ e. beside (sym e));
    pages = λ q. changes.others s.page_table q (λ e. beside (sym e));
    alone = λ q is alone. forked-stays old new t u s.page_table q changes copied apart (λ e. beside (sym e)) (had q alone) alone;
  })

pub stands-uncounted : (s : State) (p : Part) (old new : Memory) → StandsIn s old p
    → new ≡ record old { reads = new.reads; frames = new.frames; leaf_count = new.leaf_count; spare = new.spare } → IsSound new → StandsIn s new p
stands-uncounted s p old new h is =
    stands-same s p old new h (subst (λ (m : Memory). SameFor s p old m) (sym is) (record { live = refl; pages = λ q. refl; alone = λ q own alone. alone }))
