-- A table whose flags were cleared: what its pages hold, and how they stand.
use Rattle.std.proofs.Common.{◌≡◌, ◌≢◌, ◌∙◌, ◌⊎◌, ℕ, false, List, [], Option, None, Some, is_some, option_map, refl, sym, ap, inl, inr}
use Rattle.std.specs.Prelude.{IsTrue}
use Rattle.std.proofs.lemmas.Bool.{cases_eq}
use Rattle.class_layout.specs.ClassList.{Class}
use Rattle.cow_pages.specs.Change.{settled}
use Rattle.cow_pages.specs.Memory.{flag_of, frame_at, is_live, is_mapped, is_written, page_at, HasOneSharer, Memory, Page}
use Rattle.cow_pages.specs.Only.{OnlyTable}
use Rattle.cow_pages.specs.View.{view_of, SameView, View}
use Rattle.cow_pages.proofs.OnlyLemmas.{only-settled_live}
use Rattle.cow_pages.proofs.ViewLemmas.{settled-some, SameView-settled}
use Rattle.heap_graph.specs.Graph.{Graph, Object}
use Rattle.object_view.proofs.Standing.{Stands-seen}
use Rattle.address_table.specs.Computed.{table_of, Homes}
use Rattle.graph_pages.specs.Holds.{raw_under, HoldsGraph}
use Rattle.graph_pages.specs.Pages.{PagesHold}
use Rattle.evacuate.specs.Stands.{homes_of, HoldsHeap}
use Rattle.process_state.specs.State.{heap_of, State}
use Rattle.process_steps.specs.Settling.{Settles}

frame-of : (o : Option Page) → option_map (λ (page : Page). page.frame) (settled o) ≡ option_map (λ (page : Page). page.frame) o
frame-of None = refl
frame-of (Some page) = refl

no-flag : (o : Option Page) → flag_of (settled o) ≡ false
no-flag None = refl
no-flag (Some page) = refl

-- objects in a table that is seen as it was
graph-seen : (cs : List Class) (v w : View) (table : ℕ → ℕ) (os : List Object) → SameView v w → HoldsGraph cs v table os → HoldsGraph cs w table os
graph-seen cs v w table os same h = record {
  known = h.known;
  stands = λ o is. let r = raw_under table o in Stands-seen cs v w (table o.number) r.shape r.header r.values (h.stands o is) same;
  apart = h.apart;
}

module _ (old new : Memory) (t : ℕ) (is : Settles old new t) where
  -- every page of every table keeps its frame
  pub frame-settled : (u q : ℕ) → frame_at new u q ≡ frame_at old u q
  frame-settled u q = by (cases_eq u t)
    where
      by : (u ≡ t) ⊎ (u ≢ t) → frame_at new u q ≡ frame_at old u q
      by (inl here) =
          ap (λ n. frame_at new n q) here ∙ ap (option_map (λ (page : Page). page.frame)) (is.pages q) ∙ frame-of (page_at old t q) ∙ ap (λ n. frame_at old n q) (sym here)
      by (inr apart) = ap (option_map (λ (page : Page). page.frame)) (is.rest.others u q apart)

  -- so one that no other entry has stays alone
  pub sharer-settled : (q : ℕ) → HasOneSharer old t q → HasOneSharer new t q
  sharer-settled q alone u r same = alone u r (sym (frame-settled u r) ∙ same ∙ frame-settled t q)

  pub flag-settled : (q : ℕ) → is_written new t q ≡ false
  flag-settled q = ap flag_of (is.pages q) ∙ no-flag (page_at old t q)

  pub mapped-settled : (q : ℕ) → is_mapped new t q ≡ is_mapped old t q
  mapped-settled q = ap is_some (is.pages q) ∙ settled-some (page_at old t q)

  pub pages-settled : (homes : Homes) (g : Graph) → PagesHold old t homes g → PagesHold new t homes g
  pages-settled homes g h = record {
    objects = graph-seen g.classes (view_of old t) (view_of new t) (table_of homes g) g.objects (SameView-settled old new t is.pages) h.objects;
    pages = λ w p inside. mapped-settled p ∙ h.pages w p inside;
  }

  -- what the table's pages hold stays
  pub heap-settled : (s : State) (g : Graph) → HoldsHeap (heap_of s []) old t g → HoldsHeap (heap_of s []) new t g
  heap-settled s g held = record {
    formed = held.formed;
    house = held.house;
    pages = pages-settled (homes_of (heap_of s [])) g held.pages;
    stands = held.stands;
    regions = λ q there. sharer-settled q (held.regions q there);
    large = λ q there. sharer-settled q (held.large q there);
    space = held.space;
    sound = is.sound;
    live = is.live;
  }

  -- no other table changed
  pub only-settled : IsTrue (is_live old t) → OnlyTable old new t
  only-settled was = only-settled_live old new t is.rest was is.live is.pages
