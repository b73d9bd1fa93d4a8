-- After a collection the pages hold the collected graph.
use Rattle.std.proofs.Common.{◌≡◌, ◌≢◌, ◌∙◌, ◌⊎◌, ℕ, ◌+◌, ◌-◌, ◌<◌, true, false, List, ◌++◌, filter, refl, sym, ap, inl, inr}
use Rattle.std.specs.Prelude.{◌&&◌, nat_le}
use Rattle.std.specs.List.{list_any}
use Rattle.std.proofs.lemmas.Bool.{cases_Bool, or_left}
use Rattle.std.proofs.lemmas.List.{append-nil}
use Rattle.std.proofs.lemmas.List.Elements.{All-filter}
use Rattle.page_tables.specs.declared.address.Addr.{Addr}
use Rattle.page_tables.specs.declared.address.Window.{Window}
use Rattle.page_tables.specs.declared.address.Window.TheVariants as window
use Rattle.page_tables.specs.Address.{is_in, page_of}
use Rattle.cow_pages.specs.Memory.{is_mapped, Memory}
use Rattle.heap_graph.specs.declared.names.Place.{Place}
use Rattle.heap_graph.specs.declared.names.Place.TheVariants as place
use Rattle.heap_graph.specs.Collection.{cleared, collect}
use Rattle.heap_graph.specs.Graph.{is_immune, is_young, Graph, Object}
use Rattle.heap_graph.specs.Paths.{numbers}
use Rattle.heap_graph.specs.Reach.{is_among, reached}
use Rattle.heap_graph.specs.Sizes.{size_in}
use Rattle.region_lists.specs.Rows.{Row}
use Rattle.region_space.specs.Space as space
use Rattle.region_space.specs.Space.{lists_of, Space}
use Rattle.large_objects.specs.declared.rows.LargeRow.{LargeRow}
use Rattle.large_objects.specs.Rows.{waits, IsBytes}
use Rattle.large_objects.specs.Pages as large
use Rattle.large_objects.proofs.PageLemmas.{any-in-window}
use Rattle.address_table.specs.Computed.{table_of, Homes}
use Rattle.graph_pages.specs.Collected.{keeps}
use Rattle.graph_pages.specs.Pages.{has_bytes_in, MapsWindow, PagesHold}
use Rattle.graph_pages.proofs.Lists.{any-from, any-to}
use Rattle.object_collection.specs.Collects.{HeapState, IsCollected, LeavesPages}
use Rattle.evacuate.specs.Stands.{homes_in, homes_of, raws_of, KeepsGraph}
use Rattle.evacuate.proofs.Left.{formed, housed, old-are, packed, rows-is, same-bool}
use Rattle.evacuate.proofs.Pages.{large-pages, one-window, page-in, region-pages, window_of}
use Rattle.evacuate.proofs.Turned.{back-in, graph-left, kept-in, next-is}

-- what stands in a window of spots
abbrev IsSpots : Window → Type 0
IsSpots w = (w ≡ window.Image) ⊎ (w ≡ window.Zygote)

-- is immune
spot-immune : (w : Window) (at : Place) → IsSpots w → window_of at ≡ w → (is_immune true at ≡ true) × (is_young at ≡ false)
spot-immune w (place.Image spot) which e = (refl, refl)
spot-immune w (place.Zygote spot) which e = (refl, refl)
spot-immune w place.Young (inl image) e = cc
spot-immune w place.Young (inr zygote) e = cc
spot-immune w place.Large (inl image) e = cc
spot-immune w place.Large (inr zygote) e = cc
spot-immune w place.Promoted (inl image) e = cc
spot-immune w place.Promoted (inr zygote) e = cc

module _ (h : HeapState) (old new : Memory) (t : ℕ) (g : Graph) (regions : Space) (rows : List LargeRow) (roots : List Addr) (k : KeepsGraph h old t g)
    (c : IsCollected h new t (raws_of (homes_of h) g) regions rows roots) where
  abbrev left : Graph
  left = collect g

  abbrev next_homes : Homes
  next_homes = homes_in regions.in_use rows

  abbrev table : ℕ → ℕ
  table = table_of (homes_of h) g

  abbrev next : ℕ → ℕ
  next = table_of (homes_in regions.in_use rows) (collect g)

  abbrev kept : List ℕ
  kept = numbers (filter (keeps g) g.objects)

  -- a page of the image or of the zygote window has the same objects as before
  spot-pages : (w : Window) (p : ℕ) → IsSpots w → is_in w p ≡ true → list_any (has_bytes_in g.classes table p) g.objects ≡ list_any (has_bytes_in g.classes next p) left.objects
  spot-pages w p which is = same-bool _ _
      (λ e.
      let it = any-from (has_bytes_in g.classes table p) g.objects e in
      let o : Object = it.0 in
      let spot = spot-immune w o.place which (one-window p (window_of o.place) w (page-in (homes_of h) g k.heap.formed k.heap.house (lists_of h.regions) k.heap.space k.heap.stands.packed p o it.1 it.2) is) in
      let keep : keeps g o ≡ true = or_left (is_immune g.sealed o.place) (is_among (reached g) o.number) (ap (λ b. is_immune b o.place) k.is_sealed ∙ spot.0) in
      any-to (has_bytes_in g.classes next p) left.objects (cleared kept o) (kept-in h old new t g regions rows roots k c o it.1 keep)
      (ap (λ a. nat_le (page_of a) p && nat_le p (page_of (a + size_in g.classes o.shape - 1))) (next-is h old new t g regions rows roots k c o it.1 keep spot.1) ∙ it.2))
      (λ e.
      let it = any-from (has_bytes_in g.classes next p) left.objects e in
      let q : Object = it.0 in
      let from = back-in h old new t g regions rows roots k c q it.1 in
      let o : Object = from.0 in
      let spot = spot-immune w q.place which
      (one-window p (window_of q.place) w (page-in next_homes left (formed h old new t g regions rows roots k c) (housed h old new t g regions rows roots k c) (lists_of regions) c.held.space (packed h old new t g regions rows roots k c) p q it.1 it.2) is) in
      let young : is_young o.place ≡ false = ap (λ (x : Object). is_young x.place) from.3 ∙ spot.1 in
      let has : has_bytes_in g.classes next p (cleared kept o) ≡ true = ap (has_bytes_in g.classes next p) from.3 ∙ it.2 in
      any-to (has_bytes_in g.classes table p) g.objects o from.1
      (sym (ap (λ a. nat_le (page_of a) p && nat_le p (page_of (a + size_in g.classes o.shape - 1))) (next-is h old new t g regions rows roots k c o from.1 from.2 young)) ∙ has))

  module _ (leaves : LeavesPages h old new t) where
    -- it is mapped as before
    spot-mapped : (w : Window) (p : ℕ) → IsSpots w → (w ≢ window.Regions) → (w ≢ window.Large) → is_in w p ≡ true → is_mapped new t p ≡ is_mapped old t p
    spot-mapped w p which off_regions off_large is = leaves.mapped p
        (elim (cases_Bool (is_in window.Regions p)) [ inl inside ↦ absurd (off_regions (one-window p w window.Regions is inside)) | inr off ↦ off ])
        (elim (cases_Bool (list_any (large.holds_page p) (filter waits h.rows))) [
          | inl held ↦
              let are = old-are h old new t g regions rows roots k c in
              absurd (off_large (one-window p w window.Large is (any-in-window p (filter waits h.rows) (All-filter waits (λ (row : LargeRow). row.slot < 512) h.rows are.within) (All-filter waits (λ (row : LargeRow). IsBytes row.bytes) h.rows are.bytes) held)))
          | inr off ↦ off
        ])

    window-left : (w : Window) → MapsWindow new t w g.classes next left.objects
    window-left window.Image p is =
        spot-mapped window.Image p (inl refl) (λ e. absurd (cc)) (λ e. absurd (cc)) is ∙ k.heap.pages.pages window.Image p is ∙ spot-pages window.Image p (inl refl) is
    window-left window.Zygote p is =
        spot-mapped window.Zygote p (inr refl) (λ e. absurd (cc)) (λ e. absurd (cc)) is ∙ k.heap.pages.pages window.Zygote p is ∙ spot-pages window.Zygote p (inr refl) is
    window-left window.Regions p is =
        c.held.pages p is ∙ ap (λ (rs : List Row). list_any (space.holds_page p) (regions.in_use ++ rs)) c.no_from.0 ∙ ap (list_any (space.holds_page p)) (append-nil regions.in_use)
        ∙ region-pages next_homes left (formed h old new t g regions rows roots k c) (housed h old new t g regions rows roots k c) (lists_of regions) c.held.space (packed h old new t g regions rows roots k c) p is
    window-left window.Large p is =
        c.large_pages p is ∙ ap (list_any (large.holds_page p)) (rows-is h old new t g regions rows roots k c)
        ∙ large-pages next_homes left (formed h old new t g regions rows roots k c) (housed h old new t g regions rows roots k c) (lists_of regions) c.held.space (packed h old new t g regions rows roots k c) p is

    pub pages-left : PagesHold new t (homes_in regions.in_use rows) (collect g)
    pages-left = record { objects = graph-left h old new t g regions rows roots k c; pages = window-left }
