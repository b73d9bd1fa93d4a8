-- What a process keeps for a graph that its pages hold, and where a collection of its memory puts the collected graph.
use Rattle.std.specs.Prelude.{◌≡◌, ◌↔◌, ℕ, ◌*◌, ◌≤◌, Bool, true, false, IsTrue, List, [], ◌∷◌, filter, length, map, nat_eq, slice_index}
use Rattle.std.specs.List.{IsDistinct}
use Rattle.class_layout.specs.ClassList.{Class}
use Rattle.class_layout.specs.Placing.{IsIn}
use Rattle.page_tables.specs.declared.address.Addr.{Addr}
use Rattle.page_tables.specs.Address.{page_of}
use Rattle.cow_pages.specs.Memory.{is_live, is_mapped, HasOneSharer, IsSound, Memory}
use Rattle.heap_graph.specs.declared.names.Place.{Place}
use Rattle.heap_graph.specs.declared.names.Place.TheVariants.{Image, Zygote, Young, Large, Promoted}
use Rattle.heap_graph.specs.Formed.{is_in_image, IsFormed}
use Rattle.heap_graph.specs.Graph.{Graph, Object}
use Rattle.heap_graph.specs.Packing.{young_objects, young_sizes}
use Rattle.heap_graph.specs.Sizes.{unrounded}
use Rattle.object_view.specs.declared.names.Slot.{Slot}
use Rattle.object_view.specs.Seen.{root_address}
use Rattle.raw_objects.specs.Raws.{Raws}
use Rattle.region_lists.specs.Rows.{Row}
use Rattle.region_space.specs.Space.{filled, lists_of, IsSpace}
use Rattle.region_space.specs.Space as space
use Rattle.large_objects.specs.declared.rows.LargeRow.{LargeRow}
use Rattle.large_objects.specs.Rows.{waits}
use Rattle.large_objects.specs.Pages as large
use Rattle.live_objects.specs.Live.{addresses}
use Rattle.address_table.specs.Computed.{large_behind, table_of, Homes, HouseAll}
use Rattle.graph_pages.specs.Holds.{raws_under}
use Rattle.graph_pages.specs.Pages.{PagesHold}
use Rattle.object_moves.specs.Copies.{PacksAt}
use Rattle.object_collection.specs.Collects.{HeapState, LeadsOut}

-- the row of a large object, the k-th of them
abbrev pub row_of : List Class → List ℕ → ℕ → Object → Bool → LargeRow
row_of cs slots k o promoted = record { number = o.number; slot = slice_index slots k; bytes = unrounded cs o.shape; promoted = promoted; marked = false }

-- the rows of others, behind that of an object if it is a large one
abbrev pub with_row : List Class → List ℕ → ℕ → Object → Place → List LargeRow → List LargeRow
with_row cs slots k o (Image spot) rows = rows
with_row cs slots k o (Zygote spot) rows = rows
with_row cs slots k o Young rows = rows
with_row cs slots k o Large rows = row_of cs slots k o false ∷ rows
with_row cs slots k o Promoted rows = row_of cs slots k o true ∷ rows

-- the rows of the large objects among some, behind k others, each in the slot that it has by its place among them
abbrev pub rows_from : List Class → List ℕ → ℕ → List Object → List LargeRow
rows_from cs slots k [] = []
rows_from cs slots k (o ∷ os) = with_row cs slots k o o.place (rows_from cs slots (large_behind k o.place) os)

-- the address of an object
abbrev pub home_of : (ℕ → ℕ) → Object → Addr
home_of table o = record { 0 = table o.number }

-- the addresses of the young objects, by rising number
abbrev pub young_homes : Homes → Graph → List Addr
young_homes homes g = map (home_of (table_of homes g)) (young_objects g)

-- the objects of the graph, as raw ones
abbrev pub raws_of : Homes → Graph → Raws
raws_of homes g = raws_under (table_of homes g) g.objects

-- where a process keeps what may stand in several places: by its regions in use and its rows
abbrev pub homes_in : List Row → List LargeRow → Homes
homes_in in_use rows = record { regions = map (λ (row : Row). row.region) in_use; slots = map (λ (row : LargeRow). row.slot) rows }

abbrev pub homes_of : HeapState → Homes
homes_of h = homes_in h.regions.in_use h.rows

-- the state that a process keeps for a graph, besides the slots of immune objects: the regions hold the young objects,
-- packed, at most half of them in use; a row stands for each large object, none is marked; and the roots hold addresses
pub record StandsFor (h : HeapState) (g : Graph) : Type 0 where
  pub classes : h.classes ≡ g.classes
  pub packed : PacksAt h.regions.in_use (young_sizes g) (young_homes (homes_of h) g)
  pub objects : h.regions.objects ≡ length (young_objects g)
  pub no_from : h.regions.from ≡ []
  pub half : 2 * length h.regions.in_use ≤ h.regions.count
  pub count : h.regions.count ≡ 2 * g.budget
  pub rows : h.rows ≡ rows_from g.classes (homes_of h).slots 0 g.objects
  pub roots : addresses h.roots ≡ map (λ r. root_address (table_of (homes_of h) g) r.holds) g.roots

-- a process holds a graph in its pages, and keeps its state, whichever slots of immune objects it has; the pages of the
-- regions, and of large objects that aren't promoted, have their frames alone
pub record HoldsHeap (h : HeapState) (m : Memory) (t : ℕ) (g : Graph) : Type 0 where
  pub formed : IsFormed g
  pub house : HouseAll (homes_of h) g
  pub pages : PagesHold m t (homes_of h) g
  pub stands : StandsFor h g
  pub regions : space.AreAlone m t (filled (lists_of h.regions))
  pub large : large.AreAlone m t (filter waits h.rows)
  pub space : IsSpace (lists_of h.regions)
  pub sound : IsSound m
  pub live : IsTrue (is_live m t)

-- the slots are exactly the references of immune objects that lead to objects which aren't immune, each once
pub record HasSlotsOut (h : HeapState) (raws : Raws) : Type 0 where
  pub exact : (slot : Slot) → IsIn slot h.slots ↔ LeadsOut h raws slot
  pub once : IsDistinct nat_eq (map (λ (slot : Slot). slot.at.0) h.slots)

-- the graph is sealed, and besides its heap the process has these slots, whose pages have their frames alone: a collection can
-- be made
pub record KeepsGraph (h : HeapState) (m : Memory) (t : ℕ) (g : Graph) : Type 0 where
  pub heap : HoldsHeap h m t g
  pub is_sealed : g.sealed ≡ true
  pub out : HasSlotsOut h (raws_of (homes_of h) g)
  pub alone : (slot : Slot) → IsIn slot h.slots → HasOneSharer m t (page_of slot.at.0)

-- where the slot stands one of these stood before, and its page is mapped
pub record StoodBefore (slots : List Slot) (m : Memory) (t : ℕ) (slot : Slot) : Type 0 where
  pub before : Slot
  pub is_in : IsIn before slots
  pub at_is : before.at.0 ≡ slot.at.0
  pub mapped : IsTrue (is_mapped m t (page_of slot.at.0))

-- no homes: nothing stands in regions or slots
abbrev pub no_homes : Homes
no_homes = record { regions = []; slots = [] }

-- a process has just sealed its graph: all objects stand in the image, no region is in use, and no row stands yet
pub record HasSealed (h : HeapState) (m : Memory) (t : ℕ) (g : Graph) : Type 0 where
  pub formed : IsFormed g
  pub is_sealed : g.sealed ≡ true
  pub in_image : (o : Object) → IsIn o g.objects → is_in_image o.place ≡ true
  pub pages : PagesHold m t no_homes g
  pub classes : h.classes ≡ g.classes
  pub none_in_use : (h.regions.in_use ≡ []) × (h.regions.from ≡ []) × (h.regions.objects ≡ 0)
  pub count : h.regions.count ≡ 2 * g.budget
  pub none_large : h.rows ≡ []
  pub none_out : h.slots ≡ []
  pub roots : addresses h.roots ≡ map (λ r. root_address (table_of no_homes g) r.holds) g.roots
  pub space : IsSpace (lists_of h.regions)
  pub sound : IsSound m
  pub live : IsTrue (is_live m t)
