-- A new object of a process: where it is placed, and what its making leaves.
use Rattle.std.specs.Prelude.{◌≡◌, ℕ, ◌+◌, ◌%◌, Bool, List, []}
use Rattle.page_tables.specs.Address.{page_of}
use Rattle.cow_pages.specs.Memory.{IsSound, Memory}
use Rattle.cow_pages.specs.View.{view_of}
use Rattle.heap_graph.specs.declared.names.Place.{Place}
use Rattle.heap_graph.specs.declared.names.Shape.{Shape}
use Rattle.heap_graph.specs.declared.names.Stored.{Stored}
use Rattle.heap_graph.specs.Allocation.{with_object}
use Rattle.heap_graph.specs.Sizes.{size_in}
use Rattle.heap_world.specs.Part.{Part}
use Rattle.page_runs.specs.Runs.{MapsRun, SeesRun}
use Rattle.image_space.specs.Space as image
use Rattle.region_space.specs.Space as region
use Rattle.large_objects.specs.Rows as large
use Rattle.object_view.specs.Changes.{pages_in, AreAlone, AreWritten}
use Rattle.object_view.specs.Objects.{IsSpace}
use Rattle.raw_objects.specs.Keeps.{Covers, Keeps}
use Rattle.address_table.specs.Computed.{table_of, Homes, HouseAll}
use Rattle.graph_pages.specs.Pages.{HasRoomFor, PagesHold}
use Rattle.evacuate.specs.Stands.{homes_in}
use Rattle.root_list.specs.Roots.{with_root}
use Rattle.process_state.specs.Acts.{Step}
use Rattle.process_state.specs.State.{State}

-- these pages of the process's table were mapped
pub record MapsPages (s : State) (was between : Memory) (first n : ℕ) : Type 0 where
  pub maps : MapsRun was between s.page_table first n
  pub sees : SeesRun (view_of was s.page_table) (view_of between s.page_table) first n
  pub sound : IsSound between

-- an object of so many bytes was placed in the image, and its pages mapped
pub record PlacesInImage (old new : State) (was between : Memory) (at size : ℕ) : Type 0 where
  pub rest : new ≡ record old { image = new.image }
  pub places : image.Places old.image new.image at size
  pub space : image.IsSpace new.image
  pub pages : MapsPages old was between (image.end_page old.image.fill) (image.further_pages old.image.fill (old.image.fill + size))

-- in the regions
pub record PlacesInRegions (old new : State) (was between : Memory) (at size : ℕ) : Type 0 where
  pub rest : new ≡ record old { regions = new.regions }
  pub places : region.Places (region.lists_of old.regions) (region.lists_of new.regions) at size
  pub objects : new.regions.objects ≡ old.regions.objects + 1
  pub space : region.IsSpace (region.lists_of new.regions)
  pub pages : MapsPages old was between (region.further_from old.regions.in_use at size) (region.further_pages old.regions.in_use size)
  pub mapped : region.HasPages between old.page_table (region.filled (region.lists_of new.regions))

-- in a slot of its own; its bytes are not rounded
pub record PlacesInSlot (old new : State) (was between : Memory) (at bytes : ℕ) : Type 0 where
  pub rest : new ≡ record old { rows = new.rows }
  pub places : large.Places old.rows new.rows at old.next bytes
  pub pages : MapsPages old was between (page_of at) (image.pages_up_to bytes)

-- where the process keeps what may stand in several places
abbrev pub homes : State → Homes
homes s = homes_in s.regions.in_use s.rows

-- there is room for the object that was placed: its address is the computed one, and it can be written there
pub record HasPlace (placed : State) (between : Memory) (p : Part) (shape : Shape) (place : Place) (at : ℕ) : Type 0 where
  pub house : HouseAll (homes placed) (with_object p.graph shape [] place)
  pub address : table_of (homes placed) (with_object p.graph shape [] place) p.graph.next ≡ at
  pub room : HasRoomFor between placed.page_table (homes placed) p.graph shape place
  pub aligned : at % 8 ≡ 0
  pub space : IsSpace (view_of between placed.page_table) at (size_in p.graph.classes shape)
  pub alone : AreAlone between placed.page_table (page_of at) (pages_in at (at + size_in p.graph.classes shape))

-- the object that was placed was written, and then its root; the process counts it
pub record IsMade (c : Step) (p : Part) (root : List ℕ) (shape : Shape) (slots : List Stored) (place : Place) (placed : State) (between : Memory) (at : ℕ) : Type 0 where
  pub rest : c.new ≡ record placed { roots = with_root c.old.roots root (record { 0 = at }); next = c.old.next + 1; objects = c.old.objects + 1 }
  pub pages : PagesHold c.now c.old.page_table (homes placed) (with_object p.graph shape slots place)
  pub keeps : (may : ℕ → Bool) → Covers may at (size_in p.graph.classes shape) → Keeps between c.now c.old.page_table may
  pub written : AreWritten c.now c.old.page_table (page_of at) (pages_in at (at + size_in p.graph.classes shape))
  pub sound : IsSound c.now
