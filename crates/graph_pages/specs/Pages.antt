-- Which pages of a table are mapped for a graph, and a graph held by them.
use Rattle.std.specs.Prelude.{◌≡◌, ℕ, ◌+◌, ◌-◌, Bool, true, ◌&&◌, nat_le, List, []}
use Rattle.std.specs.List.{list_any}
use Rattle.class_layout.specs.ClassList.{Class}
use Rattle.page_tables.specs.declared.address.Window.{Window}
use Rattle.page_tables.specs.declared.address.Window.TheVariants as window
use Rattle.page_tables.specs.Address.{first_page, is_in, page_of}
use Rattle.cow_pages.specs.Memory.{is_mapped, Memory}
use Rattle.cow_pages.specs.View.{view_of}
use Rattle.heap_graph.specs.declared.names.Place.{Place}
use Rattle.heap_graph.specs.declared.names.Shape.{Shape}
use Rattle.heap_graph.specs.Allocation.{with_object}
use Rattle.heap_graph.specs.Graph.{Graph, Object}
use Rattle.heap_graph.specs.Sizes.{size_in}
use Rattle.heap_world.specs.declared.names.PageName.{PageName}
use Rattle.heap_world.specs.declared.names.PageName.TheVariants.{Image, Zygote, Large}
use Rattle.address_table.specs.Computed.{table_of, Homes}
use Rattle.graph_pages.specs.Holds.{HoldsGraph}

-- the object has bytes in the page
abbrev pub has_bytes_in : List Class → (ℕ → ℕ) → ℕ → Object → Bool
has_bytes_in cs table p o = nat_le (page_of (table o.number)) p && nat_le p (page_of (table o.number + size_in cs o.shape - 1))

-- of a window's pages those are mapped in which some object has bytes, and no other
abbrev pub MapsWindow : Memory → ℕ → Window → List Class → (ℕ → ℕ) → List Object → Type 0
MapsWindow m t w cs table os = (p : ℕ) → is_in w p ≡ true → is_mapped m t p ≡ list_any (has_bytes_in cs table p) os

-- the pages of a table hold a graph: its objects stand at their computed addresses, and the pages of each window are theirs
pub record PagesHold (m : Memory) (t : ℕ) (homes : Homes) (g : Graph) : Type 0 where
  pub objects : HoldsGraph g.classes (view_of m t) (table_of homes g) g.objects
  pub pages : (w : Window) → MapsWindow m t w g.classes (table_of homes g) g.objects

-- there is room for a new object: the others are held, and its pages are mapped too
pub record HasRoomFor (m : Memory) (t : ℕ) (homes : Homes) (g : Graph) (shape : Shape) (place : Place) : Type 0 where
  pub objects : HoldsGraph g.classes (view_of m t) (table_of homes g) g.objects
  pub pages : (w : Window) → MapsWindow m t w g.classes (table_of homes (with_object g shape [] place)) (with_object g shape [] place).objects

-- the page of a page name
abbrev pub page_named : (ℕ → ℕ) → PageName → ℕ
page_named table (Image k) = first_page window.Image + k
page_named table (Zygote k) = first_page window.Zygote + k
page_named table (Large n k) = page_of (table n) + k
