-- A process stands in memory for a part of the world.
use Rattle.std.specs.Prelude.{◌≡◌, ◌==◌, ℕ, ◌≤◌, Bool, true, false, IsTrue, [], map, length}
use Rattle.std.specs.List.{list_any}
use Rattle.page_tables.specs.declared.address.Window.TheVariants as window
use Rattle.page_tables.specs.Address.{is_in}
use Rattle.cow_pages.specs.Memory.{is_mapped, is_written, HasOneSharer, Memory}
use Rattle.heap_graph.specs.declared.names.Place.{Place}
use Rattle.heap_graph.specs.declared.names.Place.TheVariants.{Image, Zygote, Young, Large, Promoted}
use Rattle.heap_graph.specs.declared.names.Root.{Root}
use Rattle.heap_graph.specs.Graph.{image_fill, Graph, Object}
use Rattle.heap_world.specs.declared.names.PageName.{PageName}
use Rattle.heap_world.specs.Pages.{is_touched, promoted_pages}
use Rattle.heap_world.specs.Part.{Part}
use Rattle.heap_world.specs.Sound.{IsSound}
use Rattle.world_laws.specs.Named.{stands, waits}
use Rattle.world_laws.specs.Outward.{NotesWithin, TouchesOutward}
use Rattle.mark_bitmap.specs.Marks.{is_marked}
use Rattle.image_space.specs.Space as image
use Rattle.zygote_space.specs.Space as zygote
use Rattle.graph_pages.specs.Pages.{page_named}
use Rattle.evacuate.specs.Stands.{HoldsHeap}
use Rattle.zygote_compact.specs.Spots.{HasSpots}
use Rattle.root_list.specs.declared.root.RootAt.{RootAt}
use Rattle.process_state.specs.State.{addresses_in, heap_of, State}
use Rattle.process_state.specs.Cards.{NotesCards}

-- an object at this place stands at this spot of the image
abbrev pub is_image_spot : ℕ → Place → Bool
is_image_spot q (Image spot) = q == spot
is_image_spot q (Zygote spot) = false
is_image_spot q Young = false
is_image_spot q Large = false
is_image_spot q Promoted = false

-- the image ends where the graph's does, and its starts are the spots of the graph's image objects
pub record HasImage (s : image.Space) (g : Graph) : Type 0 where
  pub fill : s.fill ≡ image_fill g
  pub starts : (q : ℕ) → is_marked s.starts q ≡ list_any (λ (o : Object). is_image_spot q o.place) g.objects

-- the process has the graph's root names, numbers and counts
pub record HasCounts (s : State) (g : Graph) : Type 0 where
  pub names : map (λ (r : RootAt). r.name) s.roots ≡ map (λ (r : Root). r.name) g.roots
  pub next : s.next ≡ g.next
  -- the first number is 1
  pub numbered : 1 ≤ s.next
  pub budget : s.budget ≡ g.budget
  pub is_sealed : s.sealed ≡ g.sealed
  pub dumps : s.dumps ≡ g.dumps
  pub objects : s.objects ≡ length g.objects
  pub promoted : s.promoted_pages ≡ length (promoted_pages g)

-- the flags of its pages
pub record HasFlags (s : State) (m : Memory) (p : Part) : Type 0 where
  -- once the process is sealed, a page that others may share has its flag set exactly where the process touched it
  pub touched : (a : PageName) → p.graph.sealed ≡ true → stands p.graph a ≡ true → is_written m s.page_table (page_named (addresses_in s p.graph) a) ≡ is_touched p.touched a
  -- each page of a large object that isn't promoted has its flag set
  pub waiting : (a : PageName) → waits p.graph a ≡ true → IsTrue (is_written m s.page_table (page_named (addresses_in s p.graph) a))

-- the process stands in memory for a part: its pages hold the graph, and what it keeps is that of the graph
pub record StandsIn (s : State) (m : Memory) (p : Part) : Type 0 where
  pub lives : p.exited ≡ false
  pub part : IsSound p
  pub outward : TouchesOutward p
  pub within : NotesWithin p
  pub counts : HasCounts s p.graph
  pub heap : HoldsHeap (heap_of s []) m s.page_table p.graph
  pub flags : HasFlags s m p
  pub cards : NotesCards s p
  -- before the seal no other process has a page of the image
  pub alone : (q : ℕ) → p.graph.sealed ≡ false → is_in window.Image q ≡ true → IsTrue (is_mapped m s.page_table q) → HasOneSharer m s.page_table q
  pub image_is : image.IsSpace s.image
  pub zygote_is : zygote.IsSpace s.zygote
  pub image : HasImage s.image p.graph
  pub zygote : HasSpots s.zygote p.graph
