-- Which page names have labels in a process: those of pages that stand, and those of large objects that wait for a fork.
use Rattle.std.specs.Prelude.{ℕ, Bool, true, false, ◌&&◌, List, [], nat_eq, nat_lt}
use Rattle.std.specs.List.{flat_map, list_any}
use Rattle.model_numbers.specs.Numbers.{page_bytes}
use Rattle.class_layout.specs.ClassList.{Class}
use Rattle.heap_graph.specs.declared.names.Place.{Place}
use Rattle.heap_graph.specs.declared.names.Place.TheVariants as place
use Rattle.heap_graph.specs.Graph.{Graph, Object, image_fill, zygote_fill}
use Rattle.heap_graph.specs.Sizes.{parts_for, unrounded}
use Rattle.heap_world.specs.declared.names.PageName.{PageName}
use Rattle.heap_world.specs.declared.names.PageName.TheVariants.{Image, Zygote, Large}
use Rattle.heap_world.specs.Pages.{large_pages}

-- the place is in a slot of the object's own
abbrev pub has_slot : Place → Bool
has_slot (place.Image spot) = false
has_slot (place.Zygote spot) = false
has_slot place.Young = false
has_slot place.Large = true
has_slot place.Promoted = true

-- the object waits there for a fork that promotes it
abbrev pub is_waiting : Place → Bool
is_waiting (place.Image spot) = false
is_waiting (place.Zygote spot) = false
is_waiting place.Young = false
is_waiting place.Large = true
is_waiting place.Promoted = false

-- a fork promoted it
abbrev pub is_promoted : Place → Bool
is_promoted (place.Image spot) = false
is_promoted (place.Zygote spot) = false
is_promoted place.Young = false
is_promoted place.Large = false
is_promoted place.Promoted = true

-- the object has the number and the page, and such a place
abbrev pub has_page : (Place → Bool) → List Class → ℕ → ℕ → Object → Bool
has_page at cs n k o = nat_eq o.number n && (at o.place && nat_lt k (parts_for page_bytes (unrounded cs o.shape)))

-- some object has
abbrev pub is_paged : (Place → Bool) → List Class → List Object → ℕ → ℕ → Bool
is_paged at cs os n k = list_any (has_page at cs n k) os

-- the page lies in the image or in the zygote window, or it is of an object in such a place
abbrev pub is_page : (Place → Bool) → Graph → PageName → Bool
is_page at g (Image k) = nat_lt k (parts_for page_bytes (image_fill g))
is_page at g (Zygote k) = nat_lt k (parts_for page_bytes (zygote_fill g))
is_page at g (Large n k) = is_paged at g.classes g.objects n k

-- the page stands, as a list of the pages that stand has it
abbrev pub stands : Graph → PageName → Bool
stands g page = is_page is_promoted g page

-- the page has a label: it stands, or its object waits
abbrev pub is_named : Graph → PageName → Bool
is_named g page = is_page has_slot g page

-- the page is of a large object that waits
abbrev pub waits : Graph → PageName → Bool
waits g (Image k) = false
waits g (Zygote k) = false
waits g (Large n k) = is_paged is_waiting g.classes g.objects n k

-- the pages of waiting objects, as a list
abbrev pub pages_if_waiting : List Class → Object → Place → List PageName
pages_if_waiting cs o (place.Image spot) = []
pages_if_waiting cs o (place.Zygote spot) = []
pages_if_waiting cs o place.Young = []
pages_if_waiting cs o place.Large = large_pages cs o
pages_if_waiting cs o place.Promoted = []

abbrev pub waiting_pages : Graph → List PageName
waiting_pages g = flat_map (λ o. pages_if_waiting g.classes o o.place) g.objects
