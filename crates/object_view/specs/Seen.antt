-- What a dump sees of a heap: a graph whose references are addresses.
use Rattle.std.specs.Prelude.{◌≡◌, ◌≢◌, ℕ, ◌+◌, ◌<◌, ◌≤◌, slice_get, Bool, true, false, ◌&&◌, ◌||◌, List, Option, None, Some, nat_le, nat_lt, ℤ, pos}
use Rattle.std.specs.List.{list_any}
use Rattle.model_numbers.specs.Numbers.{image_base, image_length, zygote_base, zygote_length}
use Rattle.class_layout.specs.declared.kind.Kind.{Kind}
use Rattle.class_layout.specs.declared.kind.FieldAt.{FieldAt}
use Rattle.class_layout.specs.Placing.{IsIn}
use Rattle.heap_graph.specs.declared.names.Held.{Held}
use Rattle.heap_graph.specs.declared.names.Held.TheVariants as held
use Rattle.heap_graph.specs.declared.names.Place.{Place}
use Rattle.heap_graph.specs.declared.names.Place.TheVariants as place
use Rattle.heap_graph.specs.declared.names.Content.{Content}
use Rattle.heap_graph.specs.declared.names.Content.TheVariants as content
use Rattle.heap_graph.specs.Graph.{Graph, Object}
use Rattle.heap_graph.specs.Sizes.{is_too_large}
use Rattle.heap_graph.specs.Table.{Fits, in_spot_window}
use Rattle.heap_graph.specs.Values.{value_at}
use Rattle.object_view.specs.declared.names.Heap.{Heap}
use Rattle.object_view.specs.declared.names.Heap.TheVariants as heap
use Rattle.object_view.specs.declared.heap_view.Seen.{Seen}
use Rattle.object_view.specs.Objects.{IsKnown, IsPlace}

-- the heap in which a dump shows an object of the place
abbrev pub heap_of : Place → Heap
heap_of (place.Image spot) = heap.Image
heap_of (place.Zygote spot) = heap.Zygote
heap_of place.Young = heap.App
heap_of place.Large = heap.App
heap_of place.Promoted = heap.Zygote

-- a root's reference as an address; null is 0
abbrev pub root_address : (ℕ → ℕ) → Held → ℕ
root_address table held.Null = 0
root_address table (held.Object n) = table n

-- what a slot holds as a number: a reference is an address, and null is 0
abbrev pub seen_value : (ℕ → ℕ) → Content → ℤ
seen_value table (content.Number z) = z
seen_value table content.Null = pos 0
seen_value table (content.Object n) = pos (table n)

-- what stands at a place of an object; 0 or null where nothing was stored
abbrev pub value_in : (ℕ → ℕ) → Object → FieldAt → ℤ
value_in table o at = seen_value table (value_at o.slots at)

-- an object with its number, its address, its heap and its shape
abbrev pub seen_of : (ℕ → ℕ) → Object → Seen
seen_of table o = record { number = o.number; at = record { 0 = table o.number }; heap = heap_of o.place; shape = o.shape }

-- the object stands at the address, and a value of the kind stands at that place of it
pub record HasValue (g : Graph) (table : ℕ → ℕ) (at : ℕ) (kind : Kind) (offset : ℕ) (o : Object) (place : FieldAt) : Type 0 where
  pub is_in : IsIn o g.objects
  pub at_is : table o.number ≡ at
  pub is_place : IsPlace g.classes o.shape kind offset place

-- what a view says of its graph and table: the objects stand by rising number, their classes are there, none is too large,
-- none stands at the address of null, and the table fits
pub record IsShown (g : Graph) (table : ℕ → ℕ) : Type 0 where
  pub rising : (i j : ℕ) (a b : Object) → i < j → slice_get g.objects i ≡ Some a → slice_get g.objects j ≡ Some b → a.number < b.number
  pub known : (o : Object) → IsIn o g.objects → IsKnown g.classes o.shape
  pub small : (o : Object) → IsIn o g.objects → is_too_large g.classes o.shape ≡ false
  pub not_null : (o : Object) → IsIn o g.objects → table o.number ≢ 0
  pub fits : Fits table g

-- an address lies in the image or in the zygote window
abbrev pub is_in_window : ℕ → Bool
is_in_window at =
    nat_le image_base at && nat_lt at (image_base + image_length) || nat_le zygote_base at && nat_lt at (zygote_base + zygote_length)

-- so many, where the test holds
abbrev pub count_if : Bool → ℕ → ℕ
count_if true n = n
count_if false n = 0

-- a count of reads rose by at most so many
pub record RoseBy (limit before now : ℕ) : Type 0 where
  pub never_falls : before ≤ now
  pub most : now ≤ before + limit

-- an object stands in the image or in the zygote window
abbrev pub has_spots : List Object → Bool
has_spots os = list_any (λ o. in_spot_window o.place) os

-- the reads of one step of the walk: 3 at most, for an object of the image or of the zygote window
abbrev pub step_reads : Option Object → ℕ
step_reads None = 0
step_reads (Some o) = count_if (in_spot_window o.place) 3
