-- The objects of a graph in memory, under a table of their addresses.
use Rattle.std.specs.Prelude.{◌≡◌, ◌⊎◌, ℕ, ◌+◌, ◌<◌, ◌≤◌, Bool, true, nat_eq, List, [], unwrap_or}
use Rattle.std.specs.List.{find, list_any}
use Rattle.class_layout.specs.declared.kind.Kind.TheVariants.{Boolean}
use Rattle.class_layout.specs.declared.kind.FieldAt.{FieldAt}
use Rattle.class_layout.specs.ClassList.{Class}
use Rattle.class_layout.specs.Placing.{IsIn}
use Rattle.cow_pages.specs.View.{View}
use Rattle.heap_graph.specs.declared.names.Place.TheVariants.{Young}
use Rattle.heap_graph.specs.declared.names.Shape.TheVariants.{Array}
use Rattle.heap_graph.specs.Graph.{Object}
use Rattle.heap_graph.specs.Sizes.{size_in}
use Rattle.object_view.specs.declared.names.Header.TheVariants.{Number}
use Rattle.object_view.specs.Objects.{IsKnown}
use Rattle.object_view.specs.Seen.{value_in}
use Rattle.raw_objects.specs.Raws.{Raw, Raws, SameRaw, StandsRaw}

-- an object as memory holds it: with its number, and with addresses for the objects that its slots hold
abbrev pub raw_under : (ℕ → ℕ) → Object → Raw
raw_under table o = record { shape = o.shape; header = Number o.number; values = value_in table o }

-- memory holds the objects: each stands at its address, its class is there, and it ends before the next one begins
pub record HoldsGraph (cs : List Class) (v : View) (table : ℕ → ℕ) (os : List Object) : Type 0 where
  pub known : (o : Object) → IsIn o os → IsKnown cs o.shape
  pub stands : (o : Object) → IsIn o os → StandsRaw cs v (table o.number) (raw_under table o)
  pub apart : (o p : Object) → IsIn o os → IsIn p os → table o.number < table p.number → table o.number + size_in cs o.shape ≤ table p.number

-- what stands for an object where there is none
abbrev pub no_object : Object
no_object = record { number = 0; shape = Array Boolean 0; slots = []; place = Young }

-- the object stands at the address
abbrev pub is_at : (ℕ → ℕ) → ℕ → Object → Bool
is_at table a o = nat_eq (table o.number) a

-- the first of the objects that stands at an address
abbrev pub object_on : (ℕ → ℕ) → List Object → ℕ → Object
object_on table os a = unwrap_or (find (is_at table a) os) no_object

-- the objects as raw ones, by their addresses
abbrev pub raws_under : (ℕ → ℕ) → List Object → Raws
raws_under table os = record { has = λ a. list_any (is_at table a) os; raw = λ a. raw_under table (object_on table os a) }

-- each of the objects is among the raw ones, at its address
abbrev pub AreAmong : List Class → Raws → (ℕ → ℕ) → List Object → Type 0
AreAmong cs raws table os = (o : Object) → IsIn o os → (raws.has (table o.number) ≡ true) × SameRaw cs (raws.raw (table o.number)) (raw_under table o)

-- two objects stand at two addresses
abbrev pub TellsApart : (ℕ → ℕ) → List Object → Type 0
TellsApart table os = (o p : Object) → IsIn o os → IsIn p os → table o.number ≡ table p.number → o ≡ p

-- the tables have the same address for each of the objects, and for each that a slot of them holds
pub record SameTable (table next : ℕ → ℕ) (os : List Object) : Type 0 where
  pub numbers : (o : Object) → IsIn o os → next o.number ≡ table o.number
  pub values : (o : Object) (p : FieldAt) → IsIn o os → value_in next o p ≡ value_in table o p

-- none of so many bytes from an address on is one of the objects'
abbrev pub IsBeside : List Class → (ℕ → ℕ) → List Object → ℕ → ℕ → Type 0
IsBeside cs table os at size = (o : Object) → IsIn o os → (table o.number + size_in cs o.shape ≤ at) ⊎ (at + size ≤ table o.number)
