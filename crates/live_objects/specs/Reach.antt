-- Which objects are reached: those at the end of a path of references that aren't weak, through objects that aren't immune.
use Rattle.std.specs.Prelude.{◌≡◌, ℕ, ◌<◌, ◌^◌, ◌++◌, Bool, true, false, ◌&&◌, ◌||◌, not, IsTrue, List, [], ◌∷◌, map, filter, Option, None, Some, is_some, ℤ, pos}
use Rattle.std.specs.List.{Contains}
use Rattle.class_layout.specs.declared.kind.FieldAt.{FieldAt}
use Rattle.class_layout.specs.declared.kind.Kind.TheVariants.{Ref}
use Rattle.class_layout.specs.ClassList.{Class}
use Rattle.class_layout.specs.Placing.{IsIn}
use Rattle.page_tables.specs.declared.address.Addr.{Addr}
use Rattle.page_tables.specs.declared.address.Window.TheVariants.{Large}
use Rattle.page_tables.specs.Address.{page_of, is_in}
use Rattle.cow_pages.specs.View.{View}
use Rattle.heap_graph.specs.Places.{places_of}
use Rattle.object_view.specs.declared.names.Slot.{Slot}
use Rattle.raw_objects.specs.Raws.{HoldsRaws, Raws, raw_size}
use Rattle.raw_objects.specs.References.{in_regions}
use Rattle.region_lists.specs.Rows.{Row}
use Rattle.region_space.specs.Pages.{IsObjectIn}
use Rattle.large_objects.specs.declared.rows.LargeRow.{LargeRow}
use Rattle.large_objects.specs.Rows.{row_at, waits}

-- the address lies in the window of large objects
abbrev pub in_large : ℕ → Bool
in_large a = is_in Large (page_of a)

-- a large object that isn't promoted stands in the slot
abbrev pub waits_in : Option LargeRow → Bool
waits_in None = false
waits_in (Some row) = waits row

-- what stands at the address isn't immune: it lies in the regions, or in the slot of a large object that isn't promoted
abbrev pub is_mortal : List LargeRow → ℕ → Bool
is_mortal rows a = in_regions a || waits_in (row_at rows a)

-- an object that isn't immune begins at the address
abbrev pub is_node : List LargeRow → Raws → ℕ → Bool
is_node rows raws a = raws.has a && is_mortal rows a

-- the object at `a` has a reference that isn't weak, and it holds the object at `b`, which isn't immune
pub record Holds (cs : List Class) (rows : List LargeRow) (raws : Raws) (a b : ℕ) : Type 0 where
  pub place : FieldAt
  pub is_in : IsIn place (places_of cs (raws.raw a).shape)
  pub kind_is : place.kind ≡ Ref
  pub strong : place.weak ≡ false
  pub target_is : (raws.raw a).values place ≡ pos b
  pub node : is_node rows raws b ≡ true

abbrev pub is_strong : Slot → Bool
is_strong slot = not slot.weak

-- where a path may start: what the roots hold, and what the slots hold that aren't weak
abbrev pub starts_of : List Addr → List Slot → List ℕ
starts_of roots slots = map (λ root. root.0) roots ++ map (λ slot. slot.target.0) (filter is_strong slots)

-- a path to `b` from a start, through the objects at these addresses, the last one first
abbrev pub Path : List Class → List LargeRow → Raws → List ℕ → ℕ → List ℕ → Type 0
Path cs rows raws starts b [] = Contains starts b × (is_node rows raws b ≡ true)
Path cs rows raws starts b (a ∷ before) = Holds cs rows raws a b × Path cs rows raws starts a before

-- the object at `b` is reached
abbrev pub Reached : List Class → List LargeRow → Raws → List ℕ → ℕ → Type 0
Reached cs rows raws starts b = (before : List ℕ) × Path cs rows raws starts b before

-- an address in the regions or in the window of large objects is that of an object
pub record IsFound (raws : Raws) (n : ℕ) : Type 0 where
  pub young : in_regions n ≡ true → raws.has n ≡ true
  pub large : in_large n ≡ true → raws.has n ≡ true

-- a reference's value: 0 for null, or an address that is found
pub record IsHeld (raws : Raws) (z : ℤ) : Type 0 where
  pub address : ℕ
  pub is : z ≡ pos address
  pub below : address < 2 ^ 32
  pub found : IsFound raws address

-- when live objects can be marked: memory holds the objects, those in the regions lie in rows in use, each large one has a
-- row, and where a path may start or go on, it is known what stands there
pub record CanMark (cs : List Class) (v : View) (raws : Raws) (in_use : List Row) (rows : List LargeRow) (starts : List ℕ) : Type 0 where
  pub holds : HoldsRaws cs v raws
  pub young : (a : ℕ) → raws.has a ≡ true → in_regions a ≡ true → IsObjectIn in_use a (raw_size cs raws a)
  pub large : (a : ℕ) → raws.has a ≡ true → in_large a ≡ true → IsTrue (is_some (row_at rows a))
  pub first : (n : ℕ) → Contains starts n → IsFound raws n
  pub targets : (a : ℕ) (p : FieldAt) → is_node rows raws a ≡ true → IsIn p (places_of cs (raws.raw a).shape) → p.kind ≡ Ref → IsHeld raws ((raws.raw a).values p)
