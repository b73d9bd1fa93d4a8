-- Weak references that are listed object by object.
use Rattle.std.specs.Prelude.{◌≡◌, ◌≢◌, ◌↔◌, ◌⊎◌, ℕ, ◌+◌, ◌<◌, ◌≤◌, true, List, length, nat_eq}
use Rattle.std.specs.List.{Contains, IsDistinct}
use Rattle.model_numbers.specs.Numbers.{region_base}
use Rattle.class_layout.specs.declared.kind.FieldAt.{FieldAt}
use Rattle.class_layout.specs.declared.kind.Kind.TheVariants.{Ref}
use Rattle.class_layout.specs.ClassList.{Class}
use Rattle.class_layout.specs.Placing.{IsIn}
use Rattle.page_tables.specs.declared.address.Addr.{Addr}
use Rattle.cow_pages.specs.View.{View}
use Rattle.heap_graph.specs.declared.names.Shape.{Shape}
use Rattle.heap_graph.specs.Places.{places_of}
use Rattle.raw_objects.specs.Raws.{HoldsRaws, Raws}
use Rattle.object_moves.specs.Copies.{at_of}

-- a list holds what it held and exactly these numbers besides, each of them once if it held none of them
pub record Adds (these : ℕ → Type 0) (old new : List ℕ) : Type 0 where
  pub only : (b : ℕ) → Contains new b ↔ (Contains old b ⊎ these b)
  pub once : IsDistinct nat_eq old → ((b : ℕ) → these b → Contains old b → ⊥) → IsDistinct nat_eq new

-- a weak reference of an object of the shape at the first address stands at the second
pub record IsWeakIn (cs : List Class) (shape : Shape) (at b : ℕ) : Type 0 where
  pub place : FieldAt
  pub is_in : IsIn place (places_of cs shape)
  pub kind_is : place.kind ≡ Ref
  pub weak_is : place.weak ≡ true
  pub at_is : b ≡ at + place.offset

-- a weak reference of one of the first k objects at these addresses stands at the address
pub record IsWeakAmong (cs : List Class) (raws : Raws) (ats : List Addr) (k b : ℕ) : Type 0 where
  pub index : ℕ
  pub before : index < k
  pub is : IsWeakIn cs (raws.raw (at_of ats index)).shape (at_of ats index) b

-- memory holds the objects, and one at each of these addresses, which are apart and from the first region on
pub record AreReadable (cs : List Class) (v : View) (raws : Raws) (ats : List Addr) : Type 0 where
  pub holds : HoldsRaws cs v raws
  pub has : (i : ℕ) → i < length ats → raws.has (at_of ats i) ≡ true
  pub above : (i : ℕ) → i < length ats → region_base ≤ at_of ats i
  pub once : (i j : ℕ) → i < j → j < length ats → at_of ats i ≢ at_of ats j
