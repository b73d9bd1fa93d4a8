-- References to objects that may have moved, and what they become.
use Rattle.std.specs.Prelude.{◌≡◌, ℕ, zero, suc, ◌+◌, ◌^◌, ◌<◌, Bool, true, false, ◌||◌, if◌then◌else◌, nat_eq, List, Option, Some, None, ℤ, pos, negsuc}
use Rattle.class_layout.specs.declared.kind.Kind.TheVariants.{Ref}
use Rattle.class_layout.specs.declared.kind.FieldAt.{FieldAt}
use Rattle.class_layout.specs.ClassList.{Class}
use Rattle.class_layout.specs.Kinds.{is_ref}
use Rattle.class_layout.specs.Placing.{IsIn}
use Rattle.page_tables.specs.declared.address.Window.TheVariants.{Regions}
use Rattle.page_tables.specs.Address.{page_of, is_in}
use Rattle.cow_pages.specs.View.{View}
use Rattle.heap_graph.specs.declared.names.Shape.{Shape}
use Rattle.object_view.specs.declared.names.Header.{Header}
use Rattle.object_view.specs.declared.names.Header.TheVariants.{Number, Forward}
use Rattle.heap_graph.specs.Places.{places_of}
use Rattle.object_view.specs.Objects.{reference_count, reference_place, HasHeader}
use Rattle.raw_objects.specs.Raws.{HoldsRaws, Raw, Raws}

-- the address lies in the window of regions
abbrev pub in_regions : ℕ → Bool
in_regions a = is_in Regions (page_of a)

-- where an object of the regions is after the others moved out: nowhere, if it has its number still
abbrev pub now_at : Header → ℕ
now_at (Number n) = 0
now_at (Forward to) = to.0

-- the new address of what stands at an address: only objects of the regions move
abbrev pub goes : Raws → ℕ → ℕ
goes raws a = if in_regions a then now_at (raws.raw a).header else a

-- the address that a reference's value is
abbrev pub address_in : ℤ → ℕ
address_in (pos n) = n
address_in (negsuc n) = 0

-- a value turned to the new address of its target, where it is a reference
abbrev pub turned : Raws → FieldAt → ℤ → ℤ
turned raws p z = if is_ref p.kind then pos (goes raws (address_in z)) else z

-- an object whose references are turned where they stand at an address that passes the test
abbrev pub turned_raw : Raws → (ℕ → Bool) → ℕ → Raw → Raw
turned_raw raws test at r = record r { values = λ p. if test (at + p.offset) then turned raws p (r.values p) else r.values p }

-- the references at the addresses that pass the test are turned
abbrev pub turned_where : Raws → (ℕ → Bool) → Raws
turned_where raws test = record { has = raws.has; raw = λ a. turned_raw raws test a (raws.raw a) }

-- the place of an object stands at the address
abbrev pub stands_at : Option FieldAt → ℕ → ℕ → Bool
stands_at None at b = false
stands_at (Some p) at b = nat_eq (at + p.offset) b

-- one of an object's first k references stands at the address
abbrev pub is_first_reference : List Class → Shape → ℕ → ℕ → ℕ → Bool
is_first_reference cs shape at zero b = false
is_first_reference cs shape at (suc k) b = stands_at (reference_place cs shape k) at b || is_first_reference cs shape at k b

-- a reference of an object stands at the address
abbrev pub is_reference : List Class → Shape → ℕ → ℕ → Bool
is_reference cs shape at b = is_first_reference cs shape at (reference_count cs shape) b

-- a reference's value: 0 for null, or an address; one in the regions is that of an object
pub record IsTarget (raws : Raws) (z : ℤ) : Type 0 where
  pub address : ℕ
  pub is : z ≡ pos address
  pub below : address < 2 ^ 32
  pub stands : in_regions address ≡ true → raws.has address ≡ true

-- a reference to the target stands at the address, in one of the objects
pub record IsSlotIn (cs : List Class) (raws : Raws) (at target : ℕ) : Type 0 where
  pub object : ℕ
  pub place : FieldAt
  pub has : raws.has object ≡ true
  pub is_in : IsIn place (places_of cs (raws.raw object).shape)
  pub kind_is : place.kind ≡ Ref
  pub at_is : at ≡ object + place.offset
  pub target_is : pos target ≡ (raws.raw object).values place
  pub stands : in_regions target ≡ true → raws.has target ≡ true

-- memory holds objects of which some references are turned, but none of this object's
pub record IsTurnable (cs : List Class) (v : View) (raws : Raws) (done : ℕ → Bool) (at : ℕ) : Type 0 where
  pub holds : HoldsRaws cs v (turned_where raws done)
  pub has : raws.has at ≡ true
  pub targets : (p : FieldAt) → IsIn p (places_of cs (raws.raw at).shape) → p.kind ≡ Ref → IsTarget raws ((raws.raw at).values p)
  pub undone : (p : FieldAt) → IsIn p (places_of cs (raws.raw at).shape) → p.kind ≡ Ref → done (at + p.offset) ≡ false

-- a target in the regions has a header
abbrev pub IsReadable : View → ℕ → Type 0
IsReadable v target = in_regions target ≡ true → (header : Header) × HasHeader v target header
