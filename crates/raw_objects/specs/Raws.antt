-- Objects as memory holds them, by their addresses. No graph stands behind them.
use Rattle.std.specs.Prelude.{◌≡◌, ◌⊎◌, ℕ, ◌+◌, ◌<◌, ◌≤◌, Bool, true, ◌&&◌, ◌||◌, if◌then◌else◌, nat_eq, List, ℤ}
use Rattle.class_layout.specs.declared.kind.FieldAt.{FieldAt}
use Rattle.class_layout.specs.ClassList.{Class}
use Rattle.class_layout.specs.Placing.{IsIn}
use Rattle.page_tables.specs.Address.{page_of}
use Rattle.cow_pages.specs.View.{View}
use Rattle.heap_graph.specs.declared.names.Shape.{Shape}
use Rattle.heap_graph.specs.Sizes.{size_in}
use Rattle.object_view.specs.declared.names.Header.{Header}
use Rattle.object_view.specs.declared.names.Header.TheVariants.{Number, Forward}
use Rattle.heap_graph.specs.Places.{places_of}
use Rattle.object_view.specs.Objects.{IsKnown, Stands}
use Rattle.object_view.specs.Values.{no_values, with_value}

-- an object: its shape, its number or where it went, and the values at its places
pub record Raw : Type 0 where
  pub shape : Shape
  pub header : Header
  pub values : FieldAt → ℤ

-- whether an object begins at an address, and which one
pub record Raws : Type 0 where
  pub has : ℕ → Bool
  pub raw : ℕ → Raw

-- the object stands at the address
abbrev pub StandsRaw : List Class → View → ℕ → Raw → Type 0
StandsRaw cs v at r = Stands cs v at r.shape r.header r.values

-- how many bytes the object at an address takes
abbrev pub raw_size : List Class → Raws → ℕ → ℕ
raw_size cs raws at = size_in cs (raws.raw at).shape

-- memory holds these objects: each stands, its class is there, and it ends before the next one begins
pub record HoldsRaws (cs : List Class) (v : View) (raws : Raws) : Type 0 where
  pub known : (a : ℕ) → raws.has a ≡ true → IsKnown cs (raws.raw a).shape
  pub stands : (a : ℕ) → raws.has a ≡ true → StandsRaw cs v a (raws.raw a)
  pub apart : (a b : ℕ) → raws.has a ≡ true → raws.has b ≡ true → a < b → a + raw_size cs raws a ≤ b

-- none of so many bytes from an address on is an object's
abbrev pub IsFreeSpace : List Class → Raws → ℕ → ℕ → Type 0
IsFreeSpace cs raws at size = (a : ℕ) → raws.has a ≡ true → (a + raw_size cs raws a ≤ at) ⊎ (at + size ≤ a)

-- no object has a byte in the page
abbrev pub IsOffPage : List Class → Raws → ℕ → Type 0
IsOffPage cs raws p = (a i : ℕ) → raws.has a ≡ true → i < raw_size cs raws a → page_of (a + i) ≡ p → ⊥

-- the same object, with the same value at each of its places
pub record SameRaw (cs : List Class) (old new : Raw) : Type 0 where
  pub shape : new.shape ≡ old.shape
  pub header : new.header ≡ old.header
  pub values : (p : FieldAt) → IsIn p (places_of cs old.shape) → new.values p ≡ old.values p

-- the same objects at the same addresses
pub record SameRaws (cs : List Class) (old new : Raws) : Type 0 where
  pub has : (a : ℕ) → new.has a ≡ old.has a
  pub raw : (a : ℕ) → old.has a ≡ true → SameRaw cs (old.raw a) (new.raw a)

-- another object at an address where one begins
abbrev pub changed : Raws → ℕ → Raw → Raws
changed raws at x = record { has = raws.has; raw = λ a. if nat_eq a at then x else raws.raw a }

-- one object more
abbrev pub added : Raws → ℕ → Raw → Raws
added raws at x = record { has = λ a. nat_eq a at || raws.has a; raw = λ a. if nat_eq a at then x else raws.raw a }

-- a new object, without values yet
abbrev pub new_raw : Shape → ℕ → Raw
new_raw shape number = record { shape = shape; header = Number number; values = no_values }

-- an object with one value stored
abbrev pub stored_raw : Raw → ℕ → ℤ → Raw
stored_raw r offset z = record r { values = with_value r.values offset z }

-- one value of one object is stored
abbrev pub stored : Raws → ℕ → ℕ → ℤ → Raws
stored raws at offset z = changed raws at (stored_raw (raws.raw at) offset z)

-- an object whose header tells where it went
abbrev pub forwarded_raw : Raw → ℕ → Raw
forwarded_raw r to = record r { header = Forward (record { 0 = to }) }

-- the object at `from` has a copy at `to`, and tells so
abbrev pub evacuated : Raws → ℕ → ℕ → Raws
evacuated raws from to = changed (added raws to (raws.raw from)) from (forwarded_raw (raws.raw from) to)

-- those of the objects whose address passes a test
abbrev pub among : Raws → (ℕ → Bool) → Raws
among raws test = record { has = λ a. raws.has a && test a; raw = raws.raw }
