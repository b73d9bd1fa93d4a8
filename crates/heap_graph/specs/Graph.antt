-- The graph of a process.
use Rattle.std.specs.Prelude.{ℕ, ◌+◌, ◌-◌, Bool, true, false, not, List, [], ◌∷◌, Option, map, filter, sum, max, nat_eq}
use Rattle.std.specs.List.{find}
use Rattle.model_numbers.specs.Numbers.{zygote_base}
use Rattle.class_layout.specs.ClassList.{Class, builtin_classes}
use Rattle.class_layout.specs.Names.{same_name}
use Rattle.heap_graph.specs.declared.names.Shape.{Shape}
use Rattle.heap_graph.specs.declared.names.Place.{Place}
use Rattle.heap_graph.specs.declared.names.Place.TheVariants.{Image, Zygote, Young, Large, Promoted}
use Rattle.heap_graph.specs.declared.names.Stored.{Stored}
use Rattle.heap_graph.specs.declared.names.Root.{Root}
use Rattle.heap_graph.specs.declared.names.Held.{Held}
use Rattle.heap_graph.specs.Sizes.{size_in}

-- an object: its allocation number, its shape, the slots that were stored to, and its place
pub record Object : Type 0 where
  pub number : ℕ
  pub shape : Shape
  pub slots : List Stored
  pub place : Place

-- the graph of a process; its objects stand by rising number, its roots in the order in which they were first written
pub record Graph : Type 0 where
  pub classes : List Class
  -- the allocation number of the next object
  pub next : ℕ
  -- how many regions the process may use
  pub budget : ℕ
  pub sealed : Bool
  -- how often the process was dumped
  pub dumps : ℕ
  pub roots : List Root
  pub objects : List Object

-- a process without objects
abbrev pub first_graph : ℕ → ℕ → Graph
first_graph budget number =
    record { classes = builtin_classes; next = number; budget = budget; sealed = false; dumps = 0; roots = []; objects = [] }

-- an object is immune in the zygote's places, and in the image once that is sealed
abbrev pub is_immune : Bool → Place → Bool
is_immune sealed (Image spot) = sealed
is_immune sealed (Zygote spot) = true
is_immune sealed Young = false
is_immune sealed Large = false
is_immune sealed Promoted = true

abbrev pub is_young : Place → Bool
is_young (Image spot) = false
is_young (Zygote spot) = false
is_young Young = true
is_young Large = false
is_young Promoted = false

abbrev pub size_of_object : List Class → Object → ℕ
size_of_object cs o = size_in cs o.shape

-- the object of a number
abbrev pub object_at : Graph → ℕ → Option Object
object_at g n = find (λ o. nat_eq o.number n) g.objects

-- the root of a name
abbrev pub root_at : List Root → List ℕ → Option Root
root_at roots name = find (λ r. same_name r.name name) roots

abbrev pub write_first : Bool → Root → List ℕ → Held → List Root → List Root → List Root
write_first true r name holds rest written = record { name = r.name; holds = holds } ∷ rest
write_first false r name holds rest written = r ∷ written

-- a root holds something else: in its old place, or last
abbrev pub write_root : List Root → List ℕ → Held → List Root
write_root [] name holds = record { name = name; holds = holds } ∷ []
write_root (r ∷ rs) name holds = write_first (same_name r.name name) r name holds rs (write_root rs name holds)

-- a root leaves the list
abbrev pub drop_root : List Root → List ℕ → List Root
drop_root roots name = filter (λ r. not (same_name r.name name)) roots

-- the bytes of the image's objects
abbrev pub image_size : List Class → Object → Place → ℕ
image_size cs o (Image spot) = size_of_object cs o
image_size cs o (Zygote spot) = 0
image_size cs o Young = 0
image_size cs o Large = 0
image_size cs o Promoted = 0

abbrev pub image_fill : Graph → ℕ
image_fill g = sum (map (λ o. image_size g.classes o o.place) g.objects)

-- where an object of the zygote window ends, from the window's start
abbrev pub zygote_end : List Class → Object → Place → ℕ
zygote_end cs o (Image spot) = 0
zygote_end cs o (Zygote spot) = spot + size_of_object cs o - zygote_base
zygote_end cs o Young = 0
zygote_end cs o Large = 0
zygote_end cs o Promoted = 0

abbrev pub greatest : List ℕ → ℕ
greatest [] = 0
greatest (n ∷ ns) = max n (greatest ns)

-- the greatest end of an object of the zygote window
abbrev pub zygote_fill : Graph → ℕ
zygote_fill g = greatest (map (λ o. zygote_end g.classes o o.place) g.objects)
