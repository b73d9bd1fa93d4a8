-- What holds of the graph of each process, after every line.
use Rattle.std.specs.Prelude.{◌≡◌, ℕ, ◌+◌, ◌-◌, ◌*◌, ◌<◌, ◌≤◌, ◌⊎◌, Bool, true, false, ◌||◌, ◌&&◌, List, [], ◌∷◌, ◌++◌, Option, None, Some, length, nat_eq, slice_get, unwrap_or}
use Rattle.std.specs.List.{list_any, AllByRecursion, IsDistinct}
use Rattle.model_numbers.specs.Numbers.{image_base, image_length, zygote_base, zygote_length, page_bytes, most_regions, number_limit}
use Rattle.class_layout.specs.declared.kind.Kind.{Kind}
use Rattle.class_layout.specs.declared.kind.FieldAt.{FieldAt}
use Rattle.class_layout.specs.ClassList.{Class, IsClassList, layout_of}
use Rattle.class_layout.specs.Kinds.{first_element, in_range, is_ref, kind_bytes, next_multiple}
use Rattle.class_layout.specs.Layout.{field_named}
use Rattle.class_layout.specs.Names.{same_name}
use Rattle.heap_graph.specs.declared.names.Place.{Place}
use Rattle.heap_graph.specs.declared.names.Place.TheVariants as place
use Rattle.heap_graph.specs.declared.names.Shape.{Shape}
use Rattle.heap_graph.specs.declared.names.Shape.TheVariants.{Instance, Array}
use Rattle.heap_graph.specs.declared.names.Content.{Content}
use Rattle.heap_graph.specs.declared.names.Content.TheVariants as content
use Rattle.heap_graph.specs.declared.names.Stored.{Stored}
use Rattle.heap_graph.specs.Graph.{Graph, Object, image_fill, image_size, size_of_object, zygote_fill}
use Rattle.heap_graph.specs.Packing.{costs, used}
use Rattle.heap_graph.specs.Paths.{IsClosed}
use Rattle.heap_graph.specs.Sizes.{is_large, is_too_large}

-- numbers rise, the first from low on, and all lie below the next one
abbrev pub AreRising : ℕ → ℕ → List Object → Type 0
AreRising low next [] = low ≤ next
AreRising low next (o ∷ os) = (low ≤ o.number) × AreRising (o.number + 1) next os

-- the shape is of a class that stands, and not too large
abbrev pub IsShape : List Class → Shape → Type 0
IsShape cs (Instance class) = (class < length cs) × (is_too_large cs (Instance class) ≡ false)
IsShape cs (Array kind count) = is_too_large cs (Array kind count) ≡ false

-- the shape has a slot there: a field of its class or of a superclass, or an element
abbrev pub HasSlot : List Class → Shape → FieldAt → Type 0
HasSlot cs (Instance class) at = (name : List ℕ) × (field_named (layout_of cs class) name ≡ Some at)
HasSlot cs (Array kind count) at =
    (i : ℕ) × (i < count) × (at ≡ record { kind = kind; offset = first_element kind + i * kind_bytes kind; weak = false })

-- each slot that was stored to is a slot of the shape, and is there once
abbrev pub AreSlots : List Class → Shape → List Stored → Type 0
AreSlots cs shape [] = Unit {0}
AreSlots cs shape (s ∷ ss) = HasSlot cs shape s.at × (list_any (λ r. nat_eq r.at.offset s.at.offset) ss ≡ false) × AreSlots cs shape ss

abbrev pub AreObjects : List Class → List Object → Type 0
AreObjects cs [] = Unit {0}
AreObjects cs (o ∷ os) = IsShape cs o.shape × AreSlots cs o.shape o.slots × AreObjects cs os

-- what a slot of a kind may hold: a number in the kind's range, and for a reference null or an object
abbrev pub FitsKind : Kind → Content → Type 0
FitsKind kind (content.Number z) = in_range kind z ≡ true
FitsKind kind content.Null = is_ref kind ≡ true
FitsKind kind (content.Object n) = is_ref kind ≡ true

-- each stored value fits its slot
abbrev pub HoldsValues : Object → Type 0
HoldsValues o = AllByRecursion (λ s. FitsKind s.at.kind s.value) o.slots

-- the superclass is class 1 or below it, given the same of the classes before
abbrev pub has_weak_parent : List Bool → Option ℕ → Bool
has_weak_parent done None = false
has_weak_parent done (Some p) = unwrap_or (slice_get done p) false

-- whether each class is class 1 or below it, given the same of the classes before
abbrev pub weak_classes_after : List Bool → List Class → List Bool
weak_classes_after done [] = done
weak_classes_after done (c ∷ cs) = weak_classes_after (done ++ (nat_eq (length done) 1 || has_weak_parent done c.parent) ∷ []) cs

-- the class of a number is that of weak references, or below it
abbrev pub is_weak_class : List Class → ℕ → Bool
is_weak_class cs k = unwrap_or (slice_get (weak_classes_after [] cs) k) false

-- what stands at an offset of an object is the referent of a weak reference
abbrev pub is_referent : List Class → Shape → ℕ → Bool
is_referent cs (Instance class) offset = is_weak_class cs class && nat_eq offset 8
is_referent cs (Array kind count) offset = false

-- the referents alone are weak
abbrev pub AreReferents : List Class → Object → Type 0
AreReferents cs o = AllByRecursion (λ s. s.at.weak ≡ is_referent cs o.shape s.at.offset) o.slots

-- an object stands in the image
abbrev pub is_in_image : Place → Bool
is_in_image (place.Image spot) = true
is_in_image (place.Zygote spot) = false
is_in_image place.Young = false
is_in_image place.Large = false
is_in_image place.Promoted = false

-- outside the image a large object stands in a slot of its own, and no other object does
abbrev pub SuitsShape : List Class → Object → Place → Type 0
SuitsShape cs o (place.Image spot) = Unit {0}
SuitsShape cs o (place.Zygote spot) = is_large cs o.shape ≡ false
SuitsShape cs o place.Young = is_large cs o.shape ≡ false
SuitsShape cs o place.Large = is_large cs o.shape ≡ true
SuitsShape cs o place.Promoted = is_large cs o.shape ≡ true

-- which objects are made first: those of the image, then those that a fork promoted, then the others
abbrev pub turn : Place → ℕ
turn (place.Image spot) = 0
turn (place.Zygote spot) = 1
turn place.Young = 2
turn place.Large = 2
turn place.Promoted = 1

-- objects stand by their turns, none before the least one
abbrev pub AreInTurn : ℕ → List Object → Type 0
AreInTurn least [] = Unit {0}
AreInTurn least (o ∷ os) = (least ≤ turn o.place) × AreInTurn (turn o.place) os

-- an object of the image stands directly behind so many bytes of it
abbrev pub IsBehindImage : ℕ → Place → Type 0
IsBehindImage bytes (place.Image spot) = spot ≡ image_base + bytes
IsBehindImage bytes (place.Zygote spot) = Unit {0}
IsBehindImage bytes place.Young = Unit {0}
IsBehindImage bytes place.Large = Unit {0}
IsBehindImage bytes place.Promoted = Unit {0}

-- the objects of the image stand one directly behind the other, the first behind so many bytes
abbrev pub FillImage : List Class → ℕ → List Object → Type 0
FillImage cs bytes [] = Unit {0}
FillImage cs bytes (o ∷ os) = IsBehindImage bytes o.place × FillImage cs (bytes + image_size cs o o.place) os

-- an object of the zygote window stands directly behind so many bytes of it, or on the next whole page
abbrev pub IsBehindZygote : ℕ → Place → Type 0
IsBehindZygote bytes (place.Image spot) = Unit {0}
IsBehindZygote bytes (place.Zygote spot) = (spot ≡ zygote_base + bytes) ⊎ (spot ≡ zygote_base + next_multiple page_bytes bytes)
IsBehindZygote bytes place.Young = Unit {0}
IsBehindZygote bytes place.Large = Unit {0}
IsBehindZygote bytes place.Promoted = Unit {0}

-- where the next object of the zygote window may stand, after an object that stands behind so many bytes
abbrev pub zygote_next : List Class → ℕ → Object → Place → ℕ
zygote_next cs bytes o (place.Image spot) = bytes
zygote_next cs bytes o (place.Zygote spot) = spot + size_of_object cs o - zygote_base
zygote_next cs bytes o place.Young = bytes
zygote_next cs bytes o place.Large = bytes
zygote_next cs bytes o place.Promoted = bytes

-- the objects of the zygote window rise without overlap: each stands at the end of the one before it, or on the next
-- whole page
abbrev pub FillZygote : List Class → ℕ → List Object → Type 0
FillZygote cs bytes [] = Unit {0}
FillZygote cs bytes (o ∷ os) = IsBehindZygote bytes o.place × FillZygote cs (zygote_next cs bytes o o.place) os

pub record IsFormed (g : Graph) : Type 0 where
  pub classes : IsClassList g.classes
  pub numbers : AreRising 0 g.next g.objects
  pub next : g.next ≤ number_limit
  pub objects : AreObjects g.classes g.objects
  -- what roots and slots hold is there
  pub closed : IsClosed g
  -- a process may use at most 512 regions
  pub budget : g.budget ≤ most_regions
  -- each root name stands once
  pub root_names : IsDistinct (λ r s. same_name r.name s.name) g.roots
  -- each stored value fits its slot
  pub values : AllByRecursion HoldsValues g.objects
  -- a stored slot is weak exactly where it is the referent of a weak reference
  pub weak : AllByRecursion (AreReferents g.classes) g.objects
  -- before the seal every object stands in the image
  pub before_seal : g.sealed ≡ false → AllByRecursion (λ o. is_in_image o.place ≡ true) g.objects
  -- places outside the image are by shape
  pub places : AllByRecursion (λ o. SuitsShape g.classes o o.place) g.objects
  -- the image's objects come first, then the promoted ones, then the others
  pub turns : AreInTurn 0 g.objects
  -- the image's objects fill it, one directly behind the other
  pub image : FillImage g.classes 0 g.objects
  pub image_fits : image_fill g ≤ image_length
  -- the zygote window's objects rise without overlap
  pub zygote : FillZygote g.classes 0 g.objects
  pub zygote_fits : zygote_fill g ≤ zygote_length
  -- the regions used, and what large objects cost, lie within the budget
  pub regions : used g + costs g ≤ g.budget
