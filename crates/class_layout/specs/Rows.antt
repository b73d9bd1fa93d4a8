-- What is kept of each class, and what it says.
use Rattle.std.specs.Prelude.{◌≡◌, ℕ, ◌+◌, ◌*◌, ◌<◌, ◌≤◌, Bool, List, Some, IfSome, length, map, nat_eq, slice_get, slice_index}
use Rattle.model_numbers.specs.Numbers.{field_limit}
use Rattle.class_layout.specs.declared.kind.Kind.TheVariants.{Ref}
use Rattle.class_layout.specs.declared.kind.FieldAt.{FieldAt}
use Rattle.class_layout.specs.declared.row.Row.{Row}
use Rattle.class_layout.specs.Layout.{field_named, references}
use Rattle.class_layout.specs.ClassList.{Class, layout_of, superclass_layout, IsClassList}

-- the class that a name and a row stand for
abbrev pub class_of : List ℕ × Row → Class
class_of e = record { name = e.0; parent = e.1.parent; fields = e.1.fields.items }

-- the classes that the map's entries stand for
abbrev pub classes_of : List (List ℕ × Row) → List Class
classes_of es = map class_of es

-- a reference at an offset
abbrev pub ref_at : Bool → ℕ → FieldAt
ref_at weak offset = record { kind = Ref; offset = offset; weak = weak }

-- a row stands for the class of a number
pub record IsRow (cs : List Class) (k : ℕ) (name : List ℕ) (row : Row) : Type 0 where
  pub at : slice_get cs k ≡ Some (class_of (name, row))
  pub end : row.end ≡ (layout_of cs k).end
  pub long : length row.offsets.items ≡ length row.fields.items
  -- each own field is found at its offset
  pub places : (j : ℕ) → IfSome (slice_get row.fields.items j) (λ f.
      field_named (layout_of cs k) f.name ≡ Some (record { kind = f.kind; offset = slice_index row.offsets.items j; weak = nat_eq k 1 }))
  pub before : row.refs_before ≡ length (references (superclass_layout cs row.parent))
  pub refs : length (references (layout_of cs k)) ≡ row.refs_before + row.refs
  -- the own references follow the inherited ones
  pub ref_places : (i : ℕ) → i < row.refs → slice_get (references (layout_of cs k)) (row.refs_before + i) ≡ Some (ref_at (nat_eq k 1) (row.first_ref + 4 * i))
  pub few_refs : row.refs_before + row.refs ≤ field_limit * (k + 1)
  pub ref_room : row.first_ref + 4 * row.refs ≤ 8 + 61440 * (k + 1)

-- the entries of the map stand for the classes, in the order of their numbers
pub record AreRows (es : List (List ℕ × Row)) : Type 0 where
  pub formed : IsClassList (classes_of es)
  pub rows : (k : ℕ) → IfSome (slice_get es k) (λ e. IsRow (classes_of es) k e.0 e.1)
