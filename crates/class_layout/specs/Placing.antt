-- How the code places fields: group by group, and in a group in the order of declaration.
use Rattle.std.specs.Prelude.{◌≡◌, ℕ, zero, suc, ◌+◌, ◌<◌, Bool, ◌⊎◌, List, [], ◌∷◌, ◌++◌, None, Some, IfSome, length, filter, nat_eq, slice_get, slice_index}
use Rattle.std.specs.List.{count_by}
use Rattle.class_layout.specs.declared.kind.Kind.{Kind}
use Rattle.class_layout.specs.declared.kind.Kind.TheVariants.{Ref, Boolean, Byte, Char, Short, Int, Long}
use Rattle.class_layout.specs.declared.kind.FieldDecl.{FieldDecl}
use Rattle.class_layout.specs.declared.row.Row.{Row}
use Rattle.class_layout.specs.Kinds.{is_ref, next_multiple}
use Rattle.class_layout.specs.Layout.{Placed, Laid, lay_out}

-- the place of a kind's group among the groups
abbrev pub rank_of : Kind → ℕ
rank_of Ref = 0
rank_of Long = 1
rank_of Int = 2
rank_of Char = 3
rank_of Short = 3
rank_of Boolean = 4
rank_of Byte = 4

-- a field belongs to the r-th group
abbrev pub has_rank : ℕ → FieldDecl → Bool
has_rank r f = nat_eq (rank_of f.kind) r

-- the fields of the groups before the r-th, one group after the other
abbrev pub ranked : List FieldDecl → ℕ → List FieldDecl
ranked fs zero = []
ranked fs (suc r) = ranked fs r ++ filter (has_rank r) fs

-- x is an element of the list
abbrev pub IsIn : {X : Type 0} → X → List X → Type 0
IsIn x [] = ⊥
IsIn x (y ∷ ys) = (y ≡ x) ⊎ IsIn x ys

-- a field at an offset
abbrev pub placed_at : Bool → FieldDecl → ℕ → Placed
placed_at weak f offset = record { name = f.name; at = record { kind = f.kind; offset = offset; weak = weak } }

-- each field of a group before the r-th stands at its offset, and of the r-th those among the first i fields
abbrev pub ArePlaced : Bool → Laid → List FieldDecl → List ℕ → ℕ → ℕ → Type 0
ArePlaced weak laid fs offsets r i = (j : ℕ) → IfSome (slice_get fs j) (λ f.
    (rank_of f.kind < r) ⊎ ((rank_of f.kind ≡ r) × (j < i)) → IsIn (placed_at weak f (slice_index offsets j)) laid.fields)

-- a row that was made for the fields of a class below the one of another row
pub record IsBehind (parent : ℕ) (before : Row) (fs : List FieldDecl) (row : Row) : Type 0 where
  pub super : row.parent ≡ Some parent
  pub own : row.fields.items ≡ fs
  pub long : length row.offsets.items ≡ length fs
  pub ends : (weak : Bool) (laid : Laid) → laid.end ≡ before.end → (lay_out weak laid fs).end ≡ row.end
  pub places : (weak : Bool) (laid : Laid) → laid.end ≡ before.end → ArePlaced weak (lay_out weak laid fs) fs row.offsets.items 5 0
  pub inherited_refs : row.refs_before ≡ before.refs_before + before.refs
  pub own_refs : row.refs ≡ count_by (λ f. is_ref f.kind) fs
  pub first : row.first_ref ≡ next_multiple 4 before.end

-- the row of a class that has the header alone
pub record IsHeader (row : Row) : Type 0 where
  pub super : row.parent ≡ None
  pub own : row.fields.items ≡ []
  pub offsets : row.offsets.items ≡ []
  pub refs_before : row.refs_before ≡ 0
  pub refs : row.refs ≡ 0
  pub first_ref : row.first_ref ≡ 8
  pub end : row.end ≡ 8
