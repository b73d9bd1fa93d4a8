-- The layout rule: where the fields of a class stand in its objects.
use Rattle.std.specs.Prelude.{ℕ, ◌+◌, Bool, List, [], ◌∷◌, ◌++◌, Option, filter, map, not, ◌&&◌, nat_eq}
use Rattle.std.specs.List.{find}
use Rattle.std.specs.Option.{option_map}
use Rattle.class_layout.specs.declared.kind.FieldDecl.{FieldDecl}
use Rattle.class_layout.specs.declared.kind.FieldAt.{FieldAt}
use Rattle.class_layout.specs.Kinds.{kind_bytes, is_ref, next_multiple}
use Rattle.class_layout.specs.Names.{same_name}

-- a field and its place: kind, offset in bytes, and whether it is weak
pub record Placed : Type 0 where
  pub name : List ℕ
  pub at : FieldAt

-- what is laid out so far: the fields by rising offset, and where the last one ends
pub record Laid : Type 0 where
  pub fields : List Placed
  pub end : ℕ

-- an object without fields: a class word and a lock word of 4 bytes each
abbrev pub bare : Laid
bare = record { fields = []; end = 8 }

-- a field stands at the next multiple of its size
abbrev pub place_field : Bool → Laid → FieldDecl → Laid
place_field weak laid f =
    let offset = next_multiple (kind_bytes f.kind) laid.end in
    record {
      fields = laid.fields ++ record { name = f.name; at = record { kind = f.kind; offset = offset; weak = weak } } ∷ [];
      end = offset + kind_bytes f.kind;
    }

-- fields one after the other
abbrev pub place_fields : Bool → Laid → List FieldDecl → Laid
place_fields weak laid [] = laid
place_fields weak laid (f ∷ fs) = place_fields weak (place_field weak laid f) fs

-- a field is a value of this many bytes, and no reference
abbrev pub is_plain : ℕ → FieldDecl → Bool
is_plain bytes f = not (is_ref f.kind) && nat_eq (kind_bytes f.kind) bytes

-- references first, then values of 8, 4, 2 and 1 bytes, each group in the order of declaration
abbrev pub in_layout_order : List FieldDecl → List FieldDecl
in_layout_order fs =
    filter (λ f. is_ref f.kind) fs ++ filter (is_plain 8) fs ++ filter (is_plain 4) fs ++ filter (is_plain 2) fs ++ filter (is_plain 1) fs

-- a class's own fields begin where its superclass's fields end
abbrev pub lay_out : Bool → Laid → List FieldDecl → Laid
lay_out weak parent fs = place_fields weak parent (in_layout_order fs)

-- the field of a name
abbrev pub field_named : Laid → List ℕ → Option FieldAt
field_named laid name = option_map (λ p. p.at) (find (λ p. same_name p.name name) laid.fields)

-- the references by rising offset
abbrev pub references : Laid → List FieldAt
references laid = filter (λ at. is_ref at.kind) (map (λ p. p.at) laid.fields)
