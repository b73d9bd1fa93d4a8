-- Parts of a wide segment as they may stand in a dump with identifiers of w bytes.
use Rattle.std.specs.Prelude.{◌≡◌, ◌⊎◌, ℕ, ◌*◌, ◌^◌, ◌<◌, IsTrue, List, Option, None, Some, length}
use Rattle.std.specs.List.{All}
use Rattle.hprof_wide.specs.declared.wide_sub.WideSub.{WideSub}
use Rattle.hprof_wide.specs.declared.wide_sub.WideSub.TheVariants.{Root, HeapInfo, ClassDump, Instance, ObjectArray, PrimitiveArray, NoData}
use Rattle.hprof_records.specs.Types.{IsType, IsPrimitive, value_bytes}
use Rattle.hprof_records.specs.Formed.{IsByte, IsHalf, IsWord, is_one_of, bare_tags, tags_with_one, tags_with_two}
use Rattle.hprof_wide.specs.Parts.{wide_value_bytes, further_width}

-- the bytes that an identifier may have
abbrev pub IsIdWidth : ℕ → Type 0
IsIdWidth w = (w ≡ 4) ⊎ (w ≡ 8)

-- an identifier of w bytes
abbrev pub IsId : ℕ → ℕ → Type 0
IsId w number = number < 256 ^ w

-- a root's tag has exactly these further fields
abbrev pub HasWideFurther : ℕ → ℕ → Option ℕ → Option ℕ → Type 0
HasWideFurther w tag None None = IsTrue (is_one_of bare_tags tag)
HasWideFurther w tag (Some first) None = IsTrue (is_one_of tags_with_one tag) × IsId (further_width w tag) first
HasWideFurther w tag (Some first) (Some second) = IsTrue (is_one_of tags_with_two tag) × IsWord first × IsWord second
HasWideFurther w tag None (Some second) = ⊥

-- bytes of a value of the type
abbrev pub IsWideValue : ℕ → ℕ → List ℕ → Type 0
IsWideValue w code bytes = All IsByte bytes × (length bytes ≡ wide_value_bytes w code)

-- a constant: its index and its type fit, and its value has the type's size
abbrev pub IsWideConstant : ℕ → ℕ × ℕ × List ℕ → Type 0
IsWideConstant w c = IsHalf c.0 × IsType c.1 × IsWideValue w c.1 c.2

-- a static field, likewise with the identifier of a name
abbrev pub IsWideStatic : ℕ → ℕ × ℕ × List ℕ → Type 0
IsWideStatic w s = IsId w s.0 × IsType s.1 × IsWideValue w s.1 s.2

-- a field: the identifier of its name, and its type
abbrev pub IsWideFieldName : ℕ → ℕ × ℕ → Type 0
IsWideFieldName w f = IsId w f.0 × IsType f.1

-- a part of a segment as it may stand in a dump
abbrev pub IsWidePart : ℕ → WideSub → Type 0
IsWidePart w (Root tag id first second) = IsId w id × HasWideFurther w tag first second
IsWidePart w (HeapInfo heap name) = IsWord heap × IsId w name
IsWidePart w (ClassDump id stack parent loader signers domain spare_a spare_b size constants statics fields) =
    IsId w id × IsWord stack × IsId w parent × IsId w loader × IsId w signers × IsId w domain
    × IsId w spare_a × IsId w spare_b × IsWord size
    × IsHalf (length constants) × All (IsWideConstant w) constants
    × IsHalf (length statics) × All (IsWideStatic w) statics
    × IsHalf (length fields) × All (IsWideFieldName w) fields
IsWidePart w (Instance id stack class bytes) =
    IsId w id × IsWord stack × IsId w class × IsWord (length bytes) × All IsByte bytes
IsWidePart w (ObjectArray id stack class items) =
    IsId w id × IsWord stack × IsId w class × IsWord (length items) × All (IsId w) items
IsWidePart w (PrimitiveArray id stack code count bytes) =
    IsId w id × IsWord stack × IsWord count × IsPrimitive code
    × All IsByte bytes × (length bytes ≡ count * value_bytes code)
IsWidePart w (NoData id stack count code) = IsId w id × IsWord stack × IsWord count × IsPrimitive code
