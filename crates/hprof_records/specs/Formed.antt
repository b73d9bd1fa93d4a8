-- Parts of a segment as they may stand in a dump.
use Rattle.std.specs.Prelude.{◌≡◌, ℕ, ◌*◌, ◌^◌, ◌<◌, Bool, IsTrue, nat_eq, List, [], ◌∷◌, Option, None, Some, length}
use Rattle.std.specs.List.{All, list_any}
use Rattle.hprof_records.specs.declared.sub_record.SubRecord.{SubRecord}
use Rattle.hprof_records.specs.declared.sub_record.SubRecord.TheVariants.{Root, HeapInfo, ClassDump, Instance, ObjectArray, PrimitiveArray, NoData}
use Rattle.hprof_records.specs.Types.{IsType, IsPrimitive, value_bytes}

-- numbers that fit 1, 2 and 4 bytes
abbrev pub IsByte : ℕ → Type 0
IsByte number = number < 2 ^ 8

abbrev pub IsHalf : ℕ → Type 0
IsHalf number = number < 2 ^ 16

abbrev pub IsWord : ℕ → Type 0
IsWord number = number < 2 ^ 32

-- whether a tag is one of these
abbrev pub is_one_of : List ℕ → ℕ → Bool
is_one_of tags tag = list_any (nat_eq tag) tags

-- the tags of roots with an identifier alone, and that of unreachable objects, 0x90
abbrev pub bare_tags : List ℕ
bare_tags = 0x05 ∷ 0x07 ∷ 0x89 ∷ 0x8a ∷ 0x8b ∷ 0x8c ∷ 0x8d ∷ 0x90 ∷ 0xff ∷ []

-- the tags of roots with one further field
abbrev pub tags_with_one : List ℕ
tags_with_one = 0x01 ∷ 0x04 ∷ 0x06 ∷ []

-- the tags of roots with two further fields
abbrev pub tags_with_two : List ℕ
tags_with_two = 0x02 ∷ 0x03 ∷ 0x08 ∷ 0x8e ∷ []

-- a root's tag has exactly these further fields
abbrev pub HasFurther : ℕ → Option ℕ → Option ℕ → Type 0
HasFurther tag None None = IsTrue (is_one_of bare_tags tag)
HasFurther tag (Some first) None = IsTrue (is_one_of tags_with_one tag) × IsWord first
HasFurther tag (Some first) (Some second) = IsTrue (is_one_of tags_with_two tag) × IsWord first × IsWord second
HasFurther tag None (Some second) = ⊥

-- bytes of a value of the type
abbrev pub IsValue : ℕ → List ℕ → Type 0
IsValue code bytes = All IsByte bytes × (length bytes ≡ value_bytes code)

-- a constant: its index and its type fit, and its value has the type's size
abbrev pub IsConstant : ℕ × ℕ × List ℕ → Type 0
IsConstant c = IsHalf c.0 × IsType c.1 × IsValue c.1 c.2

-- a static field, likewise with the identifier of a name
abbrev pub IsStatic : ℕ × ℕ × List ℕ → Type 0
IsStatic s = IsWord s.0 × IsType s.1 × IsValue s.1 s.2

-- a field: the identifier of its name, and its type
abbrev pub IsFieldName : ℕ × ℕ → Type 0
IsFieldName f = IsWord f.0 × IsType f.1

-- a part of a segment as it may stand in a dump
abbrev pub IsPart : SubRecord → Type 0
IsPart (Root tag id first second) = IsWord id × HasFurther tag first second
IsPart (HeapInfo heap name) = IsWord heap × IsWord name
IsPart (ClassDump id stack parent loader signers domain spare_a spare_b size constants statics fields) =
    IsWord id × IsWord stack × IsWord parent × IsWord loader × IsWord signers × IsWord domain
    × IsWord spare_a × IsWord spare_b × IsWord size
    × IsHalf (length constants) × All IsConstant constants
    × IsHalf (length statics) × All IsStatic statics
    × IsHalf (length fields) × All IsFieldName fields
IsPart (Instance id stack class bytes) =
    IsWord id × IsWord stack × IsWord class × IsWord (length bytes) × All IsByte bytes
IsPart (ObjectArray id stack class items) =
    IsWord id × IsWord stack × IsWord class × IsWord (length items) × All IsWord items
IsPart (PrimitiveArray id stack code count bytes) =
    IsWord id × IsWord stack × IsWord count × IsPrimitive code
    × All IsByte bytes × (length bytes ≡ count * value_bytes code)
IsPart (NoData id stack count code) = IsWord id × IsWord stack × IsWord count × IsPrimitive code
