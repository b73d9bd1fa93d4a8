-- HPROF's types of values: their codes, and how many bytes a value has.
use Rattle.std.specs.Prelude.{◌≡◌, ℕ, ◌≤◌, ◌⊎◌, [], ◌∷◌, slice_index}
use Rattle.hprof_records.specs.declared.type_code.TypeCode.{TypeCode}
use Rattle.hprof_records.specs.declared.type_code.TypeCode.TheVariants.{Ref, Boolean, Char, Float, Double, Byte, Short, Int, Long}

-- the code of a type
abbrev pub code_of : TypeCode → ℕ
code_of Ref = 2
code_of Boolean = 4
code_of Char = 5
code_of Float = 6
code_of Double = 7
code_of Byte = 8
code_of Short = 9
code_of Int = 10
code_of Long = 11

-- the bytes of a value, by the type's code: 0 where no type has the code
abbrev pub value_bytes : ℕ → ℕ
value_bytes code = slice_index (0 ∷ 0 ∷ 4 ∷ 0 ∷ 1 ∷ 2 ∷ 4 ∷ 8 ∷ 1 ∷ 2 ∷ 4 ∷ 8 ∷ []) code

-- a code of a type whose values are numbers
abbrev pub IsPrimitive : ℕ → Type 0
IsPrimitive code = (4 ≤ code) × (code ≤ 11)

-- a code of a type: 2, which is that of references, or a number's
abbrev pub IsType : ℕ → Type 0
IsType code = (code ≡ 2) ⊎ IsPrimitive code
