-- How many bytes lists of a part have.
use Rattle.std.proofs.Common.{◌≡◌, ℕ, ◌*◌, List, [], ◌∷◌, length, refl, arith}
use Rattle.std.specs.List.{flat_map}
use Rattle.hprof_records.specs.Parts.{word, field_name_bytes}

-- an identifier has 4 bytes
pub length-words : (ids : List ℕ) → length (flat_map word ids) ≡ length ids * 4
length-words [] = refl
length-words (id ∷ ids) = omega (arith, length-words ids)

-- a field has the identifier of its name, and its type
pub length-fields : (fields : List (ℕ × ℕ)) → length (flat_map field_name_bytes fields) ≡ length fields * 5
length-fields [] = refl
length-fields (f ∷ fields) = omega (arith, length-fields fields)
