-- Values of fields, in which identifiers have w bytes, and the identifiers in them.
use Rattle.std.specs.Prelude.{ℕ, nat_eq, nat_le, List, [], ◌∷◌, length, take, drop, Option, None, Some, unwrap_or, if◌then◌else◌}
use Rattle.std.specs.List.{flat_map}
use Rattle.std.specs.Int.{w64, from_be_bytes}
use Rattle.hprof_records.specs.Parts.{word}
use Rattle.hprof_wide.specs.Parts.{wide_value_bytes}
use Rattle.dump_graph.specs.References.{first_id}
use Rattle.hprof_convert.specs.Names.{rename}

-- the code of the type of references
abbrev pub reference_code : ℕ
reference_code = 2

-- the identifier of 8 bytes that stands first in some bytes, where they are enough
abbrev pub long_id : List ℕ → Option ℕ
long_id bytes = if nat_le 8 (length bytes) then Some (from_be_bytes w64 (take 8 bytes)) else None

-- the identifier that a value is: 0 where it has too few bytes
abbrev pub id_in : ℕ → List ℕ → ℕ
id_in w value = unwrap_or (if nat_eq w 8 then long_id value else first_id value) 0

-- the identifiers in a value, by its type
abbrev pub ids_in : ℕ → ℕ × List ℕ → List ℕ
ids_in w v = if nat_eq v.0 reference_code then id_in w v.1 ∷ [] else []

-- a value with its identifier renamed, if it is one
abbrev pub renamed_value : ℕ → List ℕ → ℕ × List ℕ → List ℕ
renamed_value w names v = if nat_eq v.0 reference_code then word (rename names (id_in w v.1)) else v.1

-- bytes cut into values of these types, one after another
abbrev pub values_of : ℕ → List ℕ → List ℕ → List (ℕ × List ℕ)
values_of w [] bytes = []
values_of w (code ∷ codes) bytes =
    (code, take (wide_value_bytes w code) bytes) ∷ values_of w codes (drop (wide_value_bytes w code) bytes)

-- the identifiers among these values
abbrev pub ids_among : ℕ → List ℕ → List ℕ → List ℕ
ids_among w codes bytes = flat_map (ids_in w) (values_of w codes bytes)

-- the bytes of these values in the same order, with identifiers renamed
abbrev pub renamed_values : ℕ → List ℕ → List ℕ → List ℕ → List ℕ
renamed_values w names codes bytes = flat_map (renamed_value w names) (values_of w codes bytes)
