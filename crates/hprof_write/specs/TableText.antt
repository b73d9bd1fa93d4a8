-- The text of a table of addresses.
use Rattle.std.specs.Prelude.{ℕ, zero, suc, ◌+◌, ◌/◌, ◌%◌, ◌^◌, if◌then◌else◌, List, [], ◌∷◌, codes, decimal, nat_lt}
use Rattle.std.specs.List.{concat, flat_map}
use Rattle.heap_graph.specs.Graph.{Graph}

-- a hexadecimal digit, in lower case
abbrev pub hex_digit : ℕ → ℕ
hex_digit d = if nat_lt d 10 then 48 + d else 87 + d

-- the last k hexadecimal digits of a number, the highest first
abbrev pub hex_digits : ℕ → ℕ → List ℕ
hex_digits zero n = []
hex_digits (suc k) n = hex_digit (n / 16 ^ k % 16) ∷ hex_digits k n

-- an object's number and its address
abbrev pub table_line : ℕ → ℕ → List ℕ
table_line number at = concat (codes "#" ∷ decimal number ∷ codes " 0x" ∷ hex_digits 8 at ∷ (10 ∷ []) ∷ [])

-- a line for each object, by rising number
abbrev pub table_text : Graph → (ℕ → ℕ) → List ℕ
table_text g table = flat_map (λ o. table_line o.number (table o.number)) g.objects
