-- What stands in a class dump before its lists.
use Rattle.std.specs.Prelude.{ℕ, List, [], ◌∷◌}
use Rattle.std.specs.List.{concat}
use Rattle.hprof_records.specs.Fields.{field}
use Rattle.hprof_records.specs.Parts.{word}

-- its tag and its numbers of 4 bytes
abbrev pub class_head : ℕ → ℕ → ℕ → ℕ → ℕ → ℕ → ℕ → ℕ → ℕ → List ℕ
class_head id stack parent loader signers domain spare_a spare_b size =
    concat (field 1 0x20 ∷ word id ∷ word stack ∷ word parent ∷ word loader ∷ word signers ∷ word domain
    ∷ word spare_a ∷ word spare_b ∷ word size ∷ [])
