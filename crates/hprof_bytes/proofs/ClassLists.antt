-- A class dump's head and lists.
use Rattle.std.proofs.Common.{◌≡◌, ℕ, List, ◌++◌, length, sym, ap}
use Rattle.std.specs.List.{flat_map}
use Rattle.std.proofs.lemmas.List.{append-nil}
use Rattle.hprof_records.specs.declared.sub_record.SubRecord.TheVariants.{ClassDump}
use Rattle.hprof_records.specs.Fields.{field}
use Rattle.hprof_records.specs.Parts.{constant_bytes, static_bytes, field_name_bytes, bytes_of_part}
use Rattle.hprof_bytes.specs.Head.{class_head}

-- the bytes of a class dump are its head and its lists, each behind its count
pub class-split : (id stack parent loader signers domain spare_a spare_b size : ℕ) (constants statics : List (ℕ × ℕ × List ℕ)) (fields : List (ℕ × ℕ))
    → class_head id stack parent loader signers domain spare_a spare_b size
    ++ ((field 2 (length constants) ++ flat_map constant_bytes constants) ++ ((field 2 (length statics) ++ flat_map static_bytes statics) ++ (field 2 (length fields) ++ flat_map field_name_bytes fields)))
    ≡ bytes_of_part (ClassDump id stack parent loader signers domain spare_a spare_b size constants statics fields)
class-split id stack parent loader signers domain spare_a spare_b size constants statics fields =
    ap (λ (l : List ℕ). class_head id stack parent loader signers domain spare_a spare_b size ++ ((field 2 (length constants) ++ flat_map constant_bytes constants) ++ ((field 2 (length statics) ++ flat_map static_bytes statics) ++ (field 2 (length fields) ++ l))))
    (sym (append-nil (flat_map field_name_bytes fields)))
