use Rattle.std.proofs.Common.{◌≡◌, ℕ, List, drop, ◌++◌, refl, ap, arith, ◌∙◌}
use Rattle.hprof_records.specs.Fields.{field}
use Rattle.hprof_records.specs.Parts.{word}
use Rattle.hprof_read.proofs.Header.{front_number, other_word}
use Rattle.hprof_wide.proofs.dump.read_header.Goals as goal

pub returns-in_default-id_size-clause-fault : goal.returns-in_default-id_size-clause-fault
returns-in_default-id_size-clause-fault c =
    let rest = c.in-Some.rest.now in
    let n = c.in-Some-u32_at.number in
    let format = c.in-Some.ensures.found in
    let fits = rw c.in-Some-u32_at.is at c.u32_at.type_inv in
    let front : rest ≡ word n ++ drop 4 rest = front_number 4 n rest c.in-Some-u32_at.ensures.value in (
      refl,
      (
        word n,
        drop 4 rest,
        (
          (format.0, (format.1.0, format.1.1 ∙ ap (λ (t : List ℕ). format.0 ++ (field 1 0 ++ t)) front)),
          refl,
          other_word n 4 (omega (arith, fits)) (omega arith) c.in_default-id_size.ensures.none.0,
          other_word n 8 (omega (arith, fits)) (omega arith) c.in_default-id_size.ensures.none.1,
        ),
      ),
    )
