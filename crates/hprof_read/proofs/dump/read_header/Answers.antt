use Rattle.std.proofs.Common.{◌≡◌, ◌-◌, List, ℕ, length, take, drop, refl, sym, ap, arith, ◌∙◌, ◌++◌}
use Rattle.std.proofs.lemmas.List.{take_rest}
use Rattle.hprof_records.specs.Fields.{field}
use Rattle.hprof_records.specs.Parts.{word}
use Rattle.hprof_read.specs.Fault.{magic}
use Rattle.hprof_read.proofs.Header.{begins, front_number, other_word}
use Rattle.hprof_read.proofs.dump.read_header.Goals as goal

pub returns-then-size-ne4-clause-fault : goal.returns-then-size-ne4-clause-fault
returns-then-size-ne4-clause-fault c =
    let rest = c.in-Some.rest.now in
    let size = c.in-Some-u32_at.size in
    let fits = rw c.in-Some-u32_at.is at c.u32_at.type_inv in
    let whole : c.args.bytes.now ≡ magic ++ rest = begins magic c.args.bytes.now c.in-Some.ensures.cases.0 ∙ ap (λ (t : List ℕ). magic ++ t) (sym c.in-Some.ensures.cases.1) in
    let front : rest ≡ word size ++ drop 4 rest = front_number 4 size rest c.in-Some-u32_at.ensures.value in
    (refl, (word size, drop 4 rest, (whole ∙ ap (λ (t : List ℕ). magic ++ t) front, refl, other_word size 4 (omega (arith, fits)) (omega arith) (λ e. c.if-size-ne4.true e))))

pub returns-clause-found : goal.returns-clause-found
returns-clause-found c =
    let rest = c.in-Some.rest.now in
    let time = c.in-Some-u64_at.time in
    let fits = rw c.in-Some-u64_at.is at c.u64_at.type_inv in
    let size : c.in-Some-u32_at.size ≡ 4 = omega arith in
    let whole : c.args.bytes.now ≡ magic ++ rest = begins magic c.args.bytes.now c.in-Some.ensures.cases.0 ∙ ap (λ (t : List ℕ). magic ++ t) (sym c.in-Some.ensures.cases.1) in
    let behind = take (length rest - 4) (drop 4 rest) in
    let after = take (length behind - 8) (drop 8 behind) in
    let first : rest ≡ word 4 ++ behind = front_number 4 4 rest (c.in-Some-u32_at.ensures.value ∙ ap word size) ∙ ap (λ (t : List ℕ). word 4 ++ t) (sym (take_rest rest 4)) in
    let second : behind ≡ field 8 time ++ after = front_number 8 time behind c.in-Some-u64_at.ensures.value ∙ ap (λ (t : List ℕ). field 8 time ++ t) (sym (take_rest behind 8)) in
    (omega (arith, fits), whole ∙ ap (λ (t : List ℕ). magic ++ t) first ∙ ap (λ (t : List ℕ). magic ++ (word 4 ++ t)) second)
