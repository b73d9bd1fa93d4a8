use Rattle.std.proofs.Common.{rules, ◌<◌, ◌^◌, [], ◌∷◌, refl, lit<}
use Rattle.std.proofs.lemmas.List.Elements.{All-cons, All-nil}
use Rattle.hprof_records.specs.Dump.{IsRecord, AreRecords}
use Rattle.hprof_records.specs.Examples as example
use Rattle.hprof_records.specs.Examples.{array_segment, passed_over}
use Rattle.hprof_records.proofs.examples.small_dump.Goals as goal

pub returns-clause-formed : goal.returns-clause-formed
returns-clause-formed c =
    let other : IsRecord passed_over = search rules in
    let segment : IsRecord (array_segment 14) = search rules in
    let last : AreRecords (array_segment 14 ∷ []) = All-cons IsRecord (array_segment 14) [] segment (All-nil IsRecord) in
    let both : AreRecords example.small = All-cons IsRecord passed_over (array_segment 14 ∷ []) other last in
    let time : 0 < 2 ^ 64 = lit< tt in
    (0, example.small, (time, both, refl))
