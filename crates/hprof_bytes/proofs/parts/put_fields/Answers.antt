use Rattle.std.proofs.Common.{refl, arith}
use Rattle.std.proofs.lemmas.Result.{err_from_is_err_and}
use Rattle.hprof_records.specs.Parts.{field_name_bytes}
use Rattle.hprof_list.proofs.Putting.{each_done, each_more, each_stop}
use Rattle.hprof_bytes.proofs.parts.put_fields.Goals as goal

pub returns-in_err-put_field : goal.returns-in_err-put_field
returns-in_err-put_field g c =
    let p = err_from_is_err_and c.from_residual.result c.from_residual.ensures.1 in
    rw p.1 (each_stop field_name_bytes c.args.list.now c.loop-one.one-index _ _ _ _ _ _ _ _ c.loop-one-test.true refl c.loop-one.invariant c.in_err-put_field.ensures)

pub loop-one-preserved : goal.loop-one-preserved
loop-one-preserved g c =
    each_more field_name_bytes c.args.list.now c.loop-one.one-index _ _ _ _ _ _ _ _ c.loop-one-test.true refl c.loop-one.invariant c.in_ok-put_field.ensures

pub returns : goal.returns
returns g c = each_done field_name_bytes c.args.list.now c.loop-one.one-index _ _ _ _ (omega arith) c.loop-one.invariant
