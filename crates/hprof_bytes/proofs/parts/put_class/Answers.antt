use Rattle.std.proofs.lemmas.Result.{err_from_is_err_and}
use Rattle.hprof_list.proofs.Putting.{then_put, stopped}
use Rattle.hprof_bytes.proofs.ClassLists.{class-split}
use Rattle.hprof_bytes.proofs.parts.put_class.Goals as goal

pub returns-in_err-put_class_head : goal.returns-in_err-put_class_head
returns-in_err-put_class_head g c =
    let p = err_from_is_err_and c.from_residual.result c.from_residual.ensures.1 in
    let h = c.args.head.now in
    rw p.1 (stopped _ _ _ _ _ _ _ c.in_err-put_class_head.ensures (class-split h.id h.stack h.parent h.loader h.signers h.domain h.spare_a h.spare_b h.size c.args.constants.now c.args.statics.now c.args.fields.now))

pub returns : goal.returns
returns g c =
    let h = c.args.head.now in
    then_put _ _ _ _ _ _ _ _ _ _ c.in_ok-put_class_head.ensures c.put_class_lists.ensures (class-split h.id h.stack h.parent h.loader h.signers h.domain h.spare_a h.spare_b h.size c.args.constants.now c.args.statics.now c.args.fields.now)
