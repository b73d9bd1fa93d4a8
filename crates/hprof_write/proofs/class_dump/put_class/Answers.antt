use Rattle.std.proofs.lemmas.Result.{on_ok_weaker}
use Rattle.hprof_write.proofs.Chains.{class-put}
use Rattle.hprof_write.proofs.class_dump.put_class.Goals as goal

pub returns : goal.returns
returns c =
    on_ok_weaker c.put_class_parts.result
    (λ h. class-put c.args.strings.now.keys c.args.classes.now c.args.class c.class_id.result c.parent_id-parent.result c.unrounded-size.result c.own_fields.result.now
    c.args.out.now.items c.put_class_parts.new.out.items c.class_id.ensures c.unrounded-size.ensures.value c.parent_id-parent.ensures c.own_fields.ensures h)
    c.put_class_parts.ensures
