use Rattle.std.proofs.Common.{refl, Some, None}
use Rattle.hprof_write.proofs.Chains.{parent-small, parent-known}
use Rattle.hprof_write.proofs.class_dump.parent_id.Goals as goal

pub class_id-requires : goal.class_id-requires
class_id-requires c = parent-small c.args.classes.now c.args.class c.in-Some.p c.count-all.ensures.formed c.requires c.in-Some.ensures

pub returns-in-Some : goal.returns-in-Some
returns-in-Some c = parent-known c.args.classes.now c.args.class c.class_id.result (Some c.in-Some.p) c.in-Some.ensures c.class_id.ensures

pub returns-in-None : goal.returns-in-None
returns-in-None c = parent-known c.args.classes.now c.args.class 0 None c.in-None.ensures refl
