use Rattle.std.proofs.Common.{sym, subst}
use Rattle.raw_objects.specs.Raws.{Raws}
use Rattle.object_collection.specs.Collects.{state_of, AreYoung, HeapState}
use Rattle.object_promotion.proofs.Opened.{packed-there}
use Rattle.object_promotion.proofs.plan.plan_promotion.Goals as goal

pub list_young-requires : goal.list_young-requires
list_young-requires c =
    let h : HeapState = state_of c.args.classes.now c.args.regions.now c.args.larges.now c.args.roots.now c.args.slots.now in
    let raws : Raws = c.requires.0 in
    let can = c.requires.2.can in
    (raws, can.young.0, packed-there h c.args.frames.now c.args.t.0 raws can.young.0 can can.young.1)

pub returns-clause-plan : goal.returns-clause-plan
returns-clause-plan c raws z young can are =
    let h : HeapState = state_of c.args.classes.now c.args.regions.now c.args.larges.now c.args.roots.now c.args.slots.now in
    let is = c.in_ok-young.ensures.listed raws young (packed-there h c.args.frames.now c.args.t.0 raws young can.can are) in
    (record { young = subst (AreYoung h raws) (sym is) are; large = c.in_ok-large.ensures; turned = c.in_ok-turned.ensures }, is)
