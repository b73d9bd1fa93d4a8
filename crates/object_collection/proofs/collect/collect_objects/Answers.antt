use Rattle.std.proofs.Common.{◌*◌, length}
use Rattle.cow_pages.proofs.OnlyLemmas.{only-reserved, only-trans}
use Rattle.raw_objects.specs.Raws.{Raws}
use Rattle.object_collection.specs.Collects.{state_of, HeapState}
use Rattle.object_collection.proofs.Reserved.{can-reserved, leaves-reserved, rose-reserved}
use Rattle.object_collection.proofs.collect.collect_objects.Goals as goal

pub carry_out-requires-clause-plan : goal.carry_out-requires-clause-plan
carry_out-requires-clause-plan c =
    let h : HeapState = state_of c.args.classes.now c.args.regions.now c.args.larges.now c.args.roots.now c.args.slots.now in
    let raws : Raws = c.requires.0 in
    (c.args.slots.now, raws, can-reserved h _ _ c.args.t.0 raws c.plan_collection.ensures.rest c.in_ok-plan.ensures.sound c.requires.1, c.in_ok-plan.ensures.plan raws c.requires.1)

pub returns-clause-collected : goal.returns-clause-collected
returns-clause-collected c raws can =
    let h : HeapState = state_of c.args.classes.now c.args.regions.now c.args.larges.now c.args.roots.now c.args.slots.now in
    c.carry_out.ensures.collected c.args.slots.now raws (can-reserved h _ _ c.args.t.0 raws c.plan_collection.ensures.rest c.in_ok-plan.ensures.sound can) (c.in_ok-plan.ensures.plan raws can)

pub returns-clause-pages : goal.returns-clause-pages
returns-clause-pages c raws can =
    let h : HeapState = state_of c.args.classes.now c.args.regions.now c.args.larges.now c.args.roots.now c.args.slots.now in
    leaves-reserved h _ _ _ c.args.t.0 c.plan_collection.ensures.rest
    (c.carry_out.ensures.pages c.args.slots.now raws (can-reserved h _ _ c.args.t.0 raws c.plan_collection.ensures.rest c.in_ok-plan.ensures.sound can) (c.in_ok-plan.ensures.plan raws can))

pub returns-clause-only : goal.returns-clause-only
returns-clause-only c = only-trans _ _ _ c.args.t.0 (only-reserved _ _ c.args.t.0 c.plan_collection.ensures.rest) c.carry_out.ensures.only

pub returns-clause-reads : goal.returns-clause-reads
returns-clause-reads c =
    let h : HeapState = state_of c.args.classes.now c.args.regions.now c.args.larges.now c.args.roots.now c.args.slots.now in
    let raws : Raws = c.requires.0 in
    rose-reserved c.args.frames.now c.plan_collection.new.frames c.carry_out.new.frames (4 * length c.args.slots.now) c.plan_collection.ensures.rest
    (c.carry_out.ensures.reads c.args.slots.now raws (can-reserved h _ _ c.args.t.0 raws c.plan_collection.ensures.rest c.in_ok-plan.ensures.sound c.requires.1) (c.in_ok-plan.ensures.plan raws c.requires.1))
