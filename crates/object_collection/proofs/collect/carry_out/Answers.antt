use Rattle.std.proofs.Common.{List, arith, refl}
use Rattle.object_view.specs.declared.names.Slot.{Slot}
use Rattle.raw_objects.specs.Raws.{Raws}
use Rattle.object_collection.specs.Collects.{state_of, CanCollect, HeapState}
use Rattle.object_collection.specs.Phases.{listed_in, IsPlan}
use Rattle.object_collection.proofs.Called.{can-drop, copied, handed, has-turned, is-plan, HasRun, HasTurned}
use Rattle.object_collection.proofs.Nulled.{weak-alone, weak-slots}
use Rattle.object_collection.proofs.Running.{can-move, can-turn, cleared, large-rows}
use Rattle.object_collection.proofs.Sizes.{objects-few}
use Rattle.object_collection.proofs.Final.{collected, leaves, objects-fewer, only-table, rose, waiting-fewer}
use Rattle.object_collection.proofs.collect.carry_out.Goals as goal
use Rattle.object_collection.proofs.collect.carry_out.Goals.{After-as_slice, After-drop_dead, After-turn_references}

-- the plan holds for the lists that were taken from it
planned : (c : After-as_slice) → IsPlan (state_of c.args.classes.now c.args.regions.now c.args.larges.now c.args.roots.now c.requires.plan.0) c.args.frames.now c.requires.plan.1 (handed c.args.plan c.as_mut_slice-young.result.now c.as_slice-large.result.now c.as_slice.result.now c.args.plan.turned.items)
planned c = is-plan _ _ _ c.args.plan c.as_mut_slice-young.result.now c.as_slice-large.result.now c.as_slice.result.now c.args.plan.turned.items c.as_mut_slice-young.ensures.value c.as_slice-large.ensures.value c.as_slice.ensures.value refl c.requires.plan.3

-- what stands before the dead are dropped
turned-by : (c : After-turn_references) → HasTurned (state_of c.args.classes.now c.args.regions.now c.args.larges.now c.args.roots.now c.requires.plan.0) c.args.frames.now c.args.t.0 c.requires.plan.1 (handed c.args.plan c.as_mut_slice-young.result.now c.as_slice-large.result.now c.as_slice.result.now c.as_slice-2.result.now) c.requires.plan.2
    (is-plan (state_of c.args.classes.now c.args.regions.now c.args.larges.now c.args.roots.now c.requires.plan.0) c.args.frames.now c.requires.plan.1 c.args.plan c.as_mut_slice-young.result.now c.as_slice-large.result.now c.as_slice.result.now c.as_slice-2.result.now c.as_mut_slice-young.ensures.value c.as_slice-large.ensures.value c.as_slice.ensures.value c.as_slice-2.ensures.value c.requires.plan.3)
    c.clear_weak.new.frames c.move_young.new.frames c.turn_references.new.frames c.move_young.new.regions c.move_young.new.young c.turn_references.new.roots
turned-by c =
    has-turned _ _ _ _ _ c.requires.plan.2 _ c.clear_weak.new.frames c.move_young.new.frames c.turn_references.new.frames _ _ _ c.requires.sound c.clear_weak.ensures.cleared c.clear_weak.ensures.reads c.clear_weak.ensures.sound
    c.move_young.ensures.moved c.move_young.ensures.regions c.move_young.ensures.outside c.move_young.ensures.only
    (record { held = c.turn_references.ensures.held; roots = c.turn_references.ensures.roots; keeps = c.turn_references.ensures.keeps; reads = c.turn_references.ensures.reads; sound = c.turn_references.ensures.sound })

-- and what stands in the end, of any objects of which the plan was made
run-of : (c : After-drop_dead) (slots : List Slot) (raws : Raws) (can : CanCollect (state_of c.args.classes.now c.args.regions.now c.args.larges.now c.args.roots.now slots) c.args.frames.now c.args.t.0 raws) (given : IsPlan (state_of c.args.classes.now c.args.regions.now c.args.larges.now c.args.roots.now slots) c.args.frames.now raws (listed_in c.args.plan))
    → HasRun (state_of c.args.classes.now c.args.regions.now c.args.larges.now c.args.roots.now slots) c.args.frames.now c.args.t.0 raws (handed c.args.plan c.as_mut_slice-young.result.now c.as_slice-large.result.now c.as_slice.result.now c.as_slice-2.result.now) can
    (is-plan (state_of c.args.classes.now c.args.regions.now c.args.larges.now c.args.roots.now slots) c.args.frames.now raws c.args.plan c.as_mut_slice-young.result.now c.as_slice-large.result.now c.as_slice.result.now c.as_slice-2.result.now c.as_mut_slice-young.ensures.value c.as_slice-large.ensures.value c.as_slice.ensures.value c.as_slice-2.ensures.value given)
    c.clear_weak.new.frames c.move_young.new.frames c.turn_references.new.frames c.drop_dead.new.frames c.move_young.new.regions c.drop_dead.new.regions c.move_young.new.young c.turn_references.new.roots c.drop_dead.new.larges
run-of c slots raws can given =
    let before = has-turned _ _ _ _ _ can (is-plan (state_of c.args.classes.now c.args.regions.now c.args.larges.now c.args.roots.now slots) c.args.frames.now raws c.args.plan c.as_mut_slice-young.result.now c.as_slice-large.result.now c.as_slice.result.now c.as_slice-2.result.now c.as_mut_slice-young.ensures.value c.as_slice-large.ensures.value c.as_slice.ensures.value c.as_slice-2.ensures.value given)
    c.clear_weak.new.frames c.move_young.new.frames c.turn_references.new.frames _ _ _ c.requires.sound c.clear_weak.ensures.cleared c.clear_weak.ensures.reads c.clear_weak.ensures.sound
    c.move_young.ensures.moved c.move_young.ensures.regions c.move_young.ensures.outside c.move_young.ensures.only
    (record { held = c.turn_references.ensures.held; roots = c.turn_references.ensures.roots; keeps = c.turn_references.ensures.keeps; reads = c.turn_references.ensures.reads; sound = c.turn_references.ensures.sound }) in
    record {
      before = before;
      rows_are = c.drop_dead.ensures.rows;
      no_from = c.drop_dead.ensures.no_from;
      regions4 = c.drop_dead.ensures.rest;
      loses = c.drop_dead.ensures.loses;
      only4 = c.drop_dead.ensures.only;
      region_pages = c.drop_dead.ensures.region_pages;
      large_pages = c.drop_dead.ensures.pages;
      space = c.drop_dead.ensures.space;
      sound4 = c.drop_dead.ensures.sound before.sound3;
    }

pub overflow_add-before : goal.overflow_add-before
overflow_add-before c = let few = objects-few _ _ _ _ c.requires.plan.2 in omega (arith, few, c.objects.ensures, c.waiting.ensures.few)

pub clear_weak-requires-clause-slots : goal.clear_weak-requires-clause-slots
clear_weak-requires-clause-slots c = weak-slots _ _ _ _ _ c.requires.plan.2 (planned (goal.at.clear_weak-requires-clause-slots c).After-as_slice)

pub clear_weak-requires-clause-alone : goal.clear_weak-requires-clause-alone
clear_weak-requires-clause-alone c = weak-alone _ _ _ _ _ c.requires.plan.2 (planned (goal.at.clear_weak-requires-clause-alone c).After-as_slice)

pub move_young-requires : goal.move_young-requires
move_young-requires c =
    let ok = planned (goal.at.move_young-requires c).After-as_slice in
    (cleared _ _ _ _ _ c.requires.plan.2 ok, can-move _ _ _ _ _ c.requires.plan.2 ok _ c.clear_weak.ensures.cleared (c.clear_weak.ensures.sound c.requires.sound))

pub turn_references-requires : goal.turn_references-requires
turn_references-requires c =
    let h : HeapState = state_of c.args.classes.now c.args.regions.now c.args.larges.now c.args.roots.now c.requires.plan.0 in
    let can = c.requires.plan.2 in
    let ok = is-plan h c.args.frames.now c.requires.plan.1 c.args.plan c.as_mut_slice-young.result.now c.as_slice-large.result.now c.as_slice.result.now c.as_slice-2.result.now c.as_mut_slice-young.ensures.value c.as_slice-large.ensures.value c.as_slice.ensures.value c.as_slice-2.ensures.value c.requires.plan.3 in
    let sound1 = c.clear_weak.ensures.sound c.requires.sound in
    let moves = c.move_young.ensures.moved (cleared _ _ _ _ _ can ok) (can-move _ _ _ _ _ can ok _ c.clear_weak.ensures.cleared sound1) in (
      copied _ _ _ _ _ can ok c.move_young.new.young,
      can-turn _ _ _ _ _ can ok _ c.clear_weak.ensures.cleared sound1 _ _ _ moves c.move_young.ensures.regions.1 c.move_young.ensures.outside c.move_young.ensures.only,
    )

pub drop_dead-requires-clause-live : goal.drop_dead-requires-clause-live
drop_dead-requires-clause-live c = (can-drop _ _ _ _ _ _ _ _ _ _ _ _ _ (turned-by (goal.at.drop_dead-requires-clause-live c).After-turn_references)).live

pub drop_dead-requires-clause-region_pages : goal.drop_dead-requires-clause-region_pages
drop_dead-requires-clause-region_pages c = (can-drop _ _ _ _ _ _ _ _ _ _ _ _ _ (turned-by (goal.at.drop_dead-requires-clause-region_pages c).After-turn_references)).region_pages

pub drop_dead-requires-clause-region_alone : goal.drop_dead-requires-clause-region_alone
drop_dead-requires-clause-region_alone c = (can-drop _ _ _ _ _ _ _ _ _ _ _ _ _ (turned-by (goal.at.drop_dead-requires-clause-region_alone c).After-turn_references)).region_alone

pub drop_dead-requires-clause-pages : goal.drop_dead-requires-clause-pages
drop_dead-requires-clause-pages c = (can-drop _ _ _ _ _ _ _ _ _ _ _ _ _ (turned-by (goal.at.drop_dead-requires-clause-pages c).After-turn_references)).pages

pub drop_dead-requires-clause-alone : goal.drop_dead-requires-clause-alone
drop_dead-requires-clause-alone c = (can-drop _ _ _ _ _ _ _ _ _ _ _ _ _ (turned-by (goal.at.drop_dead-requires-clause-alone c).After-turn_references)).alone

pub drop_dead-requires-clause-space : goal.drop_dead-requires-clause-space
drop_dead-requires-clause-space c = (turned-by (goal.at.drop_dead-requires-clause-space c).After-turn_references).moves.held.space

pub drop_dead-requires-clause-are_rows : goal.drop_dead-requires-clause-are_rows
drop_dead-requires-clause-are_rows c = c.requires.plan.2.large.rows

pub drop_dead-requires-clause-unmarked : goal.drop_dead-requires-clause-unmarked
drop_dead-requires-clause-unmarked c = c.requires.plan.2.large.unmarked

pub drop_dead-requires-clause-rows : goal.drop_dead-requires-clause-rows
drop_dead-requires-clause-rows c = large-rows _ _ _ _ _ c.requires.plan.2 (planned (goal.at.drop_dead-requires-clause-rows c).After-as_slice)

pub overflow_add-kept : goal.overflow_add-kept
overflow_add-kept c =
    let run = run-of (goal.at.overflow_add-kept c).After-drop_dead c.requires.plan.0 c.requires.plan.1 c.requires.plan.2 c.requires.plan.3 in
    omega (
      arith,
      objects-few _ _ _ _ c.requires.plan.2,
      objects-fewer _ _ _ _ _ _ _ _ _ _ _ _ _ _ _ _ run,
      waiting-fewer _ _ _ _ _ _ _ _ _ _ _ _ _ _ _ _ run,
      c.objects.ensures,
      c.objects-2.ensures,
      c.waiting.ensures.few,
      c.waiting.ensures.value,
      c.waiting-2.ensures.few,
      c.waiting-2.ensures.value,
    )

pub overflow_sub-result : goal.overflow_sub-result
overflow_sub-result c =
    let run = run-of (goal.at.overflow_sub-result c).After-drop_dead c.requires.plan.0 c.requires.plan.1 c.requires.plan.2 c.requires.plan.3 in
    omega (
      arith,
      objects-few _ _ _ _ c.requires.plan.2,
      objects-fewer _ _ _ _ _ _ _ _ _ _ _ _ _ _ _ _ run,
      waiting-fewer _ _ _ _ _ _ _ _ _ _ _ _ _ _ _ _ run,
      c.objects.ensures,
      c.objects-2.ensures,
      c.waiting.ensures.few,
      c.waiting.ensures.value,
      c.waiting-2.ensures.few,
      c.waiting-2.ensures.value,
    )

pub returns-clause-freed : goal.returns-clause-freed
returns-clause-freed c =
    let run = run-of (goal.at.returns-clause-freed c).After-drop_dead c.requires.plan.0 c.requires.plan.1 c.requires.plan.2 c.requires.plan.3 in
    omega (
      arith,
      objects-few _ _ _ _ c.requires.plan.2,
      objects-fewer _ _ _ _ _ _ _ _ _ _ _ _ _ _ _ _ run,
      waiting-fewer _ _ _ _ _ _ _ _ _ _ _ _ _ _ _ _ run,
      c.objects.ensures,
      c.objects-2.ensures,
      c.waiting.ensures.few,
      c.waiting.ensures.value,
      c.waiting-2.ensures.few,
      c.waiting-2.ensures.value,
    )

pub returns-clause-collected : goal.returns-clause-collected
returns-clause-collected c slots raws can given = collected _ _ _ _ _ _ _ _ _ _ _ _ _ _ _ _ (run-of (goal.at.returns-clause-collected c).After-drop_dead slots raws can given)

pub returns-clause-pages : goal.returns-clause-pages
returns-clause-pages c slots raws can given = leaves _ _ _ _ _ _ _ _ _ _ _ _ _ _ _ _ (run-of (goal.at.returns-clause-pages c).After-drop_dead slots raws can given)

pub returns-clause-reads : goal.returns-clause-reads
returns-clause-reads c slots raws can given = rose _ _ _ _ _ _ _ _ _ _ _ _ _ _ _ _ (run-of (goal.at.returns-clause-reads c).After-drop_dead slots raws can given)

pub returns-clause-only : goal.returns-clause-only
returns-clause-only c = only-table _ _ _ _ _ _ _ _ _ _ _ _ _ _ _ _ (run-of (goal.at.returns-clause-only c).After-drop_dead c.requires.plan.0 c.requires.plan.1 c.requires.plan.2 c.requires.plan.3)

pub returns-clause-sound : goal.returns-clause-sound
returns-clause-sound c = (run-of (goal.at.returns-clause-sound c).After-drop_dead c.requires.plan.0 c.requires.plan.1 c.requires.plan.2 c.requires.plan.3).sound4
