use Rattle.std.proofs.Common.{arith}
use Rattle.std.proofs.lemmas.Result.{on_ok_weaker}
use Rattle.heap_graph.specs.Collection.{collect}
use Rattle.object_view.proofs.Outcomes.{on_ok_both}
use Rattle.evacuate.specs.Stands.{homes_in, raws_of}
use Rattle.evacuate.proofs.Can.{can}
use Rattle.evacuate.proofs.Counted.{counted, freed}
use Rattle.evacuate.proofs.Kept.{graph-kept, heap-left, stood-before}
use Rattle.evacuate.proofs.Outcomes.{if_ok_all}
use Rattle.evacuate.proofs.Rows.{row-before}
use Rattle.evacuate.proofs.Turned.{state-left}
use Rattle.evacuate.proofs.collection.collect.Goals as goal

pub collect_objects-requires : goal.collect_objects-requires
collect_objects-requires c = (raws_of (homes_in c.args.regions.now.in_use c.args.larges.now) c.requires.0, can _ _ _ _ c.requires.1)

pub returns-clause-held : goal.returns-clause-held
returns-clause-held c =
    let is = c.collect_objects.ensures in
    on_ok_both c.collect_objects.result (λ collected pages g slots keeps. heap-left _ _ _ _ g _ _ _ slots keeps (collected _ (can _ _ _ g keeps)) (pages _ (can _ _ _ g keeps))) is.collected is.pages

pub returns-clause-slots : goal.returns-clause-slots
returns-clause-slots c =
    let is = c.collect_objects.ensures in
    on_ok_both c.collect_objects.result (λ collected pages g slots keeps. stood-before _ _ _ _ g _ _ _ slots keeps (collected _ (can _ _ _ g keeps)) (pages _ (can _ _ _ g keeps))) is.collected is.pages

pub returns-clause-kept : goal.returns-clause-kept
returns-clause-kept c =
    let is = c.collect_objects.ensures in
    on_ok_both c.collect_objects.result (λ collected pages g slots keeps. graph-kept _ _ _ _ g _ _ _ slots keeps (collected _ (can _ _ _ g keeps)) (pages _ (can _ _ _ g keeps))) is.collected is.pages

pub returns-clause-rows : goal.returns-clause-rows
returns-clause-rows c =
    let is = c.collect_objects.ensures in
    on_ok_weaker c.collect_objects.result (λ collected row there. row-before _ _ _ row (collected _ (can _ _ _ c.requires.0 c.requires.1)).rows_left there) is.collected

pub returns-clause-pages : goal.returns-clause-pages
returns-clause-pages c =
    let is = c.collect_objects.ensures in
    on_ok_weaker c.collect_objects.result (λ pages. pages _ (can _ _ _ c.requires.0 c.requires.1)) is.pages

pub returns-clause-counts : goal.returns-clause-counts
returns-clause-counts c =
    let is = c.collect_objects.ensures in
    if_ok_all c.collect_objects.result (λ it kept all collected g keeps.
    let stands = state-left _ _ _ _ g _ _ _ keeps (collected _ (can _ _ _ g keeps)) c.args.slots.now in
    let before = counted _ g keeps.is_sealed keeps.heap.stands in
    let after = counted _ (collect g) keeps.is_sealed stands in
    (omega (arith, kept, after), omega (arith, kept, all, before, after, freed g))) is.kept is.freed is.collected
