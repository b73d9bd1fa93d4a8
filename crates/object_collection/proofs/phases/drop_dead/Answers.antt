use Rattle.std.proofs.Common.{◌∙◌, List, sym, ap, subst}
use Rattle.large_objects.specs.declared.rows.LargeRow.{LargeRow}
use Rattle.large_objects.specs.Pages.{AreAlone, HasPages, ReleasesRows}
use Rattle.large_objects.specs.Rows.{dead, swept}
use Rattle.region_space.specs.Space.{filled, lists_of}
use Rattle.object_collection.proofs.Dropping.{all-lost, marked-alone, marked-pages, regions-kept}
use Rattle.object_collection.proofs.Marked.{swept-marked}
use Rattle.object_collection.proofs.phases.drop_dead.Goals as goal

pub sweep-requires-clause-pages : goal.sweep-requires-clause-pages
sweep-requires-clause-pages c =
    subst (λ (rows : List LargeRow). HasPages c.drop_from.new.frames c.args.t.0 rows) (sym c.mark_all.ensures)
    (marked-pages _ _ _ (lists_of c.args.regions.now) _ c.args.large.now c.requires.space c.requires.are_rows c.requires.unmarked c.drop_from.ensures.releases c.drop_from.ensures.only c.requires.pages)

pub sweep-requires-clause-alone : goal.sweep-requires-clause-alone
sweep-requires-clause-alone c =
    subst (λ (rows : List LargeRow). AreAlone c.drop_from.new.frames c.args.t.0 (dead rows)) (sym c.mark_all.ensures)
    (marked-alone _ _ _ (lists_of c.args.regions.now) _ c.args.large.now c.requires.space c.requires.are_rows c.requires.unmarked c.drop_from.ensures.releases c.drop_from.ensures.only c.requires.pages c.requires.alone)

pub returns-clause-rows : goal.returns-clause-rows
returns-clause-rows c = c.sweep.ensures.rows ∙ ap (λ (rows : List LargeRow). swept rows) c.mark_all.ensures ∙ swept-marked c.args.large.now c.args.larges.now c.requires.unmarked

pub returns-clause-loses : goal.returns-clause-loses
returns-clause-loses c =
    all-lost _ _ _ (lists_of c.args.regions.now) _ c.args.large.now c.requires.space c.requires.are_rows c.requires.unmarked c.drop_from.ensures.releases c.drop_from.ensures.only _
    (subst (λ (rows : List LargeRow). ReleasesRows c.drop_from.new.frames c.sweep.new.frames c.args.t.0 (dead rows)) c.mark_all.ensures c.sweep.ensures.releases)

pub returns-clause-region_pages : goal.returns-clause-region_pages
returns-clause-region_pages c =
    regions-kept _ _ _ (lists_of c.args.regions.now) _ c.args.large.now c.requires.space c.requires.are_rows c.requires.unmarked c.drop_from.ensures.releases c.drop_from.ensures.only _
    (subst (λ (rows : List LargeRow). ReleasesRows c.drop_from.new.frames c.sweep.new.frames c.args.t.0 (dead rows)) c.mark_all.ensures c.sweep.ensures.releases) (filled (lists_of c.drop_from.new.self)) c.drop_from.ensures.pages
