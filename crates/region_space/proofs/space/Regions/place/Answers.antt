use Rattle.std.proofs.Common.{subst}
use Rattle.page_runs.proofs.RunLemmas.{Reserved, mapping-reserved, others-seen, run-only, run-seen}
use Rattle.region_space.specs.Space.{further_from, further_pages}
use Rattle.region_space.proofs.space.Regions.place.Goals as goal

pub returns-clause-maps : goal.returns-clause-maps
returns-clause-maps c =
    let old = c.args.frames.now in
    let mid = c.reserve.new.self in
    let count = further_pages c.args.self.now.in_use c.args.size in
    let made : Reserved old mid count =
    subst (Reserved old mid) c.further_pages.ensures.pages (record {
      rest = c.reserve.ensures.rest;
      spare = c.in_ok-reserve.ensures.no_more;
      frames = c.in_ok-reserve.ensures.frames;
      leaf_count = c.in_ok-reserve.ensures.leaves;
    }) in
    mapping-reserved old mid c.place_copy.new.frames c.args.t.0 (further_from c.args.self.now.in_use c.place_copy.result.0 c.args.size) count c.reserve.ensures.was_sound made c.place_copy.ensures.maps

pub returns-clause-view : goal.returns-clause-view
returns-clause-view c =
    let in_use = c.args.self.now.in_use in
    run-seen c.args.frames.now c.place_copy.new.frames c.args.t.0 (further_from in_use c.place_copy.result.0 c.args.size) (further_pages in_use c.args.size) (returns-clause-maps c)

pub returns-clause-others_seen : goal.returns-clause-others_seen
returns-clause-others_seen c =
    let in_use = c.args.self.now.in_use in
    others-seen c.args.frames.now c.place_copy.new.frames c.args.t.0 (further_from in_use c.place_copy.result.0 c.args.size) (further_pages in_use c.args.size) (returns-clause-maps c).others

pub returns-clause-only : goal.returns-clause-only
returns-clause-only c =
    let in_use = c.args.self.now.in_use in
    run-only c.args.frames.now c.place_copy.new.frames c.args.t.0 (further_from in_use c.place_copy.result.0 c.args.size) (further_pages in_use c.args.size) (returns-clause-maps c)
