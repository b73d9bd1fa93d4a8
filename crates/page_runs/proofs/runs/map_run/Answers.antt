use Rattle.std.proofs.Common.{ap, refl, ◌∙◌}
use Rattle.cow_pages.specs.Memory.{Memory, is_live, page_at}
use Rattle.page_runs.specs.Runs.{MapsRun}
use Rattle.page_runs.proofs.RunLemmas.{mapping-reserved, run-seen, others-seen, run-only}
use Rattle.page_runs.proofs.runs.map_run.Goals as goal

pub map_reserved-requires-clause-live : goal.map_reserved-requires-clause-live
map_reserved-requires-clause-live c = ap (λ (it : Memory). is_live it c.args.t.0) c.reserve.ensures.rest ∙ c.requires.live

pub map_reserved-requires-clause-unmapped : goal.map_reserved-requires-clause-unmapped
map_reserved-requires-clause-unmapped c = λ p in_run. ap (λ (it : Memory). page_at it c.args.t.0 p) c.reserve.ensures.rest ∙ c.requires.unmapped p in_run

pub returns : goal.returns
returns c =
    let old = c.args.frames.now in
    let new = c.map_reserved.new.frames in
    let t = c.args.t.0 in
    let all : MapsRun old new t c.args.first.0 c.args.count =
    mapping-reserved old c.reserve.new.self new t c.args.first.0 c.args.count c.reserve.ensures.was_sound (record {
      rest = c.reserve.ensures.rest;
      spare = c.in_ok-reserve.ensures.no_more;
      frames = c.in_ok-reserve.ensures.frames;
      leaf_count = c.in_ok-reserve.ensures.leaves;
    }) c.map_reserved.ensures.maps in
    record {
      maps = all;
      view = run-seen old new t c.args.first.0 c.args.count all;
      others_seen = others-seen old new t c.args.first.0 c.args.count all.others;
      only = run-only old new t c.args.first.0 c.args.count all;
      enough = λ room. refl;
      err = tt;
      sound = c.map_reserved.ensures.sound;
    }
