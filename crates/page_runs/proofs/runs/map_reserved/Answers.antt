use Rattle.std.proofs.Common.{◌≡◌, ◌+◌, inr, subst, ◌∙◌, arith}
use Rattle.page_runs.proofs.RunLemmas.{IsMapping, mapping-none, mapping-next, mapping-all, run-seen, others-seen, run-only}
use Rattle.page_runs.proofs.runs.map_reserved.Goals as goal

pub loop-i-init : goal.loop-i-init
loop-i-init c = record { maps = mapping-none c.args.frames.now c.args.t.0 c.args.first.0; sound = c.requires.sound }

pub map_zero-requires-clause-live : goal.map_zero-requires-clause-live
map_zero-requires-clause-live c = c.loop-i.invariant.maps.live c.args.t.0 ∙ c.requires.live

pub map_zero-requires-clause-window : goal.map_zero-requires-clause-window
map_zero-requires-clause-window c = c.requires.window (c.args.first.0 + c.loop-i.i) (record { from = omega arith; to = omega (arith, c.loop-i-test.true) })

pub map_zero-requires-clause-unmapped : goal.map_zero-requires-clause-unmapped
map_zero-requires-clause-unmapped c =
    c.loop-i.invariant.maps.others c.args.t.0 (c.args.first.0 + c.loop-i.i) (inr (inr (omega arith)))
    ∙ c.requires.unmapped (c.args.first.0 + c.loop-i.i) (record { from = omega arith; to = omega (arith, c.loop-i-test.true) })

pub loop-i-preserved : goal.loop-i-preserved
loop-i-preserved c = record {
  maps = mapping-next c.args.frames.now c.loop-i.frames c.map_zero.new.self c.args.t.0 c.args.first.0 c.args.count c.loop-i.i c.requires.unmapped (omega (arith, c.loop-i-test.true)) c.loop-i.invariant.maps
      c.in-Ok.ensures.zeros c.in-Ok.ensures.rest c.in-Ok.ensures.one;
  sound = c.map_zero.ensures.sound;
}

pub returns : goal.returns
returns c =
    let old = c.args.frames.now in
    let new = c.loop-i.frames in
    let t = c.args.t.0 in
    let end : c.loop-i.i ≡ c.args.count = omega arith in
    let all = mapping-all old new t c.args.first.0 c.args.count (subst (IsMapping old new t c.args.first.0) end c.loop-i.invariant.maps) c.requires.unmapped c.loop-i.invariant.sound in
    record {
      maps = all;
      view = run-seen old new t c.args.first.0 c.args.count all;
      others_seen = others-seen old new t c.args.first.0 c.args.count all.others;
      only = run-only old new t c.args.first.0 c.args.count all;
      sound = c.loop-i.invariant.sound;
    }
