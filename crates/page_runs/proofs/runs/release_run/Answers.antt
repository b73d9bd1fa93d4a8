use Rattle.std.proofs.Common.{◌≡◌, ◌+◌, ap, subst, ◌∙◌, arith}
use Rattle.std.specs.Prelude.{is_some}
use Rattle.page_runs.specs.Runs.{ReleasesRun}
use Rattle.page_runs.proofs.RunLemmas.{releasing-none, releasing-next, next-same, next-alone, run-lost, others-seen, released-only}
use Rattle.page_runs.proofs.runs.release_run.Goals as goal

pub loop-i-init : goal.loop-i-init
loop-i-init c = record { releases = releasing-none c.args.frames.now c.args.t.0 c.args.first.0; sound = λ sound. sound }

pub release-requires-clause-mapped : goal.release-requires-clause-mapped
release-requires-clause-mapped c =
    let p = c.args.first.0 + c.loop-i.i in
    ap is_some (next-same c.args.frames.now c.loop-i.frames c.args.t.0 c.args.first.0 c.loop-i.i c.loop-i.invariant.releases)
    ∙ c.requires.mapped p (record { from = omega arith; to = omega (arith, c.loop-i-test.true) })

pub release-requires-clause-alone : goal.release-requires-clause-alone
release-requires-clause-alone c =
    let p = c.args.first.0 + c.loop-i.i in
    next-alone c.args.frames.now c.loop-i.frames c.args.t.0 c.args.first.0 c.loop-i.i c.loop-i.invariant.releases
    (c.requires.mapped p (record { from = omega arith; to = omega (arith, c.loop-i-test.true) }))
    (c.requires.alone p (record { from = omega arith; to = omega (arith, c.loop-i-test.true) }))

pub loop-i-preserved : goal.loop-i-preserved
loop-i-preserved c = record {
  releases = releasing-next c.args.frames.now c.loop-i.frames c.release.new.self c.args.t.0 c.args.first.0 c.loop-i.i c.loop-i.invariant.releases c.release.ensures.unmapped c.release.ensures.rest c.release.ensures.room c.release.ensures.freed;
  sound = λ sound. c.release.ensures.sound;
}

pub returns : goal.returns
returns c =
    let old = c.args.frames.now in
    let new = c.loop-i.frames in
    let end : c.loop-i.i ≡ c.args.count = omega arith in
    let all = subst (ReleasesRun old new c.args.t.0 c.args.first.0) end c.loop-i.invariant.releases in
    record {
      releases = all;
      view = run-lost old new c.args.t.0 c.args.first.0 c.args.count all;
      others_seen = others-seen old new c.args.t.0 c.args.first.0 c.args.count all.others;
      only = released-only old new c.args.t.0 c.args.first.0 c.args.count all;
      sound = c.loop-i.invariant.sound;
    }
