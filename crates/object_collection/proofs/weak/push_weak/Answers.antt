use Rattle.std.proofs.Common.{◌≡◌, ◌∙◌, ◌<◌, ℕ, length, refl, sym, subst, arith}
use Rattle.cow_pages.specs.Memory.{Memory}
use Rattle.cow_pages.specs.View.{view_of}
use Rattle.raw_objects.specs.Raws.{HoldsRaws, Raws}
use Rattle.live_objects.specs.Live.{addresses}
use Rattle.object_collection.specs.Weaks.{Adds, IsWeakAmong}
use Rattle.object_collection.proofs.WeakLemmas.{among-more, among-none}
use Rattle.object_collection.proofs.weak.push_weak.Goals as goal

pub loop-at-init : goal.loop-at-init
loop-at-init c = record { same = refl; weak = λ raws ok. among-none c.args.classes.now (view_of c.args.frames.now c.args.t.0) raws c.args.ats.now ok (addresses c.args.weak.now.items) }

pub push_weak_of-requires : goal.push_weak_of-requires
push_weak_of-requires c =
    let raws : Raws = c.requires.0 in
    let ok = c.requires.1 in
    let i : ℕ = c.loop-at.at-index in
    let below : i < length c.args.ats.now = omega arith in
    (raws, subst (λ (m : Memory). HoldsRaws c.args.classes.now (view_of m c.args.t.0) raws) (sym c.loop-at.invariant.same) ok.holds, ok.has i below, ok.above i below)

pub loop-at-preserved : goal.loop-at-preserved
loop-at-preserved c = record {
  same = c.push_weak_of.ensures.same ∙ c.loop-at.invariant.same;
  weak = λ raws ok.
      let i : ℕ = c.loop-at.at-index in
      let below : i < length c.args.ats.now = omega arith in
      let holds = subst (λ (m : Memory). HoldsRaws c.args.classes.now (view_of m c.args.t.0) raws) (sym c.loop-at.invariant.same) ok.holds in
      among-more c.args.classes.now (view_of c.args.frames.now c.args.t.0) raws c.args.ats.now ok i (addresses c.args.weak.now.items) (addresses c.loop-at.weak.items) (addresses c.push_weak_of.new.weak.items) below
      (c.loop-at.invariant.weak raws ok) (c.in_ok-push_weak_of.ensures.weak raws holds (ok.has i below));
}

pub returns-clause-weak : goal.returns-clause-weak
returns-clause-weak c = λ raws ok.
    let all : c.loop-at.at-index ≡ length c.args.ats.now = omega arith in
    subst (λ (n : ℕ). Adds (IsWeakAmong c.args.classes.now raws c.args.ats.now n) (addresses c.args.weak.now.items) (addresses c.loop-at.weak.items)) all (c.loop-at.invariant.weak raws ok)
