use Rattle.std.proofs.Common.{◌≡◌, ◌∙◌, ◌↔◌, ℕ, List, true, refl, ap, sym, subst}
use Rattle.cow_pages.specs.View.{view_of}
use Rattle.raw_objects.specs.Raws.{Raws}
use Rattle.live_objects.specs.Marks.{CanFollow, Marking, State, marked}
use Rattle.live_objects.specs.Reach.{Holds, Reached}
use Rattle.live_objects.proofs.FindLemmas.{follow-same, less-left}
use Rattle.live_objects.proofs.ReachLemmas.{marking-done, marking-more, marking-node}
use Rattle.live_objects.proofs.live.follow.Goals as goal

pub loop-at-init : goal.loop-at-init
loop-at-init c = record { same = refl; numbers = refl; marking = λ raws starts can m. m }

pub scan-requires-clause-can : goal.scan-requires-clause-can
scan-requires-clause-can c =
    let all = c.requires.can in
    let cs = c.args.classes.now in
    let rows = c.args.larges.now in
    let i = c.loop-at.invariant in
    let numbers = ap (λ (s : State). s.numbers) c.next.ensures.rest ∙ i.numbers in (
      all.0,
      follow-same cs c.args.frames.now c.loop-at.frames c.args.t.0 all.0 rows c.args.marks.now.numbers c.next.new.self.numbers i.same numbers all.2,
      marking-node cs rows all.0 all.1 c.loop-at.marks c.next.new.self.waiting c.in-Some.at.0 c.in-Some.ensures.waiting (i.marking all.0 all.1 all.2 all.3),
    )

pub loop-at-smaller : goal.loop-at-smaller
loop-at-smaller c =
    let all = c.requires.can in
    let cs = c.args.classes.now in
    let rows = c.args.larges.now in
    let i = c.loop-at.invariant in
    let numbers = ap (λ (s : State). s.numbers) c.next.ensures.rest ∙ i.numbers in
    less-left (Holds cs rows all.0 c.in-Some.at.0) c.loop-at.marks c.next.new.self c.scan.new.marks c.in-Some.at.0 c.in-Some.ensures.waiting c.next.ensures.rest
    (c.in_ok-scan.ensures.takes all.0 (follow-same cs c.args.frames.now c.loop-at.frames c.args.t.0 all.0 rows c.args.marks.now.numbers c.next.new.self.numbers i.same numbers all.2)
    (marking-node cs rows all.0 all.1 c.loop-at.marks c.next.new.self.waiting c.in-Some.at.0 c.in-Some.ensures.waiting (i.marking all.0 all.1 all.2 all.3)))

pub loop-at-preserved : goal.loop-at-preserved
loop-at-preserved c =
    let cs = c.args.classes.now in
    let rows = c.args.larges.now in
    let i = c.loop-at.invariant in
    let at = c.in-Some.at.0 in
    let numbers = ap (λ (s : State). s.numbers) c.next.ensures.rest ∙ i.numbers in
    let all = c.requires.can in
    let takes = λ (raws : Raws) (starts : List ℕ) (can : CanFollow cs (view_of c.args.frames.now c.args.t.0) raws rows c.args.marks.now.numbers) (m : Marking cs rows raws starts c.args.marks.now).
    c.in_ok-scan.ensures.takes raws (follow-same cs c.args.frames.now c.loop-at.frames c.args.t.0 raws rows c.args.marks.now.numbers c.next.new.self.numbers i.same numbers can)
    (marking-node cs rows raws starts c.loop-at.marks c.next.new.self.waiting at c.in-Some.ensures.waiting (i.marking raws starts can m)) in
    record {
      same = c.scan.ensures.same ∙ i.same;
      numbers = (takes all.0 all.1 all.2 all.3).numbers ∙ numbers;
      marking = λ raws starts can m. marking-more cs rows raws starts c.loop-at.marks c.next.new.self c.scan.new.marks at c.in-Some.ensures.waiting c.next.ensures.rest (i.marking raws starts can m) (takes raws starts can m);
    }

pub returns-clause-marks : goal.returns-clause-marks
returns-clause-marks c = λ raws starts can m a.
    let cs = c.args.classes.now in
    let rows = c.args.larges.now in
    subst (λ (s : State). (marked s a ≡ true) ↔ Reached cs rows raws starts a) (sym c.next.ensures.rest)
    (marking-done cs rows raws starts c.loop-at.marks c.in_default.ensures.waiting.0 (c.loop-at.invariant.marking raws starts can m) a)
