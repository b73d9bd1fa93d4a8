use Rattle.std.proofs.Common.{true, ◌∙◌, ◌-◌, ◌^◌, ◌≡◌, refl, ap, sym, subst, arith}
use Rattle.std.proofs.lemmas.Bool.{and_parts}
use Rattle.cow_pages.specs.View.{view_of}
use Rattle.raw_objects.proofs.Turned.{no-slot, none-last}
use Rattle.object_view.specs.Objects.{reference_place, slot_at}
use Rattle.raw_objects.specs.Raws.{Raws}
use Rattle.live_objects.specs.Marks.{CanConsider, CanFollow}
use Rattle.live_objects.specs.Reach.{is_mortal, is_node}
use Rattle.live_objects.proofs.FollowLemmas.{before-all, before-none, before-strong, before-weak, following, found-considered, object-now, scanned}
use Rattle.live_objects.proofs.TakesLemmas.{not-false, not-true}
use Rattle.live_objects.proofs.live.scan.Goals as goal
use Rattle.live_objects.proofs.live.scan.Goals.{then-not-slot+in_ok-consider, else-not-slot}

pub loop-k-init : goal.loop-k-init
loop-k-init c = record { same = refl; takes = λ raws can node. before-none c.args.classes.now c.args.larges.now raws c.args.at.0 c.args.marks.now }

pub ref_slot-requires : goal.ref_slot-requires
ref_slot-requires c =
    let can = c.requires.can in
    ((can.0.raw c.args.at.0).shape, object-now c.args.classes.now c.args.larges.now can.0 c.args.marks.now.numbers c.args.t.0 c.args.at.0 c.args.frames.now c.loop-k.frames c.loop-k.invariant.same can.1 can.2)

pub consider-requires-clause-can : goal.consider-requires-clause-can
consider-requires-clause-can c =
    let cs = c.args.classes.now in
    let rows = c.args.larges.now in
    let at = c.args.at.0 in
    let can = c.requires.can in
    let numbers = c.args.marks.now.numbers in
    let v = view_of c.args.frames.now c.args.t.0 in
    let it = scanned cs rows can.0 numbers c.args.t.0 at c.loop-k.k c.args.frames.now c.loop-k.frames c.ref_slot.new.frames c.ref_slot.result c.requires.rows c.loop-k.invariant.same can.1 can.2 c.ref_slot.ensures.slot c.ref_slot.ensures.reads in
    let f = following cs v can.0 rows numbers at c.loop-k.k c.in-Some.slot can.1 can.2 (sym c.in-Some.is ∙ it.slot) in
    subst (λ ns. CanConsider rows ns c.in-Some.slot.target.0) (sym (c.loop-k.invariant.takes can.0 can.1 can.2).numbers) (found-considered cs v can.0 rows numbers c.in-Some.slot.target.0 can.1 f.found)

pub loop-k-preserved : goal.loop-k-preserved
loop-k-preserved c =
    let cs = c.args.classes.now in
    let rows = c.args.larges.now in
    let at = c.args.at.0 in
    let k = c.loop-k.k in
    let slot = c.in-Some.slot in
    let numbers = c.args.marks.now.numbers in
    let v = view_of c.args.frames.now c.args.t.0 in
    let read = λ (raws : Raws) (can : CanFollow cs v raws rows numbers) (node : is_node rows raws at ≡ true).
    scanned cs rows raws numbers c.args.t.0 at k c.args.frames.now c.loop-k.frames c.ref_slot.new.frames c.ref_slot.result c.requires.rows c.loop-k.invariant.same can node c.ref_slot.ensures.slot c.ref_slot.ensures.reads in
    record {
      same = (read c.requires.can.0 c.requires.can.1 c.requires.can.2).same;
      takes = λ raws can node.
          let f = following cs v raws rows numbers at k slot can node (sym c.in-Some.is ∙ (read raws can node).slot) in
          let was = c.loop-k.invariant.takes raws can node in
          elim c.if-not-slot.branch [
            | then-not-slot+in_ok-consider w ↦ rw w.marks-is (before-strong cs rows raws at k slot c.args.marks.now c.loop-k.marks w.consider.new.self f (not-true slot.weak w.if-not-slot.true) was w.in_ok-consider.ensures)
            | else-not-slot w ↦ rw w.marks-is (before-weak cs rows raws at k slot c.args.marks.now c.loop-k.marks f (not-false slot.weak w.if-not-slot.false) was)
          ];
    }

pub returns-in_default-clause-same : goal.returns-in_default-clause-same
returns-in_default-clause-same c =
    let can = c.requires.can in
    (scanned c.args.classes.now c.args.larges.now can.0 c.args.marks.now.numbers c.args.t.0 c.args.at.0 c.loop-k.k c.args.frames.now c.loop-k.frames c.ref_slot.new.frames c.ref_slot.result c.requires.rows c.loop-k.invariant.same can.1 can.2
    c.ref_slot.ensures.slot c.ref_slot.ensures.reads).same

pub returns-in_err-consider-clause-same : goal.returns-in_err-consider-clause-same
returns-in_err-consider-clause-same c =
    let can = c.requires.can in
    (scanned c.args.classes.now c.args.larges.now can.0 c.args.marks.now.numbers c.args.t.0 c.args.at.0 c.loop-k.k c.args.frames.now c.loop-k.frames c.ref_slot.new.frames c.ref_slot.result c.requires.rows c.loop-k.invariant.same can.1 can.2
    c.ref_slot.ensures.slot c.ref_slot.ensures.reads).same

pub returns-in_default-clause-takes : goal.returns-in_default-clause-takes
returns-in_default-clause-takes c = λ raws can node.
    let cs = c.args.classes.now in
    let rows = c.args.larges.now in
    let at = c.args.at.0 in
    let numbers = c.args.marks.now.numbers in
    let v = view_of c.args.frames.now c.args.t.0 in
    let it = scanned cs rows raws numbers c.args.t.0 at c.loop-k.k c.args.frames.now c.loop-k.frames c.ref_slot.new.frames c.ref_slot.result c.requires.rows c.loop-k.invariant.same can node c.ref_slot.ensures.slot c.ref_slot.ensures.reads in
    let none = no-slot (slot_at v at) c.ref_slot.result (reference_place cs (raws.raw at).shape c.loop-k.k) c.in_default.not-Some it.slot in
    before-all cs rows raws at v numbers c.loop-k.k c.args.marks.now c.loop-k.marks c.requires.rows can node none (c.loop-k.invariant.takes raws can node)

pub returns-clause-takes : goal.returns-clause-takes
returns-clause-takes c = λ raws can node.
    let cs = c.args.classes.now in
    let rows = c.args.larges.now in
    let at = c.args.at.0 in
    let numbers = c.args.marks.now.numbers in
    let v = view_of c.args.frames.now c.args.t.0 in
    let last : c.loop-k.k ≡ 2 ^ 64 - 1 = omega arith in
    let none = ap (reference_place cs (raws.raw at).shape) last ∙ none-last cs v raws at can.holds (and_parts (raws.has at) (is_mortal rows at) node).0 in
    before-all cs rows raws at v numbers c.loop-k.k c.args.marks.now c.loop-k.marks c.requires.rows can node none (c.loop-k.invariant.takes raws can node)
