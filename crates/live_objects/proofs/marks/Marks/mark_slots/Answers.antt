use Rattle.std.proofs.Common.{false, sym, subst, get_or}
use Rattle.object_view.specs.declared.names.Slot.{Slot}
use Rattle.live_objects.specs.Marks.{CanConsider}
use Rattle.live_objects.proofs.StartLemmas.{slots-more, strong-one, target-in, weak-none}
use Rattle.live_objects.proofs.marks.Marks.mark_slots.Goals as goal
use Rattle.live_objects.proofs.marks.Marks.mark_slots.Goals.{then-not-slot+in_ok-consider, else-not-slot}

pub consider-requires-clause-can : goal.consider-requires-clause-can
consider-requires-clause-can c =
    let d : Slot = record { at = record { 0 = 0 }; target = record { 0 = 0 }; weak = false } in
    let k = c.loop-slot.slot-index in
    let n = (get_or c.args.slots.now k d).target.0 in
    subst (λ ns. CanConsider c.args.larges.now ns n) (sym c.loop-slot.invariant.numbers) (c.requires.can n (target-in c.args.slots.now k d c.loop-slot-test.true c.if-not-slot.true))

pub loop-slot-preserved : goal.loop-slot-preserved
loop-slot-preserved c =
    let d : Slot = record { at = record { 0 = 0 }; target = record { 0 = 0 }; weak = false } in
    let rows = c.args.larges.now in
    let k = c.loop-slot.slot-index in
    let slot : Slot = get_or c.args.slots.now k d in
    slots-more rows c.args.slots.now k d c.args.self.now c.loop-slot.self c.if-not-slot.self c.loop-slot-test.true c.loop-slot.invariant
    (elim c.if-not-slot.branch [
      | then-not-slot+in_ok-consider w ↦ rw w.self-is (strong-one rows slot c.loop-slot.self w.consider.new.self w.if-not-slot.true w.in_ok-consider.ensures)
      | else-not-slot w ↦ rw w.self-is (weak-none rows slot c.loop-slot.self w.if-not-slot.false)
    ])
