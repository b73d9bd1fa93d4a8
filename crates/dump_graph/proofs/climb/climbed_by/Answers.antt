use Rattle.std.proofs.Common.{◌/◌, arith, ap, ◌∙◌, length, map}
use Rattle.std.specs.List.{range_with_len}
use Rattle.std.proofs.lemmas.List.{length-map}
use Rattle.dump_graph.specs.Climbing.{standing, step_from}
use Rattle.dump_graph.proofs.ClimbTables.{climbs-begin, climbs-end, climbs-even, climbs-odd, climbs-within}
use Rattle.dump_graph.proofs.climb.climbed_by.Goals as goal
use Rattle.dump_graph.proofs.climb.climbed_by.Goals.{then-left-eq1+in_ok-climbs-2, else-left-eq1}

pub loop-left-init : goal.loop-left-init
loop-left-init c = λ known one.
    climbs-begin known c.args.steps c.in_ok-climbs.climbs.items c.args.one.items
    (c.in_ok-climbs.ensures ∙ ap (λ n. map standing (range_with_len 0 n)) (c.len.ensures ∙ (c.args.one.ok.0 ∙ (ap length one ∙ length-map known (step_from known))))) one

pub all_joined-requires : goal.all_joined-requires
all_joined-requires c =
    let known = c.requires.0 in
    let had = c.loop-left.invariant known c.requires.1 in
    rw (c.deref.ensures.value, c.deref-then-left-eq1.ensures.value)
    (climbs-within known had.0 (length c.loop-left.power.items) c.loop-left.climbs.items had.2.0 had.2.1.0)

pub all_joined-requires-in-loop-left : goal.all_joined-requires-in-loop-left
all_joined-requires-in-loop-left c =
    let known = c.requires.0 in
    let had = c.loop-left.invariant known c.requires.1 in
    rw (c.deref-in-loop-left.ensures.value, c.deref-in-loop-left-2.ensures.value)
    (climbs-within known had.1 (length c.loop-left.power.items) c.loop-left.power.items had.2.1 had.2.1.0)

pub loop-left-preserved : goal.loop-left-preserved
loop-left-preserved c = λ known one.
    let left = c.loop-left.left in
    let power = rw (c.deref-in-loop-left.ensures.value, c.deref-in-loop-left-2.ensures.value) at c.in_ok-power.ensures in
    elim c.if-left-eq1.branch [
      | then-left-eq1+in_ok-climbs-2 w ↦
          let climbs = rw (w.deref.ensures.value, w.deref-then-left-eq1.ensures.value) at w.in_ok-climbs-2.ensures in
          rw w.climbs-is (climbs-odd known c.args.steps left (left / 2) c.loop-left.climbs.items c.loop-left.power.items w.in_ok-climbs-2.climbs.items c.in_ok-power.power.items (c.loop-left.invariant known one) (omega (arith, w.if-left-eq1.true)) climbs power)
      | else-left-eq1 w ↦ rw w.climbs-is (climbs-even known c.args.steps left (left / 2) c.loop-left.climbs.items c.loop-left.power.items c.in_ok-power.power.items (c.loop-left.invariant known one) (omega (arith, w.if-left-eq1.false)) power)
    ]

pub returns : goal.returns
returns c = λ known one.
    climbs-end known c.args.steps c.loop-left.left c.loop-left.climbs.items c.loop-left.power.items (c.loop-left.invariant known one) (omega (arith, c.loop-left-test.false))
