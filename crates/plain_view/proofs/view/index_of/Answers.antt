use Rattle.std.proofs.Common.{arith}
use Rattle.plain_view.proofs.view.index_of.Goals as goal

pub unreachable-requires : goal.unreachable-requires
unreachable-requires c =
    let there = c.requires in
    let less = there.1.0 in
    let end = c.loop-i-test.false in
    c.loop-i.invariant there.0 (omega (arith, less, end)) there.1.1
