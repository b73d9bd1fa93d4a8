use Rattle.std.proofs.Common.{◌≡◌, ◌≤◌, drop, length}
use Rattle.heap_world.specs.Cards.{add_cards}
use Rattle.plain_machine.proofs.cards.add_cards.Given as goal

abbrev pub invariant-loop-left : goal.invariant-loop-left
invariant-loop-left l = (l.left ≤ length l.cards) × (l.set.items ≡ add_cards (drop l.left l.cards) l.fn.set.items)

abbrev pub decreases-loop-left : goal.decreases-loop-left
decreases-loop-left l = l.left
