use Rattle.std.proofs.Common.{◌≡◌, ◌++◌, length}
use Rattle.heap_world.specs.Cards.{slot_cards}
use Rattle.plain_machine.proofs.cards.push_cards.Given as goal

abbrev pub invariant-loop-s : goal.invariant-loop-s
invariant-loop-s l = l.cards.items ++ slot_cards l.graph l.place l.rest ≡ l.fn.cards.items ++ slot_cards l.graph l.place l.slots

abbrev pub decreases-loop-s : goal.decreases-loop-s
decreases-loop-s l = length l.rest
