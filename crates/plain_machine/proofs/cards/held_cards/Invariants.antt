use Rattle.std.proofs.Common.{◌≡◌, take}
use Rattle.std.specs.List.{flat_map}
use Rattle.heap_graph.specs.Graph.{is_immune}
use Rattle.heap_world.specs.Cards.{object_cards}
use Rattle.plain_machine.proofs.cards.held_cards.Given as goal

abbrev pub invariant-loop-o : goal.invariant-loop-o
invariant-loop-o l = l.all.items ≡ flat_map (λ o. object_cards l.graph (is_immune l.graph.sealed o.place) o) (take l.o-index l.o-items)
