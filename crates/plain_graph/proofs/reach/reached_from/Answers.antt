use Rattle.std.proofs.Common.{◌≡◌, List, ℕ, ap, sym, ◌∙◌}
use Rattle.heap_graph.specs.Reach.{Node, next_round}
use Rattle.plain_graph.proofs.Reaching.{last_round}
use Rattle.plain_graph.proofs.reach.reached_from.Goals as goal

pub returns-then-are_same : goal.returns-then-are_same
returns-then-are_same c =
    let vs : List Node = c.args.nodes.now in
    let from : List ℕ = c.args.from.now in
    let next : c.in_ok-next.next.items ≡ next_round vs from c.loop.seen.items = c.in_ok-next.ensures ∙ ap (next_round vs from) c.deref.ensures.value in
    let same : c.in_ok-next.next.items ≡ c.loop.seen.items = sym c.deref-in-loop.ensures.value ∙ (c.are_same.ensures.0 c.if-are_same.true ∙ c.deref-in-loop-2.ensures.value) in
    last_round vs from c.loop.seen.items c.loop.index c.loop-test.true (sym next ∙ same) c.loop.invariant
