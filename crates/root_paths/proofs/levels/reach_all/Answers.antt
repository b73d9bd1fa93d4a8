use Rattle.std.proofs.Common.{◌≡◌, ◌+◌, ◌<◌, arith, length, refl}
use Rattle.std.proofs.lemmas.Grind.{common_steps}
use Rattle.dump_graph.proofs.Marks.{written-back}
use Rattle.root_paths.proofs.Reaching.{all-reached, below-level, last-within, level-more, roots-reached}
use Rattle.root_paths.proofs.levels.reach_all.Goals as goal

pub loop-alloc-init : goal.loop-alloc-init
loop-alloc-init c = rw (c.in_ok-reached.ensures.reached, c.in_ok-reached.ensures.roots) (roots-reached c.args.graph.now)

pub reach_level-requires-clause-nodes : goal.reach_level-requires-clause-nodes
reach_level-requires-clause-nodes c = rw c.deref.ensures.value (last-within c.args.graph.now c.loop-alloc.level c.loop-alloc.reached.items c.loop-alloc.from.items c.loop-alloc.invariant)

pub reach_level-requires-clause-below : goal.reach_level-requires-clause-below
reach_level-requires-clause-below c = rw c.deref_mut.ensures.value (below-level c.args.graph.now c.loop-alloc.level (c.loop-alloc.level + 1) c.loop-alloc.reached.items c.loop-alloc.from.items refl c.loop-alloc.invariant)

pub loop-alloc-preserved : goal.loop-alloc-preserved
loop-alloc-preserved c =
    let some : 0 < length c.loop-alloc.from.items = grind (arith, common_steps) in
    let made = rw (c.deref.ensures.value, c.deref_mut.ensures.value) at c.in_ok-from.ensures.made in
    let same = rw c.deref_mut.ensures.value at c.in_ok-from.ensures.length in
    rw (written-back c.reach_level.new.reached c.loop-alloc.reached.items c.loop-alloc.reached.len same c.loop-alloc.reached.ok.0)
    (level-more c.args.graph.now c.loop-alloc.level (c.loop-alloc.level + 1) c.loop-alloc.reached.items c.loop-alloc.from.items c.reach_level.new.reached c.in_ok-from.from.items refl c.requires some c.loop-alloc.invariant made)

pub returns : goal.returns
returns c =
    let none : length c.loop-alloc.from.items ≡ 0 = grind (arith, common_steps) in
    all-reached c.args.graph.now c.loop-alloc.level c.loop-alloc.reached.items c.loop-alloc.from.items c.requires none c.loop-alloc.invariant
