use Rattle.std.proofs.Common.{◌≡◌, arith, ◌<◌, List, ℕ, get_or, length, refl, subst, sym}
use Rattle.std.specs.Prelude.{All}
use Rattle.root_paths.specs.Paths.{targets}
use Rattle.root_paths.specs.Levels.{Led}
use Rattle.root_paths.proofs.Ends.{targets-within}
use Rattle.root_paths.proofs.Leading.{MadeLevel-more, MadeLevel-none}
use Rattle.root_paths.proofs.levels.reach_level.Goals as goal

pub loop-number-init : goal.loop-number-init
loop-number-init c = rw c.new-next.ensures.items (MadeLevel-none c.args.graph.now c.args.level c.args.reached.now)

pub reach_targets-requires : goal.reach_targets-requires
reach_targets-requires c =
    let number = get_or c.args.from.now c.loop-number.number-index 0 in
    let same : length c.args.graph.now ≡ length c.loop-number.reached = omega (arith, c.loop-number.invariant.as_many, c.requires.as_many) in
    subst (λ (l : List ℕ). All (λ t. t < length c.loop-number.reached) l) (sym c.targets.ensures)
    (subst (λ n. All (λ t. t < n) (targets c.args.graph.now number)) same (targets-within c.args.graph.now number c.requires.within))

pub loop-number-preserved : goal.loop-number-preserved
loop-number-preserved c =
    let number = get_or c.args.from.now c.loop-number.number-index 0 in
    let within : number < length c.args.graph.now = c.requires.nodes c.loop-number.number-index 0 c.loop-number-test.true in
    let led = subst (λ (ts : List ℕ). Led c.args.level number ts c.loop-number.reached c.loop-number.next.items c.reach_targets.new.reached c.reach_targets.new.next.items)
    c.targets.ensures c.in_ok-reach_targets.ensures.led in
    MadeLevel-more c.args.graph.now c.args.level c.args.from.now c.loop-number.number-index number c.args.reached.now c.loop-number.reached c.loop-number.next.items c.reach_targets.new.reached c.reach_targets.new.next.items
    c.requires.below c.loop-number.invariant c.loop-number-test.true refl within led
