use Rattle.std.proofs.Common.{◌≡◌, true, false, rules, ap, subst, ◌∙◌}
use Rattle.heap_world.specs.World.{Process, fork_if, is_taken}
use Rattle.plain_machine.specs.Worlds.{Does}
use Rattle.plain_machine.proofs.Forks.{fork_refused, forks, not_done}
use Rattle.plain_machine.proofs.machine.Machine.fork.Goals.{in-Done+in_ok-end_fork-in-Done, in_default}
use Rattle.plain_machine.proofs.machine.Machine.fork.Goals as goal

pub returns : goal.returns
returns c q there =
    let r = c.process-q.result.now in
    let same : r ≡ q = cc (c.process-q.ensures.is, there) in
    let world = c.args.self.now in
    let child = c.args.child.now in
    let o = c.in_ok-outcome.outcome in
    let labels = c.in_ok-labels.labels.items in
    let sealed : r.part.graph.sealed ≡ true = search rules in
    let free : is_taken world child ≡ false = search rules in
    elim c.match-outcome-2.branch [
      | in-Done+in_ok-end_fork-in-Done w ↦
          let does = forks world c.args.line r child o labels sealed free c.in_ok-outcome.ensures.done c.in_ok-labels.ensures c.match-outcome-2.self w.in-Done.is
          (w.self-is ∙ w.in_ok-end_fork-in-Done.ensures.ok r c.process-q.ensures.is) in
          let at = subst (λ (p : Process). Does (fork_if p.part.graph.sealed world c.args.line p child) c.match-outcome-2.self o.reply) same does in
          (at.0, ap (λ x. x.reply) w.outcome-is ∙ at.1)
      | in_default w ↦
          let does = fork_refused world c.args.line r child o labels sealed free c.in_ok-outcome.ensures.done c.in_ok-labels.ensures c.match-outcome-2.self (not_done o.reply w.in_default.not-Done)
          (w.self-is ∙ w.settle.ensures r c.process-q.ensures.is) in
          let at = subst (λ (p : Process). Does (fork_if p.part.graph.sealed world c.args.line p child) c.match-outcome-2.self o.reply) same does in
          (at.0, ap (λ x. x.reply) w.outcome-is ∙ at.1)
    ]
