use Rattle.std.proofs.Common.{◌≡◌, None, Some, MatchResult, refl, rules, subst, sym}
use Rattle.std.specs.List.{position}
use Rattle.class_layout.specs.Names.{same_name}
use Rattle.heap_world.specs.declared.reply.Refusal.TheVariants as refusal
use Rattle.heap_world.specs.declared.reply.Reply.TheVariants as reply
use Rattle.heap_world.specs.World.{step_found}
use Rattle.plain_machine.specs.Worlds.{Does}
use Rattle.plain_machine.proofs.Worlds.{place_none, process_at}
use Rattle.plain_machine.proofs.machine.Machine.step_line.Goals as goal

pub returns-in-Some : goal.returns-in-Some
returns-in-Some c =
    let place : position (λ q. same_name q.name c.args.command.now.process) c.args.self.now.processes ≡ Some c.in-Some.i = search rules in
    let at = process_at c.args.self.now.processes c.args.command.now.process c.in-Some.i place in
    subst (λ o. MatchResult c.step_at.result (λ r. Does (step_found c.args.self.now c.args.line o c.args.command.now.verb) c.step_at.new.self r) (λ x. c.step_at.new.self ≡ c.args.self.now))
    (sym at.2) (c.step_at.ensures at.0 at.1)

pub returns-in-None : goal.returns-in-None
returns-in-None c =
    let place : position (λ q. same_name q.name c.args.command.now.process) c.args.self.now.processes ≡ None = search rules in
    let none = place_none c.args.self.now.processes c.args.command.now.process place in
    subst (λ o. Does (step_found c.args.self.now c.args.line o c.args.command.now.verb) c.args.self.now (reply.Refused refusal.NoProcess)) (sym none) (refl, refl)
