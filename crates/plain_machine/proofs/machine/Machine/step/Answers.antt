use Rattle.std.proofs.Common.{◌≡◌, ℕ, inl, refl, Result, Ok, Err, MatchResult, OnErr, ◌∙◌}
use Rattle.heap_world.specs.declared.command.Command.{Command}
use Rattle.heap_world.specs.declared.reply.Reply.{Reply}
use Rattle.heap_world.specs.World.{World, step}
use Rattle.plain_machine.specs.Worlds.{Does, StandsAmong, StandsFor}
use Rattle.plain_machine.proofs.machine.Machine.step.Goals as goal
use Rattle.world_laws.specs.Wanting.{left_worlds}

-- the world before is one of those that may be left
before_left : {E : Type 0} (r : Result Reply E) (old new w : World) (n : ℕ) (command : Command)
    → MatchResult r (λ reply. Does (step old n command) new reply) (λ _. new ≡ old) → StandsFor old w → OnErr r (StandsAmong new (left_worlds w n command))
unfolding StandsFor
before_left (Ok reply) old new w n command done stands = tt
before_left (Err e) old new w n command same stands = (w, inl refl, same ∙ stands)

pub returns-clause-left : goal.returns-clause-left
returns-clause-left c = λ w stands earlier. before_left c.step_line.result c.args.self.now c.step_line.new.self w c.args.line c.args.command.now c.step_line.ensures stands
