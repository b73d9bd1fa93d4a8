-- Lists of commands, each of a line, and what a world answers to them.
use Rattle.std.specs.Prelude.{ℕ, ◌+◌, List, [], ◌∷◌}
use Rattle.heap_world.specs.declared.command.Command.{Command}
use Rattle.heap_world.specs.declared.reply.Reply.{Reply}
use Rattle.heap_world.specs.World.{World, Stepped, step}

-- a command, and the number of its line
pub record Line : Type 0 where
  pub number : ℕ
  pub command : Command

-- a reply, and the number of the line that it answers
pub record Answer : Type 0 where
  pub line : ℕ
  pub reply : Reply

abbrev pub step_line : World → Line → Stepped
step_line w l = step w l.number l.command

-- the answers to lines
abbrev pub answers : World → List Line → List Answer
answers w [] = []
answers w (l ∷ ls) = let s = step_line w l in record { line = l.number; reply = s.reply } ∷ answers s.world ls

-- the world after lines
abbrev pub world_after : World → List Line → World
world_after w [] = w
world_after w (l ∷ ls) = world_after (step_line w l).world ls

-- the reads of the image and zygote windows that lines allow
abbrev pub allowance : World → List Line → ℕ
allowance w [] = 0
allowance w (l ∷ ls) = let s = step_line w l in s.allowed + allowance s.world ls
