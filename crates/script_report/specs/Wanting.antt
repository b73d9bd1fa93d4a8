-- What may be left of a world where memory was wanting for a line.
use Rattle.std.specs.Prelude.{ℕ, ◌+◌, Bool, true, false, List, [], ◌∷◌, Option, None, Some, Result, Ok, Err, length, nat_le}
use Rattle.model_numbers.specs.Numbers.{line_limit}
use Rattle.heap_world.specs.declared.command.Command.{Command}
use Rattle.heap_world.specs.World.{World}
use Rattle.script_lang.specs.declared.read.LineError.{LineError}
use Rattle.script_lang.specs.Grammar.{line_meaning}
use Rattle.script_report.specs.Report.{world_of}
use Rattle.world_laws.specs.Wanting.{left_worlds}

-- a line that is no command leaves the world before it
abbrev pub left_meant : World → ℕ → Result (Option Command) LineError → List World
left_meant w n (Ok None) = w ∷ []
left_meant w n (Ok (Some command)) = left_worlds w n command
left_meant w n (Err why) = w ∷ []

abbrev pub left_if_short : Bool → World → ℕ → List ℕ → List World
left_if_short true w n line = left_meant w n (line_meaning line)
left_if_short false w n line = w ∷ []

-- the worlds of which the line of a number leaves one
abbrev pub line_left : World → ℕ → List ℕ → List World
line_left w n line = left_if_short (nat_le (length line) line_limit) w n line

-- the same for a line that follows others
abbrev pub left_behind : ℕ → List (List ℕ) → List ℕ → List World
left_behind budget before line = line_left (world_of budget before) (1 + length before) line

-- the worlds that may be left between lines that were run and the others: where there are others, the next one leaves one
abbrev pub left_between : ℕ → List (List ℕ) → List (List ℕ) → List World
left_between budget before [] = world_of budget before ∷ []
left_between budget before (line ∷ rest) = left_behind budget before line
