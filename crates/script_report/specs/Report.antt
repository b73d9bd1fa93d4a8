-- The report of a script: a function of its bytes.
use Rattle.std.specs.Prelude.{ℕ, ◌+◌, Bool, true, false, List, [], ◌∷◌, ◌++◌, Option, None, Some, Result, Ok, Err, length, nat_le}
use Rattle.std.specs.List.{flat_map, list_any}
use Rattle.model_numbers.specs.Numbers.{line_limit}
use Rattle.heap_world.specs.declared.command.Command.{Command}
use Rattle.heap_world.specs.declared.reply.Reply.{Reply}
use Rattle.heap_world.specs.declared.reply.Reply.TheVariants as reply
use Rattle.heap_world.specs.declared.reply.Refusal.{Refusal}
use Rattle.heap_world.specs.declared.reply.Refusal.TheVariants as refusal
use Rattle.heap_world.specs.Effect.{is_refusal, line_reads}
use Rattle.heap_world.specs.Run.{Answer}
use Rattle.heap_world.specs.World.{World, Stepped, first_world, step}
use Rattle.script_lang.specs.declared.read.LineError.{LineError}
use Rattle.script_lang.specs.Grammar.{line_meaning}
use Rattle.script_lang.specs.Parts.{lines}
use Rattle.script_lang.specs.Texts.{reply_line}
use Rattle.script_report.specs.Dumps.{Dumping, dumping_stepped}

-- what a line does: the world after it, the reply, if the line has one, the dump that it asks for, if it asks for one,
-- and the reads that it allows
pub record LineDone : Type 0 where
  pub world : World
  pub reply : Option Reply
  pub dumps : List Dumping
  pub allowed : ℕ

abbrev pub replied : Command → Stepped → LineDone
replied c s = record { world = s.world; reply = Some s.reply; dumps = dumping_stepped c s; allowed = s.allowed }

-- a line that is refused before it names a process changes nothing
abbrev pub line_refused : World → Refusal → LineDone
line_refused w why = record { world = w; reply = Some (reply.Refused why); dumps = []; allowed = line_reads }

-- a command is stepped; a line that is none is refused
abbrev pub line_done : World → ℕ → Result (Option Command) LineError → LineDone
line_done w n (Ok None) = record { world = w; reply = None; dumps = []; allowed = 0 }
line_done w n (Ok (Some command)) = replied command (step w n command)
line_done w n (Err why) = line_refused w refusal.BadLine

-- a line of more than 4,096 bytes is too long, whatever it holds
abbrev pub line_if_short : Bool → World → ℕ → List ℕ → LineDone
line_if_short true w n line = line_done w n (line_meaning line)
line_if_short false w n line = line_refused w refusal.LineTooLong

-- the line of a number
abbrev pub step_line : World → ℕ → List ℕ → LineDone
step_line w n line = line_if_short (nat_le (length line) line_limit) w n line

-- the answer to a line in front of those to the lines behind it
abbrev pub with_answer : ℕ → Option Reply → List Answer → List Answer
with_answer n None rest = rest
with_answer n (Some r) rest = record { line = n; reply = r } ∷ rest

-- the answers to lines, the first of which has this number
abbrev pub answers_from : World → ℕ → List (List ℕ) → List Answer
answers_from w n [] = []
answers_from w n (l ∷ ls) = let d = step_line w n l in with_answer n d.reply (answers_from d.world (n + 1) ls)

-- the dumps that lines ask for
abbrev pub dumps_from : World → ℕ → List (List ℕ) → List Dumping
dumps_from w n [] = []
dumps_from w n (l ∷ ls) = let d = step_line w n l in d.dumps ++ dumps_from d.world (n + 1) ls

-- the world after lines
abbrev pub world_after : World → ℕ → List (List ℕ) → World
world_after w n [] = w
world_after w n (l ∷ ls) = world_after (step_line w n l).world (n + 1) ls

-- the reads of the image and zygote windows that lines allow
abbrev pub allowance_from : World → ℕ → List (List ℕ) → ℕ
allowance_from w n [] = 0
allowance_from w n (l ∷ ls) = let d = step_line w n l in d.allowed + allowance_from d.world (n + 1) ls

-- the text of answers
abbrev pub report_of : List Answer → List ℕ
report_of answers = flat_map (λ a. reply_line a.line a.reply) answers

-- some answer is a refusal
abbrev pub has_refusal : List Answer → Bool
has_refusal answers = list_any (λ a. is_refusal a.reply) answers

-- the answers to a script's lines, for processes with this budget of regions
abbrev pub answers_of : ℕ → List (List ℕ) → List Answer
answers_of budget ls = answers_from (first_world budget 1) 1 ls

-- the world after a script's lines
abbrev pub world_of : ℕ → List (List ℕ) → World
world_of budget ls = world_after (first_world budget 1) 1 ls

-- the dumps that a script's lines ask for, in order
abbrev pub dumps_of : ℕ → List (List ℕ) → List Dumping
dumps_of budget ls = dumps_from (first_world budget 1) 1 ls

-- the dump that a line asks for which follows others
abbrev pub line_dumps : ℕ → List (List ℕ) → List ℕ → List Dumping
line_dumps budget before line = (step_line (world_of budget before) (1 + length before) line).dumps

-- the report's text for a line that follows others
abbrev pub line_report : ℕ → List (List ℕ) → List ℕ → List ℕ
line_report budget before line =
    let n = 1 + length before in
    report_of (with_answer n (step_line (world_of budget before) n line).reply [])

-- the answers to a script
abbrev pub answers : ℕ → List ℕ → List Answer
answers budget text = answers_of budget (lines text)

abbrev pub report : ℕ → List ℕ → List ℕ
report budget text = report_of (answers budget text)

-- the reads that a script allows
abbrev pub allowance : ℕ → List ℕ → ℕ
allowance budget text = allowance_from (first_world budget 1) 1 (lines text)

-- the world at the end of a script
abbrev pub last_world : ℕ → List ℕ → World
last_world budget text = world_of budget (lines text)
