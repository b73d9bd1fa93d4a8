-- The commands of a script, and what each process is told by its own lines alone.
use Rattle.std.specs.Prelude.{◌≡◌, ℕ, ◌+◌, Bool, true, false, not, List, [], ◌∷◌, ◌++◌, Option, None, Some, Result, Ok, Err, map, filter, length, nat_le}
use Rattle.heap_graph.specs.Reach.{is_among}
use Rattle.model_numbers.specs.Numbers.{line_limit}
use Rattle.heap_world.specs.declared.command.Command.{Command}
use Rattle.heap_world.specs.Isolation.{Told, first_told, is_frames, part_of, told_after}
use Rattle.heap_world.specs.Run.{Line, Answer}
use Rattle.heap_world.specs.World.{first_world}
use Rattle.script_lang.specs.declared.read.LineError.{LineError}
use Rattle.script_lang.specs.Grammar.{line_meaning}
use Rattle.script_lang.specs.Parts.{lines}
use Rattle.script_report.specs.Report.{answers, last_world}

-- the command that a line of this number means, if it means one
abbrev pub command_meant : ℕ → Result (Option Command) LineError → List Line
command_meant n (Ok (Some command)) = record { number = n; command = command } ∷ []
command_meant n (Ok None) = []
command_meant n (Err why) = []

-- a line of more than 4,096 bytes is no command
abbrev pub command_if_short : Bool → ℕ → List ℕ → List Line
command_if_short true n line = command_meant n (line_meaning line)
command_if_short false n line = []

-- the command of the line of a number, if it is one
abbrev pub command_at : ℕ → List ℕ → List Line
command_at n line = command_if_short (nat_le (length line) line_limit) n line

-- the commands among lines, the first of which has this number
abbrev pub commands_from : ℕ → List (List ℕ) → List Line
commands_from n [] = []
commands_from n (l ∷ ls) = command_at n l ++ commands_from (n + 1) ls

-- the commands of a script, each with the number of its line
abbrev pub commands : List ℕ → List Line
commands text = commands_from 1 (lines text)

-- a meaning is that of a bad line
abbrev pub is_bad : Result (Option Command) LineError → Bool
is_bad (Ok line) = false
is_bad (Err why) = true

-- a line is bad, or has more than 4,096 bytes
abbrev pub is_bad_if_short : Bool → List ℕ → Bool
is_bad_if_short true line = is_bad (line_meaning line)
is_bad_if_short false line = true

-- a line that is refused without being a command: it is bad or too long
abbrev pub is_bad_line : List ℕ → Bool
is_bad_line line = is_bad_if_short (nat_le (length line) line_limit) line

-- how many lines are refused without being commands
abbrev pub bad_lines : List (List ℕ) → ℕ
bad_lines ls = length (filter is_bad_line ls)

-- the numbers of lines
abbrev pub numbers : List Line → List ℕ
numbers ls = map (λ l. l.number) ls

-- the answers to the lines of these numbers
abbrev pub answers_to : List ℕ → List Answer → List Answer
answers_to ns given = filter (λ a. is_among ns a.line) given

-- what each process was told by a script
abbrev pub told_by_script : ℕ → List ℕ → List Told
told_by_script budget text = told_after (first_world budget 1) first_told (commands text)

-- a line that is left blank unless it is kept
abbrev pub blank_unless : Bool → List ℕ → List ℕ
blank_unless true line = line
blank_unless false line = []

-- the text of lines, the first of which has this number: each whose number isn't in the list is left blank
abbrev pub only_lines : List ℕ → ℕ → List (List ℕ) → List ℕ
only_lines ns n [] = []
only_lines ns n (l ∷ ls) = blank_unless (is_among ns n) l ++ 10 ∷ only_lines ns (n + 1) ls

-- the script of a process's own lines alone: every other line is left blank
abbrev pub own_script : Told → List ℕ → List ℕ
own_script t text = only_lines (numbers t.lines) 1 (lines text)

-- the numbers of a process's own lines, but of those that count frames
abbrev pub heard : Told → List ℕ
heard t = numbers (filter (λ l. not (is_frames l.command.verb)) t.lines)

-- its own lines alone make of a process what it is: they get the same answers, but for counts of frames, and it has the
-- same part
pub record IsAloneIn (budget : ℕ) (text : List ℕ) (t : Told) : Type 0 where
  pub only_own : commands (own_script t text) ≡ t.lines
  pub answers : answers_to (heard t) (answers budget text) ≡ answers_to (heard t) (answers budget (own_script t text))
  pub part : part_of (last_world budget text) t.name ≡ part_of (last_world budget (own_script t text)) t.name

-- the same of each process
abbrev pub AreAloneIn : ℕ → List ℕ → List Told → Type 0
AreAloneIn budget text [] = Unit {0}
AreAloneIn budget text (t ∷ ts) = IsAloneIn budget text t × AreAloneIn budget text ts
