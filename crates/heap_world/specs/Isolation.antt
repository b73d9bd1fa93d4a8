-- What each process was told, and what it answered.
use Rattle.std.specs.Prelude.{◌≡◌, ℕ, Bool, true, false, List, [], ◌∷◌, ◌++◌, Option, None, Some, map}
use Rattle.std.specs.List.{find, list_any}
use Rattle.std.specs.Option.{option_map}
use Rattle.class_layout.specs.Names.{same_name}
use Rattle.heap_world.specs.declared.command.Verb.{Verb}
use Rattle.heap_world.specs.declared.command.Verb.TheVariants as verb
use Rattle.heap_world.specs.declared.reply.Reply.{Reply}
use Rattle.heap_world.specs.declared.reply.Reply.TheVariants as reply
use Rattle.heap_world.specs.declared.reply.Refusal.{Refusal}
use Rattle.heap_world.specs.declared.reply.Refusal.TheVariants as refusal
use Rattle.std.specs.Prelude.{codes}
use Rattle.heap_world.specs.Part.{Part}
use Rattle.heap_world.specs.Run.{Line, Answer, step_line, world_after}
use Rattle.heap_world.specs.World.{World, process_named, is_done}

-- the part of a process
abbrev pub part_of : World → List ℕ → Option Part
part_of w name = option_map (λ q. q.part) (process_named w.processes name)

-- a process's own lines, and its answers to them, but for those that count the frames of all processes
pub record Told : Type 0 where
  pub name : List ℕ
  pub lines : List Line
  pub answers : List Answer

abbrev pub is_frames : Verb → Bool
is_frames verb.Frames = true
is_frames v = false

abbrev pub answer_unless : Bool → ℕ → Reply → List Answer
answer_unless true n r = []
answer_unless false n r = record { line = n; reply = r } ∷ []

-- the answer to a line, unless it counts frames
abbrev pub own_answer : Line → Reply → List Answer
own_answer l r = answer_unless (is_frames l.command.verb) l.number r

-- answers, without those that count frames
abbrev pub own_answers : World → List Line → List Answer
own_answers w [] = []
own_answers w (l ∷ ls) = let s = step_line w l in own_answer l s.reply ++ own_answers s.world ls

abbrev pub tell_if : Bool → Line → Reply → Told → Told
tell_if true l r t = record { name = t.name; lines = t.lines ++ l ∷ []; answers = t.answers ++ own_answer l r }
tell_if false l r t = t

-- a line is the own line of the process that it names
abbrev pub tell : Line → Reply → Told → Told
tell l r t = tell_if (same_name t.name l.command.process) l r t

abbrev pub told_named : List Told → List ℕ → Option Told
told_named ts name = find (λ t. same_name t.name name) ts

-- a child was told what its parent was told, the fork that made it included
abbrev pub child_told : Option Told → List ℕ → List Told
child_told None name = []
child_told (Some t) name = record { name = name; lines = t.lines; answers = t.answers } ∷ []

abbrev pub told_of_fork : Bool → List Told → List ℕ → List ℕ → List Told
told_of_fork true ts parent child = ts ++ child_told (told_named ts parent) child
told_of_fork false ts parent child = ts

abbrev pub with_forked : List Told → Line → Verb → Reply → List Told
with_forked ts l (verb.Fork child) r = told_of_fork (is_done r) ts l.command.process child
with_forked ts l v r = ts

abbrev pub told_by : List Told → Line → Reply → List Told
told_by ts l r = with_forked (map (tell l r) ts) l l.command.verb r

-- what each process was told by lines
abbrev pub told_after : World → List Told → List Line → List Told
told_after w ts [] = ts
told_after w ts (l ∷ ls) = let s = step_line w l in told_after s.world (told_by ts l s.reply) ls

abbrev pub first_told : List Told
first_told = record { name = codes "zygote"; lines = []; answers = [] } ∷ []

abbrev pub is_name_taken : Refusal → Bool
is_name_taken refusal.ProcessTaken = true
is_name_taken why = false

abbrev pub refuses_name : Reply → Bool
refuses_name (reply.Refused why) = is_name_taken why
refuses_name r = false

-- no fork was refused since its name was taken
abbrev pub NoNameTaken : List Answer → Type 0
NoNameTaken given = list_any (λ a. refuses_name a.reply) given ≡ false

-- what a process was told, and is, is what its own lines alone make of it
pub record IsAlone (start end : World) (t : Told) : Type 0 where
  pub answers : t.answers ≡ own_answers start t.lines
  pub part : part_of end t.name ≡ part_of (world_after start t.lines) t.name

-- the same of each process
abbrev pub AreAlone : World → World → List Told → Type 0
AreAlone start end [] = Unit {0}
AreAlone start end (t ∷ ts) = IsAlone start end t × AreAlone start end ts
