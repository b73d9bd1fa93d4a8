-- The world: all processes that were made, with their labels.
use Rattle.std.specs.Prelude.{ℕ, ◌+◌, Bool, true, false, ◌&&◌, not, List, [], ◌∷◌, ◌++◌, Option, None, Some, map, filter, length, nat_eq, sum}
use Rattle.std.specs.List.{find, flat_map, list_any}
use Rattle.class_layout.specs.Names.{same_name}
use Rattle.heap_world.specs.declared.command.Command.{Command}
use Rattle.heap_world.specs.declared.command.Verb.{Verb}
use Rattle.heap_world.specs.declared.command.Verb.TheVariants as verb
use Rattle.heap_world.specs.declared.reply.Reply.{Reply}
use Rattle.heap_world.specs.declared.reply.Reply.TheVariants as reply
use Rattle.heap_world.specs.declared.reply.Refusal.{Refusal}
use Rattle.heap_world.specs.declared.reply.Refusal.TheVariants as refusal
use Rattle.heap_world.specs.declared.names.Label.{Label}
use Rattle.heap_graph.specs.Fork.{child_of}
use Rattle.std.specs.Prelude.{codes}
use Rattle.heap_world.specs.declared.names.PageName.{PageName}
use Rattle.heap_world.specs.Pages.{same_page, standing_pages, own_page_count}
use Rattle.heap_world.specs.Part.{Part, first_part}
use Rattle.heap_world.specs.Effect.{Effect}
use Rattle.heap_world.specs.Acts.{act, fork_part}

-- a process: its name, its part, and its labels, the newest first
pub record Process : Type 0 where
  pub name : List ℕ
  pub part : Part
  pub labels : List Label

-- the processes in the order of their making
pub record World : Type 0 where
  pub processes : List Process

abbrev pub empty_world : World
empty_world = record { processes = [] }

abbrev pub first_world : ℕ → ℕ → World
first_world budget number = record { processes = record { name = codes "zygote"; part = first_part budget number; labels = [] } ∷ [] }

-- these pages now have the line as their label
abbrev pub labelled : ℕ → List PageName → List Label → List Label
labelled line [] labels = labels
labelled line (page ∷ pages) labels = record { page = page; line = line } ∷ labelled line pages labels

-- a page's label: the newest one
abbrev pub label_of : List Label → PageName → Option Label
label_of labels page = find (λ l. same_page l.page page) labels

abbrev pub same_label : Label → Label → Bool
same_label a b = same_page a.page b.page && nat_eq a.line b.line

-- labels without those that come again
abbrev pub keep_label : Bool → Label → List Label → List Label
keep_label true l ls = ls
keep_label false l ls = l ∷ ls

abbrev pub distinct_labels : List Label → List Label
distinct_labels [] = []
distinct_labels (l ∷ ls) = keep_label (list_any (same_label l) ls) l (distinct_labels ls)

abbrev pub some_labels : Option Label → List Label
some_labels None = []
some_labels (Some l) = l ∷ []

-- the labels of the pages that stand in a process
abbrev pub standing_labels : Process → List Label
standing_labels q = flat_map (λ page. some_labels (label_of q.labels page)) (standing_pages q.part.graph)

abbrev pub live : List Process → List Process
live qs = filter (λ q. not q.part.exited) qs

-- frames: one for each page and label of the pages that stand, and one for each page of a process's own
abbrev pub frame_count : World → ℕ
frame_count w =
    length (distinct_labels (flat_map standing_labels (live w.processes))) + sum (map (λ q. own_page_count q.part.graph) (live w.processes))

abbrev pub process_named : List Process → List ℕ → Option Process
process_named qs name = find (λ q. same_name q.name name) qs

abbrev pub is_taken : World → List ℕ → Bool
is_taken w name = list_any (λ q. same_name q.name name) w.processes

-- what a line does to the world: the world after it, the reply, and the reads that it allows
pub record Stepped : Type 0 where
  pub world : World
  pub reply : Reply
  pub allowed : ℕ

abbrev pub refused : World → Refusal → Stepped
refused w why = record { world = w; reply = reply.Refused why; allowed = 16 }

-- a process after a command
abbrev pub process_after : ℕ → Effect → Process → Process
process_after line e q = record q { part = e.part; labels = labelled line (e.made ++ e.first) q.labels }

abbrev pub put_if : Bool → Process → Process → Process
put_if true new old = new
put_if false new old = old

abbrev pub put_process : World → Process → World
put_process w q = record { processes = map (λ old. put_if (same_name old.name q.name) q old) w.processes }

abbrev pub stepped : World → ℕ → Process → Effect → Stepped
stepped w line q e = record { world = put_process w (process_after line e q); reply = e.reply; allowed = e.allowed }

-- a fork's child has the parent's part, but it was never dumped, and the parent's labels
abbrev pub child_process : Process → List ℕ → Process
child_process q name = record { name = name; part = record q.part { graph = child_of q.part.graph }; labels = q.labels }

abbrev pub with_child : Stepped → Process → List ℕ → Stepped
with_child s q name = record s { world = record { processes = s.world.processes ++ child_process q name ∷ [] } }

abbrev pub is_done : Reply → Bool
is_done reply.Done = true
is_done r = false

abbrev pub fork_done : Bool → World → ℕ → Process → List ℕ → Effect → Stepped
fork_done true w line q name e = with_child (stepped w line q e) (process_after line e q) name
fork_done false w line q name e = stepped w line q e

abbrev pub fork_named : Bool → World → ℕ → Process → List ℕ → Stepped
fork_named true w line q name = refused w refusal.ProcessTaken
fork_named false w line q name = let e = fork_part q.part in fork_done (is_done e.reply) w line q name e

-- the refusals of a fork in their order: the process isn't sealed, the name is taken, the zygote window is full
abbrev pub fork_if : Bool → World → ℕ → Process → List ℕ → Stepped
fork_if false w line q name = refused w refusal.NotSealed
fork_if true w line q name = fork_named (is_taken w name) w line q name

-- two commands look beyond the process: a fork, and the count of frames
abbrev pub step_process : World → ℕ → Process → Verb → Stepped
step_process w line q (verb.Fork child) = fork_if q.part.graph.sealed w line q child
step_process w line q verb.Frames = record { world = w; reply = reply.Frames (frame_count w); allowed = 16 }
step_process w line q v = stepped w line q (act q.part v)

abbrev pub step_live : Bool → World → ℕ → Process → Verb → Stepped
step_live true w line q v = refused w refusal.Exited
step_live false w line q v = step_process w line q v

abbrev pub step_found : World → ℕ → Option Process → Verb → Stepped
step_found w line None v = refused w refusal.NoProcess
step_found w line (Some q) v = step_live q.part.exited w line q v

-- a command of the line of this number
abbrev pub step : World → ℕ → Command → Stepped
step w line c = step_found w line (process_named w.processes c.process) c.verb
