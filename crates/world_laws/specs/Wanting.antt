-- What may be left of a world where memory was wanting for a command: the world before it, or how far its line had come.
use Rattle.std.specs.Prelude.{◌≡◌, ◌⊎◌, ℕ, Bool, true, false, List, [], ◌∷◌, Some, length, take}
use Rattle.heap_graph.specs.Collection.{collect}
use Rattle.heap_world.specs.declared.command.Command.{Command}
use Rattle.heap_world.specs.declared.command.Verb.{Verb}
use Rattle.heap_world.specs.declared.command.Verb.TheVariants as verb
use Rattle.heap_world.specs.declared.reply.Reply.{Reply}
use Rattle.heap_world.specs.declared.reply.Reply.TheVariants as reply
use Rattle.heap_world.specs.Acts.{fork_part}
use Rattle.heap_world.specs.Part.{with_collected}
use Rattle.heap_world.specs.World.{Process, World, process_after, process_named, put_process, step}
use Rattle.world_laws.specs.Effects.{is_full}

-- a command with this reply collected: it made an object after a collection, was `gc` or a fork, or found the heap full
abbrev pub collects : Verb → Reply → Bool
collects v (reply.Made number collected) = collected
collects v (reply.Kept kept freed) = true
collects v (reply.Refused why) = is_full why
collects (verb.Fork child) reply.Done = true
collects v r = false

-- the world as `gc` of a process leaves it
abbrev pub collected_world : World → ℕ → List ℕ → World
collected_world w line name = (step w line (record { process = name; verb = verb.Gc })).world

-- the processes of a world as they are in a later one, without those that were made since
abbrev pub without_new : World → World → World
without_new w later = record { processes = take (length w.processes) later.processes }

-- after its collection a fork promotes, and then makes the child
abbrev pub promoted_worlds : World → ℕ → Command → Verb → List World
promoted_worlds w line c (verb.Fork child) = without_new w (step w line c).world ∷ []
promoted_worlds w line c v = []

-- the worlds on the way of a command, if it collects
abbrev pub worlds_between : Bool → World → ℕ → Command → List World
worlds_between true w line c = collected_world w line c.process ∷ promoted_worlds w line c c.verb
worlds_between false w line c = []

-- where memory was wanting for a command, one of these worlds is left: the world before it; as its collection leaves it;
-- for a fork, as its promotion leaves it, without the child
abbrev pub left_worlds : World → ℕ → Command → List World
left_worlds w line c = w ∷ worlds_between (collects c.verb (step w line c).reply) w line c

-- the command forks
abbrev pub IsFork : Verb → Type 0
IsFork v = (child : List ℕ) × (v ≡ verb.Fork child)

-- the process of the command was collected, or by a fork promoted, and all else is as it was
abbrev pub CameOnAlone : World → ℕ → Command → World → Type 0
CameOnAlone w line c left =
    (q : Process) × (process_named w.processes c.process ≡ Some q)
    × ((left ≡ put_process w (record q { part = with_collected q.part (collect q.part.graph) })) ⊎ (IsFork c.verb × (left ≡ put_process w (process_after line (fork_part q.part) q))))
