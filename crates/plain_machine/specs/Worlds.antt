-- What holds of all processes of a machine, and what a machine stands for.
use Rattle.std.specs.Prelude.{◌≡◌, ℕ, List, [], ◌∷◌, Option, None, Some, codes}
use Rattle.class_layout.specs.Placing.{IsIn}
use Rattle.heap_world.specs.declared.command.Verb.{Verb}
use Rattle.heap_world.specs.declared.command.Verb.TheVariants as verb
use Rattle.heap_world.specs.declared.reply.Reply.{Reply}
use Rattle.heap_world.specs.Part.{first_part}
use Rattle.heap_world.specs.Sound.{IsSound}
use Rattle.heap_world.specs.World.{Process, Stepped, World}
use Rattle.world_laws.specs.Worlds.{AreNamedApart}

-- the process that a new machine is prepared with
abbrev pub first_process : ℕ → ℕ → Process
first_process regions number = record { name = codes "zygote"; part = first_part regions number; labels = [] }

-- each process is sound
abbrev pub AreSound : List Process → Type 0
AreSound [] = Unit {0}
AreSound (q ∷ qs) = IsSound q.part × AreSound qs

-- what holds of the processes of each machine
pub record ArePossible (qs : List Process) : Type 0 where
  pub apart : AreNamedApart qs
  pub sound : AreSound qs

-- what contracts see of a machine: for the machine that keeps a world as it is, the world
abbrev pub Meaning : Type 0
Meaning = World

-- a machine stands for a world. The machine that keeps a world as it is stands for that world alone
unfoldable pub StandsFor : Meaning → World → Type 0
StandsFor machine world = machine ≡ world

-- a machine stands for one of these worlds
abbrev pub StandsAmong : Meaning → List World → Type 0
StandsAmong machine worlds = (w : World) × IsIn w worlds × StandsFor machine w

-- a machine does what is wanted: it has the world, and gives the reply
abbrev pub Does : Stepped → World → Reply → Type 0
Does s world reply = (world ≡ s.world) × (reply ≡ s.reply)

-- the child that a command asks for, if it is a fork
abbrev pub forked_child : Verb → Option (List ℕ)
forked_child (verb.Fork child) = Some child
forked_child v = None
