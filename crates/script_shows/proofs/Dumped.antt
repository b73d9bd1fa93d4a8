-- The dumps of a script: the graph of each is formed, so that it is shown.
use Rattle.std.proofs.Common.{◌≡◌, ℕ, ◌+◌, ◌≤◌, Bool, true, false, List, [], ◌∷◌, Option, None, Some, Result, Ok, Err, length, nat_le, refl, arith}
use Rattle.std.specs.List.{All}
use Rattle.std.proofs.lemmas.Bool.{leb-true}
use Rattle.std.proofs.lemmas.List.Elements.{All-append, All-cons, All-nil, All-weaker}
use Rattle.model_numbers.specs.Numbers.{line_limit, most_regions}
use Rattle.heap_graph.specs.Table.{Fits}
use Rattle.heap_world.specs.declared.command.Command.{Command}
use Rattle.heap_world.specs.declared.command.Verb.{Verb}
use Rattle.heap_world.specs.declared.command.Verb.TheVariants as verb
use Rattle.heap_world.specs.declared.reply.Reply.{Reply}
use Rattle.heap_world.specs.declared.reply.Reply.TheVariants as reply
use Rattle.heap_graph.specs.Formed.{IsFormed}
use Rattle.heap_world.specs.World.{Process, World, first_world, process_named, step}
use Rattle.hprof_write.specs.Written.{written}
use Rattle.script_lang.specs.declared.read.LineError.{LineError}
use Rattle.script_lang.specs.Grammar.{line_meaning}
use Rattle.script_report.specs.Dumps.{Dumping, dumping_asked, dumping_of, dumping_told}
use Rattle.script_report.specs.Report.{LineDone, dumps_from, dumps_of, line_done, line_if_short, step_line}
use Rattle.world_laws.specs.Worlds.{IsSoundWorld}
use Rattle.world_laws.proofs.SoundWorlds.{first_world_sound, step_sound}
use Rattle.world_laws.proofs.Stepping.{named_in}
use Rattle.dump_shows.specs.Shows.{Shows}
use Rattle.dump_shows.proofs.Whole.{all-shown}
use Rattle.script_shows.proofs.Few.{MeansFew, few-line}
use Rattle.script_shows.proofs.Seen.{seen}

abbrev HasFormed : Dumping → Type 0
HasFormed d = IsFormed d.graph

-- the dump of a command, in a sound world after it
asked-formed : (w : World) (name : List ℕ) (v : Verb) (r : Reply) → IsSoundWorld w → All HasFormed (dumping_asked w name v r)
asked-formed w name verb.Dump r sound = told r
  where
    named : (count : ℕ) (found : Option Process) → process_named w.processes name ≡ found → All HasFormed (dumping_of name count found)
    named count None is = All-nil HasFormed
    named count (Some q) is =
        All-cons HasFormed (record { process = name; count = count; graph = q.part.graph }) [] (sound.sound q (named_in w.processes name q is)).formed (All-nil HasFormed)

    told : (r : Reply) → All HasFormed (dumping_told w name r)
    told (reply.Dumped count objects) = named count (process_named w.processes name) refl
    told r = All-nil HasFormed
asked-formed w name v r sound = All-nil HasFormed

-- after a line the world is sound, and the graph of its dump is formed
record IsFine (d : LineDone) : Type 0 where
  world : IsSoundWorld d.world
  dumps : All HasFormed d.dumps

line-fine : (w : World) (n : ℕ) (line : List ℕ) → IsSoundWorld w → IsFine (step_line w n line)
line-fine w n line sound = by (nat_le (length line) line_limit) refl
  where
    meant : (r : Result (Option Command) LineError) → MeansFew r → IsFine (line_done w n r)
    meant (Ok None) few = record { world = sound; dumps = All-nil HasFormed }
    meant (Ok (Some c)) few =
        let after : IsSoundWorld (step w n c).world = step_sound w n c few sound in
        record { world = after; dumps = asked-formed (step w n c).world c.process c.verb (step w n c).reply after }
    meant (Err why) few = record { world = sound; dumps = All-nil HasFormed }

    by : (b : Bool) → nat_le (length line) line_limit ≡ b → IsFine (line_if_short b w n line)
    by true short = meant (line_meaning line) (few-line line (leb-true (length line) line_limit short))
    by false long = record { world = sound; dumps = All-nil HasFormed }

dumps-formed : (w : World) (n : ℕ) (ls : List (List ℕ)) → IsSoundWorld w → All HasFormed (dumps_from w n ls)
dumps-formed w n [] sound = All-nil HasFormed
dumps-formed w n (l ∷ ls) sound =
    let d : LineDone = step_line w n l in
    let fine : IsFine (step_line w n l) = line-fine w n l sound in
    All-append HasFormed d.dumps (dumps_from d.world (n + 1) ls) fine.dumps (dumps-formed d.world (n + 1) ls fine.world)

-- the dump shows its graph under each table that fits
abbrev IsShown : Dumping → Type 0
IsShown d = (table : ℕ → ℕ) → Fits table d.graph → Shows (written d.graph table) d.graph table

pub dumps-show : (budget : ℕ) (ls : List (List ℕ)) → 1 ≤ budget → budget ≤ most_regions → All IsShown (dumps_of budget ls)
dumps-show budget ls least most =
    All-weaker HasFormed IsShown (λ d formed table fits. all-shown d.graph table (seen d.graph table formed fits)) (dumps_of budget ls)
    (dumps-formed (first_world budget 1) 1 ls (first_world_sound budget 1 least most (omega arith)))
