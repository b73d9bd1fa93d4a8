-- What a shelf gains by dumps: two entries for each, the dump and the text of its table of addresses.
use Rattle.std.specs.Prelude.{◌≡◌, ◌⊎◌, ℕ, true, false, List, [], ◌∷◌, ◌++◌, Option, None, Some, codes, decimal, take}
use Rattle.std.specs.Option.{option_map}
use Rattle.ah_outside.specs.Outside.{Entry, Shelved}
use Rattle.heap_graph.specs.Graph.{Graph}
use Rattle.heap_graph.specs.Table.{Fits}
use Rattle.heap_world.specs.declared.command.Verb.{Verb}
use Rattle.heap_world.specs.declared.command.Verb.TheVariants as verb
use Rattle.heap_world.specs.declared.reply.Reply.{Reply}
use Rattle.heap_world.specs.declared.reply.Reply.TheVariants as reply
use Rattle.heap_world.specs.World.{World}
use Rattle.heap_world.specs.Counts.{graph_of}
use Rattle.hprof_records.specs.Records.{dump_bytes}
use Rattle.hprof_write.specs.TableText.{table_text}
use Rattle.hprof_write.specs.Written.{written}
use Rattle.script_report.specs.Dumps.{Dumping}
use Rattle.script_run.specs.declared.dumped.Dumped.{Dumped}

-- the name of an entry: the process's, which dump of the process it is, and what the entry is
abbrev pub entry_name : List ℕ → ℕ → List ℕ → List ℕ
entry_name process count ending = process ++ codes "." ++ decimal count ++ codes "." ++ ending

-- the entry of a dump: the records, with a time in their header, under a table
abbrev pub dump_entry : ℕ → Dumping → (ℕ → ℕ) → Entry
dump_entry time d table =
    record { name = entry_name d.process d.count (codes "hprof"); bytes = dump_bytes time (written d.graph table); closed = true }

-- the entry of the table
abbrev pub map_entry : Dumping → (ℕ → ℕ) → Entry
map_entry d table = record { name = entry_name d.process d.count (codes "map"); bytes = table_text d.graph table; closed = true }

-- the two entries of a dump
abbrev pub dump_entries : ℕ → Dumping → (ℕ → ℕ) → List Entry
dump_entries time d table = dump_entry time d table ∷ map_entry d table ∷ []

-- these are the entries of dumps, in order, each dump under a table that fits the graph that it shows
abbrev pub AreDumped : ℕ → List Dumping → List Entry → Type 0
AreDumped time [] es = es ≡ []
AreDumped time (d ∷ ds) es =
    (table : ℕ → ℕ) × (more : List Entry) × Fits table d.graph × AreDumped time ds more × (es ≡ dump_entries time d table ++ more)

-- an entry is there, or its name and some first bytes, and it is open
abbrev pub IsBegun : Entry → Entry → Type 0
IsBegun whole e = (e ≡ whole) ⊎ ((n : ℕ) × (e ≡ record { name = whole.name; bytes = take n whole.bytes; closed = false }))

-- the first of some entries are there, the last of them maybe in part
abbrev pub AreBegun : List Entry → List Entry → Type 0
AreBegun wholes [] = Unit {0}
AreBegun [] (e ∷ es) = ⊥
AreBegun (whole ∷ wholes) (e ∷ []) = IsBegun whole e
AreBegun (whole ∷ wholes) (e ∷ f ∷ es) = (e ≡ whole) × AreBegun wholes (f ∷ es)

-- the entries of dumps were added behind the others, where the shelf tells them, and none is unfinished
pub record HasShelved (time : ℕ) (ds : List Dumping) (old new : Shelved) : Type 0 where
  pub entries : List Entry
  pub are : AreDumped time ds entries
  pub told : new.entries ≡ option_map (λ es. es ++ entries) old.entries
  pub finished : new.unfinished ≡ false

-- of a dump's entries the first were added behind the others, the last of them maybe in part
pub record HasShelvedPart (time : ℕ) (d : Dumping) (old new : Shelved) : Type 0 where
  pub table : ℕ → ℕ
  pub fits : Fits table d.graph
  pub entries : List Entry
  pub are : AreBegun (dump_entries time d table) entries
  pub told : new.entries ≡ option_map (λ es. es ++ entries) old.entries

-- one dump was asked for, and stopped in part
abbrev pub StoppedShelving : ℕ → List Dumping → Shelved → Shelved → Type 0
StoppedShelving time ds old new = (d : Dumping) × (ds ≡ d ∷ []) × HasShelvedPart time d old new

-- the shelf has the entries of dumps, and of one that comes behind them, if one does, the first ones, the last of them
-- maybe in part
pub record HasShelvedBut (time : ℕ) (done asked : List Dumping) (old new : Shelved) : Type 0 where
  pub mid : Shelved
  pub first : HasShelved time done old mid
  pub rest : (new.entries ≡ mid.entries) ⊎ StoppedShelving time asked mid new

-- the dump that a command and its reply ask for, by the process's name and the count
abbrev pub dumped_by : List ℕ → Verb → Reply → Option Dumped
dumped_by name verb.Dump (reply.Dumped count objects) = Some (record { process = name; count = count })
dumped_by name v r = None

-- what is to be dumped is what a line asks for, of a live process of the world after it
abbrev pub IsAsked : Option Dumped → List Dumping → World → Type 0
IsAsked None ds w = ds ≡ []
IsAsked (Some x) ds w =
    (g : Graph) × (graph_of w x.process ≡ Some g) × (ds ≡ record { process = x.process; count = x.count; graph = g } ∷ [])

-- a closed entry was added behind the others, and none is unfinished
pub record HasEntry (e : Entry) (old new : Shelved) : Type 0 where
  pub told : new.entries ≡ option_map (λ es. es ++ e ∷ []) old.entries
  pub finished : new.unfinished ≡ false

-- an entry was begun behind the others, or not even that
abbrev pub HasEntryPart : Entry → Shelved → Shelved → Type 0
HasEntryPart whole old new =
    (new.entries ≡ old.entries) ⊎ ((e : Entry) × IsBegun whole e × (new.entries ≡ option_map (λ es. es ++ e ∷ []) old.entries))
