-- The entries of dumps on a shelf: added one behind the other, and in part. And what a line asks to be dumped.
use Rattle.std.proofs.Common.{◌≡◌, inl, inr, ℕ, Bool, true, false, List, [], ◌∷◌, ◌++◌, Option, None, Some, refl, sym, ◌∙◌, ap, subst, append_assoc}
use Rattle.std.specs.Option.{option_map}
use Rattle.std.proofs.lemmas.List.{append-nil}
use Rattle.ah_outside.specs.Outside.{Entry, Shelved}
use Rattle.heap_graph.specs.Table.{Fits}
use Rattle.heap_world.specs.declared.command.Command.{Command}
use Rattle.heap_world.specs.declared.command.Verb.{Verb}
use Rattle.heap_world.specs.declared.command.Verb.TheVariants as verb
use Rattle.heap_world.specs.Acts.{dump_counted, dump_if, dump_to}
use Rattle.heap_world.specs.World.{Process, World, process_after, process_named, put_process, step, step_found, step_live, stepped}
use Rattle.heap_world.proofs.Processes.{named-put, named_name}
use Rattle.heap_world.specs.Counts.{graph_in_any}
use Rattle.script_report.specs.Dumps.{Dumping, dumping_asked, dumping_of, dumping_stepped}
use Rattle.script_report.proofs.Dumps.{live-named}
use Rattle.script_run.specs.Dumps.{AreDumped, HasEntry, HasEntryPart, HasShelved, HasShelvedPart, IsAsked, dump_entries, dump_entry, dumped_by, map_entry}

-- entries behind entries
pub told-more : (old : Option (List Entry)) (es : List Entry) (mid : Option (List Entry)) (fs : List Entry) (new : Option (List Entry))
    → mid ≡ option_map (λ xs. xs ++ es) old → new ≡ option_map (λ xs. xs ++ fs) mid → new ≡ option_map (λ xs. xs ++ (es ++ fs)) old
told-more None es mid fs new a b = b ∙ ap (option_map (λ xs. xs ++ fs)) a
told-more (Some xs) es mid fs new a b =
    let e : (xs ++ es) ++ fs ≡ xs ++ (es ++ fs) = append_assoc xs es fs in
    b ∙ (ap (option_map (λ xs. xs ++ fs)) a ∙ ap Some e)

-- no entries
pub told-none : (old : Option (List Entry)) → old ≡ option_map (λ xs. xs ++ []) old
told-none None = refl
told-none (Some xs) = ap Some (sym (append-nil xs))

-- the entries of dumps behind those of others
pub AreDumped-more : (time : ℕ) (ds : List Dumping) (es : List Entry) (more : List Dumping) (fs : List Entry)
    → AreDumped time ds es → AreDumped time more fs → AreDumped time (ds ++ more) (es ++ fs)
AreDumped-more time [] es more fs a b = subst (λ (xs : List Entry). AreDumped time more (xs ++ fs)) (sym a) b
AreDumped-more time (d ∷ ds) es more fs a b =
    let table = a.0 in
    let rest = a.1 in
    let e : es ++ fs ≡ dump_entries time d table ++ (rest ++ fs) = ap (λ (xs : List Entry). xs ++ fs) a.4 ∙ append_assoc (dump_entries time d table) rest fs in
    (table, rest ++ fs, a.2, AreDumped-more time ds rest more fs a.3 b, e)

-- no dump
pub shelved-none : (time : ℕ) (old : Shelved) → old.unfinished ≡ false → HasShelved time [] old old
shelved-none time old finished = record { entries = []; are = refl; told = told-none old.entries; finished = finished }

-- dumps behind others
pub shelved-more : (time : ℕ) (ds more : List Dumping) (old mid new : Shelved) → HasShelved time ds old mid → HasShelved time more mid new → HasShelved time (ds ++ more) old new
shelved-more time ds more old mid new a b = record {
  entries = a.entries ++ b.entries;
  are = AreDumped-more time ds a.entries more b.entries a.are b.are;
  told = told-more old.entries a.entries mid.entries b.entries new.entries a.told b.told;
  finished = b.finished;
}

-- both entries of a dump
pub both_entries : (time : ℕ) (d : Dumping) (table : ℕ → ℕ) (old mid new : Shelved) → Fits table d.graph
    → HasEntry (dump_entry time d table) old mid → HasEntry (map_entry d table) mid new → HasShelved time (d ∷ []) old new
both_entries time d table old mid new fits a b = record {
  entries = dump_entries time d table;
  are = (table, [], fits, refl, refl);
  told = told-more old.entries (dump_entry time d table ∷ []) mid.entries (map_entry d table ∷ []) new.entries a.told b.told;
  finished = b.finished;
}

-- the first entry of a dump in part
pub first_part : (time : ℕ) (d : Dumping) (table : ℕ → ℕ) (old new : Shelved) → Fits table d.graph
    → HasEntryPart (dump_entry time d table) old new → HasShelvedPart time d old new
first_part time d table old new fits (inl same) = record { table = table; fits = fits; entries = []; are = tt; told = same ∙ told-none old.entries }
first_part time d table old new fits (inr part) = record { table = table; fits = fits; entries = part.0 ∷ []; are = part.1; told = part.2 }

-- the second one
pub second_part : (time : ℕ) (d : Dumping) (table : ℕ → ℕ) (old mid new : Shelved) → Fits table d.graph
    → HasEntry (dump_entry time d table) old mid → HasEntryPart (map_entry d table) mid new → HasShelvedPart time d old new
second_part time d table old mid new fits a (inl same) =
    record { table = table; fits = fits; entries = dump_entry time d table ∷ []; are = inl refl; told = same ∙ a.told }
second_part time d table old mid new fits a (inr part) = record {
  table = table;
  fits = fits;
  entries = dump_entry time d table ∷ part.0 ∷ [];
  are = (refl, part.1);
  told = told-more old.entries (dump_entry time d table ∷ []) mid.entries (part.0 ∷ []) new.entries a.told part.2;
}

-- what a dump of a process asks
module _ (w : World) (n : ℕ) (name : List ℕ) where
  abbrev Asks : (v : Verb) → (o : Option Process) → Type 0
  Asks v o = let s = step_found w n o v in IsAsked (dumped_by name v s.reply) (dumping_asked s.world name v s.reply) s.world

  dump_asks : (o : Option Process) → process_named w.processes name ≡ o → Asks verb.Dump o
  dump_asks None e = refl
  dump_asks (Some q) e = lives q.part.exited refl
    where
      done : (b : Bool) → q.part.exited ≡ false → let s = stepped w n q (dump_if b q.part) in IsAsked (dumped_by name verb.Dump s.reply) (dumping_asked s.world name verb.Dump s.reply) s.world
      done false d = refl
      done true d =
          let g = dump_counted q.part.graph in
          let new : Process = process_after n (dump_to q.part g) q in
          let is : process_named (put_process w new).processes name ≡ Some new = named-put w.processes name q new e (named_name w.processes name q e) in
          (g, ap graph_in_any (live-named (put_process w new).processes name new is d), ap (dumping_of name g.dumps) is)

      lives : (x : Bool) → q.part.exited ≡ x → let s = step_live x w n q verb.Dump in IsAsked (dumped_by name verb.Dump s.reply) (dumping_asked s.world name verb.Dump s.reply) s.world
      lives true d = refl
      lives false d = done q.part.graph.sealed d

-- what is to be dumped after a command is what its line asks for
pub dumped-asked : (w : World) (n : ℕ) (c : Command) → let s = step w n c in IsAsked (dumped_by c.process c.verb s.reply) (dumping_stepped c s) s.world
dumped-asked w n c = by c.verb
  where
    by : (v : Verb) → Asks w n c.process v (process_named w.processes c.process)
    by (verb.Class name parent fields) = refl
    by (verb.New root class) = refl
    by (verb.Array root kind count) = refl
    by (verb.Weak root referent) = refl
    by (verb.Set root field v) = refl
    by (verb.Put root index v) = refl
    by (verb.Get root field) = refl
    by (verb.At root index) = refl
    by (verb.Copy to from) = refl
    by (verb.Load to from field) = refl
    by (verb.LoadAt to from index) = refl
    by (verb.Drop root) = refl
    by (verb.Show root) = refl
    by verb.Seal = refl
    by verb.Gc = refl
    by (verb.Fork child) = refl
    by verb.Exit = refl
    by verb.Free = refl
    by verb.Pages = refl
    by verb.Frames = refl
    by verb.Dump = dump_asks w n c.process (process_named w.processes c.process) refl
