-- From what the words ask to what the line means.
use Rattle.std.proofs.Common.{◌≡◌, ℕ, Bool, false, cond, List, ◌∷◌, Option, None, Some, Result, Ok, Err, sym, ◌∙◌, ap, subst}
use Rattle.heap_world.specs.declared.command.Command.{Command}
use Rattle.heap_world.specs.declared.command.Verb.{Verb}
use Rattle.script_lang.specs.declared.read.LineError.{LineError}
use Rattle.script_lang.specs.declared.read.LineError.TheVariants.{Bad, OutOfMemory}
use Rattle.script_lang.specs.Parts.{words}
use Rattle.script_lang.specs.Forms.{root_of}
use Rattle.script_lang.specs.Grammar.{verb_in, entries, command_with, begins_with_hash, as_meaning, words_meaning, line_meaning}
use Rattle.script_lang.specs.Reading.{ReadsVerb, ReadsLine}

error_of : (e : LineError) (process : List ℕ) (asked : Option Verb) → ReadsVerb (Err e) asked → ReadsLine (Err e) (as_meaning (command_with (Some process) asked))
error_of Bad process asked h = ap (λ (o : Option Verb). as_meaning (command_with (Some process) o)) h
error_of OutOfMemory process None h = absurd h
error_of OutOfMemory process (Some v) h = h

-- a line means what its words behind the process's name ask
meaning_of : (line process word : List ℕ) (args : List (List ℕ)) (name : List ℕ) → words line ≡ process ∷ word ∷ args → begins_with_hash process ≡ false → root_of process ≡ Some name → as_meaning (command_with (Some name) (verb_in entries word args)) ≡ line_meaning line
meaning_of line process word args name ws hash root =
    sym (
    ap words_meaning ws
    ∙ ap (λ (b : Bool). cond b (Ok None) (as_meaning (command_with (root_of process) (verb_in entries word args)))) hash
    ∙ ap (λ (o : Option (List ℕ)). as_meaning (command_with o (verb_in entries word args))) root
    )

-- what can't be read of the verb, can't be read of the line
pub line_error : (e : LineError) (line process word : List ℕ) (args : List (List ℕ)) (name : List ℕ) → words line ≡ process ∷ word ∷ args → begins_with_hash process ≡ false → root_of process ≡ Some name → ReadsVerb (Err e) (verb_in entries word args) → ReadsLine (Err e) (line_meaning line)
line_error e line process word args name ws hash root h =
    subst (λ (m : Result (Option Command) LineError). ReadsLine (Err e) m) (meaning_of line process word args name ws hash root) (error_of e name (verb_in entries word args) h)
