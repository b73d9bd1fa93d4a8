-- What reading answers of words that mean this, or nothing: the meaning, or that there is none. Memory may be wanting
-- for the fields of a class alone, and only where the words have a meaning.
use Rattle.std.specs.Prelude.{◌≡◌, List, Option, None, Some, Result, Ok, Err, IsSomeAnd, IsSome, IsOkAnd}
use Rattle.class_layout.specs.declared.kind.FieldDecl.{FieldDecl}
use Rattle.heap_world.specs.declared.command.Command.{Command}
use Rattle.heap_world.specs.declared.command.Verb.{Verb}
use Rattle.heap_world.specs.declared.command.Verb.TheVariants as verb
use Rattle.script_lang.specs.declared.read.LineError.{LineError}
use Rattle.script_lang.specs.declared.read.LineError.TheVariants.{Bad, OutOfMemory}

-- a class is asked for
abbrev pub IsClass : Verb → Type 0
IsClass (verb.Class name parent fields) = Unit {0}
IsClass v = ⊥

-- the fields that words declare
abbrev pub ReadsFields : Result (List FieldDecl) LineError → Option (List FieldDecl) → Type 0
ReadsFields (Ok fields) meaning = meaning ≡ Some fields
ReadsFields (Err Bad) meaning = meaning ≡ None
ReadsFields (Err OutOfMemory) meaning = IsSome meaning

-- what a command's words ask
abbrev pub ReadsVerb : Result Verb LineError → Option Verb → Type 0
ReadsVerb (Ok verb) meaning = meaning ≡ Some verb
ReadsVerb (Err Bad) meaning = meaning ≡ None
ReadsVerb (Err OutOfMemory) meaning = IsSomeAnd meaning IsClass

-- a line
abbrev pub ReadsLine : Result (Option Command) LineError → Result (Option Command) LineError → Type 0
ReadsLine (Ok line) meaning = meaning ≡ Ok line
ReadsLine (Err Bad) meaning = meaning ≡ Err Bad
ReadsLine (Err OutOfMemory) meaning = IsOkAnd meaning (λ line. IsSomeAnd line (λ command. IsClass command.verb))
