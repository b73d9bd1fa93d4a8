-- What a line means: a table of commands, the first entry with the line's second word deciding.
use Rattle.std.specs.Prelude.{ℕ, Bool, true, false, List, [], ◌∷◌, ◌++◌, Option, None, Some, Result, Ok, Err, codes, nat_eq, if◌then◌else◌}
use Rattle.class_layout.specs.Names.{same_name}
use Rattle.heap_world.specs.declared.command.Command.{Command}
use Rattle.heap_world.specs.declared.command.Verb.{Verb}
use Rattle.heap_world.specs.declared.command.Verb.TheVariants as verb
use Rattle.script_lang.specs.declared.read.LineError.{LineError}
use Rattle.script_lang.specs.declared.read.LineError.TheVariants.{Bad}
use Rattle.script_lang.specs.Parts.{words}
use Rattle.script_lang.specs.Numbers.{count_of}
use Rattle.script_lang.specs.Forms.{root_of, class_of, field_of, kind_of, value_of, decls_of}

-- what is asked with one word, if the word has its form
abbrev pub asked_one : {A : Type 0} → (A → Verb) → Option A → Option Verb
asked_one verb (Some a) = Some (verb a)
asked_one verb None = None

-- the same for two words
abbrev pub asked_two : {A B : Type 0} → (A → B → Verb) → Option A → Option B → Option Verb
asked_two verb (Some a) (Some b) = Some (verb a b)
asked_two verb (Some a) None = None
asked_two verb None b = None

-- and for three
abbrev pub asked_three : {A B C : Type 0} → (A → B → C → Verb) → Option A → Option B → Option C → Option Verb
asked_three verb (Some a) (Some b) (Some c) = Some (verb a b c)
asked_three verb (Some a) (Some b) None = None
asked_three verb (Some a) None c = None
asked_three verb None b c = None

-- no word behind the command's word
abbrev pub alone : Verb → List (List ℕ) → Option Verb
alone verb [] = Some verb
alone verb (a ∷ rest) = None

-- one word, of this form
abbrev pub one : {A : Type 0} → (List ℕ → Option A) → (A → Verb) → List (List ℕ) → Option Verb
one f verb (a ∷ []) = asked_one verb (f a)
one f verb [] = None
one f verb (a ∷ b ∷ rest) = None

-- two words, each of its form
abbrev pub two : {A B : Type 0} → (List ℕ → Option A) → (List ℕ → Option B) → (A → B → Verb) → List (List ℕ) → Option Verb
two f g verb (a ∷ b ∷ []) = asked_two verb (f a) (g b)
two f g verb [] = None
two f g verb (a ∷ []) = None
two f g verb (a ∷ b ∷ c ∷ rest) = None

-- three words, each of its form
abbrev pub three : {A B C : Type 0} → (List ℕ → Option A) → (List ℕ → Option B) → (List ℕ → Option C) → (A → B → C → Verb) → List (List ℕ) → Option Verb
three f g h verb (a ∷ b ∷ c ∷ []) = asked_three verb (f a) (g b) (h c)
three f g h verb [] = None
three f g h verb (a ∷ []) = None
three f g h verb (a ∷ b ∷ []) = None
three f g h verb (a ∷ b ∷ c ∷ d ∷ rest) = None

-- a class's name, its superclass's, and any number of fields
abbrev pub class_line : List (List ℕ) → Option Verb
class_line (name ∷ parent ∷ fields) = asked_three verb.Class (class_of name) (class_of parent) (decls_of fields)
class_line [] = None
class_line (name ∷ []) = None

-- a command's word, and what the words behind it mean
pub record Entry : Type 0 where
  pub word : List ℕ
  pub meaning : List (List ℕ) → Option Verb

-- the commands without words behind theirs that do something
abbrev pub doing_entries : List Entry
doing_entries =
    record { word = codes "seal"; meaning = alone verb.Seal }
    ∷ record { word = codes "gc"; meaning = alone verb.Gc }
    ∷ record { word = codes "exit"; meaning = alone verb.Exit }
    ∷ record { word = codes "dump"; meaning = alone verb.Dump }
    ∷ []

-- those that count
abbrev pub counting_entries : List Entry
counting_entries =
    record { word = codes "free"; meaning = alone verb.Free }
    ∷ record { word = codes "pages"; meaning = alone verb.Pages }
    ∷ record { word = codes "frames"; meaning = alone verb.Frames }
    ∷ []

-- all without words behind theirs
abbrev pub alone_entries : List Entry
alone_entries = doing_entries ++ counting_entries

-- those with one
abbrev pub one_entries : List Entry
one_entries =
    record { word = codes "drop"; meaning = one root_of verb.Drop }
    ∷ record { word = codes "show"; meaning = one root_of verb.Show }
    ∷ record { word = codes "fork"; meaning = one root_of verb.Fork }
    ∷ []

-- those with two
abbrev pub two_entries : List Entry
two_entries =
    record { word = codes "new"; meaning = two root_of class_of verb.New }
    ∷ record { word = codes "weak"; meaning = two root_of root_of verb.Weak }
    ∷ record { word = codes "get"; meaning = two root_of field_of verb.Get }
    ∷ record { word = codes "at"; meaning = two root_of count_of verb.At }
    ∷ record { word = codes "copy"; meaning = two root_of root_of verb.Copy }
    ∷ []

-- those with three
abbrev pub three_entries : List Entry
three_entries =
    record { word = codes "array"; meaning = three root_of kind_of count_of verb.Array }
    ∷ record { word = codes "set"; meaning = three root_of field_of value_of verb.Set }
    ∷ record { word = codes "put"; meaning = three root_of count_of value_of verb.Put }
    ∷ record { word = codes "load"; meaning = three root_of root_of field_of verb.Load }
    ∷ record { word = codes "loadat"; meaning = three root_of root_of count_of verb.LoadAt }
    ∷ []

-- those with a fixed number of words
abbrev pub fixed_entries : List Entry
fixed_entries = three_entries ++ (two_entries ++ (one_entries ++ alone_entries))

-- all commands
abbrev pub entries : List Entry
entries = record { word = codes "class"; meaning = class_line } ∷ fixed_entries

-- the first entry with the word decides
abbrev pub verb_in : List Entry → List ℕ → List (List ℕ) → Option Verb
verb_in [] word args = None
verb_in (e ∷ es) word args = if same_name word e.word then e.meaning args else verb_in es word args

-- a command asks something of a process
abbrev pub command_with : Option (List ℕ) → Option Verb → Option Command
command_with (Some process) (Some verb) = Some (record { process = process; verb = verb })
command_with (Some process) None = None
command_with None verb = None

-- a line's words are the process's name, the command's word, and the words that the command takes
abbrev pub command_of : List (List ℕ) → Option Command
command_of (process ∷ word ∷ args) = command_with (root_of process) (verb_in entries word args)
command_of [] = None
command_of (process ∷ []) = None

-- the first byte is `#`
abbrev pub begins_with_hash : List ℕ → Bool
begins_with_hash [] = false
begins_with_hash (b ∷ bs) = nat_eq b 35

-- a line without words, or whose first word begins with `#`, has no reply
abbrev pub is_silent : List (List ℕ) → Bool
is_silent [] = true
is_silent (word ∷ rest) = begins_with_hash word

-- no command is a bad line
abbrev pub as_meaning : Option Command → Result (Option Command) LineError
as_meaning None = Err Bad
as_meaning (Some command) = Ok (Some command)

-- what words mean: a command, or nothing that is replied to, or they are bad
abbrev pub words_meaning : List (List ℕ) → Result (Option Command) LineError
words_meaning ws = if is_silent ws then Ok None else as_meaning (command_of ws)

-- what a line means
abbrev pub line_meaning : List ℕ → Result (Option Command) LineError
line_meaning line = words_meaning (words line)
