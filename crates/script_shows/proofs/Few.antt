-- A line of at most 4,096 bytes that is a command declares at most 4,096 fields.
use Rattle.std.proofs.Common.{◌≡◌, ℕ, ◌≤◌, Bool, true, false, cond, List, [], ◌∷◌, ◌++◌, Option, None, Some, Result, Ok, IfOk, codes, length, refl, arith}
use Rattle.std.specs.Prelude.{IfSome}
use Rattle.std.specs.List.{AllByRecursion}
use Rattle.model_numbers.specs.Numbers.{line_limit}
use Rattle.class_layout.specs.Names.{same_name}
use Rattle.heap_world.specs.declared.command.Command.{Command}
use Rattle.heap_world.specs.declared.command.Verb.{Verb}
use Rattle.heap_world.specs.declared.command.Verb.TheVariants as verb
use Rattle.heap_world.specs.Commands.{HasFewFields}
use Rattle.script_lang.specs.declared.read.LineError.{LineError}
use Rattle.script_lang.specs.Forms.{class_of, decls_of, field_of, kind_of, root_of, value_of}
use Rattle.script_lang.specs.Grammar.{Entry, alone, alone_entries, as_meaning, asked_one, asked_three, asked_two, class_line, command_of, command_with, counting_entries, doing_entries, entries, fixed_entries, is_silent, line_meaning, one, one_entries, three, three_entries, two, two_entries, verb_in, words_meaning}
use Rattle.script_lang.specs.Numbers.{count_of}
use Rattle.script_lang.specs.Parts.{words}
use Rattle.script_lang.proofs.FieldsLemmas.{length-decls_of}
use Rattle.script_lang.proofs.WordsLemmas.{length-words}

abbrev Few : Option Verb → Type 0
Few o = IfSome o HasFewFields

-- an entry's command declares few fields where few words stand behind it
abbrev IsFew : (List (List ℕ) → Option Verb) → Type 0
IsFew meaning = (args : List (List ℕ)) → length args ≤ line_limit → Few (meaning args)

few-alone : (v : Verb) → HasFewFields v → IsFew (alone v)
few-alone v few [] less = few
few-alone v few (a ∷ rest) less = tt

few-one : {A : Type 0} (f : List ℕ → Option A) (v : A → Verb) → ((a : A) → HasFewFields (v a)) → IsFew (one f v)
few-one f v few [] less = tt
few-one {A = A} f v few (a ∷ []) less = by (f a)
  where
    by : (o : Option A) → Few (asked_one v o)
    by None = tt
    by (Some x) = few x
few-one f v few (a ∷ b ∷ rest) less = tt

few-two : {A B : Type 0} (f : List ℕ → Option A) (g : List ℕ → Option B) (v : A → B → Verb) → ((a : A) (b : B) → HasFewFields (v a b)) → IsFew (two f g v)
few-two f g v few [] less = tt
few-two f g v few (a ∷ []) less = tt
few-two {A = A} {B = B} f g v few (a ∷ b ∷ []) less = by (f a) (g b)
  where
    by : (o : Option A) (p : Option B) → Few (asked_two v o p)
    by None p = tt
    by (Some x) None = tt
    by (Some x) (Some y) = few x y
few-two f g v few (a ∷ b ∷ c ∷ rest) less = tt

few-asked : {A B C : Type 0} (v : A → B → C → Verb) (o : Option A) (p : Option B) (q : Option C) → ((a : A) (b : B) (c : C) → q ≡ Some c → HasFewFields (v a b c)) → Few (asked_three v o p q)
few-asked v None p q few = tt
few-asked v (Some x) None q few = tt
few-asked v (Some x) (Some y) None few = tt
few-asked v (Some x) (Some y) (Some z) few = few x y z refl

few-three : {A B C : Type 0} (f : List ℕ → Option A) (g : List ℕ → Option B) (h : List ℕ → Option C) (v : A → B → C → Verb) → ((a : A) (b : B) (c : C) → HasFewFields (v a b c)) → IsFew (three f g h v)
few-three f g h v few [] less = tt
few-three f g h v few (a ∷ []) less = tt
few-three f g h v few (a ∷ b ∷ []) less = tt
few-three f g h v few (a ∷ b ∷ c ∷ []) less = few-asked v (f a) (g b) (h c) (λ x y z is. few x y z)
few-three f g h v few (a ∷ b ∷ c ∷ d ∷ rest) less = tt

-- a class line has as many fields as words for them
few-class : IsFew class_line
few-class [] less = tt
few-class (name ∷ []) less = tt
few-class (name ∷ parent ∷ fields) less =
    few-asked verb.Class (class_of name) (class_of parent) (decls_of fields) (λ n p fs is. let same = length-decls_of fields fs is in omega (arith, same, less))

-- entries in front of others
abbrev AreFew : List Entry → Type 0
AreFew es = AllByRecursion (λ e. IsFew e.meaning) es

few-before : (es fs : List Entry) (word : List ℕ) (args : List (List ℕ)) → AreFew es → length args ≤ line_limit → Few (verb_in fs word args) → Few (verb_in (es ++ fs) word args)
few-before [] fs word args fine less rest = rest
few-before (e ∷ es) fs word args fine less rest = by (same_name word e.word) (few-before es fs word args fine.1 less rest)
  where
    by : (b : Bool) → Few (verb_in (es ++ fs) word args) → Few (cond b (e.meaning args) (verb_in (es ++ fs) word args))
    by true later = fine.0 args less
    by false later = later

few-doing : AreFew doing_entries
few-doing = (few-alone verb.Seal tt, (few-alone verb.Gc tt, (few-alone verb.Exit tt, (few-alone verb.Dump tt, tt))))

few-counting : AreFew counting_entries
few-counting = (few-alone verb.Free tt, (few-alone verb.Pages tt, (few-alone verb.Frames tt, tt)))

few-ones : AreFew one_entries
few-ones = (few-one root_of verb.Drop (λ a. tt), (few-one root_of verb.Show (λ a. tt), (few-one root_of verb.Fork (λ a. tt), tt)))

few-twos : AreFew two_entries
few-twos = (
  few-two root_of class_of verb.New (λ a b. tt),
  (
    few-two root_of root_of verb.Weak (λ a b. tt),
    (few-two root_of field_of verb.Get (λ a b. tt), (few-two root_of count_of verb.At (λ a b. tt), (few-two root_of root_of verb.Copy (λ a b. tt), tt))),
  ),
)

few-threes : AreFew three_entries
few-threes = (
  few-three root_of kind_of count_of verb.Array (λ a b c. tt),
  (
    few-three root_of field_of value_of verb.Set (λ a b c. tt),
    (
      few-three root_of count_of value_of verb.Put (λ a b c. tt),
      (few-three root_of root_of field_of verb.Load (λ a b c. tt), (few-three root_of root_of count_of verb.LoadAt (λ a b c. tt), tt)),
    ),
  ),
)

few-asks : (word : List ℕ) (args : List (List ℕ)) → length args ≤ line_limit → Few (verb_in entries word args)
few-asks word args less =
    few-before (record { word = codes "class"; meaning = class_line } ∷ []) fixed_entries word args (few-class, tt) less
    (few-before three_entries (two_entries ++ (one_entries ++ alone_entries)) word args few-threes less
    (few-before two_entries (one_entries ++ alone_entries) word args few-twos less
    (few-before one_entries alone_entries word args few-ones less
    (few-before doing_entries counting_entries word args few-doing less
    (few-before counting_entries [] word args few-counting less tt)))))

-- what a line means declares few fields
abbrev pub MeansFew : Result (Option Command) LineError → Type 0
MeansFew r = IfOk r (λ line. IfSome line (λ command. HasFewFields command.verb))

few-words : (ws : List (List ℕ)) → length ws ≤ line_limit → MeansFew (words_meaning ws)
few-words ws less = by (is_silent ws)
  where
    asked : (process : Option (List ℕ)) (v : Option Verb) → Few v → MeansFew (as_meaning (command_with process v))
    asked None v few = tt
    asked (Some name) None few = tt
    asked (Some name) (Some v) few = few

    command : (ws : List (List ℕ)) → length ws ≤ line_limit → MeansFew (as_meaning (command_of ws))
    command [] less = tt
    command (process ∷ []) less = tt
    command (process ∷ word ∷ args) less = asked (root_of process) (verb_in entries word args) (few-asks word args (omega (arith, less)))

    by : (b : Bool) → MeansFew (cond b (Ok None) (as_meaning (command_of ws)))
    by true = tt
    by false = command ws less

pub few-line : (line : List ℕ) → length line ≤ line_limit → MeansFew (line_meaning line)
few-line line less = let few = length-words line in few-words (words line) (omega (arith, few, less))
