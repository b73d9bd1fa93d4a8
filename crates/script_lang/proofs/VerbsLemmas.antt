-- Which entry of a table has a word, and which entries take so many words.
use Rattle.std.proofs.Common.{◌≡◌, ℕ, Bool, true, false, ◌&&◌, cond, List, [], ◌∷◌, ◌++◌, Option, None, Some, codes, refl, sym, ◌∙◌, ap, is_none}
use Rattle.std.proofs.lemmas.Bool.{and_parts}
use Rattle.std.proofs.lemmas.Slice.Eq.{bytes_eq-Decides}
use Rattle.class_layout.specs.Names.{same_name}
use Rattle.heap_world.specs.declared.command.Verb.{Verb}
use Rattle.script_lang.specs.Grammar.{Entry, verb_in, alone_entries, one_entries, two_entries, three_entries, fixed_entries}

-- a word of none of the entries asks nothing
pub none_of_one : (word : List ℕ) (args : List (List ℕ)) → same_name word (codes "drop") ≡ false → same_name word (codes "show") ≡ false → same_name word (codes "fork") ≡ false → None ≡ verb_in one_entries word args
none_of_one word args a b c = rw (a, b, c) refl

pub none_of_two : (word : List ℕ) (args : List (List ℕ)) → same_name word (codes "new") ≡ false → same_name word (codes "weak") ≡ false → same_name word (codes "get") ≡ false → same_name word (codes "at") ≡ false → same_name word (codes "copy") ≡ false → None ≡ verb_in two_entries word args
none_of_two word args a b c d e = rw (a, b, c, d, e) refl

pub none_of_three : (word : List ℕ) (args : List (List ℕ)) → same_name word (codes "array") ≡ false → same_name word (codes "set") ≡ false → same_name word (codes "put") ≡ false → same_name word (codes "load") ≡ false → same_name word (codes "loadat") ≡ false → None ≡ verb_in three_entries word args
none_of_three word args a b c d e = rw (a, b, c, d, e) refl

-- each entry asks nothing of these words, and no entry behind it has its word and asks something
abbrev are_silent : List Entry → List Entry → List (List ℕ) → Bool
are_silent [] fs args = true
are_silent (e ∷ es) fs args = is_none (e.meaning args) && (is_none (verb_in (es ++ fs) e.word args) && are_silent es fs args)

from_none : (o : Option Verb) → is_none o ≡ true → o ≡ None
from_none None h = refl
from_none (Some v) h = cc

-- such entries may be left out
skip_all : (es fs : List Entry) (word : List ℕ) (args : List (List ℕ)) → are_silent es fs args ≡ true → verb_in fs word args ≡ verb_in (es ++ fs) word args
skip_all [] fs word args h = refl
skip_all (e ∷ es) fs word args h =
    let both = and_parts (is_none (e.meaning args)) (is_none (verb_in (es ++ fs) e.word args) && are_silent es fs args) h in
    let more = and_parts (is_none (verb_in (es ++ fs) e.word args)) (are_silent es fs args) both.1 in
    skip_all es fs word args more.1
    ∙ by_test (same_name word e.word) refl (from_none (e.meaning args) both.0) (from_none (verb_in (es ++ fs) e.word args) more.0)
  where
    by_test : (b : Bool) → same_name word e.word ≡ b → e.meaning args ≡ None → verb_in (es ++ fs) e.word args ≡ None → verb_in (es ++ fs) word args ≡ verb_in (e ∷ (es ++ fs)) word args
    by_test true t none rest =
        ap (λ (w : List ℕ). verb_in (es ++ fs) w args) ((bytes_eq-Decides word e.word).0 t)
        ∙ rest
        ∙ sym none
        ∙ sym (ap (λ (b : Bool). cond b (e.meaning args) (verb_in (es ++ fs) word args)) t)
    by_test false t none rest = sym (ap (λ (b : Bool). cond b (e.meaning args) (verb_in (es ++ fs) word args)) t)

-- so may entries behind the others
leave_out : (es fs : List Entry) (word : List ℕ) (args : List (List ℕ)) → None ≡ verb_in fs word args → verb_in es word args ≡ verb_in (es ++ fs) word args
leave_out [] fs word args h = h
leave_out (e ∷ es) fs word args h = ap (λ (o : Option Verb). cond (same_name word e.word) (e.meaning args) o) (leave_out es fs word args h)

-- by the number of words behind the command's word
pub fixed_alone : (word : List ℕ) → verb_in alone_entries word [] ≡ verb_in fixed_entries word []
fixed_alone word = skip_all (three_entries ++ (two_entries ++ one_entries)) alone_entries word [] refl

pub fixed_one : (word a : List ℕ) → verb_in one_entries word (a ∷ []) ≡ verb_in fixed_entries word (a ∷ [])
fixed_one word a =
    leave_out one_entries alone_entries word (a ∷ []) (skip_all alone_entries [] word (a ∷ []) refl)
    ∙ skip_all (three_entries ++ two_entries) (one_entries ++ alone_entries) word (a ∷ []) refl

pub fixed_two : (word a b : List ℕ) → verb_in two_entries word (a ∷ b ∷ []) ≡ verb_in fixed_entries word (a ∷ b ∷ [])
fixed_two word a b =
    leave_out two_entries (one_entries ++ alone_entries) word (a ∷ b ∷ []) (skip_all (one_entries ++ alone_entries) [] word (a ∷ b ∷ []) refl)
    ∙ skip_all three_entries (two_entries ++ (one_entries ++ alone_entries)) word (a ∷ b ∷ []) refl

pub fixed_three : (word a b c : List ℕ) → verb_in three_entries word (a ∷ b ∷ c ∷ []) ≡ verb_in fixed_entries word (a ∷ b ∷ c ∷ [])
fixed_three word a b c =
    leave_out three_entries (two_entries ++ (one_entries ++ alone_entries)) word (a ∷ b ∷ c ∷ []) (skip_all (two_entries ++ (one_entries ++ alone_entries)) [] word (a ∷ b ∷ c ∷ []) refl)

pub fixed_more : (word a b c d : List ℕ) (rest : List (List ℕ)) → None ≡ verb_in fixed_entries word (a ∷ b ∷ c ∷ d ∷ rest)
fixed_more word a b c d rest = skip_all fixed_entries [] word (a ∷ b ∷ c ∷ d ∷ rest) refl
