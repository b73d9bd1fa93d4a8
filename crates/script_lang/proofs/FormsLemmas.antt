-- A field is a name, a colon and a kind, since no kind has a colon in it.
use Rattle.std.proofs.Common.{◌≡◌, ℕ, Bool, true, false, cond, List, [], ◌∷◌, Option, None, Some, refl, ◌∙◌, ap}
use Rattle.std.specs.List.{find}
use Rattle.std.proofs.lemmas.Option.{none-some, same_Some}
use Rattle.std.proofs.lemmas.Slice.Eq.{bytes_eq-Decides}
use Rattle.class_layout.specs.declared.kind.Kind.{Kind}
use Rattle.class_layout.specs.declared.kind.Kind.TheVariants.{Ref, Boolean, Byte, Char, Short, Int, Long}
use Rattle.class_layout.specs.Names.{same_name}
use Rattle.script_lang.specs.Parts.{parts, is_byte}
use Rattle.script_lang.specs.Forms.{kind_word, kinds, kind_of, field_of, declared_of, decl_of_parts, decl_of}
use Rattle.script_lang.proofs.PartsLemmas.{parts-some, parts-one}

-- a word's kind has that word
kind_is_named : (word : List ℕ) (ks : List Kind) (k : Kind) → find (λ j. same_name word (kind_word j)) ks ≡ Some k → word ≡ kind_word k
kind_is_named word [] k e = absurd (none-some k e)
kind_is_named word (j ∷ ks) k e = by_test (same_name word (kind_word j)) refl (kind_is_named word ks k) e
  where
    by_test : (b : Bool) → same_name word (kind_word j) ≡ b → (find (λ j. same_name word (kind_word j)) ks ≡ Some k → word ≡ kind_word k) → cond b (Some j) (find (λ j. same_name word (kind_word j)) ks) ≡ Some k → word ≡ kind_word k
    by_test true t later e = (bytes_eq-Decides word (kind_word j)).0 t ∙ ap kind_word (same_Some j k e)
    by_test false t later e = later e

-- what is behind the first colon is the kind
pub decl_of-cut : (word name rest : List ℕ) → parts (is_byte 58) word ≡ name ∷ parts (is_byte 58) rest → decl_of word ≡ declared_of (field_of name) (kind_of rest)
decl_of-cut word name rest h = ap decl_of_parts h ∙ by_kind (kind_of rest) refl
  where
    each : (k : Kind) → decl_of_parts (name ∷ parts (is_byte 58) (kind_word k)) ≡ declared_of (field_of name) (Some k)
    each Ref = refl
    each Boolean = refl
    each Byte = refl
    each Char = refl
    each Short = refl
    each Int = refl
    each Long = refl

    nothing : (o : Option (List ℕ)) → None ≡ declared_of o None
    nothing None = refl
    nothing (Some n) = refl

    by_rest : (p : List ℕ) (ps : List (List ℕ)) → parts (is_byte 58) rest ≡ p ∷ ps → kind_of rest ≡ None → decl_of_parts (name ∷ p ∷ ps) ≡ declared_of (field_of name) None
    by_rest p [] e none = ap (declared_of (field_of name)) (ap kind_of (parts-one (is_byte 58) rest p e) ∙ none)
    by_rest p (q ∷ qs) e none = nothing (field_of name)

    by_kind : (o : Option Kind) → kind_of rest ≡ o → decl_of_parts (name ∷ parts (is_byte 58) rest) ≡ declared_of (field_of name) o
    by_kind (Some k) e = ap (λ (r : List ℕ). decl_of_parts (name ∷ parts (is_byte 58) r)) (kind_is_named rest kinds k e) ∙ each k
    by_kind None e =
        let some = parts-some (is_byte 58) rest in
        ap (λ (ps : List (List ℕ)). decl_of_parts (name ∷ ps)) some.2 ∙ by_rest some.0 some.1 some.2 e

-- without a kind there is no field
pub no_kind : (name : Option (List ℕ)) (kind : Option Kind) → None ≡ kind → None ≡ declared_of name kind
no_kind None kind h = refl
no_kind (Some n) kind h = ap (declared_of (Some n)) h
