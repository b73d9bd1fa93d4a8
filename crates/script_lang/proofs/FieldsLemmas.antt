-- The fields of a class line, read one behind another.
use Rattle.std.proofs.Common.{◌≡◌, ℕ, suc, false, List, [], ◌∷◌, ◌++◌, Option, None, Some, Result, Ok, Err, OnOk, is_err, length, refl, sym, ◌∙◌, ap, append_assoc}
use Rattle.std.proofs.lemmas.Bool.{false≢true}
use Rattle.std.proofs.lemmas.Option.{none-some, same_Some}
use Rattle.class_layout.specs.declared.kind.FieldDecl.{FieldDecl}
use Rattle.script_lang.specs.Forms.{decl_of, with_decl, decls_of}

-- the fields that were read, and those of the words behind them
abbrev pub behind : List FieldDecl → Option (List FieldDecl) → Option (List FieldDecl)
behind fields None = None
behind fields (Some more) = Some (fields ++ more)

abbrev pub decls_behind : List FieldDecl → List (List ℕ) → Option (List FieldDecl)
decls_behind fields ws = behind fields (decls_of ws)

-- the next word is a field
pub decls_behind-more : (fields : List FieldDecl) (field : FieldDecl) (word : List ℕ) (ws : List (List ℕ)) → decl_of word ≡ Some field → decls_behind (fields ++ field ∷ []) ws ≡ decls_behind fields (word ∷ ws)
decls_behind-more fields field word ws h = more (decls_of ws) ∙ sym (ap (λ (o : Option FieldDecl). behind fields (with_decl o (decls_of ws))) h)
  where
    more : (o : Option (List FieldDecl)) → behind (fields ++ field ∷ []) o ≡ behind fields (with_decl (Some field) o)
    more None = refl
    more (Some rest) = ap (λ (xs : List FieldDecl). Some xs) (append_assoc fields (field ∷ []) rest)

-- the next word is none
pub decls_behind-none : (fields : List FieldDecl) (word : List ℕ) (ws : List (List ℕ)) → decl_of word ≡ None → decls_behind fields (word ∷ ws) ≡ None
decls_behind-none fields word ws h = ap (λ (o : Option FieldDecl). behind fields (with_decl o (decls_of ws))) h

-- there are as many fields as words
pub length-decls_of : (ws : List (List ℕ)) (fields : List FieldDecl) → decls_of ws ≡ Some fields → length fields ≡ length ws
length-decls_of [] fields h = ap length (sym (same_Some [] fields h))
length-decls_of (word ∷ ws) fields h = both (decl_of word) (decls_of ws) (length-decls_of ws) h
  where
    both : (o : Option FieldDecl) (os : Option (List FieldDecl)) → ((more : List FieldDecl) → os ≡ Some more → length more ≡ length ws) → with_decl o os ≡ Some fields → length fields ≡ suc (length ws)
    both None os rest e = absurd (none-some fields e)
    both (Some field) None rest e = absurd (none-some fields e)
    both (Some field) (Some more) rest e = ap length (sym (same_Some (field ∷ more) fields e)) ∙ ap (λ (n : ℕ). suc n) (rest more refl)

-- what holds where a call succeeded
pub on_success : {T E : Type 0} (r : Result T E) (P : Type 0) → false ≡ is_err r → OnOk r P → P
on_success (Ok x) P h p = p
on_success (Err e) P h p = absurd (false≢true h)
