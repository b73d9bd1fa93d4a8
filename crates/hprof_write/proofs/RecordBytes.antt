-- The bytes of records, appended field by field.
use Rattle.std.proofs.Common.{◌≡◌, ℕ, suc, ◌+◌, List, [], ◌∷◌, ◌++◌, length, sym, ap, ◌∙◌, append_assoc, arith}
use Rattle.std.proofs.lemmas.List.{append-nil}
use Rattle.std.specs.List.{flat_map}
use Rattle.hprof_records.specs.Fields.{field}
use Rattle.hprof_records.specs.Parts.{word}
use Rattle.hprof_records.specs.Records.{bytes_of_record}
use Rattle.hprof_records.specs.declared.top_record.TopRecord.TheVariants.{Text}

-- two appends are one
pub two-appends : (o p q a b : List ℕ) → a ≡ o ++ p → b ≡ a ++ q → b ≡ o ++ (p ++ q)
two-appends o p q a b ha hb = hb ∙ ap (λ l. l ++ q) ha ∙ append_assoc o p q

pub three-appends : (o p q r a b c : List ℕ) → a ≡ o ++ p → b ≡ a ++ q → c ≡ b ++ r → c ≡ o ++ (p ++ (q ++ r))
three-appends o p q r a b c ha hb hc =
    two-appends o p (q ++ r) a c ha (hc ∙ ap (λ l. l ++ r) hb ∙ append_assoc a q r)

-- a string's bytes
pub text-bytes : (id size : ℕ) (text : List ℕ) → size ≡ 4 + length text
    → field 1 1 ++ (flat_map word (0 ∷ size ∷ id ∷ []) ++ text) ≡ bytes_of_record (Text 0 id text)
text-bytes id size text e =
    let nil : text ++ [] ≡ text = append-nil text in
    let body : length (word id ++ (text ++ [])) ≡ size = ap (λ t. length (word id ++ t)) nil ∙ sym (e ∙ arith-four (length text)) in
    ap (λ n. field 1 1 ++ (flat_map word (0 ∷ n ∷ id ∷ []) ++ text)) (sym body)
    ∙ ap (λ t. field 1 1 ++ (word 0 ++ (word (length (word id ++ (text ++ []))) ++ (word id ++ t)))) (sym (append-nil (text ++ []) ∙ nil))
  where
    arith-four : (n : ℕ) → 4 + n ≡ suc (suc (suc (suc n)))
    arith-four n = omega arith
