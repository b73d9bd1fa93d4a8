-- The words of a line, from its parts.
use Rattle.std.proofs.Common.{◌≡◌, ℕ, suc, ◌<◌, ◌≤◌, Bool, true, false, cond, nat_eq, List, [], ◌∷◌, ◌++◌, length, filter, refl, ap, arith}
use Rattle.std.proofs.lemmas.Bool.{ne_eqb}
use Rattle.script_lang.specs.Parts.{with_byte, parts, is_blank, is_some_word, without_return, words}

-- a part that isn't empty is a word
pub filter-word : (p : List ℕ) (ps : List (List ℕ)) → 0 < length p → filter is_some_word (p ∷ ps) ≡ p ∷ filter is_some_word ps
filter-word [] ps h = absurd (omega arith)
filter-word (b ∷ bs) ps h = refl

-- an empty part is none
pub filter-empty : (p : List ℕ) (ps : List (List ℕ)) → length p ≡ 0 → filter is_some_word (p ∷ ps) ≡ filter is_some_word ps
filter-empty [] ps h = refl
filter-empty (b ∷ bs) ps h = absurd (omega arith)

abbrev count : List (List ℕ) → ℕ
count ps = length (filter is_some_word ps)

count-with_byte : (t : Bool) (b n : ℕ) (ps : List (List ℕ)) → count ps ≤ n → count (with_byte t b ps) ≤ suc n
count-with_byte true b n ps h = omega arith
count-with_byte false b n [] h = omega arith
count-with_byte false b n ([] ∷ ps) h = omega arith
count-with_byte false b n ((c ∷ cs) ∷ ps) h = omega arith

-- a text has no more words than bytes
pub count-parts : (xs : List ℕ) → length (filter is_some_word (parts is_blank xs)) ≤ length xs
count-parts [] = omega arith
count-parts (x ∷ xs) = count-with_byte (is_blank x) x (length xs) (parts is_blank xs) (count-parts xs)

length-without_return : (xs : List ℕ) → length (without_return xs) ≤ length xs
length-without_return [] = omega arith
length-without_return (b ∷ []) = one (nat_eq b 13)
  where
    one : (t : Bool) → length (cond t [] (b ∷ [])) ≤ 1
    one true = omega arith
    one false = omega arith
length-without_return (b ∷ c ∷ bs) = let more = length-without_return (c ∷ bs) in omega arith

pub length-words : (line : List ℕ) → length (words line) ≤ length line
length-words line = let parts_of = count-parts (without_return line) in let front = length-without_return line in omega arith

-- a carriage return stands last
pub without_return-last : (front : List ℕ) → without_return (front ++ 13 ∷ []) ≡ front
without_return-last [] = refl
without_return-last (b ∷ []) = refl
without_return-last (b ∷ c ∷ bs) = ap (λ (ys : List ℕ). b ∷ ys) (without_return-last (c ∷ bs))

-- another byte does
pub without_return-other : (front : List ℕ) (b : ℕ) → (b ≡ 13 → ⊥) → without_return (front ++ b ∷ []) ≡ front ++ b ∷ []
without_return-other [] b h = ap (λ (t : Bool). cond t [] (b ∷ [])) (ne_eqb b 13 h)
without_return-other (a ∷ []) b h = ap (λ (ys : List ℕ). a ∷ ys) (without_return-other [] b h)
without_return-other (a ∷ c ∷ bs) b h = ap (λ (ys : List ℕ). a ∷ ys) (without_return-other (c ∷ bs) b h)
