-- The first part of a text, and the parts behind it.
use Rattle.std.proofs.Common.{◌≡◌, ℕ, zero, suc, ◌<◌, Bool, true, false, List, [], ◌∷◌, ◌++◌, length, get_or, take, drop, refl, sym, ◌∙◌, ap, arith}
use Rattle.std.proofs.lemmas.List.{append-nil}
use Rattle.script_lang.specs.Parts.{with_byte, parts, is_byte, without_empty_last, lines, without_last, whole_lines}

refuted : (b : Bool) → (b ≡ true → ⊥) → b ≡ false
refuted true h = absurd (h refl)
refuted false h = refl

-- the first separator ends the first part
pub parts-first : (t : ℕ → Bool) (xs : List ℕ) (k : ℕ) → k < length xs → ((i : ℕ) → i < k → t (get_or xs i 0) ≡ true → ⊥) → t (get_or xs k 0) ≡ true → parts t xs ≡ take k xs ∷ parts t (drop (suc k) xs)
parts-first t [] k h before at = absurd (omega arith)
parts-first t (x ∷ xs) zero h before at = ap (λ b. with_byte b x (parts t xs)) at
parts-first t (x ∷ xs) (suc k) h before at =
    ap (λ b. with_byte b x (parts t xs)) (refuted (t x) (before 0 (omega arith)))
    ∙ ap (with_byte false x) (parts-first t xs k (omega arith) (λ i lt. before (suc i) (omega arith)) at)

-- without a separator there is one part
pub parts-whole : (t : ℕ → Bool) (xs : List ℕ) → ((i : ℕ) → i < length xs → t (get_or xs i 0) ≡ true → ⊥) → parts t xs ≡ xs ∷ []
parts-whole t [] none = refl
parts-whole t (x ∷ xs) none =
    ap (λ b. with_byte b x (parts t xs)) (refuted (t x) (none 0 (omega arith)))
    ∙ ap (with_byte false x) (parts-whole t xs (λ i lt. none (suc i) (omega arith)))

-- there is a part
pub parts-some : (t : ℕ → Bool) (xs : List ℕ) → (p : List ℕ) × (ps : List (List ℕ)) × (parts t xs ≡ p ∷ ps)
parts-some t [] = ([], [], refl)
parts-some t (x ∷ xs) = some_with (t x) x (parts t xs) (parts-some t xs)
  where
    some_with : (b : Bool) (x : ℕ) (qs : List (List ℕ)) → ((p : List ℕ) × (ps : List (List ℕ)) × (qs ≡ p ∷ ps)) → (p : List ℕ) × (ps : List (List ℕ)) × (with_byte b x qs ≡ p ∷ ps)
    some_with true x qs h = ([], qs, refl)
    some_with false x qs h = (x ∷ h.0, h.1, ap (with_byte false x) h.2)

-- a text that is one part is that part
pub parts-one : (t : ℕ → Bool) (xs p : List ℕ) → parts t xs ≡ p ∷ [] → p ≡ xs
parts-one t [] p h = cc
parts-one t (x ∷ xs) p h = let some = parts-some t xs in one (t x) some.0 some.1 some.2 (parts-one t xs some.0) h
  where
    one : (b : Bool) (q : List ℕ) (qs : List (List ℕ)) → parts t xs ≡ q ∷ qs → (parts t xs ≡ q ∷ [] → q ≡ xs) → with_byte b x (parts t xs) ≡ p ∷ [] → p ≡ x ∷ xs
    one true q qs some same e = absurd (let none : parts t xs ≡ [] = cc in cc)
    one false q qs some same e =
        let first : (x ∷ q) ∷ qs ≡ p ∷ [] = sym (ap (with_byte false x) some) ∙ e in
        let none : qs ≡ [] = cc in
        let last : q ≡ xs = same (some ∙ ap (λ (rs : List (List ℕ)). q ∷ rs) none) in
        let text : p ≡ x ∷ q = cc in
        text ∙ ap (λ (bs : List ℕ). x ∷ bs) last

-- a part in front of others is a line
pub without_empty_last-more : (p : List ℕ) (t : ℕ → Bool) (xs : List ℕ) → without_empty_last (p ∷ parts t xs) ≡ p ∷ without_empty_last (parts t xs)
without_empty_last-more p t xs =
    let some = parts-some t xs in
    ap (λ (ps : List (List ℕ)). without_empty_last (p ∷ ps)) some.2 ∙ sym (ap (λ (ps : List (List ℕ)). p ∷ without_empty_last ps) some.2)

-- a last part that isn't empty is a line
pub without_empty_last-one : (xs : List ℕ) → 0 < length xs → without_empty_last (xs ∷ []) ≡ xs ∷ []
without_empty_last-one [] h = absurd (omega arith)
without_empty_last-one (x ∷ xs) h = refl

-- a part that a line feed ends is a line, in front of the lines behind it
pub lines-first : (text line rest : List ℕ) → parts (is_byte 10) text ≡ line ∷ parts (is_byte 10) rest → lines text ≡ line ∷ lines rest
lines-first text line rest h = ap without_empty_last h ∙ without_empty_last-more line (is_byte 10) rest

-- a text without a line feed is one line, unless it is empty
pub lines-last : (text line : List ℕ) → parts (is_byte 10) text ≡ line ∷ [] → line ≡ text → 0 < length text → lines text ≡ line ∷ []
lines-last text line h whole some = ap without_empty_last h ∙ without_empty_last-one line (omega (arith, ap length whole))

-- parts with further ones behind them: the last part and the first of these are one
abbrev pub joined : List (List ℕ) → List (List ℕ) → List (List ℕ)
joined [] qs = qs
joined (p ∷ []) [] = p ∷ []
joined (p ∷ []) (q ∷ qs) = (p ++ q) ∷ qs
joined (p ∷ r ∷ ps) qs = p ∷ joined (r ∷ ps) qs

-- a byte in front of joined parts
with_byte-joined : (b : Bool) (x : ℕ) (p : List ℕ) (ps qs : List (List ℕ)) → with_byte b x (joined (p ∷ ps) qs) ≡ joined (with_byte b x (p ∷ ps)) qs
with_byte-joined true x p ps qs = refl
with_byte-joined false x p [] [] = refl
with_byte-joined false x p [] (q ∷ qs) = refl
with_byte-joined false x p (r ∷ ps) qs = refl

-- the parts of two texts behind each other
pub parts-joined : (t : ℕ → Bool) (xs ys : List ℕ) → parts t (xs ++ ys) ≡ joined (parts t xs) (parts t ys)
parts-joined t [] ys = let some = parts-some t ys in some.2 ∙ sym (ap (joined ([] ∷ [])) some.2)
parts-joined t (x ∷ xs) ys =
    let some = parts-some t xs in
    ap (with_byte (t x) x) (parts-joined t xs ys ∙ ap (λ (ps : List (List ℕ)). joined ps (parts t ys)) some.2)
    ∙ with_byte-joined (t x) x some.0 some.1 (parts t ys)
    ∙ sym (ap (λ (ps : List (List ℕ)). joined (with_byte (t x) x ps) (parts t ys)) some.2)

-- the last of some parts and the first of others are one part
pub joined-last : (done : List (List ℕ)) (p q : List ℕ) (qs : List (List ℕ)) → joined (done ++ p ∷ []) (q ∷ qs) ≡ done ++ (p ++ q) ∷ qs
joined-last [] p q qs = refl
joined-last (d ∷ []) p q qs = refl
joined-last (d ∷ e ∷ done) p q qs = ap (λ (ps : List (List ℕ)). d ∷ ps) (joined-last (e ∷ done) p q qs)

-- the last part of a text and the first of the text behind it are one part of both
pub parts-append : (t : ℕ → Bool) (xs ys : List ℕ) (done : List (List ℕ)) (p q : List ℕ) (qs : List (List ℕ)) → parts t xs ≡ done ++ p ∷ [] → parts t ys ≡ q ∷ qs → parts t (xs ++ ys) ≡ done ++ (p ++ q) ∷ qs
parts-append t xs ys done p q qs front back =
    parts-joined t xs ys
    ∙ ap (λ (ps : List (List ℕ)). joined ps (parts t ys)) front
    ∙ ap (joined (done ++ p ∷ [])) back
    ∙ joined-last done p q qs

-- each text has a last part
pub parts-last : (t : ℕ → Bool) (xs : List ℕ) → (done : List (List ℕ)) × (p : List ℕ) × (parts t xs ≡ done ++ p ∷ [])
parts-last t xs = let some = parts-some t xs in let last = last_of some.0 some.1 in (last.0, last.1, some.2 ∙ last.2)
  where
    last_of : (q : List ℕ) (qs : List (List ℕ)) → (done : List (List ℕ)) × (p : List ℕ) × (q ∷ qs ≡ done ++ p ∷ [])
    last_of q [] = ([], q, refl)
    last_of q (r ∷ qs) = let more = last_of r qs in (q ∷ more.0, more.1, ap (λ (ps : List (List ℕ)). q ∷ ps) more.2)

-- all but the last part, where that one is known
pub without_last-last : (done : List (List ℕ)) (p : List ℕ) → without_last (done ++ p ∷ []) ≡ done
without_last-last [] p = refl
without_last-last (d ∷ []) p = refl
without_last-last (d ∷ e ∷ done) p = ap (λ (ps : List (List ℕ)). d ∷ ps) (without_last-last (e ∷ done) p)

-- only the last part is looked at
pub without_empty_last-last : (done : List (List ℕ)) (p : List ℕ) → without_empty_last (done ++ p ∷ []) ≡ done ++ without_empty_last (p ∷ [])
without_empty_last-last [] p = refl
without_empty_last-last (d ∷ []) p = refl
without_empty_last-last (d ∷ e ∷ done) p = ap (λ (ps : List (List ℕ)). d ∷ ps) (without_empty_last-last (e ∷ done) p)

-- the lines that a line feed ends, in front of the last part
pub whole_lines-last : (text : List ℕ) (done : List (List ℕ)) (p : List ℕ) → parts (is_byte 10) text ≡ done ++ p ∷ [] → whole_lines text ≡ done
whole_lines-last text done p h = ap without_last h ∙ without_last-last done p

-- the lines: those that a line feed ends, and the last part unless it is empty
pub lines-done : (text : List ℕ) (done : List (List ℕ)) (p : List ℕ) → parts (is_byte 10) text ≡ done ++ p ∷ [] → lines text ≡ done ++ without_empty_last (p ∷ [])
lines-done text done p h = ap without_empty_last h ∙ without_empty_last-last done p

-- the lines of a text that ends with a line feed, or is empty
pub lines-ended : (text : List ℕ) (done : List (List ℕ)) → parts (is_byte 10) text ≡ done ++ [] ∷ [] → lines text ≡ done
lines-ended text done h = lines-done text done [] h ∙ append-nil done

-- the lines of a text whose last line has no line feed
pub lines-open : (text : List ℕ) (done : List (List ℕ)) (p : List ℕ) → parts (is_byte 10) text ≡ done ++ p ∷ [] → 0 < length p → lines text ≡ done ++ p ∷ []
lines-open text done p h some = lines-done text done p h ∙ ap (λ (ps : List (List ℕ)). done ++ ps) (without_empty_last-one p some)
