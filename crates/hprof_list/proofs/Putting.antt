-- How puts follow one another.
use Rattle.std.proofs.Common.{◌≡◌, ℕ, zero, suc, ◌+◌, ◌-◌, ◌≤◌, ◌<◌, inl, inr, List, [], ◌∷◌, ◌++◌, Option, Some, None, Result, Ok, Err, length, get_or, take, drop, map, refl, sym, ap, subst, ◌∙◌, append_assoc, arith}
use Rattle.std.specs.List.{flat_map}
use Rattle.std.proofs.lemmas.Bool.{cases_lt}
use Rattle.std.proofs.lemmas.List.{append-nil, drop-take, take-append-drop, take-take, take_all, take_more}
use Rattle.std.proofs.lemmas.List.Concat.{flat_map-append}
use Rattle.std.specs.Prelude.{◌==◌, false, MatchResult, OnOk}
use Rattle.std.proofs.Math.Bool.{true≢false}
use Rattle.ah_outside.specs.Outside.{FaultRose, Gained, GainedPrefix}
use Rattle.ah_outside.specs.declared.source.Failed.{Failed}
use Rattle.hprof_list.specs.Listing.{hex_byte, hex, value_text}
use Rattle.hprof_list.specs.Putting.{joined}

-- what a put does, in terms of what was gained and of how many faults there were
abbrev pub IsPut : Option (List ℕ) → ℕ → List ℕ → Option (List ℕ) → ℕ → Result (Unit {0}) Failed → Type 0
IsPut g f text g' f' r = (f ≤ f') × MatchResult r (λ _. Gained g text g') (λ _. GainedPrefix g text g' × FaultRose f f')

gained_append : (old : Option (List ℕ)) (xs : List ℕ) (mid : Option (List ℕ)) (ys : List ℕ) (new : Option (List ℕ)) → Gained old xs mid → Gained mid ys new → Gained old (xs ++ ys) new
gained_append None xs mid ys new a b = rw a at b
gained_append (Some held) xs mid ys new a b = rw (← append_assoc) (rw a at b)

pub nothing_gained : (old : Option (List ℕ)) → Gained old [] old
nothing_gained None = refl
nothing_gained (Some held) = ap (λ (t : List ℕ). Some t) (sym (append-nil held))

take_front : (n : ℕ) (xs ys : List ℕ) → (k : ℕ) × (take k (xs ++ ys) ≡ take n xs)
take_front zero xs ys = (0, refl)
take_front (suc n) [] ys = (0, refl)
take_front (suc n) (x ∷ xs) ys = let h = take_front n xs ys in (suc h.0, ap (λ (t : List ℕ). x ∷ t) h.1)

take_behind : (n : ℕ) (xs ys : List ℕ) → (k : ℕ) × (take k (xs ++ ys) ≡ xs ++ take n ys)
take_behind n [] ys = (n, refl)
take_behind n (x ∷ xs) ys = let h = take_behind n xs ys in (suc h.0, ap (λ (t : List ℕ). x ∷ t) h.1)

prefix_front : (old : Option (List ℕ)) (xs ys : List ℕ) (new : Option (List ℕ)) → GainedPrefix old xs new → GainedPrefix old (xs ++ ys) new
prefix_front old xs ys new h = let k = take_front h.0 xs ys in (k.0, subst (λ (t : List ℕ). Gained old t new) (sym k.1) h.1)

prefix_behind : (old : Option (List ℕ)) (xs : List ℕ) (mid : Option (List ℕ)) (ys : List ℕ) (new : Option (List ℕ)) → Gained old xs mid → GainedPrefix mid ys new → GainedPrefix old (xs ++ ys) new
prefix_behind old xs mid ys new a h = let k = take_behind h.0 xs ys in (k.0, subst (λ (t : List ℕ). Gained old t new) (sym k.1) (gained_append old xs mid (take h.0 ys) new a h.1))

rose_from : (a b c : ℕ) → a ≤ b → b ≤ c → FaultRose b c → FaultRose a c
rose_from a b c h i r =
    elim (cases_lt a c) [
      | inl lt ↦ inl lt
      | inr ge ↦ elim r [ inl lt ↦ absurd (omega arith) | inr last ↦ inr (omega arith) ]
    ]

-- what was put before, and then more
pub then_put : (g : Option (List ℕ)) (f : ℕ) (a : List ℕ) (g' : Option (List ℕ)) (f' : ℕ) (b text : List ℕ) (g'' : Option (List ℕ)) (f'' : ℕ) (r : Result (Unit {0}) Failed) → (f ≤ f') × Gained g a g' → IsPut g' f' b g'' f'' r → a ++ b ≡ text → IsPut g f text g'' f'' r
then_put g f a g' f' b text g'' f'' (Ok u) h p is = (omega arith, subst (λ (t : List ℕ). Gained g t g'') is (gained_append g a g' b g'' h.1 p.1))
then_put g f a g' f' b text g'' f'' (Err e) h p is =
    (omega arith, (subst (λ (t : List ℕ). GainedPrefix g t g'') is (prefix_behind g a g' b g'' h.1 p.1.0), rose_from f f' f'' h.0 p.0 p.1.1))

-- where a put failed, so did what was to be put with more behind it
pub stopped : (g : Option (List ℕ)) (f : ℕ) (a b text : List ℕ) (g' : Option (List ℕ)) (f' : ℕ) → (f ≤ f') × (GainedPrefix g a g' × FaultRose f f') → a ++ b ≡ text → (f ≤ f') × (GainedPrefix g text g' × FaultRose f f')
stopped g f a b text g' f' p is = (p.0, (subst (λ (t : List ℕ). GainedPrefix g t g') is (prefix_front g a b g' p.1.0), p.1.1))

-- the same behind what was put before
pub then_stopped : (g : Option (List ℕ)) (f : ℕ) (a : List ℕ) (g' : Option (List ℕ)) (f' : ℕ) (b c text : List ℕ) (g'' : Option (List ℕ)) (f'' : ℕ) → (f ≤ f') × Gained g a g' → (f' ≤ f'') × (GainedPrefix g' b g'' × FaultRose f' f'') → a ++ (b ++ c) ≡ text → (f ≤ f'') × (GainedPrefix g text g'' × FaultRose f f'')
then_stopped g f a g' f' b c text g'' f'' h p is =
    (omega arith, (subst (λ (t : List ℕ). GainedPrefix g t g'') is (prefix_behind g a g' (b ++ c) g'' h.1 (prefix_front g' b c g'' p.1.0)), rose_from f f' f'' h.0 p.0 p.1.1))

-- the same text in other words
pub said : (g : Option (List ℕ)) (f : ℕ) (a text : List ℕ) (g' : Option (List ℕ)) (f' : ℕ) (r : Result (Unit {0}) Failed) → IsPut g f a g' f' r → a ≡ text → IsPut g f text g' f' r
said g f a text g' f' r p is = subst (λ (t : List ℕ). IsPut g f t g' f' r) is p

-- a put that went well
pub puts_ok : (g : Option (List ℕ)) (f : ℕ) (text : List ℕ) (g' : Option (List ℕ)) (f' : ℕ) (r : Result (Unit {0}) Failed) → IsPut g f text g' f' r → OnOk r (Gained g text g')
puts_ok g f text g' f' (Ok u) p = p.1
puts_ok g f text g' f' (Err e) p = tt

-- a loop that puts the text of each element
abbrev pub SoFar : {X : Type 0} → (X → List ℕ) → List X → ℕ → Option (List ℕ) → ℕ → Option (List ℕ) → ℕ → Type 0
SoFar f xs i g n g' n' = (n ≤ n') × Gained g (flat_map f (take i xs)) g'

flat_more : {X : Type 0} (f : X → List ℕ) (xs : List X) (i : ℕ) (d : X) → i < length xs → flat_map f (take (i + 1) xs) ≡ flat_map f (take i xs) ++ f (get_or xs i d)
flat_more f xs i d lt =
    ap (flat_map f) (take_more xs i d lt) ∙ flat_map-append f (take i xs) (get_or xs i d ∷ []) ∙ ap (λ (t : List ℕ). flat_map f (take i xs) ++ t) (append-nil (f (get_or xs i d)))

-- one more element's text was put
pub each_more : {X : Type 0} (f : X → List ℕ) (xs : List X) (i : ℕ) (d : X) (text : List ℕ) (g : Option (List ℕ)) (n : ℕ) (g' : Option (List ℕ)) (n' : ℕ) (g'' : Option (List ℕ)) (n'' : ℕ) → i < length xs → text ≡ f (get_or xs i d) → SoFar f xs i g n g' n' → (n' ≤ n'') × Gained g' text g'' → SoFar f xs (i + 1) g n g'' n''
each_more f xs i d text g n g' n' g'' n'' lt is h p =
    let this : Gained g' (f (get_or xs i d)) g'' = subst (λ (t : List ℕ). Gained g' t g'') is p.1 in
    (omega arith, subst (λ (t : List ℕ). Gained g t g'') (sym (flat_more f xs i d lt)) (gained_append g (flat_map f (take i xs)) g' (f (get_or xs i d)) g'' h.1 this))

-- one more element's text was not wholly put
pub each_stop : {X : Type 0} (f : X → List ℕ) (xs : List X) (i : ℕ) (d : X) (text : List ℕ) (g : Option (List ℕ)) (n : ℕ) (g' : Option (List ℕ)) (n' : ℕ) (g'' : Option (List ℕ)) (n'' : ℕ) → i < length xs → text ≡ f (get_or xs i d) → SoFar f xs i g n g' n' → (n' ≤ n'') × (GainedPrefix g' text g'' × FaultRose n' n'')
    → (n ≤ n'') × (GainedPrefix g (flat_map f xs) g'' × FaultRose n n'')
each_stop f xs i d text g n g' n' g'' n'' lt is h p =
    let this : GainedPrefix g' (f (get_or xs i d)) g'' = subst (λ (t : List ℕ). GainedPrefix g' t g'') is p.1.0 in
    let front = prefix_behind g (flat_map f (take i xs)) g' (f (get_or xs i d)) g'' h.1 this in
    let more = prefix_front g (flat_map f (take i xs) ++ f (get_or xs i d)) (flat_map f (drop (i + 1) xs)) g'' front in
    let whole : (flat_map f (take i xs) ++ f (get_or xs i d)) ++ flat_map f (drop (i + 1) xs) ≡ flat_map f xs =
    ap (λ (t : List ℕ). t ++ flat_map f (drop (i + 1) xs)) (sym (flat_more f xs i d lt)) ∙ sym (flat_map-append f (take (i + 1) xs) (drop (i + 1) xs)) ∙ ap (flat_map f) (take-append-drop (i + 1) xs) in
    (omega arith, (subst (λ (t : List ℕ). GainedPrefix g t g'') whole more, rose_from n n' n'' h.0 p.0 p.1.1))

-- every element's text was put
pub each_done : {X : Type 0} (f : X → List ℕ) (xs : List X) (i : ℕ) (g : Option (List ℕ)) (n : ℕ) (g' : Option (List ℕ)) (n' : ℕ) → length xs ≤ i → SoFar f xs i g n g' n' → (n ≤ n') × Gained g (flat_map f xs) g'
each_done {X} f xs i g n g' n' le h = (h.0, subst (λ (t : List X). Gained g (flat_map f t) g') (take_all i xs le) h.1)

-- pieces and the rest are the pieces' texts and then the rest
pub joined_is : {X : Type 0} (f : X → List ℕ) (xs : List X) (rest : List ℕ) → joined (map f xs) rest ≡ flat_map f xs ++ rest
joined_is f [] rest = refl
joined_is f (x ∷ xs) rest = ap (λ (t : List ℕ). f x ++ t) (joined_is f xs rest) ∙ sym (append_assoc (f x) (flat_map f xs) rest)

-- a value that isn't empty is its digits
pub value_is : (bytes : List ℕ) → false ≡ (length bytes == 0) → value_text bytes ≡ hex bytes
value_is [] h = absurd (true≢false (sym h))
value_is (b ∷ bytes) h = refl

-- the digits of a front of the bytes, and of some that follow it
hex_further : (bytes : List ℕ) (a b : ℕ) → hex (take a bytes) ++ hex (take ((a + b) - a) (drop a bytes)) ≡ hex (take (a + b) bytes)
hex_further bytes a b =
    let all : (a + b) - a ≡ b = omega arith in
    let front : take a (take (a + b) bytes) ≡ take a bytes = take-take a (a + b) bytes (omega arith) in
    let parts : take (a + b) bytes ≡ take a bytes ++ take b (drop a bytes) =
    sym (take-append-drop a (take (a + b) bytes)) ∙ ap (λ (t : List ℕ). t ++ drop a (take (a + b) bytes)) front ∙ ap (λ (t : List ℕ). take a bytes ++ t) (drop-take a b bytes) in
    rw all (sym (ap hex parts ∙ flat_map-append hex_byte (take a bytes) (take b (drop a bytes))))

-- some more bytes were put
pub chunk_more : (g : Option (List ℕ)) (bytes : List ℕ) (a b : ℕ) (g' g'' : Option (List ℕ)) → Gained g (hex (take a bytes)) g' → Gained g' (hex (take ((a + b) - a) (drop a bytes))) g'' → Gained g (hex (take (a + b) bytes)) g''
chunk_more g bytes a b g' g'' h p = subst (λ (t : List ℕ). Gained g t g'') (hex_further bytes a b) (gained_append g (hex (take a bytes)) g' (hex (take ((a + b) - a) (drop a bytes))) g'' h p)

-- some more bytes were not wholly put
pub chunk_stop : (g : Option (List ℕ)) (n : ℕ) (bytes : List ℕ) (a b : ℕ) (g' : Option (List ℕ)) (n' : ℕ) (g'' : Option (List ℕ)) (n'' : ℕ) → n ≤ n' → Gained g (hex (take a bytes)) g' → (n' ≤ n'') × (GainedPrefix g' (hex (take ((a + b) - a) (drop a bytes))) g'' × FaultRose n' n'')
    → (n ≤ n'') × (GainedPrefix g (hex bytes) g'' × FaultRose n n'')
chunk_stop g n bytes a b g' n' g'' n'' le h p =
    let front = prefix_behind g (hex (take a bytes)) g' (hex (take ((a + b) - a) (drop a bytes))) g'' h p.1.0 in
    let this : GainedPrefix g (hex (take (a + b) bytes)) g'' = subst (λ (t : List ℕ). GainedPrefix g t g'') (hex_further bytes a b) front in
    let more = prefix_front g (hex (take (a + b) bytes)) (hex (drop (a + b) bytes)) g'' this in
    let whole : hex (take (a + b) bytes) ++ hex (drop (a + b) bytes) ≡ hex bytes =
    sym (flat_map-append hex_byte (take (a + b) bytes) (drop (a + b) bytes)) ∙ ap hex (take-append-drop (a + b) bytes) in
    (omega arith, (subst (λ (t : List ℕ). GainedPrefix g t g'') whole more, rose_from n n' n'' le p.0 p.1.1))
