-- Bytes that are appended one after another.
use Rattle.std.proofs.Common.{◌≡◌, ℕ, ◌+◌, List, [], ◌∷◌, ◌++◌, Option, Some, None, length, take, drop, refl, sym, ap, ◌∙◌, subst, append_assoc}
use Rattle.std.proofs.lemmas.List.{append-nil, take-append-drop}
use Rattle.std.proofs.Math.Seq.{take-append_seam, take-append-add}
use Rattle.std.specs.List.{concat}
use Rattle.std.specs.Option.{option_map}
use Rattle.ah_outside.specs.Outside.{Entry, with_bytes, Shelved, Appended}
use Rattle.hprof_write.specs.Outcomes.{AppendedBut, AppendedPrefix}

-- bytes at the end, and then more of them
pub with_bytes-append : (es : List Entry) (xs ys : List ℕ) → with_bytes (with_bytes es xs) ys ≡ with_bytes es (xs ++ ys)
with_bytes-append [] xs ys = refl
with_bytes-append (e ∷ []) xs ys = ap (λ bytes. record { name = e.name; bytes = bytes; closed = e.closed } ∷ []) (append_assoc e.bytes xs ys)
with_bytes-append (e ∷ f ∷ []) xs ys = ap (λ l. e ∷ l) (with_bytes-append (f ∷ []) xs ys)
with_bytes-append (e ∷ f ∷ g ∷ es) xs ys = ap (λ l. e ∷ l) (with_bytes-append (f ∷ g ∷ es) xs ys)

-- no bytes at the end change nothing
pub with_bytes-none : (es : List Entry) → with_bytes es [] ≡ es
with_bytes-none [] = refl
with_bytes-none (e ∷ []) = ap (λ bytes. record { name = e.name; bytes = bytes; closed = e.closed } ∷ []) (append-nil e.bytes)
with_bytes-none (e ∷ f ∷ es) = ap (λ l. e ∷ l) (with_bytes-none (f ∷ es))

entries-append : (es : Option (List Entry)) (xs ys : List ℕ)
    → option_map (λ fs. with_bytes fs ys) (option_map (λ fs. with_bytes fs xs) es) ≡ option_map (λ fs. with_bytes fs (xs ++ ys)) es
entries-append None xs ys = refl
entries-append (Some es) xs ys = ap (λ fs. Some fs) (with_bytes-append es xs ys)

entries-none : (es : Option (List Entry)) → option_map (λ fs. with_bytes fs []) es ≡ es
entries-none None = refl
entries-none (Some es) = ap (λ fs. Some fs) (with_bytes-none es)

-- appended twice is appended at once
pub Appended-append : (a b c : Shelved) (xs ys : List ℕ) → Appended a xs b → Appended b ys c → Appended a (xs ++ ys) c
Appended-append a b c xs ys first second =
    let P : Shelved → Type 0 = λ m. c ≡ record { entries = option_map (λ fs. with_bytes fs ys) m.entries; unfinished = m.unfinished } in
    subst P first second ∙ ap (λ es. record { entries = es; unfinished = a.unfinished }) (entries-append a.entries xs ys)

pub Appended-none : (a : Shelved) → Appended a [] a
Appended-none a = ap (λ es. record { entries = es; unfinished = a.unfinished }) (sym (entries-none a.entries))

pub Appended-unfinished : (a b : Shelved) (xs : List ℕ) → Appended a xs b → b.unfinished ≡ a.unfinished
Appended-unfinished a b xs h = ap (λ s. s.unfinished) h

-- at first nothing was put and nothing waits
pub AppendedBut-none : (a : Shelved) → AppendedBut a [] [] a
AppendedBut-none a = ([], Appended-none a, refl)

-- more bytes wait
pub AppendedBut-more : (a b : Shelved) (bytes waiting more : List ℕ) → AppendedBut a bytes waiting b → AppendedBut a (bytes ++ more) (waiting ++ more) b
AppendedBut-more a b bytes waiting more (put, done, whole) = (put, done, sym (append_assoc put waiting more) ∙ ap (λ l. l ++ more) whole)

-- what waited was put
pub AppendedBut-put : (a b c : Shelved) (bytes waiting : List ℕ) → AppendedBut a bytes waiting b → Appended b waiting c → Appended a bytes c
AppendedBut-put a b c bytes waiting (put, done, whole) h =
    subst (λ l. Appended a l c) whole (Appended-append a b c put waiting done h)

pub AppendedBut-all : (a c : Shelved) (bytes : List ℕ) → Appended a bytes c → AppendedBut a bytes [] c
AppendedBut-all a c bytes h = (bytes, h, append-nil bytes)

-- some first bytes of what waited were put
pub AppendedBut-prefix : (a b c : Shelved) (bytes waiting : List ℕ) (n : ℕ) → AppendedBut a bytes waiting b → Appended b (take n waiting) c → AppendedPrefix a bytes c
AppendedBut-prefix a b c bytes waiting n (put, done, whole) h =
    let e : take (length put + n) bytes ≡ put ++ take n waiting = ap (take (length put + n)) (sym whole) ∙ take-append-add put waiting n in
    (length put + n, subst (λ l. Appended a l c) (sym e) (Appended-append a b c put (take n waiting) done h))

-- nothing of what waited was put
pub AppendedBut-stopped : (a b : Shelved) (bytes waiting : List ℕ) → AppendedBut a bytes waiting b → AppendedPrefix a bytes b
AppendedBut-stopped a b bytes waiting (put, done, whole) =
    let e : take (length put) bytes ≡ put = ap (take (length put)) (sym whole) ∙ take-append_seam put waiting in
    (length put, subst (λ l. Appended a l b) (sym e) done)

-- some first bytes of these are some first bytes of more
pub AppendedPrefix-more : (a b : Shelved) (bytes more : List ℕ) → AppendedPrefix a bytes b → AppendedPrefix a (bytes ++ more) b
AppendedPrefix-more a b bytes more (n, h) =
    let whole : take n bytes ++ (drop n bytes ++ more) ≡ bytes ++ more = sym (append_assoc (take n bytes) (drop n bytes) more) ∙ ap (λ l. l ++ more) (take-append-drop n bytes) in
    let e : take (length (take n bytes)) (bytes ++ more) ≡ take n bytes =
    ap (take (length (take n bytes))) (sym whole) ∙ take-append_seam (take n bytes) (drop n bytes ++ more) in
    (length (take n bytes), subst (λ l. Appended a l b) (sym e) h)

-- five appends are one
pub five-appends : (o p q r s t : List ℕ) → ((((o ++ p) ++ q) ++ r) ++ s) ++ t ≡ o ++ concat (p ∷ q ∷ r ∷ s ∷ t ∷ [])
five-appends o p q r s t = simp (append_assoc, append-nil)
