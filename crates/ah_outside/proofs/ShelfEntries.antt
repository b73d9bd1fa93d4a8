-- What the calls of a shelf do to its entries.
use Rattle.std.proofs.Common.{◌≡◌, ℕ, true, false, List, [], ◌∷◌, ◌++◌, Some, refl, sym, ap}
use Rattle.std.proofs.lemmas.List.{append-nil}
use Rattle.ah_outside.specs.Outside.{Entry, begun, with_bytes, with_last_closed, is_last_open, Shelved, Begun, Appended, Closed}
use Rattle.ah_outside.specs.MemoryShelf.{ShelfState, after_begin, after_append, after_finish, after_failed_call}

-- an entry that was just begun is open
is_last_open-begun : (es : List Entry) (name : List ℕ) → is_last_open (es ++ begun name ∷ []) ≡ true
is_last_open-begun [] name = refl
is_last_open-begun (e ∷ []) name = refl
is_last_open-begun (e ∷ f ∷ es) name = is_last_open-begun (f ∷ es) name

-- bytes at the end leave it open or closed, as it was
is_last_open-with_bytes : (es : List Entry) (piece : List ℕ) → is_last_open (with_bytes es piece) ≡ is_last_open es
is_last_open-with_bytes [] piece = refl
is_last_open-with_bytes (e ∷ []) piece = refl
is_last_open-with_bytes (e ∷ f ∷ []) piece = refl
is_last_open-with_bytes (e ∷ f ∷ g ∷ es) piece = is_last_open-with_bytes (f ∷ g ∷ es) piece

-- one that was closed isn't open
is_last_open-closed : (es : List Entry) → is_last_open (with_last_closed es) ≡ false
is_last_open-closed [] = refl
is_last_open-closed (e ∷ []) = refl
is_last_open-closed (e ∷ f ∷ []) = refl
is_last_open-closed (e ∷ f ∷ g ∷ es) = is_last_open-closed (f ∷ g ∷ es)

-- no bytes at the end change nothing
with_bytes-none : (es : List Entry) → with_bytes es [] ≡ es
with_bytes-none [] = refl
with_bytes-none (e ∷ []) = ap (λ bytes. record { name = e.name; bytes = bytes; closed = e.closed } ∷ []) (append-nil e.bytes)
with_bytes-none (e ∷ f ∷ es) = ap (λ l. e ∷ l) (with_bytes-none (f ∷ es))

-- what a shelf in memory tells
abbrev pub told : ShelfState → Shelved
told s = record { entries = Some s.entries; unfinished = is_last_open s.entries }

pub Begun-after : (old : ShelfState) (name : List ℕ) (new : ShelfState) → new ≡ after_begin old name → Begun (told old) name (told new)
Begun-after old name new state =
    rw state (ap (λ b. record { entries = Some (old.entries ++ begun name ∷ []); unfinished = b }) (is_last_open-begun old.entries name))

pub Appended-after : (old : ShelfState) (piece : List ℕ) (new : ShelfState) → new ≡ after_append old piece → Appended (told old) piece (told new)
Appended-after old piece new state =
    rw state (ap (λ b. record { entries = Some (with_bytes old.entries piece); unfinished = b }) (is_last_open-with_bytes old.entries piece))

pub Appended-none : (old new : ShelfState) → new ≡ after_failed_call old → Appended (told old) [] (told new)
Appended-none old new state =
    rw state (ap (λ es. record { entries = Some es; unfinished = is_last_open old.entries }) (sym (with_bytes-none old.entries)))

pub Closed-after : (old new : ShelfState) → new ≡ after_finish old → Closed (told old) (told new)
Closed-after old new state =
    rw state (ap (λ b. record { entries = Some (with_last_closed old.entries); unfinished = b }) (is_last_open-closed old.entries))
