-- One entry of a shelf: begun, filled, closed, or stopped in between.
use Rattle.std.proofs.Common.{◌≡◌, ◌⊎◌, inl, inr, ℕ, true, false, List, [], ◌∷◌, ◌++◌, Option, None, Some, length, take, refl, sym, ◌∙◌, ap, arith}
use Rattle.std.specs.Option.{option_map}
use Rattle.std.proofs.lemmas.List.{take_all}
use Rattle.ah_outside.specs.Outside.{Appended, Begun, Closed, Entry, Shelved, begun, with_bytes, with_last_closed}
use Rattle.hprof_write.specs.Outcomes.{AppendedPrefix}
use Rattle.script_run.specs.Dumps.{HasEntry, HasEntryPart}

with_bytes-last : (es : List Entry) (e : Entry) (bytes : List ℕ)
    → with_bytes (es ++ e ∷ []) bytes ≡ es ++ record { name = e.name; bytes = e.bytes ++ bytes; closed = e.closed } ∷ []
with_bytes-last [] e bytes = refl
with_bytes-last (x ∷ []) e bytes = refl
with_bytes-last (x ∷ y ∷ es) e bytes = ap (λ (l : List Entry). x ∷ l) (with_bytes-last (y ∷ es) e bytes)

closed-last : (es : List Entry) (e : Entry) → with_last_closed (es ++ e ∷ []) ≡ es ++ record { name = e.name; bytes = e.bytes; closed = true } ∷ []
closed-last [] e = refl
closed-last (x ∷ []) e = refl
closed-last (x ∷ y ∷ es) e = ap (λ (l : List Entry). x ∷ l) (closed-last (y ∷ es) e)

-- an entry that is open, with these bytes
abbrev pub open_entry : List ℕ → List ℕ → Entry
open_entry name bytes = record { name = name; bytes = bytes; closed = false }

filled : (held : Option (List Entry)) (name bytes : List ℕ)
    → option_map (λ es. with_bytes es bytes) (option_map (λ es. es ++ begun name ∷ []) held) ≡ option_map (λ es. es ++ open_entry name bytes ∷ []) held
filled None name bytes = refl
filled (Some es) name bytes = ap Some (with_bytes-last es (begun name) bytes)

ended : (held : Option (List Entry)) (name bytes : List ℕ)
    → option_map with_last_closed (option_map (λ es. es ++ open_entry name bytes ∷ []) held) ≡ option_map (λ es. es ++ record { name = name; bytes = bytes; closed = true } ∷ []) held
ended None name bytes = refl
ended (Some es) name bytes = ap Some (closed-last es (open_entry name bytes))

-- the entries with one that was begun and filled
pub put_open : (old mid new : Shelved) (name bytes : List ℕ) → Begun old name mid → Appended mid bytes new → new.entries ≡ option_map (λ es. es ++ open_entry name bytes ∷ []) old.entries
put_open old mid new name bytes a b =
    ap (λ s. s.entries) b ∙ (ap (λ s. option_map (λ es. with_bytes es bytes) s.entries) a ∙ filled old.entries name bytes)

-- it was begun, filled and closed
pub put_whole : (whole : Entry) (old mid full new : Shelved) → whole.closed ≡ true → Begun old whole.name mid → Appended mid whole.bytes full → Closed full new → HasEntry whole old new
put_whole whole old mid full new closed a b c = record {
  told = ap (λ s. s.entries) c ∙ (ap (option_map with_last_closed) (put_open old mid full whole.name whole.bytes a b)
      ∙ (ended old.entries whole.name whole.bytes ∙ ap (λ b. option_map (λ es. es ++ record { name = whole.name; bytes = whole.bytes; closed = b } ∷ []) old.entries) (sym closed)));
  finished = ap (λ s. s.unfinished) c;
}

-- it wasn't begun, or has no bytes
pub put_begun : (whole : Entry) (old new : Shelved) → (new ≡ old) ⊎ Begun old whole.name new → HasEntryPart whole old new
put_begun whole old new (inl same) = inl (ap (λ s. s.entries) same)
put_begun whole old new (inr a) = inr (open_entry whole.name [], inr (0, refl), ap (λ s. s.entries) a)

-- it was filled in part
pub put_part : (whole : Entry) (old mid new : Shelved) → Begun old whole.name mid → AppendedPrefix mid whole.bytes new → HasEntryPart whole old new
put_part whole old mid new a b = inr (open_entry whole.name (take b.0 whole.bytes), inr (b.0, refl), put_open old mid new whole.name (take b.0 whole.bytes) a b.1)

-- it was filled, and stayed open
pub put_unclosed : (whole : Entry) (old mid full new : Shelved) → Begun old whole.name mid → Appended mid whole.bytes full → new ≡ full → HasEntryPart whole old new
put_unclosed whole old mid full new a b same =
    let all : take (length whole.bytes) whole.bytes ≡ whole.bytes = take_all (length whole.bytes) whole.bytes (omega arith) in
    inr (open_entry whole.name whole.bytes, inr (length whole.bytes, ap (open_entry whole.name) (sym all)), ap (λ s. s.entries) same ∙ put_open old mid full whole.name whole.bytes a b)
