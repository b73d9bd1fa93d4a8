-- Reading values one after the other, as a loop does.
use Rattle.std.proofs.Common.{◌≡◌, ℕ, suc, ◌-◌, ◌+◌, ◌≤◌, ◌<◌, List, [], ◌∷◌, ◌++◌, Result, Ok, Err, refl, sym, ap, ◌∙◌, append_assoc, arith}
use Rattle.std.proofs.lemmas.List.{append-nil}
use Rattle.hprof_read.specs.declared.fields.Stop.{Stop}
use Rattle.hprof_read.specs.declared.fields.Halt.{Halt}
use Rattle.hprof_read.specs.declared.fields.Halt.TheVariants as halts
use Rattle.hprof_read.specs.Reading.{Reader, ◌>>=◌, Fails, times}

-- what was read before, and what is still read
abbrev pub with_front : {A : Type 0} → List A → Result (List A × List ℕ) Stop → Result (List A × List ℕ) Stop
with_front front read = read >>= λ x. Ok (front ++ x.0, x.1)

abbrev paired : {A : Type 0} → A → List A × List ℕ → Result ((A × List A) × List ℕ) Stop
paired v y = Ok ((v, y.0), y.1)

abbrev joined : {A : Type 0} → (A × List A) × List ℕ → Result (List A × List ℕ) Stop
joined x = Ok (x.0.0 ∷ x.0.1, x.1)

regroup : {A : Type 0} (front : List A) (v : A) (read : Result (List A × List ℕ) Stop) → with_front front ((read >>= paired v) >>= joined) ≡ with_front (front ++ v ∷ []) read
regroup {A} front v (Ok x) = ap (λ (vs : List A). Ok (vs, x.1)) (sym (append_assoc front (v ∷ []) x.0))
regroup front v (Err e) = refl

pub goes_on : {A : Type 0} (read : Reader A) (front : List A) (count i : ℕ) (bytes : List ℕ) (v : A) (after : List ℕ) (total : Result (List A × List ℕ) Stop) → i < count → read bytes ≡ Ok (v, after)
    → with_front front (times (count - i) read bytes) ≡ total → with_front (front ++ v ∷ []) (times (count - (i + 1)) read after) ≡ total
goes_on read front count i bytes v after total lt h so_far =
    let k : count - i ≡ suc (count - (i + 1)) = omega arith in
    let one : with_front front (times (count - i) read bytes) ≡ with_front (front ++ v ∷ []) (times (count - (i + 1)) read after) = rw (k, h) (regroup front v (times (count - (i + 1)) read after)) in
    sym one ∙ so_far

pub ends : {A : Type 0} (read : Reader A) (e : Halt) (front : List A) (count i : ℕ) (bytes : List ℕ) (total : Result (List A × List ℕ) Stop) → i < count → Fails e (read bytes)
    → with_front front (times (count - i) read bytes) ≡ total → Fails e total
ends read halts.OutOfMemory front count i bytes total lt h so_far = tt
ends read (halts.Stopped f) front count i bytes total lt h so_far =
    let k : count - i ≡ suc (count - (i + 1)) = omega arith in
    let one : with_front front (times (count - i) read bytes) ≡ Err f = rw (k, h) refl in
    sym so_far ∙ one

pub is_done : {A : Type 0} (read : Reader A) (front : List A) (count i : ℕ) (bytes : List ℕ) (total : Result (List A × List ℕ) Stop) → count ≤ i → with_front front (times (count - i) read bytes) ≡ total → total ≡ Ok (front, bytes)
is_done {A} read front count i bytes total le so_far =
    let k : count - i ≡ 0 = omega arith in
    let one : with_front front (times (count - i) read bytes) ≡ Ok (front, bytes) = rw k (ap (λ (vs : List A). Ok (vs, bytes)) (append-nil front)) in
    sym so_far ∙ one
