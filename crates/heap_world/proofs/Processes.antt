-- Lists of processes: which one a name finds, and which names are taken, after a put and with one more.
use Rattle.std.proofs.Common.{◌≡◌, Bool, true, false, cond, ◌||◌, List, [], ◌∷◌, ◌++◌, None, Some, map, ℕ, refl, sym, ap, ◌∙◌}
use Rattle.std.specs.List.{list_any}
use Rattle.std.proofs.lemmas.Bool.{both_ways}
use Rattle.class_layout.specs.Names.{same_name}
use Rattle.class_layout.proofs.Uniqueness.{same_name-refl, names-same, same_name-symm}
use Rattle.heap_world.specs.World.{Process, process_named, put_if}

-- whether a name is taken
abbrev pub taken : List Process → List ℕ → Bool
taken ps name = list_any (λ q. same_name q.name name) ps

-- a process put in the place of those of its name
abbrev pub put : Process → List Process → List Process
put q ps = map (λ old. put_if (same_name old.name q.name) q old) ps

-- a test that is not met by either
pub or_false : (a b : Bool) → (a || b) ≡ false → (a ≡ false) × (b ≡ false)
or_false true b h = absurd (both_ways true h refl)
or_false false b h = (refl, h)

-- names that differ, either way round
pub apart-symm : (m n : List ℕ) → same_name m n ≡ false → same_name n m ≡ false
apart-symm m n h = by (same_name n m) refl
  where
    by : (b : Bool) → same_name n m ≡ b → same_name n m ≡ false
    by true e = absurd (both_ways (same_name m n) h (same_name-symm n m e))
    by false e = e

-- the process that a name finds has the name
pub named_name : (ps : List Process) (name : List ℕ) (q : Process) → process_named ps name ≡ Some q → q.name ≡ name
named_name [] name q h = cc
named_name (p ∷ ps) name q h = by (same_name p.name name) refl h (named_name ps name q)
  where
    by : (b : Bool) → same_name p.name name ≡ b → cond b (Some p) (process_named ps name) ≡ Some q → (process_named ps name ≡ Some q → q.name ≡ name) → q.name ≡ name
    by true e found rest = let same : p ≡ q = cc in sym (ap (λ x. x.name) same) ∙ names-same p.name name e
    by false e found rest = rest found

-- a put process is found
pub named-put : (ps : List Process) (name : List ℕ) (q new : Process) → process_named ps name ≡ Some q → new.name ≡ name → process_named (put new ps) name ≡ Some new
named-put [] name q new h e = cc
named-put (p ∷ ps) name q new h e = by (same_name p.name name) refl h (λ found. named-put ps name q new found e)
  where
    by : (b : Bool) → same_name p.name name ≡ b → cond b (Some p) (process_named ps name) ≡ Some q → (process_named ps name ≡ Some q → process_named (put new ps) name ≡ Some new) →
        process_named (put new (p ∷ ps)) name ≡ Some new
    by true d found rest =
        let here : same_name p.name new.name ≡ true = ap (same_name p.name) e ∙ d in
        let own : same_name new.name name ≡ true = ap (λ m. same_name m name) e ∙ same_name-refl name in
        rw here (ap (λ b. cond b (Some new) (process_named (put new ps) name)) own)
    by false d found rest =
        let apart : same_name p.name new.name ≡ false = ap (same_name p.name) e ∙ d in
        rw apart (ap (λ b. cond b (Some p) (process_named (put new ps) name)) d ∙ rest found)

-- a put process leaves those of other names
pub named-put_other : (ps : List Process) (name : List ℕ) (new : Process) → same_name new.name name ≡ false → process_named (put new ps) name ≡ process_named ps name
named-put_other [] name new h = refl
named-put_other (p ∷ ps) name new h = by (same_name p.name new.name) refl (named-put_other ps name new h)
  where
    by : (b : Bool) → same_name p.name new.name ≡ b → process_named (put new ps) name ≡ process_named ps name →
        cond (same_name (put_if b new p).name name) (Some (put_if b new p)) (process_named (put new ps) name) ≡ cond (same_name p.name name) (Some p) (process_named ps name)
    by true d rest =
        let apart : same_name p.name name ≡ false = ap (λ n. same_name n name) (names-same p.name new.name d) ∙ h in
        ap (λ b. cond b (Some new) (process_named (put new ps) name)) h ∙ rest ∙ sym (ap (λ b. cond b (Some p) (process_named ps name)) apart)
    by false d rest = ap (λ o. cond (same_name p.name name) (Some p) o) rest

-- a put takes no name
pub taken-put : (ps : List Process) (name : List ℕ) (new : Process) → taken (put new ps) name ≡ taken ps name
taken-put [] name new = refl
taken-put (p ∷ ps) name new = by (same_name p.name new.name) refl (taken-put ps name new)
  where
    by : (b : Bool) → same_name p.name new.name ≡ b → taken (put new ps) name ≡ taken ps name →
        (same_name (put_if b new p).name name || taken (put new ps) name) ≡ (same_name p.name name || taken ps name)
    by true d rest =
        let same : new.name ≡ p.name = sym (names-same p.name new.name d) in
        ap (λ m. same_name m name || taken (put new ps) name) same ∙ ap (λ b. same_name p.name name || b) rest
    by false d rest = ap (λ b. same_name p.name name || b) rest

-- one more process leaves those that were found
pub named-more : (ps : List Process) (name : List ℕ) (q new : Process) → process_named ps name ≡ Some q → process_named (ps ++ new ∷ []) name ≡ Some q
named-more [] name q new h = cc
named-more (p ∷ ps) name q new h = by (same_name p.name name) h (named-more ps name q new)
  where
    by : (b : Bool) → cond b (Some p) (process_named ps name) ≡ Some q → (process_named ps name ≡ Some q → process_named (ps ++ new ∷ []) name ≡ Some q) →
        cond b (Some p) (process_named (ps ++ new ∷ []) name) ≡ Some q
    by true found rest = found
    by false found rest = rest found

-- it is found by its name, if that was not taken
pub named-new : (ps : List Process) (new : Process) → taken ps new.name ≡ false → process_named (ps ++ new ∷ []) new.name ≡ Some new
named-new [] new h = ap (λ b. cond b (Some new) None) (same_name-refl new.name)
named-new (p ∷ ps) new h =
    let apart = or_false (same_name p.name new.name) (taken ps new.name) h in
    ap (λ b. cond b (Some p) (process_named (ps ++ new ∷ []) new.name)) apart.0 ∙ named-new ps new apart.1

-- and takes no name but its own
pub taken-more : (ps : List Process) (name : List ℕ) (new : Process) → taken (ps ++ new ∷ []) name ≡ (taken ps name || same_name new.name name)
taken-more [] name new = by (same_name new.name name)
  where
    by : (b : Bool) → (b || false) ≡ b
    by true = refl
    by false = refl
taken-more (p ∷ ps) name new = by (same_name p.name name) (taken-more ps name new)
  where
    by : (b : Bool) → taken (ps ++ new ∷ []) name ≡ (taken ps name || same_name new.name name) → (b || taken (ps ++ new ∷ []) name) ≡ ((b || taken ps name) || same_name new.name name)
    by true rest = refl
    by false rest = rest
