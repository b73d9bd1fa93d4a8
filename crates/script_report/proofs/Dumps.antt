-- A live process that a name finds is found among the live ones.
use Rattle.std.proofs.Common.{◌≡◌, ℕ, Bool, true, false, cond, not, List, [], ◌∷◌, Some, refl, ap, ◌∙◌}
use Rattle.std.proofs.lemmas.Bool.{both_ways}
use Rattle.class_layout.specs.Names.{same_name}
use Rattle.heap_world.specs.World.{Process, live, process_named}

pub live-named : (ps : List Process) (name : List ℕ) (q : Process) → process_named ps name ≡ Some q → q.part.exited ≡ false → process_named (live ps) name ≡ Some q
live-named [] name q h lives = absurd (cc (h))
live-named (p ∷ ps) name q h lives = by (same_name p.name name) p.part.exited refl refl h (λ found. live-named ps name q found lives)
  where
    by : (b x : Bool) → same_name p.name name ≡ b → p.part.exited ≡ x → cond b (Some p) (process_named ps name) ≡ Some q
        → (process_named ps name ≡ Some q → process_named (live ps) name ≡ Some q) → process_named (cond (not x) (p ∷ live ps) (live ps)) name ≡ Some q
    by true true e out found rest =
        let same : p ≡ q = cc (found) in
        absurd (both_ways p.part.exited (ap (λ r. r.part.exited) same ∙ lives) out)
    by true false e out found rest = ap (λ b. cond b (Some p) (process_named (live ps) name)) e ∙ found
    by false true e out found rest = rest found
    by false false e out found rest = ap (λ b. cond b (Some p) (process_named (live ps) name)) e ∙ rest found
