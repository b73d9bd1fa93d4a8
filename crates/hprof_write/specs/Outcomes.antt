-- How the writing of bytes to a shelf comes out.
use Rattle.std.specs.Prelude.{◌≡◌, ℕ, List, ◌++◌, Result, take, IfErr}
use Rattle.ah_outside.specs.Outside.{Appended, Shelved}
use Rattle.hprof_write.specs.declared.error.DumpError.{DumpError}
use Rattle.hprof_write.specs.declared.error.DumpError.TheVariants.{ShelfFault}

-- the unfinished entry has gained some first bytes of these, maybe none and maybe all
abbrev pub AppendedPrefix : Shelved → List ℕ → Shelved → Type 0
AppendedPrefix old bytes new = (n : ℕ) × Appended old (take n bytes) new

-- of these bytes the unfinished entry has gained the first ones, and the others wait
abbrev pub AppendedBut : Shelved → List ℕ → List ℕ → Shelved → Type 0
AppendedBut old bytes waiting new = (put : List ℕ) × Appended old put new × (put ++ waiting ≡ bytes)

-- a fact that holds after a fault of the shelf
abbrev pub IfShelfFault : {T : Type 0} → Result T DumpError → Type 0 → Type 0
IfShelfFault r P = IfErr r (λ e. e ≡ ShelfFault → P)
