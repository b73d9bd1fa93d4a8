-- What is wanted of some states.
use Rattle.std.specs.Prelude.{ℕ, List, [], ◌∷◌, codes}
use Rattle.script_make.specs.declared.state.MakeState.{MakeState}

-- a state with its next line and the state after it
pub record Example : Type 0 where
  pub from : MakeState
  pub line : List ℕ
  pub to : MakeState

abbrev pub state : ℕ → ℕ → MakeState
state x forks = record { x = x; forks = forks }

abbrev pub example : ℕ → ℕ → List ℕ → ℕ → ℕ → Example
example x forks line next_x next_forks = record { from = state x forks; line = line; to = state next_x next_forks }

-- lines of each kind
abbrev pub next_lines : List Example
next_lines =
    example 228 0 (codes "zygote fork a0") 1412319056 1
    ∷ example 228 2 (codes "a0 fork a2") 1412319056 3
    ∷ example 228 5 (codes "a0 fork a5") 1412319056 6
    ∷ example 228 6 (codes "a5 gc") 1412319056 6
    ∷ example 86 5 (codes "a2 gc") 1284754402 5
    ∷ example 4 3 (codes "a1 put t 63 r3") 243210352 3
    ∷ example 2 6 (codes "a3 array b byte 12914") 846338638 6
    ∷ example 5 0 (codes "zygote set r0 id 31877") 2089129857 0
    ∷ example 3 6 (codes "a1 new r5 Node") 544774495 6
    ∷ []

-- the first lines of the script with start 7, behind the fixed ones
abbrev pub lines_from_7 : List (List ℕ)
lines_from_7 =
    codes "zygote array b byte 2674"
    ∷ codes "zygote new r2 Node"
    ∷ codes "zygote new r5 Node"
    ∷ codes "zygote show r5"
    ∷ codes "zygote put t 36 r6"
    ∷ codes "zygote array b byte 9658"
    ∷ codes "zygote get r7 id"
    ∷ codes "zygote put t 46 r5"
    ∷ []
