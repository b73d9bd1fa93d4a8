-- The lines of a made script.
use Rattle.std.specs.Prelude.{ℕ, zero, suc, Bool, List, [], ◌∷◌, ◌++◌, nat_le}
use Rattle.std.specs.List.{list_all}
use Rattle.script_make.specs.declared.state.MakeState.{MakeState}
use Rattle.script_make.specs.Boot.{boot_lines}
use Rattle.script_make.specs.Lines.{made_line, next_state}

-- the first lines from a state, as many as the number
abbrev pub made_lines : ℕ → MakeState → List (List ℕ)
made_lines zero s = []
made_lines (suc n) s = made_line s ∷ made_lines n (next_state s)

-- the state after so many lines
abbrev pub state_after : ℕ → MakeState → MakeState
state_after zero s = s
state_after (suc n) s = state_after n (next_state s)

-- where a script begins: no fork was made
abbrev pub first_state : ℕ → MakeState
first_state start = record { x = start; forks = 0 }

-- the whole script of a start and a count: the fixed lines, and so many made ones
abbrev pub soak_lines : ℕ → ℕ → List (List ℕ)
soak_lines start count = boot_lines ++ made_lines count (first_state start)

-- no byte is below that of a space, so it has no line feed in it
abbrev pub is_in_one_line : List ℕ → Bool
is_in_one_line line = list_all (λ b. nat_le 32 b) line
