-- Lines that go on, and how many there are.
use Rattle.std.proofs.Common.{◌≡◌, ℕ, zero, suc, ◌∷◌, ◌+◌, ◌++◌, length, refl, ap, zero-add, suc-add}
use Rattle.script_make.specs.Lines.{made_line, next_state}
use Rattle.script_make.specs.Script.{made_lines, state_after}
use Rattle.script_make.specs.declared.state.MakeState.{MakeState}

-- the lines after some lines are those of the state after them
pub made_lines-+ : (m n : ℕ) (s : MakeState) → made_lines (m + n) s ≡ made_lines m s ++ made_lines n (state_after m s)
made_lines-+ zero n s = rw zero-add
made_lines-+ (suc m) n s = rw suc-add (ap (λ lines. made_line s ∷ lines) (made_lines-+ m n (next_state s)))

-- there are as many made lines as are wanted
pub length-made_lines : (n : ℕ) (s : MakeState) → length (made_lines n s) ≡ n
length-made_lines zero s = refl
length-made_lines (suc n) s = ap suc (length-made_lines n (next_state s))
