-- The draws from which a line is made.
use Rattle.std.specs.Prelude.{ℕ, zero, suc, List, [], ◌∷◌, ◌+◌, ◌*◌, ◌/◌, ◌%◌}
use Rattle.script_make.specs.declared.draws.Draws.{Draws}

-- the state x after a draw
abbrev pub next_x : ℕ → ℕ
next_x x = (x * 1103515245 + 12345) % 2147483648

-- the value of a draw after which the state is x
abbrev pub drawn : ℕ → ℕ
drawn x = x / 65536

-- the four draws of a line
abbrev pub draws_of : ℕ → Draws
draws_of x = record {
  a = drawn (next_x x);
  b = drawn (next_x (next_x x));
  c = drawn (next_x (next_x (next_x x)));
  d = drawn (next_x (next_x (next_x (next_x x))));
}

-- the state x after them
abbrev pub x_after : ℕ → ℕ
x_after x = next_x (next_x (next_x (next_x x)))

-- the first draws from x
abbrev pub first_draws : ℕ → ℕ → List ℕ
first_draws zero x = []
first_draws (suc n) x = drawn (next_x x) ∷ first_draws n (next_x x)
