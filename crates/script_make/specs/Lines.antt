-- A made line, and the state after it.
use Rattle.std.specs.Prelude.{ℕ, List, ◌+◌, ◌-◌, ◌%◌, ◌++◌, ◌==◌, ◌&&◌, nat_le, nat_lt, if◌then◌else◌, codes, decimal}
use Rattle.script_make.specs.declared.draws.Draws.{Draws}
use Rattle.script_make.specs.declared.line_kind.LineKind.{LineKind}
use Rattle.script_make.specs.declared.line_kind.LineKind.TheVariants as kind
use Rattle.script_make.specs.declared.state.MakeState.{MakeState}
use Rattle.script_make.specs.Draws.{draws_of, x_after}

-- the process that asks: `zygote`, or `ak` with k one less than the number
abbrev pub process_name : ℕ → List ℕ
process_name n = if n == 0 then codes "zygote" else codes "a" ++ decimal (n - 1)

-- which of the forks, collections and shows a line is: 6 forks are made at most
abbrev pub rare_kind : ℕ → ℕ → LineKind
rare_kind rest forks =
    if rest == 0 && nat_lt forks 6 then kind.Fork
    else if nat_le rest 7 then kind.Gc
    else kind.Show

-- what kind of line it is, by the first draw modulo 16, the third modulo 64, and how many forks there were
abbrev pub kind_by : ℕ → ℕ → ℕ → LineKind
kind_by which rest forks =
    if nat_le which 4 then kind.New
    else if nat_le which 8 then kind.SetNext
    else if nat_le which 10 then kind.Put
    else if which == 11 then kind.Copy
    else if which == 12 then kind.Array
    else if which == 13 then kind.Get
    else if which == 14 then rare_kind rest forks
    else kind.SetId

-- what a line of each kind asks of its process
abbrev pub asked : LineKind → Draws → ℕ → List ℕ
asked kind.New w _ = codes " new r" ++ decimal (w.c % 8) ++ codes " Node"
asked kind.SetNext w _ = codes " set r" ++ decimal (w.c % 8) ++ codes " next r" ++ decimal (w.d % 8)
asked kind.Put w _ = codes " put t " ++ decimal (w.d % 64) ++ codes " r" ++ decimal (w.c % 8)
asked kind.Copy w _ = codes " copy r" ++ decimal (w.c % 8) ++ codes " r" ++ decimal (w.d % 8)
asked kind.Array w _ = codes " array b byte " ++ decimal (w.d % 20000)
asked kind.Get w _ = codes " get r" ++ decimal (w.c % 8) ++ codes " id"
asked kind.Fork w forks = codes " fork a" ++ decimal forks
asked kind.Gc w _ = codes " gc"
asked kind.Show w _ = codes " show r" ++ decimal (w.c % 8)
asked kind.SetId w _ = codes " set r" ++ decimal (w.c % 8) ++ codes " id " ++ decimal w.d

-- how many forks there were after a line
abbrev pub forks_after : LineKind → ℕ → ℕ
forks_after kind.Fork forks = forks + 1
forks_after _ forks = forks

-- the line of these draws
abbrev pub line_of_draws : Draws → ℕ → List ℕ
line_of_draws w forks =
    process_name (w.b % (forks + 1)) ++ asked (kind_by (w.a % 16) (w.c % 64) forks) w forks

-- the next line
abbrev pub made_line : MakeState → List ℕ
made_line s = line_of_draws (draws_of s.x) s.forks

-- the state after it
abbrev pub next_state : MakeState → MakeState
next_state s =
    let w = draws_of s.x in
    record { x = x_after s.x; forks = forks_after (kind_by (w.a % 16) (w.c % 64) s.forks) s.forks }
