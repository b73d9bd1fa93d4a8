-- No line has a byte below that of a space.
use Rattle.std.proofs.Common.{◌≡◌, ℕ, zero, suc, ◌+◌, ◌-◌, ◌%◌, ◌^◌, ◌<◌, ◌≤◌, Bool, true, false, [], ◌∷◌, ◌++◌, nat_le, ◌==◌, if◌then◌else◌, decimal, codes, refl, arith}
use Rattle.std.specs.List.{list_all}
use Rattle.std.proofs.lemmas.Bool.{le-leb}
use Rattle.std.proofs.lemmas.Bool.Decides.{nat_tests}
use Rattle.std.proofs.lemmas.Fmt.{decimal_by_steps}
use Rattle.std.proofs.lemmas.List.Folds.{list_all-append}
use Rattle.script_make.specs.declared.draws.Draws.{Draws}
use Rattle.script_make.specs.declared.line_kind.LineKind.{LineKind}
use Rattle.script_make.specs.declared.line_kind.LineKind.TheVariants as kind
use Rattle.script_make.specs.declared.state.MakeState.{MakeState}
use Rattle.script_make.specs.Draws.{draws_of, drawn, next_x}
use Rattle.script_make.specs.Lines.{asked, forks_after, kind_by, made_line, next_state, process_name}
use Rattle.script_make.specs.Script.{is_in_one_line, made_lines}

one_digit : (d : ℕ) → is_in_one_line ((48 + d) ∷ []) ≡ true
one_digit d =
    let shown : nat_le 32 (48 + d) ≡ true = le-leb 32 (48 + d) (omega arith) in
    rw shown

-- the digits of a number are in one line
one_line-decimal : (n : ℕ) → n < 2 ^ 64 → is_in_one_line (decimal n) ≡ true
one_line-decimal n small =
    decimal_by_steps (λ _ ds. is_in_one_line ds ≡ true) (λ d _. one_digit d)
    (λ m ds _ h. rw (list_all-append (λ b. nat_le 32 b) ds ((48 + m % 10) ∷ []), h, one_digit (m % 10)))
    n small

one_line-named : (b : Bool) (n : ℕ) → n < 2 ^ 32 → is_in_one_line (if b then codes "zygote" else codes "a" ++ decimal (n - 1)) ≡ true
one_line-named true n small = refl
one_line-named false n small = one_line-decimal (n - 1) (omega arith)

one_line-asked : (k : LineKind) (w : Draws) (forks : ℕ) → w.c < 2 ^ 16 → w.d < 2 ^ 16 → forks < 2 ^ 32 → is_in_one_line (asked k w forks) ≡ true
one_line-asked kind.New w forks c d f = simp (list_all-append, one_line-decimal (w.c % 8) (omega arith))
one_line-asked kind.SetNext w forks c d f = simp (list_all-append, one_line-decimal (w.c % 8) (omega arith), one_line-decimal (w.d % 8) (omega arith))
one_line-asked kind.Put w forks c d f = simp (list_all-append, one_line-decimal (w.c % 8) (omega arith), one_line-decimal (w.d % 64) (omega arith))
one_line-asked kind.Copy w forks c d f = simp (list_all-append, one_line-decimal (w.c % 8) (omega arith), one_line-decimal (w.d % 8) (omega arith))
one_line-asked kind.Array w forks c d f = one_line-decimal (w.d % 20000) (omega arith)
one_line-asked kind.Get w forks c d f = simp (list_all-append, one_line-decimal (w.c % 8) (omega arith))
one_line-asked kind.Fork w forks c d f = one_line-decimal forks (omega arith)
one_line-asked kind.Gc w forks c d f = refl
one_line-asked kind.Show w forks c d f = one_line-decimal (w.c % 8) (omega arith)
one_line-asked kind.SetId w forks c d f = simp (list_all-append, one_line-decimal (w.c % 8) (omega arith), one_line-decimal w.d (omega arith))

drawn_below : (x : ℕ) → drawn (next_x x) < 2 ^ 16
drawn_below x = omega arith

forks_few : (which rest forks : ℕ) → forks ≤ 6 → forks_after (kind_by which rest forks) forks ≤ 6
forks_few which rest forks few = grind (arith, nat_tests)

-- a made line is in one line
one_line-made : (s : MakeState) → s.forks ≤ 6 → is_in_one_line (made_line s) ≡ true
one_line-made s few =
    let w = draws_of s.x in
    let n = w.b % (s.forks + 1) in
    let k = kind_by (w.a % 16) (w.c % 64) s.forks in
    rw (
      list_all-append (λ b. nat_le 32 b) (process_name n) (asked k w s.forks),
      one_line-named (n == 0) n (omega arith),
      one_line-asked k w s.forks (drawn_below _) (drawn_below _) (omega arith),
    )

-- made lines are in one line each
pub one_line-made_lines : (n : ℕ) (s : MakeState) → s.forks ≤ 6 → list_all is_in_one_line (made_lines n s) ≡ true
one_line-made_lines zero s few = refl
one_line-made_lines (suc n) s few =
    rw (one_line-made s few) (one_line-made_lines n (next_state s) (forks_few ((draws_of s.x).a % 16) ((draws_of s.x).c % 64) s.forks few))
