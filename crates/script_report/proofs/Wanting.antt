-- Before each line the labels are of earlier lines, and where memory was wanting for it the world before it may be left.
use Rattle.std.proofs.Common.{◌≡◌, ℕ, ◌+◌, ◌<◌, Bool, true, false, inl, inr, List, [], ◌∷◌, Option, None, Some, Result, Ok, Err, length, nat_le, refl, subst, arith}
use Rattle.class_layout.specs.Placing.{IsIn}
use Rattle.heap_graph.proofs.LaidOut.{all-weaken}
use Rattle.heap_world.specs.declared.command.Command.{Command}
use Rattle.heap_world.specs.World.{World, first_world}
use Rattle.model_numbers.specs.Numbers.{line_limit}
use Rattle.script_lang.specs.declared.read.LineError.{LineError}
use Rattle.script_lang.specs.Grammar.{line_meaning}
use Rattle.script_report.specs.Report.{line_done, line_if_short, step_line, world_after, world_of}
use Rattle.script_report.specs.Wanting.{left_between, left_if_short, left_meant, line_left}
use Rattle.world_laws.specs.Labels.{AreEarlier, HasEarlier}
use Rattle.world_laws.proofs.Earlier.{step_earlier}

line_earlier : (w : World) (n : ℕ) (line : List ℕ) → AreEarlier n w → AreEarlier (n + 1) (step_line w n line).world
line_earlier w n line earlier = short (nat_le (length line) line_limit)
  where
    same : AreEarlier (n + 1) w
    same q h = all-weaken (λ l. l.line < n) (λ l. l.line < n + 1) (λ l e. omega (arith, e)) q.labels (earlier q h)

    read : (m : Result (Option Command) LineError) → AreEarlier (n + 1) (line_done w n m).world
    read (Ok None) = same
    read (Ok (Some c)) = step_earlier w n c earlier
    read (Err why) = same

    short : (b : Bool) → AreEarlier (n + 1) (line_if_short b w n line).world
    short true = read (line_meaning line)
    short false = same

no_later : (n : ℕ) → n ≡ n + 0
no_later n = omega arith

one_later : (n : ℕ) (x : List ℕ) (ls : List (List ℕ)) → n + 1 + length ls ≡ n + length (x ∷ ls)
one_later n x ls = omega arith

lines_earlier : (w : World) (n : ℕ) (ls : List (List ℕ)) → AreEarlier n w → AreEarlier (n + length ls) (world_after w n ls)
lines_earlier w n [] earlier = subst (λ k. AreEarlier k w) (no_later n) earlier
lines_earlier w n (l ∷ ls) earlier =
    let d = step_line w n l in
    subst (λ k. AreEarlier k (world_after d.world (n + 1) ls)) (one_later n l ls) (lines_earlier d.world (n + 1) ls (line_earlier w n l earlier))

pub labels_of_lines : (budget : ℕ) (ls : List (List ℕ)) → AreEarlier (1 + length ls) (world_of budget ls)
labels_of_lines budget ls = lines_earlier (first_world budget 1) 1 ls first
  where
    first : AreEarlier 1 (first_world budget 1)
    first q (inl e) = subst (HasEarlier 1) e tt
    first q (inr none) = absurd none

-- the world before a line may be left
pub before_left : (w : World) (n : ℕ) (line : List ℕ) → IsIn w (line_left w n line)
before_left w n line = short (nat_le (length line) line_limit)
  where
    meant : (m : Result (Option Command) LineError) → IsIn w (left_meant w n m)
    meant (Ok None) = inl refl
    meant (Ok (Some c)) = inl refl
    meant (Err why) = inl refl

    short : (b : Bool) → IsIn w (left_if_short b w n line)
    short true = meant (line_meaning line)
    short false = inl refl

-- so may the world before any lines
pub between_left : (budget : ℕ) (before rest : List (List ℕ)) → IsIn (world_of budget before) (left_between budget before rest)
between_left budget before [] = inl refl
between_left budget before (line ∷ rest) = before_left (world_of budget before) (1 + length before) line
