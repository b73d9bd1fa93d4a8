-- What a line that came does, by what was read of it.
use Rattle.std.proofs.Common.{◌≡◌, ◌≤◌, ℕ, Bool, true, false, List, None, Some, Ok, length, nat_le, refl, sym, ◌∙◌, ap, subst}
use Rattle.std.specs.Prelude.{if◌then◌else◌}
use Rattle.std.proofs.lemmas.Bool.{le-leb}
use Rattle.heap_world.specs.declared.command.Command.{Command}
use Rattle.heap_world.specs.World.{World, step}
use Rattle.model_numbers.specs.Numbers.{line_limit}
use Rattle.script_lang.specs.Feeding.{kept_line}
use Rattle.script_lang.specs.Grammar.{line_meaning}
use Rattle.script_report.specs.Report.{LineDone, line_done, line_if_short, step_line}
use Rattle.script_report.specs.Wanting.{left_if_short, left_meant, line_left}
use Rattle.script_run.specs.Dumps.{IsAsked, dumped_by}
use Rattle.script_run.proofs.Dumps.{dumped-asked}

-- a line of which bytes are kept is short, and is these bytes
kept_is : (short : Bool) (bytes line : List ℕ) → Some bytes ≡ (if short then Some line else None) → (short ≡ true) × (line ≡ bytes)
kept_is true bytes line h = (refl, cc (h))
kept_is false bytes line h = absurd (cc (h))

-- a short line that came does what its bytes mean
pub done_read : (w : World) (n : ℕ) (bytes line : List ℕ) → length bytes ≤ line_limit → kept_line bytes ≡ kept_line line
    → step_line w n line ≡ line_done w n (line_meaning bytes)
done_read w n bytes line short kept =
    let whole : kept_line bytes ≡ Some bytes = ap (λ b. if b then Some bytes else None) (le-leb (length bytes) line_limit short) in
    let is = kept_is (nat_le (length line) line_limit) bytes line (sym whole ∙ kept) in
    ap (λ b. line_if_short b w n line) is.0 ∙ ap (λ (xs : List ℕ). line_done w n (line_meaning xs)) is.1

-- and leaves what they leave, where memory is wanting for it
pub left_read : (w : World) (n : ℕ) (bytes line : List ℕ) → length bytes ≤ line_limit → kept_line bytes ≡ kept_line line
    → line_left w n line ≡ left_meant w n (line_meaning bytes)
left_read w n bytes line short kept =
    let whole : kept_line bytes ≡ Some bytes = ap (λ b. if b then Some bytes else None) (le-leb (length bytes) line_limit short) in
    let is = kept_is (nat_le (length line) line_limit) bytes line (sym whole ∙ kept) in
    ap (λ b. left_if_short b w n line) is.0 ∙ ap (λ (xs : List ℕ). left_meant w n (line_meaning xs)) is.1

-- what is to be dumped after its command is what it asks for
pub asked_read : (w : World) (n : ℕ) (bytes line : List ℕ) (command : Command) → length bytes ≤ line_limit → kept_line bytes ≡ kept_line line
    → line_meaning bytes ≡ Ok (Some command)
    → let d = step_line w n line in IsAsked (dumped_by command.process command.verb (step w n command).reply) d.dumps d.world
asked_read w n bytes line command short kept meaning =
    subst (λ (d : LineDone). IsAsked (dumped_by command.process command.verb (step w n command).reply) d.dumps d.world)
    (sym (done_read w n bytes line short kept ∙ ap (line_done w n) meaning))
    (dumped-asked w n command)
