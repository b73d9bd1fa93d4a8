use Rattle.std.proofs.Common.{◌≡◌, ◌≤◌, ℕ, List, Ok, Some, length, ap, arith, subst, sym, ◌∙◌}
use Rattle.std.proofs.lemmas.Result.{err_from_is_err_and}
use Rattle.heap_world.specs.World.{step}
use Rattle.model_numbers.specs.Numbers.{line_limit}
use Rattle.plain_machine.specs.Worlds.{StandsAmong, StandsFor}
use Rattle.script_lang.specs.FedLines.{fed_line}
use Rattle.script_lang.specs.Feeding.{FedLine, kept_line}
use Rattle.script_report.specs.Report.{LineDone, line_done, step_line}
use Rattle.script_report.proofs.Wanting.{before_left}
use Rattle.script_report.specs.Wanting.{left_meant, line_left}
use Rattle.script_run.specs.Dumps.{IsAsked, dumped_by}
use Rattle.world_laws.specs.Labels.{AreEarlier}
use Rattle.world_laws.specs.Wanting.{left_worlds}
use Rattle.script_run.proofs.Steps.{asked_read, done_read, left_read}
use Rattle.script_run.proofs.line.step_line.Goals as goal

pub returns-in_ok-reply-in-Ok-Some-clause-dumped : goal.returns-in_ok-reply-in-Ok-Some-clause-dumped
returns-in_ok-reply-in-Ok-Some-clause-dumped c = λ w line stands earlier kept.
    let n = c.in-Line.number in
    let bytes : List ℕ = c.in-Line.bytes.now in
    let command = c.in-Ok-Some.command in
    let came : FedLine = record { number = n; kept = kept_line bytes } in
    let fed : fed_line c.args.fed.now ≡ came = ap fed_line c.in-Line.is in
    let same : kept_line bytes ≡ kept_line line = sym (ap (λ l. l.kept) fed) ∙ kept in
    let short : length bytes ≤ line_limit = omega (arith, c.if-bytes-gt-LINE_LIMIT.false) in
    let told = c.in_ok-reply-in-Ok-Some.ensures.reply w stands (subst (λ k. AreEarlier k w) (ap (λ l. l.number) fed) earlier) in
    let asked : c.dumped_by-dumped.result ≡ dumped_by command.process command.verb (step w n command).reply =
    c.dumped_by-dumped.ensures ∙ ap (dumped_by command.process command.verb) told in
    subst (λ k. let d = step_line w k line in IsAsked c.dumped_by-dumped.result d.dumps d.world) (sym (ap (λ l. l.number) fed))
    (subst (λ o. let d = step_line w n line in IsAsked o d.dumps d.world) (sym asked)
    (asked_read w n bytes line command short same (rw c.in-Ok-Some.field-0-is at c.in-Ok-Some.ensures.meaning)))

pub returns-in_err-reply-in-Ok-Some-clause-left : goal.returns-in_err-reply-in-Ok-Some-clause-left
returns-in_err-reply-in-Ok-Some-clause-left c = λ w line stands earlier kept.
    let n = c.in-Line.number in
    let bytes : List ℕ = c.in-Line.bytes.now in
    let command = c.in-Ok-Some.command in
    let came : FedLine = record { number = n; kept = kept_line bytes } in
    let fed : fed_line c.args.fed.now ≡ came = ap fed_line c.in-Line.is in
    let same : kept_line bytes ≡ kept_line line = sym (ap (λ l. l.kept) fed) ∙ kept in
    let short : length bytes ≤ line_limit = omega (arith, c.if-bytes-gt-LINE_LIMIT.false) in
    let left : line_left w n line ≡ left_worlds w n command = left_read w n bytes line short same ∙ ap (left_meant w n) (rw c.in-Ok-Some.field-0-is at c.in-Ok-Some.ensures.meaning) in
    let stopped = c.in_err-reply-in-Ok-Some.ensures.left w stands (subst (λ k. AreEarlier k w) (ap (λ l. l.number) fed) earlier) in
    let p = err_from_is_err_and c.from_residual.result c.from_residual.ensures.1 in
    rw p.1
    (subst (λ k. StandsAmong c.step.new.self (line_left w k line)) (sym (ap (λ l. l.number) fed)) (subst (StandsAmong c.step.new.self) (sym left) stopped))

pub returns-in-Err-OutOfMemory-clause-left : goal.returns-in-Err-OutOfMemory-clause-left
returns-in-Err-OutOfMemory-clause-left c = λ w line stands earlier kept. (w, before_left w (fed_line c.args.fed.now).number line, stands)

pub returns-in_ok-reply-in-Ok-Some-clause-reply : goal.returns-in_ok-reply-in-Ok-Some-clause-reply
returns-in_ok-reply-in-Ok-Some-clause-reply c = λ w line stands earlier kept.
    let n = c.in-Line.number in
    let bytes : List ℕ = c.in-Line.bytes.now in
    let command = c.in-Ok-Some.command in
    let came : FedLine = record { number = n; kept = kept_line bytes } in
    let fed : fed_line c.args.fed.now ≡ came = ap fed_line c.in-Line.is in
    let same : kept_line bytes ≡ kept_line line = sym (ap (λ l. l.kept) fed) ∙ kept in
    let short : length bytes ≤ line_limit = omega (arith, c.if-bytes-gt-LINE_LIMIT.false) in
    let is : step_line w n line ≡ line_done w n (Ok (Some command)) = done_read w n bytes line short same ∙ ap (line_done w n) (rw c.in-Ok-Some.field-0-is at c.in-Ok-Some.ensures.meaning) in
    let later : AreEarlier n w = subst (λ k. AreEarlier k w) (ap (λ l. l.number) fed) earlier in
    subst (λ k. Some c.in_ok-reply-in-Ok-Some.reply ≡ (step_line w k line).reply) (sym (ap (λ l. l.number) fed))
    (ap Some (c.in_ok-reply-in-Ok-Some.ensures.reply w stands later) ∙ sym (ap (λ (d : LineDone). d.reply) is))

pub returns-in_ok-reply-in-Ok-Some-clause-world : goal.returns-in_ok-reply-in-Ok-Some-clause-world
returns-in_ok-reply-in-Ok-Some-clause-world c = λ w line stands earlier kept.
    let n = c.in-Line.number in
    let bytes : List ℕ = c.in-Line.bytes.now in
    let command = c.in-Ok-Some.command in
    let came : FedLine = record { number = n; kept = kept_line bytes } in
    let fed : fed_line c.args.fed.now ≡ came = ap fed_line c.in-Line.is in
    let same : kept_line bytes ≡ kept_line line = sym (ap (λ l. l.kept) fed) ∙ kept in
    let short : length bytes ≤ line_limit = omega (arith, c.if-bytes-gt-LINE_LIMIT.false) in
    let is : step_line w n line ≡ line_done w n (Ok (Some command)) = done_read w n bytes line short same ∙ ap (line_done w n) (rw c.in-Ok-Some.field-0-is at c.in-Ok-Some.ensures.meaning) in
    let later : AreEarlier n w = subst (λ k. AreEarlier k w) (ap (λ l. l.number) fed) earlier in
    subst (λ k. StandsFor c.step.new.self (step_line w k line).world) (sym (ap (λ l. l.number) fed))
    (subst (λ (d : LineDone). StandsFor c.step.new.self d.world) (sym is) (c.in_ok-reply-in-Ok-Some.ensures.world w stands later))
