-- Lines do what the commands among them do.
use Rattle.std.proofs.Common.{◌≡◌, ℕ, ◌+◌, ◌*◌, ◌≤◌, Bool, true, false, cond, List, [], ◌∷◌, ◌++◌, Option, None, Some, Result, Ok, Err, filter, length, nat_le, refl, ap, ◌∙◌, arith}
use Rattle.std.specs.List.{All}
use Rattle.std.proofs.lemmas.List.Elements.{All-nil, All-cons, All-map, All-weaker}
use Rattle.heap_world.specs.declared.command.Command.{Command}
use Rattle.heap_world.specs.declared.reply.Refusal.{Refusal}
use Rattle.heap_world.specs.declared.reply.Refusal.TheVariants as refusal
use Rattle.heap_world.specs.declared.reply.Reply.{Reply}
use Rattle.heap_world.specs.declared.reply.Reply.TheVariants as reply
use Rattle.heap_world.specs.Effect.{line_reads}
use Rattle.heap_world.specs.Run.{Line, Answer}
use Rattle.heap_world.specs.Run as run
use Rattle.heap_world.specs.World.{World, step}
use Rattle.script_lang.specs.declared.read.LineError.{LineError}
use Rattle.script_lang.specs.Grammar.{line_meaning}
use Rattle.script_report.specs.Report.{LineDone, allowance_from, answers_from, line_done, line_if_short, step_line, with_answer, world_after}
use Rattle.script_report.specs.Own.{answers_to, bad_lines, command_if_short, command_meant, commands_from, is_bad, is_bad_if_short, is_bad_line, numbers}
use Rattle.script_report.proofs.Picked.{among-head, not_among_above, picked-cons}

-- the numbers of lines rise, from this one on
abbrev pub Rise : ℕ → List Line → Type 0
Rise n [] = Unit {0}
Rise n (l ∷ ls) = (n ≤ l.number) × Rise (l.number + 1) ls

Rise-from : (m n : ℕ) (ls : List Line) → m ≤ n → Rise n ls → Rise m ls
Rise-from m n [] le h = tt
Rise-from m n (l ∷ ls) le h = (omega (arith, h.0), h.1)

-- so none is below it
pub Rise-lines : (n : ℕ) (ls : List Line) → Rise n ls → All (λ l. n ≤ l.number) ls
Rise-lines n [] h = All-nil (λ l. n ≤ l.number)
Rise-lines n (l ∷ ls) h =
    All-cons (λ l. n ≤ l.number) l ls h.0 (All-weaker (λ x. l.number + 1 ≤ x.number) (λ x. n ≤ x.number) (λ x le. omega (arith, h.0)) ls (Rise-lines (l.number + 1) ls h.1))

Rise-numbers : (n : ℕ) (ls : List Line) → Rise n ls → All (λ m. n ≤ m) (numbers ls)
Rise-numbers n ls h = All-map (λ m. n ≤ m) (λ l. l.number) ls (Rise-lines n ls h)

-- and no answer to them is to a line below it
pub Rise-answers : (w : World) (n : ℕ) (ls : List Line) → Rise n ls → All (λ a. n ≤ a.line) (run.answers w ls)
Rise-answers w n [] h = All-nil (λ a. n ≤ a.line)
Rise-answers w n (l ∷ ls) h =
    let s = run.step_line w l in
    let rest = run.answers s.world ls in
    All-cons (λ a. n ≤ a.line) (record { line = l.number; reply = s.reply }) rest h.0
    (All-weaker (λ a. l.number + 1 ≤ a.line) (λ a. n ≤ a.line) (λ a le. omega (arith, h.0)) rest (Rise-answers s.world (l.number + 1) ls h.1))

-- the numbers of commands rise
pub Rise-commands : (n : ℕ) (ls : List (List ℕ)) → Rise n (commands_from n ls)
Rise-commands n [] = tt
Rise-commands n (l ∷ ls) = by (nat_le (length l) 4096) (Rise-commands (n + 1) ls)
  where
    meant : (r : Result (Option Command) LineError) → Rise (n + 1) (commands_from (n + 1) ls) → Rise n (command_meant n r ++ commands_from (n + 1) ls)
    meant (Ok (Some c)) h = (omega arith, h)
    meant (Ok None) h = Rise-from n (n + 1) (commands_from (n + 1) ls) (omega arith) h
    meant (Err why) h = Rise-from n (n + 1) (commands_from (n + 1) ls) (omega arith) h

    by : (b : Bool) → Rise (n + 1) (commands_from (n + 1) ls) → Rise n (command_if_short b n l ++ commands_from (n + 1) ls)
    by true h = meant (line_meaning l) h
    by false h = Rise-from n (n + 1) (commands_from (n + 1) ls) (omega arith) h

-- the world after lines
pub world_after-commands : (w : World) (n : ℕ) (ls : List (List ℕ)) → world_after w n ls ≡ run.world_after w (commands_from n ls)
world_after-commands w n [] = refl
world_after-commands w n (l ∷ ls) = by (nat_le (length l) 4096) (λ v. world_after-commands v (n + 1) ls)
  where
    meant : (r : Result (Option Command) LineError) → ((v : World) → world_after v (n + 1) ls ≡ run.world_after v (commands_from (n + 1) ls))
        → world_after (line_done w n r).world (n + 1) ls ≡ run.world_after w (command_meant n r ++ commands_from (n + 1) ls)
    meant (Ok (Some c)) rest = rest (step w n c).world
    meant (Ok None) rest = rest w
    meant (Err why) rest = rest w

    by : (b : Bool) → ((v : World) → world_after v (n + 1) ls ≡ run.world_after v (commands_from (n + 1) ls))
        → world_after (line_if_short b w n l).world (n + 1) ls ≡ run.world_after w (command_if_short b n l ++ commands_from (n + 1) ls)
    by true rest = meant (line_meaning l) rest
    by false rest = rest w

-- no answer is to a line before the first one
after_answer : (n : ℕ) (d : LineDone) (given : List Answer) → All (λ a. n + 1 ≤ a.line) given → All (λ a. n ≤ a.line) (with_answer n d.reply given)
after_answer n d given h = by d.reply
  where
    later : All (λ a. n ≤ a.line) given
    later = All-weaker (λ a. n + 1 ≤ a.line) (λ a. n ≤ a.line) (λ a le. omega arith) given h

    by : (o : Option Reply) → All (λ a. n ≤ a.line) (with_answer n o given)
    by None = later
    by (Some r) = All-cons (λ a. n ≤ a.line) (record { line = n; reply = r }) given (omega arith) later

answers-above : (w : World) (n : ℕ) (ls : List (List ℕ)) → All (λ a. n ≤ a.line) (answers_from w n ls)
answers-above w n [] = All-nil (λ a. n ≤ a.line)
answers-above w n (l ∷ ls) = let d = step_line w n l in after_answer n d (answers_from d.world (n + 1) ls) (answers-above d.world (n + 1) ls)

-- the answers to the commands among lines
pub answers-commands : (w : World) (n : ℕ) (ls : List (List ℕ)) → answers_to (numbers (commands_from n ls)) (answers_from w n ls) ≡ run.answers w (commands_from n ls)
answers-commands w n [] = refl
answers-commands w n (l ∷ ls) = by (nat_le (length l) 4096) (λ v. answers-commands v (n + 1) ls)
  where
    refused : (why : Refusal) → answers_to (numbers (commands_from (n + 1) ls)) (answers_from w (n + 1) ls) ≡ run.answers w (commands_from (n + 1) ls)
        → answers_to (numbers (commands_from (n + 1) ls)) (record { line = n; reply = reply.Refused why } ∷ answers_from w (n + 1) ls) ≡ run.answers w (commands_from (n + 1) ls)
    refused why rest =
        let ns = numbers (commands_from (n + 1) ls) in
        let given = answers_to ns (answers_from w (n + 1) ls) in
        ap (λ b. cond b (record { line = n; reply = reply.Refused why } ∷ given) given) (not_among_above ns n (Rise-numbers (n + 1) (commands_from (n + 1) ls) (Rise-commands (n + 1) ls)))
        ∙ rest

    meant : (r : Result (Option Command) LineError) → ((v : World) → answers_to (numbers (commands_from (n + 1) ls)) (answers_from v (n + 1) ls) ≡ run.answers v (commands_from (n + 1) ls))
        → answers_to (numbers (command_meant n r ++ commands_from (n + 1) ls)) (with_answer n (line_done w n r).reply (answers_from (line_done w n r).world (n + 1) ls))
        ≡ run.answers w (command_meant n r ++ commands_from (n + 1) ls)
    meant (Ok (Some c)) rest =
        let s = step w n c in
        let a : Answer = record { line = n; reply = s.reply } in
        let ns = numbers (commands_from (n + 1) ls) in
        let given = answers_from s.world (n + 1) ls in
        ap (λ b. cond b (a ∷ answers_to (n ∷ ns) given) (answers_to (n ∷ ns) given)) (among-head n ns)
        ∙ ap (λ more. a ∷ more) (picked-cons (λ a. a.line) n ns given (answers-above s.world (n + 1) ls) ∙ rest s.world)
    meant (Ok None) rest = rest w
    meant (Err why) rest = refused refusal.BadLine (rest w)

    by : (b : Bool) → ((v : World) → answers_to (numbers (commands_from (n + 1) ls)) (answers_from v (n + 1) ls) ≡ run.answers v (commands_from (n + 1) ls))
        → answers_to (numbers (command_if_short b n l ++ commands_from (n + 1) ls)) (with_answer n (line_if_short b w n l).reply (answers_from (line_if_short b w n l).world (n + 1) ls))
        ≡ run.answers w (command_if_short b n l ++ commands_from (n + 1) ls)
    by true rest = meant (line_meaning l) rest
    by false rest = refused refusal.LineTooLong (rest w)

-- the reads that lines allow
pub allowance-commands : (w : World) (n : ℕ) (ls : List (List ℕ)) → allowance_from w n ls ≡ run.allowance w (commands_from n ls) + line_reads * bad_lines ls
allowance-commands w n [] = refl
allowance-commands w n (l ∷ ls) = by (nat_le (length l) 4096) (λ v. allowance-commands v (n + 1) ls)
  where
    meant : (r : Result (Option Command) LineError) → ((v : World) → allowance_from v (n + 1) ls ≡ run.allowance v (commands_from (n + 1) ls) + line_reads * bad_lines ls)
        → (line_done w n r).allowed + allowance_from (line_done w n r).world (n + 1) ls ≡ run.allowance w (command_meant n r ++ commands_from (n + 1) ls) + line_reads * length (cond (is_bad r) (l ∷ filter is_bad_line ls) (filter is_bad_line ls))
    meant (Ok (Some c)) rest = omega (arith, rest (step w n c).world)
    meant (Ok None) rest = omega (arith, rest w)
    meant (Err why) rest = omega (arith, rest w)

    by : (b : Bool) → ((v : World) → allowance_from v (n + 1) ls ≡ run.allowance v (commands_from (n + 1) ls) + line_reads * bad_lines ls)
        → (line_if_short b w n l).allowed + allowance_from (line_if_short b w n l).world (n + 1) ls
        ≡ run.allowance w (command_if_short b n l ++ commands_from (n + 1) ls) + line_reads * length (cond (is_bad_if_short b l) (l ∷ filter is_bad_line ls) (filter is_bad_line ls))
    by true rest = meant (line_meaning l) rest
    by false rest = omega (arith, rest w)
