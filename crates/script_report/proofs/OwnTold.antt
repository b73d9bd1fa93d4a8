-- What each process was told, as a part of all lines and of the answers to them.
use Rattle.std.proofs.Common.{◌≡◌, ℕ, ◌+◌, ◌<◌, ◌≤◌, Bool, true, false, cond, not, List, [], ◌∷◌, ◌++◌, Some, map, filter, refl, sym, ap, ◌∙◌, subst, arith, append_assoc, append-nil}
use Rattle.std.specs.List.{All}
use Rattle.std.proofs.lemmas.List.{map-append}
use Rattle.std.proofs.lemmas.List.Elements.{All-map, All-filter, All-push, All-same, All-weaker, filter-append}
use Rattle.class_layout.specs.Names.{same_name}
use Rattle.heap_graph.specs.Reach.{is_among}
use Rattle.heap_world.specs.declared.command.Verb.{Verb}
use Rattle.heap_world.specs.declared.command.Verb.TheVariants as verb
use Rattle.heap_world.specs.declared.reply.Reply.{Reply}
use Rattle.heap_world.specs.Isolation.{Told, answer_unless, child_told, is_frames, own_answers, tell, tell_if, told_after, told_by, told_named, told_of_fork, with_forked}
use Rattle.heap_world.specs.Run.{Line, Answer, answers, step_line}
use Rattle.heap_world.specs.World.{World, is_done}
use Rattle.script_report.specs.Own.{answers_to, heard, numbers}
use Rattle.script_report.proofs.OwnCommands.{Rise, Rise-lines, Rise-answers}
use Rattle.script_report.proofs.Picked.{among-head, not_among_above, not_among_below, picked-cons, picked_other, picked_own}
use Rattle.script_report.proofs.OwnText.{lines_of}

-- a line counts no frames
abbrev pub is_heard : Line → Bool
is_heard l = not (is_frames l.command.verb)

-- a process's own lines are those of their numbers among these lines, and its answers are those to the numbers that are heard
pub record IsOwn (done : List Line) (given : List Answer) (t : Told) : Type 0 where
  pub lines : lines_of (numbers t.lines) done ≡ t.lines
  pub answers : answers_to (heard t) given ≡ t.answers

-- the same of each process
abbrev pub AreOwn : List Line → List Answer → List Told → Type 0
AreOwn done given [] = Unit {0}
AreOwn done given (t ∷ ts) = IsOwn done given t × AreOwn done given ts

own-append : (done : List Line) (given : List Answer) (ts us : List Told) → AreOwn done given ts → AreOwn done given us → AreOwn done given (ts ++ us)
own-append done given [] us h k = k
own-append done given (t ∷ ts) us h k = (h.0, own-append done given ts us h.1 k)

-- a fork's child was told what its parent was told
own-child : (done : List Line) (given : List Answer) (ts : List Told) (name child : List ℕ) → AreOwn done given ts → AreOwn done given (child_told (told_named ts name) child)
own-child done given [] name child h = tt
own-child done given (t ∷ ts) name child h = by (same_name t.name name) (own-child done given ts name child h.1)
  where
    by : (b : Bool) → AreOwn done given (child_told (told_named ts name) child) → AreOwn done given (child_told (cond b (Some t) (told_named ts name)) child)
    by true rest = (record { lines = h.0.lines; answers = h.0.answers }, tt)
    by false rest = rest

module _ (done : List Line) (given : List Answer) (l : Line) (r : Reply) (lines_below : All (λ x. x.number < l.number) done) (answers_below : All (λ a. a.line < l.number) given) where
  -- the answer to the line
  abbrev answer : Answer
  answer = record { line = l.number; reply = r }

  -- the line's number is new to each process
  own_below : (t : Told) → IsOwn done given t → All (λ x. x.number < l.number) t.lines
  own_below t own = All-same (λ x. x.number < l.number) t.lines (lines_of (numbers t.lines) done) (sym own.lines) (All-filter (λ x. is_among (numbers t.lines) x.number) (λ x. x.number < l.number) done lines_below)

  new_number : (t : Told) → IsOwn done given t → is_among (numbers t.lines) l.number ≡ false
  new_number t own = not_among_below (numbers t.lines) l.number (All-map (λ m. m < l.number) (λ x. x.number) t.lines (own_below t own))

  new_heard : (t : Told) → IsOwn done given t → is_among (heard t) l.number ≡ false
  new_heard t own =
      let kept = filter is_heard t.lines in
      not_among_below (heard t) l.number (All-map (λ m. m < l.number) (λ x. x.number) kept (All-filter is_heard (λ x. x.number < l.number) t.lines (own_below t own)))

  -- the numbers that are heard of an own line
  heard-push : (t : Told) (b : Bool) → is_frames l.command.verb ≡ b → heard (tell_if true l r t) ≡ heard t ++ numbers (cond (not b) (l ∷ []) [])
  heard-push t b is =
      ap numbers (filter-append is_heard t.lines (l ∷ []) ∙ ap (λ b. filter is_heard t.lines ++ cond (not b) (l ∷ []) []) is)
      ∙ map-append (λ x. x.number) (filter is_heard t.lines) (cond (not b) (l ∷ []) [])

  own_heard : (t : Told) → IsOwn done given t → (b : Bool) → is_frames l.command.verb ≡ b →
      answers_to (heard t ++ numbers (cond (not b) (l ∷ []) [])) (given ++ answer ∷ []) ≡ t.answers ++ answer_unless b l.number r
  own_heard t own true is =
      ap (λ ns. answers_to ns (given ++ answer ∷ [])) (append-nil (heard t))
      ∙ picked_other (λ a. a.line) (heard t) given answer (new_heard t own)
      ∙ own.answers
      ∙ sym (append-nil t.answers)
  own_heard t own false is =
      picked_own (λ a. a.line) (heard t) given answer answers_below
      ∙ ap (λ more. more ++ answer ∷ []) own.answers

  -- a process after the line
  own_told : (b : Bool) (t : Told) → IsOwn done given t → IsOwn (done ++ l ∷ []) (given ++ answer ∷ []) (tell_if b l r t)
  own_told true t own =
      let f = is_frames l.command.verb in
      record {
        lines =
            ap (λ ns. lines_of ns (done ++ l ∷ [])) (map-append (λ x. x.number) t.lines (l ∷ []))
            ∙ picked_own (λ x. x.number) (numbers t.lines) done l lines_below
            ∙ ap (λ ls. ls ++ l ∷ []) own.lines;
        answers =
            ap (λ ns. answers_to ns (given ++ answer ∷ [])) (heard-push t f refl)
            ∙ own_heard t own f refl;
      }
  own_told false t own =
      record {
        lines = picked_other (λ x. x.number) (numbers t.lines) done l (new_number t own) ∙ own.lines;
        answers = picked_other (λ a. a.line) (heard t) given answer (new_heard t own) ∙ own.answers;
      }

  -- each process
  own_tells : (ts : List Told) → AreOwn done given ts → AreOwn (done ++ l ∷ []) (given ++ answer ∷ []) (map (tell l r) ts)
  own_tells [] h = tt
  own_tells (t ∷ ts) h = (own_told (same_name t.name l.command.process) t h.0, own_tells ts h.1)

  -- and the child that a fork made
  own_step : (ts : List Told) → AreOwn done given ts → AreOwn (done ++ l ∷ []) (given ++ answer ∷ []) (told_by ts l r)
  own_step ts h = by l.command.verb
    where
      told : AreOwn (done ++ l ∷ []) (given ++ answer ∷ []) (map (tell l r) ts)
      told = own_tells ts h

      forked : (child : List ℕ) (d : Bool) → AreOwn (done ++ l ∷ []) (given ++ answer ∷ []) (told_of_fork d (map (tell l r) ts) l.command.process child)
      forked child true =
          own-append (done ++ l ∷ []) (given ++ answer ∷ []) (map (tell l r) ts) (child_told (told_named (map (tell l r) ts) l.command.process) child) told
          (own-child (done ++ l ∷ []) (given ++ answer ∷ []) (map (tell l r) ts) l.command.process child told)
      forked child false = told

      by : (v : Verb) → AreOwn (done ++ l ∷ []) (given ++ answer ∷ []) (with_forked (map (tell l r) ts) l v r)
      by (verb.Fork child) = forked child (is_done r)
      by v = told

-- all lines
pub run_own : (w : World) (ts : List Told) (ls : List Line) (n : ℕ) (done : List Line) (given : List Answer) → All (λ x. x.number < n) done → All (λ a. a.line < n) given → Rise n ls
    → AreOwn done given ts → AreOwn (done ++ ls) (given ++ answers w ls) (told_after w ts ls)
run_own w ts [] n done given lines_below answers_below rise h =
    subst (λ more. AreOwn (done ++ []) more ts) (sym (append-nil given)) (subst (λ ls. AreOwn ls given ts) (sym (append-nil done)) h)
run_own w ts (l ∷ ls) n done given lines_below answers_below rise h =
    let s = step_line w l in
    let a : Answer = record { line = l.number; reply = s.reply } in
    let told = told_by ts l s.reply in
    let lines_before : All (λ x. x.number < l.number) done = All-weaker (λ x. x.number < n) (λ x. x.number < l.number) (λ x lt. omega (arith, rise.0)) done lines_below in
    let answers_before : All (λ a. a.line < l.number) given = All-weaker (λ a. a.line < n) (λ a. a.line < l.number) (λ a lt. omega (arith, rise.0)) given answers_below in
    let lines_now : All (λ x. x.number < l.number + 1) (done ++ l ∷ []) =
    All-push (λ x. x.number < l.number + 1) done l (All-weaker (λ x. x.number < l.number) (λ x. x.number < l.number + 1) (λ x lt. omega arith) done lines_before) (omega arith) in
    let answers_now : All (λ a. a.line < l.number + 1) (given ++ a ∷ []) =
    All-push (λ a. a.line < l.number + 1) given a (All-weaker (λ a. a.line < l.number) (λ a. a.line < l.number + 1) (λ a lt. omega arith) given answers_before) (omega arith) in
    let rest : AreOwn ((done ++ l ∷ []) ++ ls) ((given ++ a ∷ []) ++ answers s.world ls) (told_after s.world told ls) =
    run_own s.world told ls (l.number + 1) (done ++ l ∷ []) (given ++ a ∷ []) lines_now answers_now rise.1 (own_step done given l s.reply lines_before answers_before ts h) in
    subst (λ more. AreOwn (done ++ l ∷ ls) more (told_after s.world told ls)) (append_assoc given (a ∷ []) (answers s.world ls))
    (subst (λ xs. AreOwn xs ((given ++ a ∷ []) ++ answers s.world ls) (told_after s.world told ls)) (append_assoc done (l ∷ []) ls) rest)

-- in a world of a process's own lines, its own answers are those to the numbers that are heard
pub own_answers-heard : (w : World) (n : ℕ) (ls : List Line) → Rise n ls → answers_to (numbers (filter is_heard ls)) (answers w ls) ≡ own_answers w ls
own_answers-heard w n [] h = refl
own_answers-heard w n (l ∷ ls) h = by (is_frames l.command.verb) (own_answers-heard (step_line w l).world (l.number + 1) ls h.1)
  where
    heard_later : All (λ m. l.number + 1 ≤ m) (numbers (filter is_heard ls))
    heard_later =
        All-map (λ m. l.number + 1 ≤ m) (λ x. x.number) (filter is_heard ls)
        (All-filter is_heard (λ x. l.number + 1 ≤ x.number) ls (Rise-lines (l.number + 1) ls h.1))

    by : (b : Bool) → answers_to (numbers (filter is_heard ls)) (answers (step_line w l).world ls) ≡ own_answers (step_line w l).world ls
        → answers_to (numbers (cond (not b) (l ∷ filter is_heard ls) (filter is_heard ls))) (record { line = l.number; reply = (step_line w l).reply } ∷ answers (step_line w l).world ls)
        ≡ answer_unless b l.number (step_line w l).reply ++ own_answers (step_line w l).world ls
    by true rest =
        let a : Answer = record { line = l.number; reply = (step_line w l).reply } in
        let ns = numbers (filter is_heard ls) in
        let given = answers_to ns (answers (step_line w l).world ls) in
        ap (λ b. cond b (a ∷ given) given) (not_among_above ns l.number heard_later) ∙ rest
    by false rest =
        let a : Answer = record { line = l.number; reply = (step_line w l).reply } in
        let ns = numbers (filter is_heard ls) in
        let later = answers (step_line w l).world ls in
        ap (λ b. cond b (a ∷ answers_to (l.number ∷ ns) later) (answers_to (l.number ∷ ns) later)) (among-head l.number ns)
        ∙ ap (λ more. a ∷ more) (picked-cons (λ a. a.line) l.number ns later (Rise-answers (step_line w l).world (l.number + 1) ls h.1) ∙ rest)
