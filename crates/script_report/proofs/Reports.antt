-- One more line behind others: its answer, its report, its refusal, the world after it.
use Rattle.std.proofs.Common.{◌≡◌, ℕ, ◌+◌, ◌||◌, Bool, true, false, List, [], ◌∷◌, ◌++◌, Option, None, Some, length, refl, sym, ◌∙◌, ap, append_assoc, arith}
use Rattle.std.proofs.lemmas.List.{append-nil}
use Rattle.std.proofs.lemmas.Grind.{flat_map-append}
use Rattle.std.proofs.lemmas.List.Folds.{list_any-append}
use Rattle.heap_world.specs.declared.reply.Reply.{Reply}
use Rattle.heap_world.specs.Effect.{is_refusal}
use Rattle.heap_world.specs.Run.{Answer}
use Rattle.heap_world.specs.World.{World, first_world}
use Rattle.script_lang.specs.Texts.{reply_line}
use Rattle.script_report.specs.Dumps.{Dumping}
use Rattle.script_report.specs.Report.{step_line, with_answer, answers_from, answers_of, dumps_from, dumps_of, has_refusal, line_dumps, line_report, report_of, world_after, world_of}

with_answer-append : (n : ℕ) (o : Option Reply) (xs ys : List Answer) → with_answer n o (xs ++ ys) ≡ with_answer n o xs ++ ys
with_answer-append n None xs ys = refl
with_answer-append n (Some r) xs ys = refl

one_later : (n : ℕ) (x : List ℕ) (ls : List (List ℕ)) → n + 1 + length ls ≡ n + length (x ∷ ls)
one_later n x ls = omega arith

no_later : (n : ℕ) → n + 0 ≡ n
no_later n = omega arith

pub answers_from-more : (w : World) (n : ℕ) (ls : List (List ℕ)) (l : List ℕ)
    → answers_from w n (ls ++ l ∷ []) ≡ answers_from w n ls ++ with_answer (n + length ls) (step_line (world_after w n ls) (n + length ls) l).reply []
answers_from-more w n [] l = ap (λ k. with_answer k (step_line w k l).reply []) (sym (no_later n))
answers_from-more w n (x ∷ ls) l =
    let d = step_line w n x in
    ap (with_answer n d.reply) (answers_from-more d.world (n + 1) ls l)
    ∙ (with_answer-append n d.reply (answers_from d.world (n + 1) ls) (with_answer (n + 1 + length ls) (step_line (world_after d.world (n + 1) ls) (n + 1 + length ls) l).reply [])
    ∙ ap (λ k. with_answer n d.reply (answers_from d.world (n + 1) ls) ++ with_answer k (step_line (world_after d.world (n + 1) ls) k l).reply []) (one_later n x ls))

pub world_after-more : (w : World) (n : ℕ) (ls : List (List ℕ)) (l : List ℕ) → world_after w n (ls ++ l ∷ []) ≡ (step_line (world_after w n ls) (n + length ls) l).world
world_after-more w n [] l = ap (λ k. (step_line w k l).world) (sym (no_later n))
world_after-more w n (x ∷ ls) l =
    let d = step_line w n x in
    world_after-more d.world (n + 1) ls l ∙ ap (λ k. (step_line (world_after d.world (n + 1) ls) k l).world) (one_later n x ls)

pub dumps_from-more : (w : World) (n : ℕ) (ls : List (List ℕ)) (l : List ℕ) → dumps_from w n (ls ++ l ∷ []) ≡ dumps_from w n ls ++ (step_line (world_after w n ls) (n + length ls) l).dumps
dumps_from-more w n [] l = append-nil (step_line w n l).dumps ∙ ap (λ k. (step_line w k l).dumps) (sym (no_later n))
dumps_from-more w n (x ∷ ls) l =
    let d = step_line w n x in
    let next : ℕ → List Dumping = λ k. (step_line (world_after d.world (n + 1) ls) k l).dumps in
    ap (λ (xs : List Dumping). d.dumps ++ xs) (dumps_from-more d.world (n + 1) ls l)
    ∙ (sym (append_assoc d.dumps (dumps_from d.world (n + 1) ls) (next (n + 1 + length ls)))
    ∙ ap (λ k. (d.dumps ++ dumps_from d.world (n + 1) ls) ++ next k) (one_later n x ls))

-- the answer to a line that follows others
abbrev pub next_answers : ℕ → List (List ℕ) → List ℕ → List Answer
next_answers budget before line =
    let n = 1 + length before in
    with_answer n (step_line (world_of budget before) n line).reply []

pub answers-more : (budget : ℕ) (ls : List (List ℕ)) (l : List ℕ) → answers_of budget (ls ++ l ∷ []) ≡ answers_of budget ls ++ next_answers budget ls l
answers-more budget ls l = answers_from-more (first_world budget 1) 1 ls l

pub report-more : (budget : ℕ) (ls : List (List ℕ)) (l : List ℕ) → report_of (answers_of budget (ls ++ l ∷ [])) ≡ report_of (answers_of budget ls) ++ line_report budget ls l
report-more budget ls l =
    ap report_of (answers-more budget ls l)
    ∙ flat_map-append (λ (a : Answer). reply_line a.line a.reply) (answers_of budget ls) (next_answers budget ls l)

pub refusal-more : (budget : ℕ) (ls : List (List ℕ)) (l : List ℕ) → has_refusal (answers_of budget (ls ++ l ∷ [])) ≡ (has_refusal (answers_of budget ls) || has_refusal (next_answers budget ls l))
refusal-more budget ls l =
    ap has_refusal (answers-more budget ls l)
    ∙ list_any-append (λ (a : Answer). is_refusal a.reply) (answers_of budget ls) (next_answers budget ls l)

pub world-more : (budget : ℕ) (ls : List (List ℕ)) (l : List ℕ) → world_of budget (ls ++ l ∷ []) ≡ (step_line (world_of budget ls) (1 + length ls) l).world
world-more budget ls l = world_after-more (first_world budget 1) 1 ls l

pub dumps-more : (budget : ℕ) (ls : List (List ℕ)) (l : List ℕ) → dumps_of budget (ls ++ l ∷ []) ≡ dumps_of budget ls ++ line_dumps budget ls l
dumps-more budget ls l = dumps_from-more (first_world budget 1) 1 ls l

-- the report of one answer is its line
pub report_of-one : (n : ℕ) (r : Reply) → report_of (with_answer n (Some r) []) ≡ reply_line n r
report_of-one n r = append-nil (reply_line n r)

-- one answer holds a refusal where it is one
pub has_refusal-one : (n : ℕ) (r : Reply) → has_refusal (with_answer n (Some r) []) ≡ is_refusal r
has_refusal-one n r = or_none (is_refusal r)
  where
    or_none : (b : Bool) → (b || false) ≡ b
    or_none true = refl
    or_none false = refl
