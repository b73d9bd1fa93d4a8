-- The report of a script, and that of each process's own lines alone.
use Rattle.std.proofs.Common.{◌≡◌, ℕ, ◌<◌, Bool, true, false, cond, List, [], ◌∷◌, filter, refl, sym, ap, ◌∙◌, subst}
use Rattle.std.specs.List.{list_any}
use Rattle.std.proofs.lemmas.Bool.{or_from, or_parts}
use Rattle.std.proofs.lemmas.List.Elements.{All-nil}
use Rattle.heap_graph.specs.Reach.{is_among}
use Rattle.heap_graph.proofs.Lists.{filter-filter}
use Rattle.heap_world.specs.Isolation.{AreAlone, IsAlone, NoNameTaken, Told, first_told, own_answers, part_of, refuses_name}
use Rattle.heap_world.specs.Run.{Line, Answer}
use Rattle.heap_world.specs.Run as run
use Rattle.heap_world.specs.World.{World, first_world}
use Rattle.script_lang.specs.Parts.{lines}
use Rattle.script_report.specs.Report.{answers}
use Rattle.script_report.specs.Own.{AreAloneIn, IsAloneIn, answers_to, commands, heard, numbers, own_script, told_by_script}
use Rattle.script_report.proofs.OwnCommands.{Rise, Rise-commands, answers-commands, world_after-commands}
use Rattle.script_report.proofs.Picked.{among_filtered}
use Rattle.script_report.proofs.OwnText.{commands-only_lines, lines_of}
use Rattle.script_report.proofs.OwnTold.{AreOwn, IsOwn, is_heard, own_answers-heard, run_own}

-- a filter of answers keeps a refusal of a name from coming up
filtered_fine : (p : Answer → Bool) (given : List Answer) → NoNameTaken given → NoNameTaken (filter p given)
filtered_fine p [] fine = refl
filtered_fine p (a ∷ given) fine =
    let both = or_parts (refuses_name a.reply) (list_any (λ a. refuses_name a.reply) given) fine in
    by (p a) both.0 (filtered_fine p given both.1)
  where
    by : (b : Bool) → refuses_name a.reply ≡ false → NoNameTaken (filter p given) → NoNameTaken (cond b (a ∷ filter p given) (filter p given))
    by true here later = or_from (refuses_name a.reply) (list_any (λ a. refuses_name a.reply) (filter p given)) here later
    by false here later = later

module _ (budget : ℕ) (text : List ℕ) where
  abbrev start : World
  start = first_world budget 1

  -- the answers to a script's commands
  answers-script : answers_to (numbers (commands text)) (answers budget text) ≡ run.answers start (commands text)
  answers-script = answers-commands start 1 (lines text)

  -- and to some of them
  pub answers-some : (ns : List ℕ) → ((k : ℕ) → is_among ns k ≡ true → is_among (numbers (commands text)) k ≡ true) → answers_to ns (answers budget text) ≡ answers_to ns (run.answers start (commands text))
  answers-some ns inner =
      sym (filter-filter (λ a. is_among (numbers (commands text)) a.line) (λ a. is_among ns a.line) (λ a. inner a.line) (answers budget text))
      ∙ ap (answers_to ns) answers-script

  -- no fork among the commands is refused for its name
  pub commands_fine : NoNameTaken (answers budget text) → NoNameTaken (run.answers start (commands text))
  commands_fine fine = subst NoNameTaken answers-script (filtered_fine (λ a. is_among (numbers (commands text)) a.line) (answers budget text) fine)

-- what a process hears it was told
heard_told : (t : Told) (k : ℕ) → is_among (heard t) k ≡ true → is_among (numbers t.lines) k ≡ true
heard_told t = among_filtered (λ l. l.number) is_heard t.lines

module _ (budget : ℕ) (text : List ℕ) (t : Told) (own : IsOwn (commands text) (run.answers (first_world budget 1) (commands text)) t)
    (alone : IsAlone (first_world budget 1) (run.world_after (first_world budget 1) (commands text)) t) where
  -- its own script has its own commands
  only_own : commands (own_script t text) ≡ t.lines
  only_own = commands-only_lines (numbers t.lines) text ∙ own.lines

  -- the own lines are among all
  own_among : (k : ℕ) → is_among (heard t) k ≡ true → is_among (numbers (commands text)) k ≡ true
  own_among k h =
      let told : is_among (numbers (lines_of (numbers t.lines) (commands text))) k ≡ true = ap (λ ls. is_among (numbers ls) k) own.lines ∙ heard_told t k h in
      among_filtered (λ l. l.number) (λ l. is_among (numbers t.lines) l.number) (commands text) k told

  -- the own script's answers
  own_script-answers : answers_to (heard t) (answers budget (own_script t text)) ≡ own_answers (first_world budget 1) t.lines
  own_script-answers =
      let all : (k : ℕ) → is_among (heard t) k ≡ true → is_among (numbers (commands (own_script t text))) k ≡ true = λ k h. ap (λ ls. is_among (numbers ls) k) only_own ∙ heard_told t k h in
      let rise : Rise 1 t.lines = subst (Rise 1) only_own (Rise-commands 1 (lines (own_script t text))) in
      answers-some budget (own_script t text) (heard t) all
      ∙ ap (λ ls. answers_to (heard t) (run.answers (first_world budget 1) ls)) only_own
      ∙ own_answers-heard (first_world budget 1) 1 t.lines rise

  alone_in : IsAloneIn budget text t
  alone_in =
      record {
        only_own = only_own;
        answers = answers-some budget text (heard t) own_among ∙ own.answers ∙ alone.answers ∙ sym own_script-answers;
        part =
            ap (λ w. part_of w t.name) (world_after-commands (first_world budget 1) 1 (lines text))
            ∙ alone.part
            ∙ ap (λ ls. part_of (run.world_after (first_world budget 1) ls) t.name) (sym only_own)
            ∙ ap (λ w. part_of w t.name) (sym (world_after-commands (first_world budget 1) 1 (lines (own_script t text))));
      }

-- all processes
all_alone_in : (budget : ℕ) (text : List ℕ) (ts : List Told) → AreOwn (commands text) (run.answers (first_world budget 1) (commands text)) ts
    → AreAlone (first_world budget 1) (run.world_after (first_world budget 1) (commands text)) ts → AreAloneIn budget text ts
all_alone_in budget text [] own alone = tt
all_alone_in budget text (t ∷ ts) own alone = (alone_in budget text t own.0 alone.0, all_alone_in budget text ts own.1 alone.1)

-- the processes of a script
pub script_alone : (budget : ℕ) (text : List ℕ) → AreAlone (first_world budget 1) (run.world_after (first_world budget 1) (commands text)) (told_by_script budget text) → AreAloneIn budget text (told_by_script budget text)
script_alone budget text alone =
    let start = first_world budget 1 in
    let own : AreOwn (commands text) (run.answers start (commands text)) (told_by_script budget text) =
    run_own start first_told (commands text) 1 [] [] (All-nil (λ x. x.number < 1)) (All-nil (λ a. a.line < 1)) (Rise-commands 1 (lines text)) (record { lines = refl; answers = refl }, tt) in
    all_alone_in budget text (told_by_script budget text) own alone
