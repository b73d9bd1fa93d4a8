-- A script in which lines are left blank has the lines that are kept, at their numbers, and their commands alone.
use Rattle.std.proofs.Common.{◌≡◌, ℕ, ◌+◌, Bool, true, false, cond, List, [], ◌∷◌, ◌++◌, Option, None, Some, Result, Ok, Err, length, nat_le, refl, sym, ap, ◌∙◌}
use Rattle.std.specs.List.{All, list_any}
use Rattle.std.proofs.lemmas.Bool.{or_from, or_parts}
use Rattle.std.proofs.lemmas.List.Elements.{All-nil, All-cons, All-head, All-tail, filter-append}
use Rattle.heap_graph.specs.Reach.{is_among}
use Rattle.heap_world.specs.declared.command.Command.{Command}
use Rattle.heap_world.specs.Run.{Line}
use Rattle.script_lang.specs.declared.read.LineError.{LineError}
use Rattle.script_lang.specs.Grammar.{line_meaning}
use Rattle.script_lang.specs.Parts.{is_byte, lines, parts, with_byte, without_empty_last}
use Rattle.script_lang.proofs.PartsLemmas.{lines-first}
use Rattle.script_report.specs.Own.{blank_unless, command_at, command_if_short, command_meant, commands, commands_from, only_lines}
use Rattle.script_report.proofs.Picked.{picked}

-- no byte is a line feed
abbrev pub IsLine : List ℕ → Type 0
IsLine bytes = list_any (is_byte 10) bytes ≡ false

-- parts between line feeds have none
with_byte-lines : (c : Bool) (b : ℕ) (ps : List (List ℕ)) → is_byte 10 b ≡ c → All IsLine ps → All IsLine (with_byte c b ps)
with_byte-lines true b ps e h = All-cons IsLine [] ps refl h
with_byte-lines false b [] e h = All-cons IsLine (b ∷ []) [] (or_from (is_byte 10 b) false e refl) (All-nil IsLine)
with_byte-lines false b (p ∷ ps) e h =
    All-cons IsLine (b ∷ p) ps (or_from (is_byte 10 b) (list_any (is_byte 10) p) e (All-head IsLine p ps h)) (All-tail IsLine p ps h)

parts-lines : (text : List ℕ) → All IsLine (parts (is_byte 10) text)
parts-lines [] = All-cons IsLine [] [] refl (All-nil IsLine)
parts-lines (b ∷ bs) = with_byte-lines (is_byte 10 b) b (parts (is_byte 10) bs) refl (parts-lines bs)

without_empty_last-lines : (ps : List (List ℕ)) → All IsLine ps → All IsLine (without_empty_last ps)
without_empty_last-lines [] h = h
without_empty_last-lines ([] ∷ []) h = All-nil IsLine
without_empty_last-lines ((b ∷ bs) ∷ []) h = h
without_empty_last-lines ([] ∷ q ∷ ps) h = All-cons IsLine [] (without_empty_last (q ∷ ps)) (All-head IsLine [] (q ∷ ps) h) (without_empty_last-lines (q ∷ ps) (All-tail IsLine [] (q ∷ ps) h))
without_empty_last-lines ((b ∷ bs) ∷ q ∷ ps) h =
    All-cons IsLine (b ∷ bs) (without_empty_last (q ∷ ps)) (All-head IsLine (b ∷ bs) (q ∷ ps) h) (without_empty_last-lines (q ∷ ps) (All-tail IsLine (b ∷ bs) (q ∷ ps) h))

-- the lines of a text have no line feed
lines-lines : (text : List ℕ) → All IsLine (lines text)
lines-lines text = without_empty_last-lines (parts (is_byte 10) text) (parts-lines text)

-- a line and its line feed in front of a text
parts-feed : (line rest : List ℕ) → IsLine line → parts (is_byte 10) (line ++ 10 ∷ rest) ≡ line ∷ parts (is_byte 10) rest
parts-feed [] rest h = refl
parts-feed (b ∷ line) rest h =
    let both = or_parts (is_byte 10 b) (list_any (is_byte 10) line) h in
    ap (λ c. with_byte c b (parts (is_byte 10) (line ++ 10 ∷ rest))) both.0 ∙ ap (with_byte false b) (parts-feed line rest both.1)

pub lines-feed : (line rest : List ℕ) → IsLine line → lines (line ++ 10 ∷ rest) ≡ line ∷ lines rest
lines-feed line rest h = lines-first (line ++ 10 ∷ rest) line rest (parts-feed line rest h)

-- lines, of which those of other numbers are left blank
abbrev pub blanked : List ℕ → ℕ → List (List ℕ) → List (List ℕ)
blanked ns n [] = []
blanked ns n (l ∷ ls) = blank_unless (is_among ns n) l ∷ blanked ns (n + 1) ls

blank-line : (b : Bool) (line : List ℕ) → IsLine line → IsLine (blank_unless b line)
blank-line true line h = h
blank-line false line h = refl

lines-only_lines : (ns : List ℕ) (n : ℕ) (ls : List (List ℕ)) → All IsLine ls → lines (only_lines ns n ls) ≡ blanked ns n ls
lines-only_lines ns n [] h = refl
lines-only_lines ns n (l ∷ ls) h =
    let line = blank_unless (is_among ns n) l in
    lines-feed line (only_lines ns (n + 1) ls) (blank-line (is_among ns n) l (All-head IsLine l ls h))
    ∙ ap (λ more. line ∷ more) (lines-only_lines ns (n + 1) ls (All-tail IsLine l ls h))

-- the commands of lines that are picked by their numbers
abbrev pub lines_of : List ℕ → List Line → List Line
lines_of ns ls = picked (λ l. l.number) ns ls

-- of no command none is picked
none_picked : (b : Bool) → ◌≡◌ {A = List Line} [] (cond b [] [])
none_picked true = refl
none_picked false = refl

lines_of-command : (ns : List ℕ) (n : ℕ) (l : List ℕ) → lines_of ns (command_at n l) ≡ cond (is_among ns n) (command_at n l) []
lines_of-command ns n l = by (nat_le (length l) 4096)
  where
    meant : (r : Result (Option Command) LineError) → lines_of ns (command_meant n r) ≡ cond (is_among ns n) (command_meant n r) []
    meant (Ok (Some c)) = refl
    meant (Ok None) = none_picked (is_among ns n)
    meant (Err why) = none_picked (is_among ns n)

    by : (b : Bool) → lines_of ns (command_if_short b n l) ≡ cond (is_among ns n) (command_if_short b n l) []
    by true = meant (line_meaning l)
    by false = none_picked (is_among ns n)

command_at-blank : (b : Bool) (n : ℕ) (l : List ℕ) → command_at n (blank_unless b l) ≡ cond b (command_at n l) []
command_at-blank true n l = refl
command_at-blank false n l = refl

commands-blanked : (ns : List ℕ) (n : ℕ) (ls : List (List ℕ)) → commands_from n (blanked ns n ls) ≡ lines_of ns (commands_from n ls)
commands-blanked ns n [] = refl
commands-blanked ns n (l ∷ ls) =
    ap (λ more. command_at n (blank_unless (is_among ns n) l) ++ more) (commands-blanked ns (n + 1) ls)
    ∙ ap (λ here. here ++ lines_of ns (commands_from (n + 1) ls)) (command_at-blank (is_among ns n) n l ∙ sym (lines_of-command ns n l))
    ∙ sym (filter-append (λ x. is_among ns x.number) (command_at n l) (commands_from (n + 1) ls))

-- the commands of a script of which these lines alone are kept
pub commands-only_lines : (ns : List ℕ) (text : List ℕ) → commands (only_lines ns 1 (lines text)) ≡ lines_of ns (commands text)
commands-only_lines ns text = ap (commands_from 1) (lines-only_lines ns 1 (lines text) (lines-lines text)) ∙ commands-blanked ns 1 (lines text)
