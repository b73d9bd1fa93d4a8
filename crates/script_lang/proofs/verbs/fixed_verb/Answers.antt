use Rattle.std.proofs.Common.{◌≡◌, ℕ, List, [], ◌∷◌, ◌∙◌, ap}
use Rattle.script_lang.proofs.VerbsLemmas.{fixed_one, fixed_two, fixed_three}
use Rattle.script_lang.proofs.verbs.fixed_verb.Goals as goal

pub returns-in_default-next-clause-asked : goal.returns-in_default-next-clause-asked
returns-in_default-next-clause-asked c =
    let word = c.args.word.now in
    let first = c.in-Some.first.now in
    let args : c.args.args ≡ first ∷ [] = c.in-Some.ensures ∙ ap (λ (ws : List (List ℕ)). first ∷ ws) c.in_default-next.ensures.0 in
    c.one_word_verb.ensures.asked ∙ rw args (fixed_one word first)

pub returns-in_default-next-2-clause-asked : goal.returns-in_default-next-2-clause-asked
returns-in_default-next-2-clause-asked c =
    let word = c.args.word.now in
    let first = c.in-Some.first.now in
    let second = c.in-Some-next.second.now in
    let behind : c.next.new.self ≡ second ∷ [] = c.in-Some-next.ensures ∙ ap (λ (ws : List (List ℕ)). second ∷ ws) c.in_default-next-2.ensures.0 in
    let args : c.args.args ≡ first ∷ second ∷ [] = c.in-Some.ensures ∙ ap (λ (ws : List (List ℕ)). first ∷ ws) behind in
    c.two_word_verb.ensures.asked ∙ rw args (fixed_two word first second)

pub returns-in-None-clause-asked : goal.returns-in-None-clause-asked
returns-in-None-clause-asked c =
    let word = c.args.word.now in
    let first = c.in-Some.first.now in
    let second = c.in-Some-next.second.now in
    let third = c.in-Some-next-2.third.now in
    let last : c.next-2.new.self ≡ third ∷ [] = c.in-Some-next-2.ensures ∙ ap (λ (ws : List (List ℕ)). third ∷ ws) c.in-None.ensures.0 in
    let behind : c.next.new.self ≡ second ∷ third ∷ [] = c.in-Some-next.ensures ∙ ap (λ (ws : List (List ℕ)). second ∷ ws) last in
    let args : c.args.args ≡ first ∷ second ∷ third ∷ [] = c.in-Some.ensures ∙ ap (λ (ws : List (List ℕ)). first ∷ ws) behind in
    c.three_word_verb.ensures.asked ∙ rw args (fixed_three word first second third)
