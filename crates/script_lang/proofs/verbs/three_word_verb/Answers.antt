use Rattle.std.proofs.Common.{◌≡◌, codes, arith, [], ◌∷◌, rules}
use Rattle.std.proofs.lemmas.Slice.Eq.{text_from_reads}
use Rattle.script_lang.proofs.VerbsLemmas.{none_of_three}
use Rattle.script_lang.proofs.verbs.three_word_verb.Goals as goal

pub returns-in_default-clause-asked : goal.returns-in_default-clause-asked
returns-in_default-clause-asked c =
    none_of_three c.args.word.now (c.args.a.now ∷ c.args.b.now ∷ c.args.c.now ∷ []) (search rules) (search rules) (search rules) (search rules) (search rules)

pub returns-in-loadat-clause-asked : goal.returns-in-loadat-clause-asked
returns-in-loadat-clause-asked c =
    let e : c.args.word.now ≡ codes "loadat" = text_from_reads c.args.word.now (codes "loadat") (omega arith) (search rules) in
    rw e c.load_at_verb.ensures.asked

pub returns-in-array-clause-asked : goal.returns-in-array-clause-asked
returns-in-array-clause-asked c =
    let e : c.args.word.now ≡ codes "array" = text_from_reads c.args.word.now (codes "array") (omega arith) (search rules) in
    rw e c.array_verb.ensures.asked

pub returns-in-load-clause-asked : goal.returns-in-load-clause-asked
returns-in-load-clause-asked c =
    let e : c.args.word.now ≡ codes "load" = text_from_reads c.args.word.now (codes "load") (omega arith) (search rules) in
    rw e c.load_verb.ensures.asked
