use Rattle.std.proofs.Common.{◌≡◌, codes, arith, [], ◌∷◌, rules}
use Rattle.std.proofs.lemmas.Slice.Eq.{text_from_reads}
use Rattle.script_lang.proofs.VerbsLemmas.{none_of_two}
use Rattle.script_lang.proofs.verbs.two_word_verb.Goals as goal

pub returns-in_default-clause-asked : goal.returns-in_default-clause-asked
returns-in_default-clause-asked c =
    none_of_two c.args.word.now (c.args.a.now ∷ c.args.b.now ∷ []) (search rules) (search rules) (search rules) (search rules) (search rules)

pub returns-in-weak-clause-asked : goal.returns-in-weak-clause-asked
returns-in-weak-clause-asked c =
    let e : c.args.word.now ≡ codes "weak" = text_from_reads c.args.word.now (codes "weak") (omega arith) (search rules) in
    rw e c.weak_verb.ensures.asked

pub returns-in-copy-clause-asked : goal.returns-in-copy-clause-asked
returns-in-copy-clause-asked c =
    let e : c.args.word.now ≡ codes "copy" = text_from_reads c.args.word.now (codes "copy") (omega arith) (search rules) in
    rw e c.copy_verb.ensures.asked
