use Rattle.std.proofs.Common.{[], ◌∷◌, rules}
use Rattle.script_lang.proofs.VerbsLemmas.{none_of_one}
use Rattle.script_lang.proofs.verbs.one_word_verb.Goals as goal

pub returns-in_default-clause-asked : goal.returns-in_default-clause-asked
returns-in_default-clause-asked c = none_of_one c.args.word.now (c.args.a.now ∷ []) (search rules) (search rules) (search rules)
