use Rattle.script_lang.proofs.WordsLemmas.{length-words}
use Rattle.script_lang.proofs.words.Words.of.Goals as goal

pub returns-clause-few : goal.returns-clause-few
returns-clause-few c = rw c.without_return.ensures (length-words c.args.line.now)
