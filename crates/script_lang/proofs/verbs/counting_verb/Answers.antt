use Rattle.std.proofs.Common.{◌≡◌, codes, arith, rules}
use Rattle.std.proofs.lemmas.Slice.Eq.{text_from_reads}
use Rattle.script_lang.proofs.verbs.counting_verb.Goals as goal

pub returns-in-frames-clause-asked : goal.returns-in-frames-clause-asked
returns-in-frames-clause-asked c =
    let e : c.args.word.now ≡ codes "frames" = text_from_reads c.args.word.now (codes "frames") (omega arith) (search rules) in
    rw e
