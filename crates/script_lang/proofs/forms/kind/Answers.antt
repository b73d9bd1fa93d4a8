use Rattle.std.proofs.Common.{◌≡◌, codes, arith, rules}
use Rattle.std.proofs.lemmas.Slice.Eq.{text_from_reads}
use Rattle.script_lang.proofs.forms.kind.Goals as goal

pub returns-in-boolean : goal.returns-in-boolean
returns-in-boolean c =
    let e : c.args.word.now ≡ codes "boolean" = text_from_reads c.args.word.now (codes "boolean") (omega arith) (search rules) in
    rw e

pub returns-in-byte : goal.returns-in-byte
returns-in-byte c =
    let e : c.args.word.now ≡ codes "byte" = text_from_reads c.args.word.now (codes "byte") (omega arith) (search rules) in
    rw e

pub returns-in-char : goal.returns-in-char
returns-in-char c =
    let e : c.args.word.now ≡ codes "char" = text_from_reads c.args.word.now (codes "char") (omega arith) (search rules) in
    rw e

pub returns-in-long : goal.returns-in-long
returns-in-long c =
    let e : c.args.word.now ≡ codes "long" = text_from_reads c.args.word.now (codes "long") (omega arith) (search rules) in
    rw e

pub returns-in-short : goal.returns-in-short
returns-in-short c =
    let e : c.args.word.now ≡ codes "short" = text_from_reads c.args.word.now (codes "short") (omega arith) (search rules) in
    rw e
