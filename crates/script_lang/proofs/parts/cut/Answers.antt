use Rattle.std.proofs.Common.{arith, add-one}
use Rattle.std.proofs.lemmas.List.{take_rest}
use Rattle.script_lang.specs.Parts.{is_byte}
use Rattle.script_lang.proofs.PartsLemmas.{parts-first, parts-whole}
use Rattle.script_lang.proofs.parts.cut.Goals as goal

pub returns-in-Some-clause-parts : goal.returns-in-Some-clause-parts
returns-in-Some-clause-parts c =
    let found = c.in-Some.ensures in
    rw (take_rest, add-one)
    (parts-first (is_byte c.args.separator) c.args.text.now c.in-Some.at (found.0.high) (λ i lt. found.0.before i (omega arith) lt) found.1)

pub returns-in-None-clause-parts : goal.returns-in-None-clause-parts
returns-in-None-clause-parts c = parts-whole (is_byte c.args.separator) c.args.text.now (λ i lt. c.in-None.ensures i (omega arith) lt)
