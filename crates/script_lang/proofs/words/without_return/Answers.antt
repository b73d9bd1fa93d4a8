use Rattle.std.proofs.Common.{sym}
use Rattle.script_lang.proofs.WordsLemmas.{without_return-last, without_return-other}
use Rattle.script_lang.proofs.words.without_return.Goals as goal

pub returns-then-last-eq13 : goal.returns-then-last-eq13
returns-then-last-eq13 c = let e = c.in-Some.ensures.cases.0 in rw (e, c.if-last-eq13.true, without_return-last)

pub returns-else-last-eq13 : goal.returns-else-last-eq13
returns-else-last-eq13 c =
    let e = c.in-Some.ensures.cases.0 in
    rw e (sym (without_return-other c.in-Some.front.now c.in-Some.last.now c.if-last-eq13.false))
