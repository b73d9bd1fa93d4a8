use Rattle.hprof_convert.proofs.MissingLemmas.{length-global}
use Rattle.hprof_convert.proofs.missing.wide_further_size.Goals as goal

pub returns-then-tag-eq-JNI_GLOBAL : goal.returns-then-tag-eq-JNI_GLOBAL
returns-then-tag-eq-JNI_GLOBAL c = rw (c.in-Some-None.is-0, c.in-Some-None.is-1) (length-global c.args.width c.args.tag c.in-Some-None.field-0-0 c.if-tag-eq-JNI_GLOBAL.true)
