use Rattle.std.proofs.Common.{◌≡◌, sym, subst}
use Rattle.std.specs.Prelude.{IfSome}
use Rattle.hprof_convert.proofs.SizeLemmas.{length-fields}
use Rattle.hprof_convert.proofs.sizes.fields_size.Goals as goal

pub returns : goal.returns
returns c = subst (λ k. IfSome c.times.result (λ n. n ≡ k)) (sym (length-fields c.args.list.now)) c.times.ensures
