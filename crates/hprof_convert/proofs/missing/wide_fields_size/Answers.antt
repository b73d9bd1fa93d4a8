use Rattle.std.proofs.Common.{◌≡◌, ◌+◌, ◌*◌, length, ap, arith, sym, subst, ◌∙◌}
use Rattle.std.specs.Prelude.{IfSome}
use Rattle.hprof_convert.proofs.MissingLemmas.{length-wide-fields}
use Rattle.hprof_convert.proofs.missing.wide_fields_size.Goals as goal

pub returns : goal.returns
returns c =
    let each : c.in_ok-each.each ≡ c.args.width + 1 = omega (arith, c.in_ok-each.ensures) in
    subst (λ k. IfSome c.times.result (λ n. n ≡ k)) (ap (λ k. length c.args.list.now * k) each ∙ sym (length-wide-fields c.args.width c.args.list.now)) c.times.ensures
