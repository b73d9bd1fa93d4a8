use Rattle.std.proofs.Common.{◌≡◌, ◌+◌, length, ap, arith, subst}
use Rattle.std.specs.Prelude.{IfSome}
use Rattle.hprof_wide.specs.Parts.{wide_static_bytes}
use Rattle.hprof_convert.proofs.MissingLemmas.{length-static}
use Rattle.hprof_convert.proofs.missing.with_static.Goals as goal

pub returns : goal.returns
returns c =
    let e : c.in_ok-head.head + 0 + length c.as_slice.result.now ≡ c.args.size + length (wide_static_bytes c.args.width c.args.one.now) =
    omega (arith, c.in_ok-head.ensures, ap length c.as_slice.ensures, length-static c.args.width c.args.one.now) in
    subst (λ k. IfSome c.more-2.result (λ n. n ≡ k)) e c.more-2.ensures
