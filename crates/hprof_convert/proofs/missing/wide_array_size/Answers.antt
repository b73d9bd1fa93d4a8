use Rattle.std.proofs.Common.{◌≡◌, ◌+◌, ◌*◌, ap, sym, subst, ◌∙◌}
use Rattle.std.specs.Prelude.{IfSome}
use Rattle.hprof_convert.proofs.MissingLemmas.{length-ids}
use Rattle.hprof_convert.proofs.missing.wide_array_size.Goals as goal

pub returns : goal.returns
returns c =
    subst (λ k. IfSome c.with_two_ids.result (λ n. n ≡ k))
    (ap (λ k. 9 + 2 * c.args.width + k) (c.in_ok-bytes.ensures ∙ sym (length-ids c.args.width c.args.items.now))) c.with_two_ids.ensures
