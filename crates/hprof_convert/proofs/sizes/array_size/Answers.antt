use Rattle.std.proofs.Common.{◌≡◌, ◌+◌, length, arith, subst}
use Rattle.std.specs.Prelude.{IfSome}
use Rattle.std.specs.List.{flat_map}
use Rattle.hprof_records.specs.Parts.{word}
use Rattle.hprof_convert.proofs.SizeLemmas.{length-words}
use Rattle.hprof_convert.proofs.sizes.array_size.Goals as goal

pub returns : goal.returns
returns c =
    let e : 17 + c.in_ok-bytes.bytes + 0 ≡ 17 + length (flat_map word c.args.items.now) = omega (arith, c.in_ok-bytes.ensures, length-words c.args.items.now) in
    subst (λ k. IfSome c.more.result (λ n. n ≡ k)) e c.more.ensures
