use Rattle.std.proofs.Common.{◌∙◌, ap, length, drop, arith}
use Rattle.std.proofs.Math.Seq.{drop-append_seam}
use Rattle.std.proofs.lemmas.List.{drop-replicate}
use Rattle.model_numbers.specs.Numbers.{name_limit}
use Rattle.class_layout.proofs.name.Name.of.Goals as goal

-- the bytes behind the name are the zeros that stood there
pub invariant_of-result : goal.invariant_of-result
invariant_of-result c =
    let xs = c.args.bytes.now in (
      omega arith,
      omega arith,
      ap (drop (length xs)) c.write_front.ensures ∙ drop-append_seam xs _ ∙ drop-replicate (length xs) name_limit 0,
    )
