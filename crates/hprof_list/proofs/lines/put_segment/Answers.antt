use Rattle.std.proofs.lemmas.Result.{err_from_is_err_and}
use Rattle.std.specs.List.{flat_map}
use Rattle.hprof_list.specs.Listing.{part_lines}
use Rattle.hprof_list.proofs.Putting.{then_put, stopped}
use Rattle.hprof_list.proofs.lines.put_segment.Goals as goal

pub returns-in_err-put_pieces : goal.returns-in_err-put_pieces
returns-in_err-put_pieces g c =
    let p = err_from_is_err_and c.from_residual.result c.from_residual.ensures.1 in
    rw p.1 (stopped _ _ _ (flat_map part_lines c.args.parts.now) _ _ _ c.in_err-put_pieces.ensures (simp (c.as_bytes.ensures.value, c.format.ensures.text, c.tag_of-tag.ensures)))

pub returns : goal.returns
returns g c = then_put _ _ _ _ _ _ _ _ _ _ c.in_ok-put_pieces.ensures c.put_parts.ensures (simp (c.as_bytes.ensures.value, c.format.ensures.text, c.tag_of-tag.ensures, c.as_slice.ensures))
