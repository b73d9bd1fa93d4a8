use Rattle.std.proofs.Common.{refl}
use Rattle.std.proofs.lemmas.Result.{err_from_is_err_and}
use Rattle.hprof_list.specs.Listing.{shown_byte}
use Rattle.hprof_list.proofs.Putting.{each_more, each_stop}
use Rattle.hprof_list.proofs.put.put_all_shown.Goals as goal

pub returns-in_err-put_shown : goal.returns-in_err-put_shown
returns-in_err-put_shown g c =
    let p = err_from_is_err_and c.from_residual.result c.from_residual.ensures.1 in
    rw p.1 (each_stop shown_byte c.args.bytes.now c.loop-byte.byte-index _ _ _ _ _ _ _ _ c.loop-byte-test.true refl c.loop-byte.invariant c.in_err-put_shown.ensures)

pub loop-byte-preserved : goal.loop-byte-preserved
loop-byte-preserved g c =
    each_more shown_byte c.args.bytes.now c.loop-byte.byte-index _ _ _ _ _ _ _ _ c.loop-byte-test.true refl c.loop-byte.invariant c.in_ok-put_shown.ensures
