use Rattle.std.proofs.Common.{rules}
use Rattle.std.proofs.lemmas.List.{take_rest}
use Rattle.std.proofs.lemmas.Result.{err_from_is_err_and}
use Rattle.ah_outside.proofs.PutAll.{Gained-more, GainedPrefix-more}
use Rattle.ah_outside.proofs.sink.put_all.Goals as goal

pub returns-in_err-taken-clause-failed : goal.returns-in_err-taken-clause-failed
returns-in_err-taken-clause-failed g c =
    let p = err_from_is_err_and c.from_residual.result c.from_residual.ensures.1 in
    rw p.1 (GainedPrefix-more _ _ _ _ _ c.loop-done.invariant.gained (rw take_rest at c.in_err-taken.ensures.failed))

pub loop-done-preserved : goal.loop-done-preserved
loop-done-preserved g c = record {
  in_range = search rules;
  gained = Gained-more _ _ _ _ _ _ c.loop-done.invariant.gained (rw take_rest at c.in_ok-taken.ensures.took);
  never_falls = search rules;
}
