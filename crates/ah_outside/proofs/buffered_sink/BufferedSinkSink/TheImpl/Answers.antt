use Rattle.std.proofs.Common.{refl, arith}
use Rattle.std.proofs.lemmas.Result.{IfOk-weaker, on_err_weaker}
use Rattle.ah_outside.proofs.Faults.{FaultRose-one_more}
use Rattle.ah_outside.proofs.buffered_sink.BufferedSinkSink.TheImpl.Goals as goal

pub put-tells : goal.put-tells
put-tells g c = record {
  within = c.ensures.within;
  took = IfOk-weaker c.result _ _ (λ n h. refl) c.ensures.within;
  stuck = IfOk-weaker c.result _ _ (λ n some zero there. let h = some there in absurd (omega arith)) c.ensures.not_stuck;
  failed = on_err_weaker c.result (λ _. (0, refl)) c.ensures.fault;
  cause = on_err_weaker c.result (FaultRose-one_more c.args.self.now c.new.self.now) c.ensures.fault;
  never_falls = c.ensures.never_falls;
}
