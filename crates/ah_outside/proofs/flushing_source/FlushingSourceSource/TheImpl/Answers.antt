use Rattle.std.proofs.Common.{refl}
use Rattle.std.proofs.lemmas.Result.{IfOk-weaker, on_err_weaker}
use Rattle.ah_outside.proofs.Faults.{FaultRose-one_more}
use Rattle.ah_outside.proofs.flushing_source.FlushingSourceSource.TheImpl.Goals as goal

pub take-tells : goal.take-tells
take-tells g c = record {
  within = c.ensures.within;
  gave = IfOk-weaker c.result _ _ (λ n h. refl) c.ensures.within;
  end = IfOk-weaker c.result _ _ (λ n h. tt) c.ensures.within;
  failed = on_err_weaker c.result (λ _. refl) c.ensures.fault;
  cause = on_err_weaker c.result (FaultRose-one_more c.args.self.now.faults c.new.self.now.faults) c.ensures.fault;
  never_falls = c.ensures.never_falls;
}
