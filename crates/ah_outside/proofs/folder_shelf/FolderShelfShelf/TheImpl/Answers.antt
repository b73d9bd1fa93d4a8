use Rattle.std.proofs.Common.{Bool, None, ap, sym, ◌∙◌, inl}
use Rattle.std.proofs.lemmas.Result.{on_ok_weaker, on_err_weaker}
use Rattle.ah_outside.specs.Outside.{Shelved}
use Rattle.ah_outside.proofs.Faults.{FaultRose-one_more}
use Rattle.ah_outside.proofs.folder_shelf.FolderShelfShelf.TheImpl.Goals as goal

-- what a shelf over files tells
abbrev told : Bool → Shelved
told unfinished = record { entries = None; unfinished = unfinished }

pub begin-tells : goal.begin-tells
begin-tells g c = record {
  ok = on_ok_weaker c.result (ap told) c.ensures.begun;
  failed = on_err_weaker c.result (λ h. inl (ap told (h ∙ sym c.requires))) c.ensures.failed;
  cause = on_err_weaker c.result (FaultRose-one_more c.args.self.now.faults c.new.self.now.faults) c.ensures.fault;
  never_falls = c.ensures.never_falls;
}

pub put-tells : goal.put-tells
put-tells g c =
    let same = ap told (c.ensures.unfinished ∙ sym c.requires) in
    record {
      ok = on_ok_weaker c.result (λ _. same) c.ensures.no_fault;
      failed = on_err_weaker c.result (λ _. (0, same)) c.ensures.fault;
      cause = on_err_weaker c.result (FaultRose-one_more c.args.self.now.faults c.new.self.now.faults) c.ensures.fault;
      never_falls = c.ensures.never_falls;
    }

pub finish-tells : goal.finish-tells
finish-tells g c = record {
  ok = on_ok_weaker c.result (ap told) c.ensures.closed;
  failed = on_err_weaker c.result (λ h. ap told (h ∙ sym c.requires)) c.ensures.failed;
  cause = on_err_weaker c.result (FaultRose-one_more c.args.self.now.faults c.new.self.now.faults) c.ensures.fault;
  never_falls = c.ensures.never_falls;
}
