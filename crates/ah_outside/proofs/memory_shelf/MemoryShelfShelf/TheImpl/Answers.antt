use Rattle.std.proofs.Common.{rules}
use Rattle.std.proofs.lemmas.Result.{on_ok_weaker, on_err_weaker}
use Rattle.ah_outside.proofs.ShelfEntries.{Begun-after, Appended-after, Appended-none, Closed-after}
use Rattle.ah_outside.proofs.memory_shelf.MemoryShelfShelf.TheImpl.Goals as goal

pub begin-tells : goal.begin-tells
begin-tells c = record {
  ok = on_ok_weaker c.result (Begun-after c.args.self.now c.args.name.now c.new.self.now) c.ensures.state;
  failed = search rules;
  cause = search rules;
  never_falls = search rules;
}

pub put-tells : goal.put-tells
put-tells c = record {
  ok = on_ok_weaker c.result (Appended-after c.args.self.now c.args.piece.now c.new.self.now) c.ensures.state;
  failed = on_err_weaker c.result (λ state. (0, Appended-none c.args.self.now c.new.self.now state)) c.ensures.state_failed;
  cause = search rules;
  never_falls = search rules;
}

pub finish-tells : goal.finish-tells
finish-tells c = record {
  ok = on_ok_weaker c.result (Closed-after c.args.self.now c.new.self.now) c.ensures.state;
  failed = search rules;
  cause = search rules;
  never_falls = search rules;
}
