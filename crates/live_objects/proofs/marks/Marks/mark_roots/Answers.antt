use Rattle.page_tables.specs.declared.address.Addr.{Addr}
use Rattle.live_objects.proofs.StartLemmas.{roots-more}
use Rattle.live_objects.proofs.marks.Marks.mark_roots.Goals as goal

pub loop-root-preserved : goal.loop-root-preserved
loop-root-preserved c =
    let d : Addr = record { 0 = 0 } in
    roots-more c.args.larges.now c.args.roots.now c.loop-root.root-index d c.args.self.now c.loop-root.self c.consider.new.self c.loop-root-test.true c.loop-root.invariant c.in_ok-consider.ensures
