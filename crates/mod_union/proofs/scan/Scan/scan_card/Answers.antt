use Rattle.std.proofs.lemmas.Result.{on_ok_weaker}
use Rattle.mod_union.proofs.Reached.{held-still}
use Rattle.mod_union.proofs.scan.Scan.scan_card.Goals as goal

pub scan_from-requires-clause-held : goal.scan_from-requires-clause-held
scan_from-requires-clause-held c =
    let held = c.requires.held in
    (held.0, held-still c.args.self.now c.args.frames.now c.scan_before.new.frames _ held.0 c.scan_before.ensures.reads held.1)

pub returns-clause-found : goal.returns-clause-found
returns-clause-found c =
    on_ok_weaker c.scan_from.result
    (λ scanned raws held before. scanned raws (held-still c.args.self.now c.args.frames.now c.scan_before.new.frames _ raws c.scan_before.ensures.reads held) (c.in_ok-next.ensures.edge raws held) (c.in_ok-next.ensures.found raws held before))
    c.scan_from.ensures.found
