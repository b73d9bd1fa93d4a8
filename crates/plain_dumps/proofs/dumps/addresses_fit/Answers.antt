use Rattle.plain_dumps.proofs.Seen.{fits}
use Rattle.plain_dumps.proofs.dumps.addresses_fit.Goals as goal

pub returns : goal.returns
returns c = λ w graph stands h.
    fits c.args.machine.now c.args.process.now c.in-Some._graph.now c.in-Some.ensures.own w (c.in-Some.ensures.graph w stands) graph h c.in-Some.ensures.formed
