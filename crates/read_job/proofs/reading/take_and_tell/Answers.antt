use Rattle.read_job.proofs.Endings.{reading_ends}
use Rattle.read_job.proofs.reading.take_and_tell.Goals as goal

pub returns-clause-ended : goal.returns-clause-ended
returns-clause-ended g c =
    let left = g.S.Source.left in
    let reads = g.S.Source.fault_count in
    let told = g.W.Sink.gained in
    let puts = g.W.Sink.fault_count in
    let sink = c.args.sink.now in
    let from = c.args.source.now in
    let to = c.take_input.new.source in
    reading_ends c.args.question c.in_ok-text.text.items (left from) (reads from) (told sink) (puts sink) (left to) (reads to) (told c.tell.new.sink) (puts c.tell.new.sink)
    (c.in_ok-text.ensures.done (told sink) (puts sink)) c.tell.result c.tell.ensures.told
