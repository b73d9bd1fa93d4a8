use Rattle.std.proofs.Common.{sym, subst}
use Rattle.read_job.specs.Ends.{EndedRead, Streams, streams_of}
use Rattle.read_job.proofs.Endings.{reading_completes}
use Rattle.read_job.proofs.reading.answer_input.Goals as goal

pub returns-clause-complete : goal.returns-clause-complete
returns-clause-complete g c = λ few reads_ puts_.
    let left = g.S.Source.left in
    let reads = g.S.Source.fault_count in
    let told = g.W.Sink.gained in
    let puts = g.W.Sink.fault_count in
    let old : Streams = streams_of (left c.args.source.now) (reads c.args.source.now) (told c.args.sink.now) (puts c.args.sink.now) in
    let new : Streams = streams_of (left c.take_and_tell.new.source) (reads c.take_and_tell.new.source) (told c.take_and_tell.new.sink) (puts c.take_and_tell.new.sink) in
    reading_completes c.args.question c.read_status.result old new (subst (λ x. EndedRead c.args.question x old new) (sym c.read_status.ensures) c.take_and_tell.ensures.ended) few reads_ puts_
