use Rattle.std.proofs.Common.{ℕ, ◌≤◌, List, length, length-take, take, refl, arith}
use Rattle.model_numbers.specs.Numbers.{piece_bytes}
use Rattle.read_job.specs.Ends.{Streams, streams_of}
use Rattle.read_job.proofs.Taking.{takes_too_many}
use Rattle.read_job.proofs.input.take_piece.Goals as goal

pub returns-then-taken-len-clause-done : goal.returns-then-taken-len-clause-done
returns-then-taken-len-clause-done g c = λ old held writes h.
    let left = g.S.Source.left in
    let reads = g.S.Source.fault_count in
    let taken : List ℕ = take c.in-Ok.count c.take.new.buf in
    let mid : Streams = streams_of (left c.args.source.now) (reads c.args.source.now) held writes in
    let new : Streams = streams_of (left c.take.new.self) (reads c.take.new.self) held writes in
    let short : length taken ≤ piece_bytes = omega (arith, c.requires.piece, c.take.auto.buf, length-take c.in-Ok.count c.take.new.buf) in
    λ question. takes_too_many c.args.text.now.items taken old mid new h c.in-Ok.ensures.gave refl c.requires.fits (omega (arith, c.if-taken-len.true, c.requires.fits)) short
