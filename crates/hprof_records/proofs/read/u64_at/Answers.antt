use Rattle.std.proofs.Common.{◌≡◌, refl, sym, arith}
use Rattle.std.proofs.lemmas.Nat.{be_bytes_8}
use Rattle.hprof_records.specs.Fields.{bytes_at}
use Rattle.hprof_records.proofs.Chunks.{AreBytes-at, length-bytes_at}
use Rattle.hprof_records.proofs.read.u64_at.Goals as goal

pub returns-clause-value : goal.returns-clause-value
returns-clause-value c =
    let chunk = bytes_at c.args.bytes.now c.args.at 8 in
    let is : c.in_ok-chunk.chunk.now ≡ chunk = c.in_ok-chunk.ensures.value in
    let bytes = AreBytes-at c.args.bytes.now c.args.at 8 (λ i. omega (arith, c.type_inv.bytes i)) in
    let length_is = length-bytes_at c.args.bytes.now c.args.at 8 (c.in_ok-chunk.ensures.found.0 refl) in
    sym (be_bytes_8 chunk c.from_be_bytes.result length_is bytes (rw is at c.from_be_bytes.ensures))
