use Rattle.std.proofs.Common.{◌≡◌, ℕ, ◌-◌, ◌≤◌, List, Option, length}
use Rattle.model_numbers.specs.Numbers.{input_limit, piece_bytes}
use Rattle.read_job.specs.Ends.{streams_of}
use Rattle.read_job.specs.Taking.{HasTaken}
use Rattle.read_job.proofs.input.take_input.Given as goal

abbrev pub invariant-loop-text : goal.invariant-loop-text
invariant-loop-text g l =
    let left = g.S.Source.left in
    let reads = g.S.Source.fault_count in
    record {
      piece : length l.buf ≡ piece_bytes;
      fits : length l.text.items ≤ input_limit;
      counted : reads l.fn.source ≤ reads l.source;
      so_far : (held : Option (List ℕ)) (writes : ℕ)
          → HasTaken l.text.items (streams_of (left l.fn.source) (reads l.fn.source) held writes) (streams_of (left l.source) (reads l.source) held writes);
    }

abbrev pub decreases-loop-text : goal.decreases-loop-text
decreases-loop-text g l = input_limit - length l.text.items
