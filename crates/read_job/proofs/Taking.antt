-- The taking of an input: how it begins, goes on and stops.
use Rattle.std.proofs.Common.{◌≡◌, ℕ, ◌+◌, ◌<◌, ◌≤◌, List, [], ◌++◌, length, length-append, refl, ◌∙◌, arith}
use Rattle.ah_outside.specs.Outside.{Gave}
use Rattle.job_status.proofs.Outside.{Gave-more, Gave-none}
use Rattle.model_numbers.specs.Numbers.{input_limit, piece_bytes}
use Rattle.read_job.specs.Ends.{Streams, TookTooMany}
use Rattle.read_job.specs.Taking.{HasTaken}

-- nothing was taken
pub taking_begins : (s : Streams) → HasTaken [] s s
taking_begins s = record { gave = Gave-none s.left; unchanged = refl; counted = omega arith }

-- more bytes were taken
pub takes_on : (text bytes : List ℕ) (old mid new : Streams)
    → HasTaken text old mid → Gave mid.left bytes new.left → new.gained ≡ mid.gained → mid.read_faults ≤ new.read_faults → HasTaken (text ++ bytes) old new
takes_on text bytes old mid new h gave same falls = record {
  gave = Gave-more old.left text mid.left bytes new.left h.gave gave;
  unchanged = same ∙ h.unchanged;
  counted = omega (arith, h.counted, falls);
}

-- there was no room for the bytes that were taken last
pub takes_too_many : (text bytes : List ℕ) (old mid new : Streams)
    → HasTaken text old mid → Gave mid.left bytes new.left → new.gained ≡ mid.gained → length text ≤ input_limit → input_limit < length text + length bytes → length bytes ≤ piece_bytes
    → TookTooMany old new × (new.gained ≡ old.gained)
takes_too_many text bytes old mid new h gave same fits more short = (
  record {
    taken = text ++ bytes;
    gave = Gave-more old.left text mid.left bytes new.left h.gave gave;
    too_many = omega (arith, more, length-append text bytes);
    barely = omega (arith, fits, short, length-append text bytes);
  },
  same ∙ h.unchanged,
)
