use Rattle.std.proofs.Common.{◌≡◌, ◌<◌, ◌*◌, ◌^◌, drop}
use Rattle.artheap_top.specs.Words.{with_digits}
use Rattle.artheap_top.proofs.words.id_of.Given as goal

abbrev pub invariant-loop-digit : goal.invariant-loop-digit
invariant-loop-digit l = record {
  below : l.id < 2 ^ (4 * l.digit-index);
  goes_on : with_digits l.id (drop l.digit-index l.word) ≡ with_digits 0 l.word;
}
