use Rattle.std.proofs.Common.{◌∙◌, arith}
use Rattle.bit_set.proofs.SetLemmas.{room-whole}
use Rattle.live_objects.proofs.marks.Marks.new.Goals as goal

pub invariant_of-result : goal.invariant_of-result
invariant_of-result c = record {
  start = c.in_ok-young.ensures.span.0;
  span = c.in_ok-young.ensures.span.1 ∙ c.bytes.ensures.bytes;
  slots = omega (arith, c.in_ok-grow.ensures.ok, c.grow.ensures.no_more 512 (omega (arith, c.new-large.ensures.no_room)) (omega arith), room-whole c.grow.new.self);
}
