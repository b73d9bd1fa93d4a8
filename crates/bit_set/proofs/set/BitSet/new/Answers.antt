use Rattle.std.proofs.Common.{◌*◌, length, ap}
use Rattle.bit_set.specs.Bits.{room, is_member}
use Rattle.bit_set.proofs.SetLemmas.{has_number-none}
use Rattle.bit_set.proofs.set.BitSet.new.Goals as goal

pub returns-clause-no_room : goal.returns-clause-no_room
unfolding room
returns-clause-no_room c = ap (λ ws. 64 * length ws) c.new.ensures.items

pub returns-clause-empty : goal.returns-clause-empty
unfolding is_member
returns-clause-empty c = has_number-none _ c.new.ensures.items
