use Rattle.process_steps.proofs.RoomCounts.{free-is, opens-is}
use Rattle.process_steps.proofs.counts.room_is_counted.Goals as goal

pub returns : goal.returns
returns c = record {
  free = free-is;
  opens = λ s m p shape k formed plain. opens-is s m p k shape formed plain;
}
