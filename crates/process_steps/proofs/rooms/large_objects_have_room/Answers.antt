use Rattle.process_steps.proofs.SlotRoom.{slot-room}
use Rattle.process_steps.proofs.rooms.large_objects_have_room.Goals as goal

pub returns : goal.returns
returns c = slot-room
