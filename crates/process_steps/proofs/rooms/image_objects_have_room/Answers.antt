use Rattle.process_steps.proofs.ImageRoom.{image-room}
use Rattle.process_steps.proofs.rooms.image_objects_have_room.Goals as goal

pub returns : goal.returns
returns c = image-room
