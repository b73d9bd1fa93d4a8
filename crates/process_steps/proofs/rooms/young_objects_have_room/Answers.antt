use Rattle.process_steps.proofs.YoungRoom.{young-room}
use Rattle.process_steps.proofs.rooms.young_objects_have_room.Goals as goal

pub returns : goal.returns
returns c = λ s placed was between p shape at k sealed formed placing. young-room s placed was between p shape at k formed placing
