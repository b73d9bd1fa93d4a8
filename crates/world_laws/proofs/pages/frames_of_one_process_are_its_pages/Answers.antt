use Rattle.world_laws.proofs.Framed.{frames_alone}
use Rattle.world_laws.proofs.pages.frames_of_one_process_are_its_pages.Goals as goal

pub returns : goal.returns
returns c = frames_alone
