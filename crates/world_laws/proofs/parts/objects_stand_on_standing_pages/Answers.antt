use Rattle.world_laws.proofs.StandingObjects.{object_stands}
use Rattle.world_laws.proofs.parts.objects_stand_on_standing_pages.Goals as goal

pub returns : goal.returns
returns c = object_stands
