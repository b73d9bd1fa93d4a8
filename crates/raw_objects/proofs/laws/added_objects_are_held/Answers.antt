use Rattle.raw_objects.proofs.Raws.{raws-added}
use Rattle.raw_objects.proofs.laws.added_objects_are_held.Goals as goal

pub returns : goal.returns
returns c cs old new raws at x h free changes known stands = raws-added cs old new raws h at x free changes known stands
