use Rattle.zygote_compact.proofs.Kept.{graph-kept, heap-left}
use Rattle.zygote_compact.proofs.Moved.{spots-left}
use Rattle.zygote_compact.proofs.laws.promoted_graphs_are_kept.Goals as goal

pub returns-clause-held : goal.returns-clause-held
returns-clause-held c h old new t g z regions rows roots after k s room promoted leaves slots = heap-left h old new t g z regions rows roots after k s room promoted leaves slots

pub returns-clause-kept : goal.returns-clause-kept
returns-clause-kept c h old new t g z regions rows roots after k s sealed room promoted leaves = graph-kept h old new t g z regions rows roots after k s room promoted leaves sealed

pub returns-clause-spots : goal.returns-clause-spots
returns-clause-spots c h old new t g z regions rows roots after k s room promoted = spots-left h old new t g z regions rows roots after k s room promoted
