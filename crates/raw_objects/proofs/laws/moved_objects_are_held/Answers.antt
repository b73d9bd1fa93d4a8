use Rattle.object_view.proofs.Standing.{space-kept}
use Rattle.raw_objects.specs.Raws.{raw_size}
use Rattle.raw_objects.proofs.Raws.{raws-copied, raws-evacuated, raws-forwarded}
use Rattle.raw_objects.proofs.laws.moved_objects_are_held.Goals as goal

pub returns-clause-copied : goal.returns-clause-copied
returns-clause-copied c cs old new raws from to h there multiple space free same changes =
    raws-copied cs old new raws h from to there multiple (space-kept old new to (raw_size cs raws from) changes.mapped space) free same changes

pub returns-clause-forwarded : goal.returns-clause-forwarded
returns-clause-forwarded c cs old new raws from to h there multiple below puts = raws-forwarded cs old new raws h from to there multiple below puts

pub returns-clause-evacuated : goal.returns-clause-evacuated
returns-clause-evacuated c cs old mid new raws from to h there multiple space free same changes puts = raws-evacuated cs old mid new raws from to h there multiple space free same changes puts
