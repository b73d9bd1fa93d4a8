use Rattle.object_view.proofs.Alone.{alone-stays, frame-beside}
use Rattle.object_view.proofs.laws.alone_stays.Goals as goal

pub returns-clause-others : goal.returns-clause-others
returns-clause-others c old new t first n u q changes = frame-beside old new t first n changes u q

pub returns-clause-alone : goal.returns-clause-alone
returns-clause-alone c old new t first n u q changes = alone-stays old new t first n changes u q
