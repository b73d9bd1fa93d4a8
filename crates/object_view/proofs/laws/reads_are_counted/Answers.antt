use Rattle.object_view.proofs.Rises.{immune-window, reads-fit, reads-joined, reads-rise}
use Rattle.object_view.proofs.laws.reads_are_counted.Goals as goal

pub returns-clause-sound : goal.returns-clause-sound
returns-clause-sound c m ats sound = reads-rise m.reads ats sound.reads_fit

pub returns-clause-rise : goal.returns-clause-rise
returns-clause-rise c = reads-rise

pub returns-clause-fit : goal.returns-clause-fit
returns-clause-fit c = reads-fit

pub returns-clause-joined : goal.returns-clause-joined
returns-clause-joined c = reads-joined

pub returns-clause-windows : goal.returns-clause-windows
returns-clause-windows c = immune-window
