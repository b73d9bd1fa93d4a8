use Rattle.hprof_convert.proofs.Parts.{converted-parts, converted-classes}
use Rattle.hprof_convert.proofs.laws.parts_are_converted.Goals as goal

pub returns : goal.returns
returns c = record { parts = converted-parts; classes = converted-classes }
