use Rattle.large_objects.proofs.LawLemmas.{rows-written}
use Rattle.large_objects.proofs.laws.written_pages_are_counted.Goals as goal

pub returns : goal.returns
returns c = rows-written
