use Rattle.large_objects.proofs.LawLemmas.{rows-counted}
use Rattle.large_objects.proofs.laws.pages_are_counted.Goals as goal

pub returns : goal.returns
returns c = rows-counted
