use Rattle.dump_shows.proofs.Whole.{all-shown}
use Rattle.dump_shows.proofs.laws.written_shows.Goals as goal

pub returns : goal.returns
returns c = all-shown
