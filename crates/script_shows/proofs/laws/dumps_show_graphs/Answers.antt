use Rattle.script_shows.proofs.Dumped.{dumps-show}
use Rattle.script_shows.proofs.laws.dumps_show_graphs.Goals as goal

pub returns : goal.returns
returns c = dumps-show
