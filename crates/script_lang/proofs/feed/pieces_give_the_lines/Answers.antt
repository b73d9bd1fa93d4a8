use Rattle.script_lang.proofs.FeedingLemmas.{come-lines}
use Rattle.script_lang.proofs.feed.pieces_give_the_lines.Goals as goal

pub returns-clause-every_cutting : goal.returns-clause-every_cutting
returns-clause-every_cutting c = come-lines
