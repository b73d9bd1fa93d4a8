use Rattle.script_make.proofs.ScriptLemmas.{made_lines-+}
use Rattle.script_make.proofs.laws.lines_go_on.Goals as goal

pub returns : goal.returns
returns c = made_lines-+
