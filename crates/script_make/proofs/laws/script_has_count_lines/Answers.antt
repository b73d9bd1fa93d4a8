use Rattle.std.proofs.Common.{arith}
use Rattle.script_make.proofs.ScriptLemmas.{length-made_lines}
use Rattle.script_make.specs.Script.{first_state}
use Rattle.script_make.proofs.laws.script_has_count_lines.Goals as goal

pub returns : goal.returns
returns c start count = omega (arith, length-made_lines count (first_state start))
