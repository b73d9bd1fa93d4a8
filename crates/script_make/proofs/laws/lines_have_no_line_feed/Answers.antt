use Rattle.std.proofs.Common.{arith}
use Rattle.script_make.proofs.OneLine.{one_line-made_lines}
use Rattle.script_make.specs.Script.{first_state}
use Rattle.script_make.proofs.laws.lines_have_no_line_feed.Goals as goal

pub returns : goal.returns
returns c start count = one_line-made_lines count (first_state start) (omega arith)
