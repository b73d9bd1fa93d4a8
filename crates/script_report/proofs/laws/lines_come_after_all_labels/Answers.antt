use Rattle.script_report.proofs.Wanting.{between_left, labels_of_lines}
use Rattle.script_report.proofs.laws.lines_come_after_all_labels.Goals as goal

pub returns-clause-earlier : goal.returns-clause-earlier
returns-clause-earlier c = labels_of_lines

pub returns-clause-left : goal.returns-clause-left
returns-clause-left c = between_left
