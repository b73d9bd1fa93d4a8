use Rattle.script_report.proofs.OwnCommands.{allowance-commands, answers-commands, world_after-commands}
use Rattle.script_report.proofs.laws.commands_are_answered.Goals as goal

pub returns-clause-world : goal.returns-clause-world
returns-clause-world c = world_after-commands

pub returns-clause-answers : goal.returns-clause-answers
returns-clause-answers c = answers-commands

pub returns-clause-allowance : goal.returns-clause-allowance
returns-clause-allowance c = allowance-commands
