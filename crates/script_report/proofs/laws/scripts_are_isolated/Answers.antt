use Rattle.std.proofs.Common.{sym, ap, ◌∙◌, map}
use Rattle.heap_world.specs.World.{first_world}
use Rattle.script_lang.specs.Parts.{lines}
use Rattle.script_report.specs.Own.{commands}
use Rattle.script_report.proofs.OwnAlone.{commands_fine, script_alone}
use Rattle.script_report.proofs.OwnCommands.{world_after-commands}
use Rattle.script_report.proofs.laws.scripts_are_isolated.Goals as goal

pub returns-clause-alone : goal.returns-clause-alone
returns-clause-alone c budget text fine = script_alone budget text (c.processes_are_isolated.ensures.alone budget 1 (commands text) (commands_fine budget text fine))

pub returns-clause-names : goal.returns-clause-names
returns-clause-names c budget text =
    c.processes_are_isolated.ensures.names budget 1 (commands text)
    ∙ ap (λ w. map (λ q. q.name) w.processes) (sym (world_after-commands (first_world budget 1) 1 (lines text)))
