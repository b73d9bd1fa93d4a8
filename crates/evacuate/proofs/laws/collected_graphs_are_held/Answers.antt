use Rattle.evacuate.proofs.Kept.{heap-left, stood-before}
use Rattle.evacuate.proofs.laws.collected_graphs_are_held.Goals as goal

pub returns-clause-held : goal.returns-clause-held
returns-clause-held c = heap-left

pub returns-clause-slots : goal.returns-clause-slots
returns-clause-slots c = stood-before
