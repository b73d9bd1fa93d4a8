use Rattle.hprof_records.specs.Parts.{bytes_of_part}
use Rattle.hprof_records.specs.Formed.{IsPart}
use Rattle.hprof_read.proofs.LawLemmas.{longest_dump}
use Rattle.hprof_read.proofs.Unique.{one_part, not_past}
use Rattle.hprof_read.proofs.laws.longest_fronts.Goals as goal

pub returns-clause-dumps : goal.returns-clause-dumps
returns-clause-dumps c time other records others rest more f g fr gs none e = longest_dump time other records others rest more f g fr gs none e

pub returns-clause-parts : goal.returns-clause-parts
returns-clause-parts c parts others rest more f g none e = not_past bytes_of_part IsPart one_part others parts more rest g f e none
