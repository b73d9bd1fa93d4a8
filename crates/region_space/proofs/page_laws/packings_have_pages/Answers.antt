use Rattle.region_space.proofs.PackedLemmas.{packed-before, packed-rows, packed-step, used-before}
use Rattle.region_space.proofs.page_laws.packings_have_pages.Goals as goal

pub returns-clause-rows : goal.returns-clause-rows
returns-clause-rows c = λ rows sizes pack. packed-rows rows sizes pack

pub returns-clause-step : goal.returns-clause-step
returns-clause-step c = λ rows region size. packed-step rows region size

pub returns-clause-before : goal.returns-clause-before
returns-clause-before c = λ before more sizes. packed-before before more sizes

pub returns-clause-used : goal.returns-clause-used
returns-clause-used c = λ before more. used-before before more
