use Rattle.hprof_convert.proofs.Layouts.{layout-converted}
use Rattle.hprof_convert.proofs.ReadValues.{read-so}
use Rattle.hprof_convert.proofs.laws.values_are_renamed.Goals as goal

pub returns : goal.returns
returns c = record {
  layout = layout-converted;
  values = λ w records part values at is. (read-so w records part values at is).0;
  references = λ w records part values at is few. (read-so w records part values at is).1 few;
}
