use Rattle.hprof_convert.specs.Identifiers.{ids_of}
use Rattle.hprof_convert.proofs.Numbers.{zero-stays, rename-injective, rename-numbered, numbers-used, rename-in-order}
use Rattle.hprof_convert.proofs.laws.renamed_names.Goals as goal

pub returns : goal.returns
returns c = record {
  zero = λ w records. zero-stays (ids_of w records);
  injective = λ w a b records. rename-injective (ids_of w records) a b;
  numbered = λ w id records. rename-numbered (ids_of w records) id;
  used = λ w n records. numbers-used (ids_of w records) n;
  in_order = λ w a b records. rename-in-order (ids_of w records) a b;
}
