use Rattle.cow_pages.proofs.LawLemmas.{numbers}
use Rattle.cow_pages.proofs.laws.numbers_are_bytes.Goals as goal

pub returns : goal.returns
returns c = numbers
