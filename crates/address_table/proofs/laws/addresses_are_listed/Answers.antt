use Rattle.address_table.proofs.Listed.{listed}
use Rattle.address_table.proofs.laws.addresses_are_listed.Goals as goal

pub returns : goal.returns
returns c = λ homes g formed. listed homes g.classes 0 g.next 0 0 g.objects formed.numbers
