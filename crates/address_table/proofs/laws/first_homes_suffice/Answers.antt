use Rattle.address_table.proofs.Homes.{suffice}
use Rattle.address_table.proofs.laws.first_homes_suffice.Goals as goal

pub returns : goal.returns
returns c = suffice
