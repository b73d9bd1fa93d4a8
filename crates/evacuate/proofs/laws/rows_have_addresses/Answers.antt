use Rattle.evacuate.proofs.Rows.{row-address}
use Rattle.evacuate.proofs.laws.rows_have_addresses.Goals as goal

pub returns : goal.returns
returns c = row-address
