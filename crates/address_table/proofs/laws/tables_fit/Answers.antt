use Rattle.address_table.proofs.Fitting.{fits}
use Rattle.address_table.proofs.laws.tables_fit.Goals as goal

pub returns : goal.returns
returns c = fits
