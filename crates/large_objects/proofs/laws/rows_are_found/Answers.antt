use Rattle.large_objects.specs.Rows.{marked_at, promoted_row}
use Rattle.large_objects.proofs.LawLemmas.{row-map, row-of}
use Rattle.large_objects.proofs.RowLemmas.{keeps-promoted}
use Rattle.large_objects.proofs.TableLemmas.{keeps-marked}
use Rattle.large_objects.proofs.laws.rows_are_found.Goals as goal

pub returns-clause-found : goal.returns-clause-found
returns-clause-found c = λ rows row a is. row-of rows is.0 row a.apart is.1 is.2

pub returns-clause-marked : goal.returns-clause-marked
returns-clause-marked c = λ rows a b. row-map (marked_at a) (keeps-marked a) rows b

pub returns-clause-promoted : goal.returns-clause-promoted
returns-clause-promoted c = λ rows at. row-map promoted_row keeps-promoted rows at
