use Rattle.large_objects.specs.Rows.{marked_at, promoted_row}
use Rattle.large_objects.proofs.LawLemmas.{pages-kept}
use Rattle.large_objects.proofs.RowLemmas.{keeps-promoted}
use Rattle.large_objects.proofs.TableLemmas.{keeps-marked}
use Rattle.large_objects.proofs.laws.marks_keep_pages.Goals as goal

pub returns-clause-marked : goal.returns-clause-marked
returns-clause-marked c = λ m t at rows has. pages-kept (marked_at at) (keeps-marked at) m t rows has

pub returns-clause-promoted : goal.returns-clause-promoted
returns-clause-promoted c = λ m t rows has. pages-kept promoted_row keeps-promoted m t rows has
