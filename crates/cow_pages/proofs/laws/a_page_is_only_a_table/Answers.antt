use Rattle.cow_pages.proofs.OnlyLemmas.{only-page}
use Rattle.cow_pages.proofs.laws.a_page_is_only_a_table.Goals as goal

pub returns : goal.returns
returns c = only-page
