use Rattle.cow_pages.proofs.OnlyLemmas.{only-mapped, only-written, only-released, only-settled_live, only-read, only-reserved}
use Rattle.cow_pages.proofs.laws.calls_change_only_a_table.Goals as goal

pub returns : goal.returns
returns c = record {
  mapping = only-mapped;
  writing = only-written;
  releasing = only-released;
  settling = only-settled_live;
  reading = only-read;
  reserving = only-reserved;
}
