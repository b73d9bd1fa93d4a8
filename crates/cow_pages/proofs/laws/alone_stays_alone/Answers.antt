use Rattle.cow_pages.proofs.OnlyLemmas.{alone-stays, ended-stays, forked-stays}
use Rattle.cow_pages.proofs.laws.alone_stays_alone.Goals as goal

pub returns : goal.returns
returns c = record {
  only = alone-stays;
  ended = ended-stays;
  forked = forked-stays;
}
