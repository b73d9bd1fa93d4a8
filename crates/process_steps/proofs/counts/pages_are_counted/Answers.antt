use Rattle.process_steps.proofs.ToldPages.{pages-told}
use Rattle.process_steps.proofs.counts.pages_are_counted.Goals as goal

pub returns : goal.returns
returns c = pages-told
