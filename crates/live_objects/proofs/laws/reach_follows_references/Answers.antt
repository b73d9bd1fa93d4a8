use Rattle.live_objects.proofs.ReachLemmas.{reached-cases, reached-held, reached-more, reached-node, reached-start}
use Rattle.live_objects.proofs.laws.reach_follows_references.Goals as goal

pub returns-clause-objects : goal.returns-clause-objects
returns-clause-objects c = λ cs rows raws starts b. reached-node cs rows raws starts b

pub returns-clause-starts : goal.returns-clause-starts
returns-clause-starts c = λ cs rows raws starts b. reached-start cs rows raws starts b

pub returns-clause-held : goal.returns-clause-held
returns-clause-held c = λ cs rows raws starts a b. reached-held cs rows raws starts a b

pub returns-clause-only : goal.returns-clause-only
returns-clause-only c = λ cs rows raws starts b. reached-cases cs rows raws starts b

pub returns-clause-more : goal.returns-clause-more
returns-clause-more c = λ cs rows raws few many b. reached-more cs rows raws few many b
