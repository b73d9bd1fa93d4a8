use Rattle.std.proofs.Common.{refl}
use Rattle.region_lists.specs.Chains.{fill_in}
use Rattle.region_lists.proofs.ChainLemmas.{chain-push}
use Rattle.region_lists.proofs.chains.Chain.push.Goals as goal

pub returns-clause-chain : goal.returns-clause-chain
returns-clause-chain c =
    let es = c.args.entries.now in
    let s = c.args.self.now in
    chain-push es c.args.region s.first s.count (record { next = s.first; fill = fill_in es c.args.region }) c.requires.within refl c.requires.apart
