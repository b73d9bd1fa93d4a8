use Rattle.std.proofs.Common.{◌-◌, ◌<◌, length, subst, All}
use Rattle.std.proofs.lemmas.List.Elements.{All-head}
use Rattle.region_lists.specs.Chains.{chain_from, next_in}
use Rattle.region_lists.proofs.ChainLemmas.{chain-pop}
use Rattle.region_lists.proofs.chains.Chain.pop.Goals as goal

pub bounds-entries-region : goal.bounds-entries-region
bounds-entries-region c =
    let es = c.args.entries.now in
    let s = c.args.self.now in
    All-head (λ n. n < length es) s.first (chain_from es (next_in es s.first) (s.count - 1))
    (subst (All (λ n. n < length es)) (chain-pop es s.first s.count c.requires.some) c.requires.within)
