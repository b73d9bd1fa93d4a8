use Rattle.std.proofs.Common.{◌≢◌, ◌∙◌, ◌+◌, ◌<◌, ◌∷◌, ◌++◌, [], length, refl, sym, ap}
use Rattle.region_lists.specs.Chains.{chain_from, chain_of, fill_in}
use Rattle.region_lists.proofs.ChainLemmas.{chain-appended, chain-holds, relinks-none, relinks-one}
use Rattle.region_lists.proofs.chains.Chain.append.Goals as goal
use Rattle.region_lists.proofs.chains.Chain.append.Goals.{then-self-eq0, else-self-eq0}

pub bounds-entries-self : goal.bounds-entries-self
bounds-entries-self c =
    let es = c.args.entries.now in
    let s = c.args.self.now in
    chain-holds (λ n. n < length es) es s.first s.count s.last c.if-self-eq0.false c.requires.ends c.requires.within

pub returns-clause-chain : goal.returns-clause-chain
returns-clause-chain c =
    let es = c.args.entries.now in
    let s = c.args.self.now in
    let region = c.args.region in
    elim c.if-self-eq0.branch [
      | then-self-eq0 w ↦
          rw (w.self-is, w.entries-is)
          (ap (λ n. chain_from es region (n + 1)) w.if-self-eq0.true ∙ sym (ap (λ n. chain_from es s.first n ++ region ∷ []) w.if-self-eq0.true))
      | else-self-eq0 w ↦
          let within = chain-holds (λ n. n < length es) es s.first s.count s.last w.if-self-eq0.false c.requires.ends c.requires.within in
          rw (w.self-is, w.entries-is)
          (chain-appended es s.first s.count s.last region (record { next = region; fill = fill_in es s.last }) within w.if-self-eq0.false c.requires.apart c.requires.ends refl)
    ]

pub returns-clause-relinks : goal.returns-clause-relinks
returns-clause-relinks c =
    let es = c.args.entries.now in
    let s = c.args.self.now in
    elim c.if-self-eq0.branch [
      | then-self-eq0 w ↦ rw w.entries-is (relinks-none es (chain_of es s))
      | else-self-eq0 w ↦
          let within = chain-holds (λ n. n < length es) es s.first s.count s.last w.if-self-eq0.false c.requires.ends c.requires.within in
          rw w.entries-is
          (relinks-one es s.last (record { next = c.args.region; fill = fill_in es s.last }) (chain_of es s) within refl
          (λ k none same. chain-holds (λ n. n ≢ k) es s.first s.count s.last w.if-self-eq0.false c.requires.ends none (sym same)))
    ]
