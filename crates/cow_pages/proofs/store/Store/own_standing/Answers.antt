use Rattle.std.proofs.Common.{sym, ◌∙◌}
use Rattle.cow_pages.proofs.SharedLemmas.{leaf_held, leaf_within}
use Rattle.cow_pages.proofs.StoreLemmas.{readied_same}
use Rattle.cow_pages.proofs.store.Store.own_standing.Goals as goal

pub holders-requires : goal.holders-requires
holders-requires c =
    let s = c.args.self.now in
    leaf_within s c.args.leaf (leaf_held s c.requires.store.kept.counts c.args.t c.args.index c.args.leaf c.requires.place)

pub returns-then-holders-eq1 : goal.returns-then-holders-eq1
returns-then-holders-eq1 c =
    let all = readied_same c.args.self.now c.requires.store c.args.t c.args.index c.args.leaf c.requires.place (sym c.holders.ensures ∙ c.if-holders-eq1.true) in
    record { ready = all.ready; same = all.same; leaf = all.leaf; room = all.room }
