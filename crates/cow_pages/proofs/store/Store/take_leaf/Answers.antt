use Rattle.std.proofs.Common.{arith}
use Rattle.cow_pages.proofs.StoreLemmas.{taken}
use Rattle.cow_pages.proofs.store.Store.take_leaf.Goals as goal

pub set_place-requires-clause-within : goal.set_place-requires-clause-within
set_place-requires-clause-within c = omega (arith, c.requires.within, c.requires.store.room.rows c.args.t c.requires.live)

pub returns : goal.returns
returns c =
    let all = taken c.args.self.now c.set_place.new.self c.args.t c.args.index c.take-leaf.result c.take-leaf.new.self c.requires.store c.requires.live c.requires.within c.requires.absent
    c.take-leaf.ensures.free c.take-leaf.ensures.within c.take-leaf.ensures.counts c.take-leaf.ensures.spare c.take-leaf.ensures.tallied c.set_place.ensures.grid
    (record { kept = c.set_place.ensures.counts.kept; live = c.set_place.ensures.counts.live; len = c.set_place.ensures.counts.len }) c.set_place.ensures.rest in
    record { ready = all.ready; same = all.same; leaf = all.leaf; room = all.room }
