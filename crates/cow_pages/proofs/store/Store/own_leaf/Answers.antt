use Rattle.std.proofs.Common.{arith}
use Rattle.cow_pages.proofs.store.Store.own_leaf.Goals as goal

pub place-requires-clause-within : goal.place-requires-clause-within
place-requires-clause-within c = omega (arith, c.requires.within, c.requires.store.room.rows c.args.t c.requires.live)
