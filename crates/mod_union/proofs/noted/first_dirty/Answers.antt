use Rattle.std.proofs.Common.{refl, arith}
use Rattle.mod_union.proofs.Cards.{found-dirty, least-dirty, none-dirty}
use Rattle.mod_union.proofs.noted.first_dirty.Goals as goal

pub returns-in-Some-clause-dirty : goal.returns-in-Some-clause-dirty
returns-in-Some-clause-dirty c =
    let it = found-dirty c.args.cards.now c.args.from c.in-Some.at.0 c.in-Some.ensures.found in
    record { most = omega arith; dirty = λ less. it.1 }

pub returns-in-Some-clause-first : goal.returns-in-Some-clause-first
returns-in-Some-clause-first c card low high = least-dirty c.args.cards.now c.args.from c.in-Some.at.0 card c.in-Some.ensures.found low high

pub returns-in-None-clause-first : goal.returns-in-None-clause-first
returns-in-None-clause-first c card low high = none-dirty c.args.cards.now c.args.from card (c.in-None.ensures.none.0 refl) low
