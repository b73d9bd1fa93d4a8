use Rattle.std.proofs.Common.{◌/◌, ◌%◌, ℕ, Option, sym, ap, ◌∙◌, arith}
use Rattle.cow_pages.specs.Store.{entry_in}
use Rattle.cow_pages.proofs.SoundLemmas.{leaf_there}
use Rattle.cow_pages.proofs.ReadLemmas.{live_there}
use Rattle.cow_pages.proofs.store.Store.entry.Goals as goal

pub place-requires-clause-live : goal.place-requires-clause-live
place-requires-clause-live c = live_there c.args.self.now c.args.t c.requires.live

pub place-requires-clause-within : goal.place-requires-clause-within
place-requires-clause-within c = omega (arith, c.requires.store.room.rows c.args.t (live_there c.args.self.now c.args.t c.requires.live), c.if-page-ge-ALL_PAGES.false)

pub slot-requires-clause-leaf : goal.slot-requires-clause-leaf
slot-requires-clause-leaf c = leaf_there c.args.self.now c.requires.store.kept c.args.t (c.args.page / 1024) c.in-Some.leaf (sym c.place.ensures ∙ c.in-Some.is)

pub returns-in-Some : goal.returns-in-Some
returns-in-Some c =
    c.slot.ensures ∙ sym (ap (λ (o : Option ℕ). entry_in c.args.self.now o (c.args.page % 1024)) (sym c.place.ensures ∙ c.in-Some.is))
