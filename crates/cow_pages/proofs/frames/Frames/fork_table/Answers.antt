use Rattle.std.proofs.Common.{ap, ◌∙◌}
use Rattle.cow_pages.specs.Memory.{flag_of}
use Rattle.cow_pages.proofs.SoundLemmas.{sound}
use Rattle.cow_pages.proofs.RoomLemmas.{on_err}
use Rattle.cow_pages.proofs.ViewLemmas.{SameView-pages, OthersSeen-table}
use Rattle.cow_pages.proofs.frames.Frames.fork_table.Goals as goal

pub fork_table-requires : goal.fork_table-requires
fork_table-requires c = record { store = c.self.invariant; live = rw (← c.self.view_is) at c.requires.live; settled = rw (← c.self.view_is) at c.requires.settled }

pub invariant_of-self : goal.invariant_of-self
invariant_of-self c = c.fork_table.ensures.store

pub returns-clause-fresh : goal.returns-clause-fresh
returns-clause-fresh c = rw (← c.self.view_is) c.in_ok-fork_table.ensures.fresh

pub returns-clause-live : goal.returns-clause-live
returns-clause-live c = c.in_ok-fork_table.ensures.live

pub returns-clause-pages : goal.returns-clause-pages
returns-clause-pages c = rw (← c.self.view_is) c.in_ok-fork_table.ensures.pages

pub returns-clause-rest : goal.returns-clause-rest
returns-clause-rest c = rw (← c.self.view_is) c.in_ok-fork_table.ensures.rest

pub returns-clause-view : goal.returns-clause-view
returns-clause-view c = rw (← c.self.view_is) (SameView-pages _ _ _ _ c.in_ok-fork_table.ensures.pages)

pub returns-clause-others_seen : goal.returns-clause-others_seen
returns-clause-others_seen c = rw (← c.self.view_is) (OthersSeen-table _ _ _ c.in_ok-fork_table.ensures.rest)

pub returns-clause-room : goal.returns-clause-room
returns-clause-room c = rw (← c.self.view_is) c.fork_table.ensures.room

pub returns-clause-sound : goal.returns-clause-sound
returns-clause-sound c = sound _ c.fork_table.ensures.store

pub returns-in_err-fork_table-clause-room : goal.returns-in_err-fork_table-clause-room
returns-in_err-fork_table-clause-room c = rw (← c.self.view_is) c.fork_table.ensures.room

pub returns-in_err-fork_table-clause-sound : goal.returns-in_err-fork_table-clause-sound
returns-in_err-fork_table-clause-sound c = sound _ c.fork_table.ensures.store

pub returns-in_err-fork_table-clause-err : goal.returns-in_err-fork_table-clause-err
returns-in_err-fork_table-clause-err c = rw (← c.self.view_is) (on_err _ c.in_err-fork_table.ensures.err)

pub returns-clause-settled : goal.returns-clause-settled
returns-clause-settled c = λ p.
    ap flag_of (c.in_ok-fork_table.ensures.pages p) ∙ (rw (← c.self.view_is) at c.requires.settled) p

pub returns-clause-leaves : goal.returns-clause-leaves
returns-clause-leaves c = rw (← c.self.view_is) c.in_ok-fork_table.ensures.leaves

pub returns-clause-used : goal.returns-clause-used
returns-clause-used c = rw (← c.self.view_is) c.fork_table.ensures.used

pub returns-in_err-fork_table-clause-used : goal.returns-in_err-fork_table-clause-used
returns-in_err-fork_table-clause-used c = rw (← c.self.view_is) c.fork_table.ensures.used
