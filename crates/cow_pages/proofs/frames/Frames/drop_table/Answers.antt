use Rattle.cow_pages.proofs.SoundLemmas.{sound}
use Rattle.cow_pages.proofs.LawLemmas.{free_at_end}
use Rattle.cow_pages.proofs.ViewLemmas.{OthersSeen-table, page_at-ended, IsEmptyView-ended}
use Rattle.cow_pages.proofs.frames.Frames.drop_table.Goals as goal

pub drop_table-requires : goal.drop_table-requires
drop_table-requires c = record { store = c.self.invariant; live = rw (← c.self.view_is) at c.requires }

pub invariant_of-self : goal.invariant_of-self
invariant_of-self c = c.drop_table.ensures.store

pub returns-clause-rest : goal.returns-clause-rest
returns-clause-rest c = rw (← c.self.view_is) c.drop_table.ensures.rest

pub returns-clause-others_seen : goal.returns-clause-others_seen
returns-clause-others_seen c = rw (← c.self.view_is) (OthersSeen-table _ _ _ c.drop_table.ensures.rest)

pub returns-clause-room : goal.returns-clause-room
returns-clause-room c = rw (← c.self.view_is) c.drop_table.ensures.room

pub returns-clause-sound : goal.returns-clause-sound
returns-clause-sound c = sound _ c.drop_table.ensures.store

pub returns-clause-unmapped : goal.returns-clause-unmapped
returns-clause-unmapped c = page_at-ended _ _ _ c.drop_table.ensures.rest c.drop_table.ensures.ended

pub returns-clause-view : goal.returns-clause-view
returns-clause-view c = IsEmptyView-ended _ _ _ c.drop_table.ensures.rest c.drop_table.ensures.ended

pub returns-clause-freed : goal.returns-clause-freed
returns-clause-freed c = rw (← c.self.view_is) (λ p f one is. free_at_end _ _ c.args.t.0 p f c.drop_table.ensures.rest (page_at-ended _ _ _ c.drop_table.ensures.rest c.drop_table.ensures.ended) one is)

pub returns-clause-leaves : goal.returns-clause-leaves
returns-clause-leaves c = rw (← c.self.view_is) c.drop_table.ensures.leaves

pub returns-clause-used : goal.returns-clause-used
returns-clause-used c = rw (← c.self.view_is) c.drop_table.ensures.used
