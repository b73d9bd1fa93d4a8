use Rattle.std.proofs.Common.{ap}
use Rattle.std.specs.Prelude.{option_map}
use Rattle.cow_pages.specs.Memory.{Page}
use Rattle.cow_pages.specs.Change.{MapsZeros}
use Rattle.cow_pages.specs.Store.{shown}
use Rattle.cow_pages.proofs.LawLemmas.{one_from_free}
use Rattle.cow_pages.proofs.SoundLemmas.{sound}
use Rattle.cow_pages.proofs.RoomLemmas.{on_ok_both}
use Rattle.cow_pages.proofs.ViewLemmas.{OthersSeen-page, MapsPage-zeros}
use Rattle.cow_pages.proofs.frames.Frames.map_zero.Goals as goal

pub map_zero-requires : goal.map_zero-requires
map_zero-requires c = record { store = c.self.invariant; live = rw (← c.self.view_is) at c.requires.live; window = c.requires.window; unmapped = rw (← c.self.view_is) at c.requires.unmapped }

pub invariant_of-self : goal.invariant_of-self
invariant_of-self c = c.map_zero.ensures.store

pub returns-clause-zeros : goal.returns-clause-zeros
returns-clause-zeros c = rw (← c.self.view_is) c.map_zero.ensures.zeros

pub returns-clause-rest : goal.returns-clause-rest
returns-clause-rest c = rw (← c.self.view_is) c.map_zero.ensures.rest

pub returns-clause-view : goal.returns-clause-view
returns-clause-view c = rw (← c.self.view_is) (on_ok_both _ (λ zeros rest. MapsPage-zeros _ _ _ _ zeros rest) c.map_zero.ensures.zeros c.map_zero.ensures.rest)

pub returns-clause-others_seen : goal.returns-clause-others_seen
returns-clause-others_seen c = rw (← c.self.view_is) (on_ok_both _ (λ zeros rest. OthersSeen-page _ _ _ _ rest) c.map_zero.ensures.zeros c.map_zero.ensures.rest)

pub returns-clause-takes : goal.returns-clause-takes
returns-clause-takes c = rw (← c.self.view_is) c.map_zero.ensures.takes

pub returns-clause-succeeds : goal.returns-clause-succeeds
returns-clause-succeeds c = rw (← c.self.view_is) c.map_zero.ensures.succeeds

pub returns-clause-err : goal.returns-clause-err
returns-clause-err c = rw (← c.self.view_is) c.map_zero.ensures.err

pub returns-clause-sound : goal.returns-clause-sound
returns-clause-sound c = sound _ c.map_zero.ensures.store

pub returns-clause-one : goal.returns-clause-one
returns-clause-one c = rw (← c.self.view_is) c.map_zero.ensures.one

pub returns-clause-alone : goal.returns-clause-alone
returns-clause-alone c = on_ok_both _ (λ (zeros : MapsZeros (shown c.self.inside.store) (shown c.map_zero.new.self) c.args.t.0 c.args.page.0) rest. one_from_free (shown c.self.inside.store) (shown c.map_zero.new.self) c.args.t.0 c.args.page.0 zeros.frame rest zeros.frame_is (ap (option_map (λ (page : Page). page.frame)) zeros.now)) c.map_zero.ensures.zeros c.map_zero.ensures.rest

pub returns-clause-leaf : goal.returns-clause-leaf
returns-clause-leaf c = rw (← c.self.view_is) c.map_zero.ensures.leaf
