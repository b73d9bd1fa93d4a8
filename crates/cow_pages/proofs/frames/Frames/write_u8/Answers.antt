use Rattle.std.proofs.Common.{◌∷◌, [], arith}
use Rattle.std.proofs.lemmas.Result.{on_ok_weaker}
use Rattle.cow_pages.specs.Change.{WritesPage}
use Rattle.cow_pages.specs.Store.{shown}
use Rattle.cow_pages.proofs.SoundLemmas.{sound}
use Rattle.cow_pages.proofs.ViewLemmas.{OthersSeen-page, WritesBytes-page, one_byte}
use Rattle.cow_pages.proofs.frames.Frames.write_u8.Goals as goal

pub write-requires-clause-mapped : goal.write-requires-clause-mapped
write-requires-clause-mapped c = rw (← c.self.view_is) at c.requires

pub invariant_of-self : goal.invariant_of-self
invariant_of-self c = c.write.ensures.store

pub returns-clause-page : goal.returns-clause-page
returns-clause-page c =
    let page = c.write.ensures.page in
    rw (← c.self.view_is) page

pub returns-clause-view : goal.returns-clause-view
returns-clause-view c =
    let page = c.write.ensures.page in
    rw (← c.self.view_is) (on_ok_weaker _ (λ w. WritesBytes-page (shown c.self.inside.store) (shown c.write.new.self) c.args.t.0 c.args.at.0 (c.args.v ∷ []) (sound c.self.inside.store c.self.invariant) (omega arith) w) page)

pub returns-clause-others_seen : goal.returns-clause-others_seen
returns-clause-others_seen c =
    let page = c.write.ensures.page in
    rw (← c.self.view_is) (on_ok_weaker _ (λ (w : WritesPage (shown c.self.inside.store) (shown c.write.new.self) c.args.t.0 c.args.at.0 (c.args.v ∷ [])). OthersSeen-page _ _ _ _ w.rest) page)

pub returns-clause-sound : goal.returns-clause-sound
returns-clause-sound c = sound _ c.write.ensures.store

pub returns-clause-reads_back : goal.returns-clause-reads_back
returns-clause-reads_back c =
    on_ok_weaker _ (λ (w : WritesPage (shown c.self.inside.store) (shown c.write.new.self) c.args.t.0 c.args.at.0 (c.args.v ∷ [])). one_byte (shown c.write.new.self) c.args.t.0 c.args.at.0 c.args.v (WritesBytes-page (shown c.self.inside.store) (shown c.write.new.self) c.args.t.0 c.args.at.0 (c.args.v ∷ []) (sound c.self.inside.store c.self.invariant) (omega arith) w).there) c.write.ensures.page

pub returns-clause-leaf : goal.returns-clause-leaf
returns-clause-leaf c = rw (← c.self.view_is) c.write.ensures.leaf
