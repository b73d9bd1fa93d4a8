use Rattle.std.proofs.Common.{◌≡◌, arith, ap}
use Rattle.std.specs.Prelude.{◌-◌}
use Rattle.std.proofs.lemmas.Result.{on_ok_weaker}
use Rattle.cow_pages.specs.Memory.{Memory, page_at}
use Rattle.cow_pages.specs.Store.{shown}
use Rattle.cow_pages.specs.Steps.{AddsRoom}
use Rattle.cow_pages.proofs.SoundLemmas.{counted, all_leaves, sound}
use Rattle.cow_pages.proofs.RoomLemmas.{by_result, rest_of}
use Rattle.cow_pages.proofs.ViewLemmas.{SameView-pages}
use Rattle.cow_pages.proofs.frames.Frames.reserve.Goals as goal

pub reserve-requires : goal.reserve-requires
reserve-requires c = c.self.invariant

pub invariant_of-self : goal.invariant_of-self
invariant_of-self c = c.reserve.ensures.store

pub returns-clause-room : goal.returns-clause-room
returns-clause-room c = on_ok_weaker c.reserve.result (λ (m : AddsRoom c.self.inside.store c.reserve.new.self (c.args.k - c.self.inside.store.frame_counts.spare) (c.args.k - c.self.inside.store.leaf_counts.spare)). omega (arith, ap (λ (it : Memory). it.spare) m.seen)) c.reserve.ensures.made

pub returns-clause-rest : goal.returns-clause-rest
returns-clause-rest c =
    let s = c.self.inside.store in
    let new = c.reserve.new.self in
    let rest : shown new ≡ record (shown s) { frames = (shown new).frames; leaf_count = (shown new).leaf_count; spare = (shown new).spare } =
    by_result c.reserve.result c.reserve.ensures.made c.reserve.ensures.err (λ m. rest_of (shown new) (shown s) _ _ _ m.seen) (λ e. rest_of (shown new) (shown s) (shown s).frames (shown s).leaf_count (shown s).spare e) in
    rw (← c.self.view_is) rest

pub returns-clause-all_seen : goal.returns-clause-all_seen
returns-clause-all_seen c =
    let s = c.self.inside.store in
    let new = c.reserve.new.self in
    let rest : shown new ≡ record (shown s) { frames = (shown new).frames; leaf_count = (shown new).leaf_count; spare = (shown new).spare } =
    by_result c.reserve.result c.reserve.ensures.made c.reserve.ensures.err (λ m. rest_of (shown new) (shown s) _ _ _ m.seen) (λ e. rest_of (shown new) (shown s) (shown s).frames (shown s).leaf_count (shown s).spare e) in
    rw (← c.self.view_is) (λ u. SameView-pages (shown s) (shown new) u u (λ p. ap (λ (m : Memory). page_at m u p) rest))

pub returns-clause-frames : goal.returns-clause-frames
returns-clause-frames c =
    let s = c.self.inside.store in
    rw (← c.self.view_is)
    (on_ok_weaker c.reserve.result (λ (m : AddsRoom s c.reserve.new.self (c.args.k - s.frame_counts.spare) (c.args.k - s.leaf_counts.spare)).
    omega (arith, ap (λ (it : Memory). it.frames) m.seen, counted s c.self.invariant.kept c.self.invariant.room)) c.reserve.ensures.made)

pub returns-clause-leaves : goal.returns-clause-leaves
returns-clause-leaves c =
    let s = c.self.inside.store in
    rw (← c.self.view_is)
    (on_ok_weaker c.reserve.result (λ (m : AddsRoom s c.reserve.new.self (c.args.k - s.frame_counts.spare) (c.args.k - s.leaf_counts.spare)).
    omega (arith, ap (λ (it : Memory). it.leaf_count) m.seen, all_leaves s c.self.invariant.kept c.self.invariant.room)) c.reserve.ensures.made)

pub returns-clause-enough : goal.returns-clause-enough
returns-clause-enough c = rw (← c.self.view_is) c.reserve.ensures.enough

pub returns-clause-err : goal.returns-clause-err
returns-clause-err c = rw (← c.self.view_is) c.reserve.ensures.err

pub returns-clause-sound : goal.returns-clause-sound
returns-clause-sound c = sound _ c.reserve.ensures.store

pub returns-clause-no_more : goal.returns-clause-no_more
returns-clause-no_more c = rw (← c.self.view_is) (on_ok_weaker c.reserve.result (λ (m : AddsRoom c.self.inside.store c.reserve.new.self (c.args.k - c.self.inside.store.frame_counts.spare) (c.args.k - c.self.inside.store.leaf_counts.spare)). omega (arith, ap (λ (it : Memory). it.spare) m.seen)) c.reserve.ensures.made)

pub returns-clause-was_sound : goal.returns-clause-was_sound
returns-clause-was_sound c = rw (← c.self.view_is) (sound c.self.inside.store c.self.invariant)
