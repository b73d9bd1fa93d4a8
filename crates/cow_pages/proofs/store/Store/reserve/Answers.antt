use Rattle.std.proofs.Common.{◌≡◌, ◌-◌, ℕ, subst, arith}
use Rattle.cow_pages.specs.Steps.{AddsRoom}
use Rattle.cow_pages.proofs.JoinLemmas.{reserved}
use Rattle.cow_pages.proofs.store.Store.reserve.Goals as goal

pub returns-clause-store : goal.returns-clause-store
returns-clause-store c =
    (reserved c.args.self.now c.make_space.new.self c.add_frames.new.self c.add_leaves.new.self c.saturating_sub-frames.result c.saturating_sub-leaves.result c.make_space.ensures.store c.make_space.ensures.same
    c.make_space.ensures.spare
    (record {
      frames = c.add_frames.ensures.frames;
      frame_counts = c.add_frames.ensures.counts;
      frame_spare = c.add_frames.ensures.spare;
      frames_tallied = c.add_frames.ensures.tallied;
      frames_rest = c.add_frames.ensures.rest;
      leaves = c.add_leaves.ensures.leaves;
      leaf_counts = c.add_leaves.ensures.counts;
      leaf_spare = c.add_leaves.ensures.spare;
      leaves_tallied = c.add_leaves.ensures.tallied;
      leaves_rest = c.add_leaves.ensures.rest;
    })).store

pub returns-clause-made : goal.returns-clause-made
returns-clause-made c =
    let s = c.args.self.now in
    let new = c.add_leaves.new.self in
    let n : c.saturating_sub-frames.result ≡ c.args.count - s.frame_counts.spare = omega arith in
    let k : c.saturating_sub-leaves.result ≡ c.args.count - s.leaf_counts.spare = omega arith in
    subst (λ (a : ℕ). AddsRoom s new a (c.args.count - s.leaf_counts.spare)) n
    (subst (λ (b : ℕ). AddsRoom s new c.saturating_sub-frames.result b) k
    (reserved s c.make_space.new.self c.add_frames.new.self new c.saturating_sub-frames.result c.saturating_sub-leaves.result c.make_space.ensures.store c.make_space.ensures.same c.make_space.ensures.spare
    (record {
      frames = c.add_frames.ensures.frames;
      frame_counts = c.add_frames.ensures.counts;
      frame_spare = c.add_frames.ensures.spare;
      frames_tallied = c.add_frames.ensures.tallied;
      frames_rest = c.add_frames.ensures.rest;
      leaves = c.add_leaves.ensures.leaves;
      leaf_counts = c.add_leaves.ensures.counts;
      leaf_spare = c.add_leaves.ensures.spare;
      leaves_tallied = c.add_leaves.ensures.tallied;
      leaves_rest = c.add_leaves.ensures.rest;
    })).made)
