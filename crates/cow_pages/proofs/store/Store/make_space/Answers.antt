use Rattle.std.proofs.Common.{refl}
use Rattle.cow_pages.proofs.JoinLemmas.{took}
use Rattle.cow_pages.proofs.store.Store.make_space.Goals as goal

pub returns-in_err-make_room-clause-store : goal.returns-in_err-make_room-clause-store
returns-in_err-make_room-clause-store c =
    let s = c.args.self.now in
    let frames = c.make_room.ensures.same in
    (took s (record s { frame_counts = c.make_room.new.self }) c.requires
    (record {
      frames = refl;
      leaves = refl;
      frame_counts = frames.counts;
      leaf_counts = refl;
      frame_spare = frames.spare;
      leaf_spare = refl;
      frames_tallied = c.make_room.ensures.tallied;
      leaves_tallied = c.requires.room.leaves_tallied;
      tables = refl;
      numbers = refl;
      reads = refl;
    })).store

pub returns-in_err-make_room-2-clause-store : goal.returns-in_err-make_room-2-clause-store
returns-in_err-make_room-2-clause-store c =
    let s = c.args.self.now in
    let frames = c.make_room.ensures.same in
    let leaves = c.make_room-2.ensures.same in
    (took s (record s { frame_counts = c.make_room.new.self; leaf_counts = c.make_room-2.new.self }) c.requires
    (record {
      frames = refl;
      leaves = refl;
      frame_counts = frames.counts;
      leaf_counts = leaves.counts;
      frame_spare = frames.spare;
      leaf_spare = leaves.spare;
      frames_tallied = c.make_room.ensures.tallied;
      leaves_tallied = c.make_room-2.ensures.tallied;
      tables = refl;
      numbers = refl;
      reads = refl;
    })).store

pub returns-in_err-reserve-clause-store : goal.returns-in_err-reserve-clause-store
returns-in_err-reserve-clause-store c =
    let s = c.args.self.now in
    let frames = c.make_room.ensures.same in
    let leaves = c.make_room-2.ensures.same in
    (took s (record s { frames = c.reserve.new.self; frame_counts = c.make_room.new.self; leaf_counts = c.make_room-2.new.self }) c.requires
    (record {
      frames = c.reserve.ensures.items;
      leaves = refl;
      frame_counts = frames.counts;
      leaf_counts = leaves.counts;
      frame_spare = frames.spare;
      leaf_spare = leaves.spare;
      frames_tallied = c.make_room.ensures.tallied;
      leaves_tallied = c.make_room-2.ensures.tallied;
      tables = refl;
      numbers = refl;
      reads = refl;
    })).store

pub returns-clause-store : goal.returns-clause-store
returns-clause-store c =
    let s = c.args.self.now in
    let frames = c.make_room.ensures.same in
    let leaves = c.make_room-2.ensures.same in
    (took s (record s { frames = c.reserve.new.self; frame_counts = c.make_room.new.self; leaves = c.reserve-2.new.self; leaf_counts = c.make_room-2.new.self }) c.requires
    (record {
      frames = c.reserve.ensures.items;
      leaves = c.reserve-2.ensures.items;
      frame_counts = frames.counts;
      leaf_counts = leaves.counts;
      frame_spare = frames.spare;
      leaf_spare = leaves.spare;
      frames_tallied = c.make_room.ensures.tallied;
      leaves_tallied = c.make_room-2.ensures.tallied;
      tables = refl;
      numbers = refl;
      reads = refl;
    })).store

pub returns-clause-same : goal.returns-clause-same
returns-clause-same c =
    let s = c.args.self.now in
    let frames = c.make_room.ensures.same in
    let leaves = c.make_room-2.ensures.same in
    (took s (record s { frames = c.reserve.new.self; frame_counts = c.make_room.new.self; leaves = c.reserve-2.new.self; leaf_counts = c.make_room-2.new.self }) c.requires
    (record {
      frames = c.reserve.ensures.items;
      leaves = c.reserve-2.ensures.items;
      frame_counts = frames.counts;
      leaf_counts = leaves.counts;
      frame_spare = frames.spare;
      leaf_spare = leaves.spare;
      frames_tallied = c.make_room.ensures.tallied;
      leaves_tallied = c.make_room-2.ensures.tallied;
      tables = refl;
      numbers = refl;
      reads = refl;
    })).same
