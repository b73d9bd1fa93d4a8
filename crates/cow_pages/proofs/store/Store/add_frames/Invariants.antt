use Rattle.std.proofs.Common.{◌≡◌, ◌+◌, ◌++◌, ◌≤◌, vec_len, vec_capacity}
use Rattle.std.specs.Prelude.{replicate}
use Rattle.page_tables.specs.Frame.{zero_frame}
use Rattle.cow_pages.proofs.store.Store.add_frames.Given as goal

abbrev pub invariant-loop-i : goal.invariant-loop-i
invariant-loop-i l = record {
  items : l.self.frames.items ≡ l.fn.self.frames.items ++ replicate l._i zero_frame;
  len : vec_len l.self.frames ≡ vec_len l.fn.self.frames + l._i;
  room : vec_len l.fn.self.frames + l.fn.count ≤ vec_capacity l.self.frames;
  counts : l.self.frame_counts ≡ l.initial.self.frame_counts;
  rest : l.self ≡ record l.fn.self { frames = l.self.frames; frame_counts = l.self.frame_counts };
}
