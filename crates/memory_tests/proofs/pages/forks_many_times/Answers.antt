use Rattle.std.proofs.Common.{◌∙◌, ap, arith}
use Rattle.std.specs.Prelude.{is_some}
use Rattle.cow_pages.specs.Memory.{Memory, flag_of}
use Rattle.cow_pages.specs.View.{view_of}
use Rattle.memory_tests.proofs.Memories.{joined-apart, none-written}
use Rattle.memory_tests.proofs.pages.forks_many_times.Goals as goal

pub settle-requires : goal.settle-requires
settle-requires g c =
    let t = c.in_ok-t.t.0 in
    c.in_ok-map_run.ensures.maps.live t ∙ c.in_ok-t.ensures.live

pub loop-init : goal.loop-init
loop-init g c =
    let t = c.in_ok-t.t.0 in
    record {
      live = c.settle.ensures.live;
      settled = none-written c.map_run.new.frames c.settle.new.self t c.settle.ensures.pages;
      first = (c.settle.ensures.all_seen t).mapped 0x20000000 ∙ ap is_some (c.in_ok-map_run.ensures.maps.zeros 0x20000 (record { from = omega arith; to = omega arith })).now;
    }

pub loop-preserved : goal.loop-preserved
loop-preserved g c =
    let t = c.in_ok-t.t.0 in
    let apart = joined-apart c.loop.frames t _ c.loop.invariant.live c.in_ok-fork_table.ensures.fresh in
    record {
      live = c.in_ok-fork_table.ensures.rest.live t apart ∙ c.loop.invariant.live;
      settled = λ p. ap flag_of (c.in_ok-fork_table.ensures.rest.others t p apart) ∙ c.loop.invariant.settled p;
      first = ap is_some (c.in_ok-fork_table.ensures.rest.others t 0x20000 apart) ∙ c.loop.invariant.first;
    }

pub write_u8-requires : goal.write_u8-requires
write_u8-requires g c =
    ap is_some (c.in_ok-last.ensures.pages 0x20000) ∙ c.loop.invariant.first

pub read_u8-requires : goal.read_u8-requires
read_u8-requires g c =
    c.in_ok-write_u8.ensures.view.mapped 0x20000000 ∙ ap is_some (c.in_ok-last.ensures.pages 0x20000) ∙ c.loop.invariant.first

pub read_u8-requires-2 : goal.read_u8-requires-2
read_u8-requires-2 g c =
    let t = c.in_ok-t.t.0 in
    let apart = joined-apart c.loop.frames t _ c.loop.invariant.live c.in_ok-last.ensures.fresh in
    ap (λ (m : Memory). (view_of m t).mapped 0x20000000) c.read_u8.ensures.counts ∙ (c.in_ok-write_u8.ensures.others_seen t apart).mapped 0x20000000 ∙ ap is_some (c.in_ok-last.ensures.rest.others t 0x20000 apart) ∙ c.loop.invariant.first
