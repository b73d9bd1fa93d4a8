use Rattle.std.proofs.Common.{◌≢◌, ◌∙◌, refl, sym, ap, inr, arith}
use Rattle.cow_pages.specs.Memory.{Memory, page_at, is_live, is_written, flag_of}
use Rattle.cow_pages.specs.Change.{settled}
use Rattle.cow_pages.specs.View.{view_of}
use Rattle.memory_tests.proofs.Memories.{joined-apart, none-written}
use Rattle.memory_tests.proofs.pages.shares_leaves.Goals as goal

pub settle-requires : goal.settle-requires
settle-requires g c =
    let t = c.in_ok-t.t.0 in
    c.in_ok-write_u32.ensures.page.rest.live t ∙ c.in_ok-map_zero-3.ensures.rest.live t ∙ c.in_ok-map_zero-2.ensures.rest.live t ∙ c.in_ok-map_zero.ensures.rest.live t ∙ c.in_ok-t.ensures.live

pub fork_table-requires-clause-settled : goal.fork_table-requires-clause-settled
fork_table-requires-clause-settled g c =
    let t = c.in_ok-t.t.0 in
    none-written c.write_u32.new.self c.settle.new.self t c.settle.ensures.pages

pub leaf_of-requires-5 : goal.leaf_of-requires-5
leaf_of-requires-5 g c =
    let t = c.in_ok-t.t.0 in
    let u = c.in_ok-u.u.0 in
    let apart = joined-apart c.settle.new.self t u c.settle.ensures.live c.in_ok-u.ensures.fresh in
    c.in_ok-u.ensures.rest.live t apart ∙ c.settle.ensures.live

pub write_u32-requires-2-clause-mapped : goal.write_u32-requires-2-clause-mapped
write_u32-requires-2-clause-mapped g c =
    let t = c.in_ok-t.t.0 in
    c.in_ok-u.ensures.view.mapped 0x20000000 ∙ (c.settle.ensures.all_seen t).mapped 0x20000000 ∙ c.in_ok-write_u32.ensures.view.mapped 0x20000000 ∙ (c.in_ok-map_zero-3.ensures.view.others 0x20000000 (omega arith)).1 ∙ (c.in_ok-map_zero-2.ensures.view.others 0x20000000 (omega arith)).1 ∙ c.in_ok-map_zero.ensures.view.mapped 0x20000000 refl

pub leaf_of-requires-7 : goal.leaf_of-requires-7
leaf_of-requires-7 g c =
    let t = c.in_ok-t.t.0 in
    let u = c.in_ok-u.u.0 in
    let apart = joined-apart c.settle.new.self t u c.settle.ensures.live c.in_ok-u.ensures.fresh in
    c.in_ok-write_u32-2.ensures.page.rest.live t ∙ c.in_ok-u.ensures.rest.live t apart ∙ c.settle.ensures.live

pub read_u32-requires-clause-mapped : goal.read_u32-requires-clause-mapped
read_u32-requires-clause-mapped g c =
    let t = c.in_ok-t.t.0 in
    let u = c.in_ok-u.u.0 in
    let apart = joined-apart c.settle.new.self t u c.settle.ensures.live c.in_ok-u.ensures.fresh in
    (c.in_ok-write_u32-2.ensures.others_seen t apart).mapped 0x20000000 ∙ (c.in_ok-u.ensures.others_seen t apart).mapped 0x20000000 ∙ (c.settle.ensures.all_seen t).mapped 0x20000000 ∙ c.in_ok-write_u32.ensures.view.mapped 0x20000000 ∙ (c.in_ok-map_zero-3.ensures.view.others 0x20000000 (omega arith)).1 ∙ (c.in_ok-map_zero-2.ensures.view.others 0x20000000 (omega arith)).1 ∙ c.in_ok-map_zero.ensures.view.mapped 0x20000000 refl

pub release-requires-clause-alone : goal.release-requires-clause-alone
release-requires-clause-alone g c =
    let u = c.in_ok-u.u.0 in
    c.read_u32-2.ensures.sound.written_alone u 0x20000 (ap (λ (m : Memory). is_written m u 0x20000) c.read_u32-2.ensures.counts ∙ ap (λ (m : Memory). is_written m u 0x20000) c.read_u32.ensures.counts ∙ ap flag_of c.in_ok-write_u32-2.ensures.page.now)

pub drop_table-requires : goal.drop_table-requires
drop_table-requires g c =
    let t = c.in_ok-t.t.0 in
    let u = c.in_ok-u.u.0 in
    let apart = joined-apart c.settle.new.self t u c.settle.ensures.live c.in_ok-u.ensures.fresh in
    c.release.ensures.rest.live t ∙ ap (λ (m : Memory). is_live m t) c.read_u32-2.ensures.counts ∙ ap (λ (m : Memory). is_live m t) c.read_u32.ensures.counts ∙ c.in_ok-write_u32-2.ensures.page.rest.live t ∙ c.in_ok-u.ensures.rest.live t apart ∙ c.settle.ensures.live

pub write_u8-requires : goal.write_u8-requires
write_u8-requires g c =
    let t = c.in_ok-t.t.0 in
    let u = c.in_ok-u.u.0 in
    let apart = joined-apart c.settle.new.self t u c.settle.ensures.live c.in_ok-u.ensures.fresh in
    let back : u ≢ t = λ same. apart (sym same) in
    (c.drop_table.ensures.others_seen u back).mapped 0x20400000 ∙ (c.release.ensures.view.others 0x20400000 (omega arith)).1 ∙ ap (λ (m : Memory). (view_of m u).mapped 0x20400000) c.read_u32-2.ensures.counts ∙ ap (λ (m : Memory). (view_of m u).mapped 0x20400000) c.read_u32.ensures.counts ∙ c.in_ok-write_u32-2.ensures.view.mapped 0x20400000 ∙ c.in_ok-u.ensures.view.mapped 0x20400000 ∙ (c.settle.ensures.all_seen t).mapped 0x20400000 ∙ c.in_ok-write_u32.ensures.view.mapped 0x20400000 ∙ c.in_ok-map_zero-3.ensures.view.mapped 0x20400000 refl

pub release-requires-2-clause-mapped : goal.release-requires-2-clause-mapped
release-requires-2-clause-mapped g c =
    let t = c.in_ok-t.t.0 in
    let u = c.in_ok-u.u.0 in
    let apart = joined-apart c.settle.new.self t u c.settle.ensures.live c.in_ok-u.ensures.fresh in
    let back : u ≢ t = λ same. apart (sym same) in
    c.in_ok-write_u8.ensures.view.mapped 0x20400000 ∙ (c.drop_table.ensures.others_seen u back).mapped 0x20400000 ∙ (c.release.ensures.view.others 0x20400000 (omega arith)).1 ∙ ap (λ (m : Memory). (view_of m u).mapped 0x20400000) c.read_u32-2.ensures.counts ∙ ap (λ (m : Memory). (view_of m u).mapped 0x20400000) c.read_u32.ensures.counts ∙ c.in_ok-write_u32-2.ensures.view.mapped 0x20400000 ∙ c.in_ok-u.ensures.view.mapped 0x20400000 ∙ (c.settle.ensures.all_seen t).mapped 0x20400000 ∙ c.in_ok-write_u32.ensures.view.mapped 0x20400000 ∙ c.in_ok-map_zero-3.ensures.view.mapped 0x20400000 refl

pub release-requires-2-clause-alone : goal.release-requires-2-clause-alone
release-requires-2-clause-alone g c =
    let u = c.in_ok-u.u.0 in
    c.in_ok-write_u8.ensures.sound.written_alone u 0x20400 (ap flag_of c.in_ok-write_u8.ensures.page.now)

pub map_zero-requires-4-clause-live : goal.map_zero-requires-4-clause-live
map_zero-requires-4-clause-live g c =
    let t = c.in_ok-t.t.0 in
    let u = c.in_ok-u.u.0 in
    let apart = joined-apart c.settle.new.self t u c.settle.ensures.live c.in_ok-u.ensures.fresh in
    let back : u ≢ t = λ same. apart (sym same) in
    c.release-2.ensures.rest.live u ∙ c.in_ok-write_u8.ensures.page.rest.live u ∙ c.drop_table.ensures.rest.live u back ∙ c.release.ensures.rest.live u ∙ ap (λ (m : Memory). is_live m u) c.read_u32-2.ensures.counts ∙ ap (λ (m : Memory). is_live m u) c.read_u32.ensures.counts ∙ c.in_ok-write_u32-2.ensures.page.rest.live u ∙ c.in_ok-u.ensures.live

pub map_zero-requires-4-clause-unmapped : goal.map_zero-requires-4-clause-unmapped
map_zero-requires-4-clause-unmapped g c =
    let t = c.in_ok-t.t.0 in
    let u = c.in_ok-u.u.0 in
    let apart = joined-apart c.settle.new.self t u c.settle.ensures.live c.in_ok-u.ensures.fresh in
    let back : u ≢ t = λ same. apart (sym same) in
    c.release-2.ensures.rest.others u 0x9ffff (inr (omega arith)) ∙ c.in_ok-write_u8.ensures.page.rest.others u 0x9ffff (inr (omega arith)) ∙ c.drop_table.ensures.rest.others u 0x9ffff back ∙ c.release.ensures.rest.others u 0x9ffff (inr (omega arith)) ∙ ap (λ (m : Memory). page_at m u 0x9ffff) c.read_u32-2.ensures.counts ∙ ap (λ (m : Memory). page_at m u 0x9ffff) c.read_u32.ensures.counts ∙ c.in_ok-write_u32-2.ensures.page.rest.others u 0x9ffff (inr (omega arith)) ∙ c.in_ok-u.ensures.pages 0x9ffff ∙ c.settle.ensures.pages 0x9ffff ∙ ap settled (c.in_ok-write_u32.ensures.page.rest.others t 0x9ffff (inr (omega arith)) ∙ c.in_ok-map_zero-3.ensures.rest.others t 0x9ffff (inr (omega arith)) ∙ c.in_ok-map_zero-2.ensures.rest.others t 0x9ffff (inr (omega arith)) ∙ c.in_ok-map_zero.ensures.rest.others t 0x9ffff (inr (omega arith)) ∙ c.in_ok-t.ensures.pages 0x9ffff)

pub drop_table-requires-2 : goal.drop_table-requires-2
drop_table-requires-2 g c =
    let t = c.in_ok-t.t.0 in
    let u = c.in_ok-u.u.0 in
    let apart = joined-apart c.settle.new.self t u c.settle.ensures.live c.in_ok-u.ensures.fresh in
    let back : u ≢ t = λ same. apart (sym same) in
    c.in_ok-map_zero-4.ensures.rest.live u ∙ c.release-2.ensures.rest.live u ∙ c.in_ok-write_u8.ensures.page.rest.live u ∙ c.drop_table.ensures.rest.live u back ∙ c.release.ensures.rest.live u ∙ ap (λ (m : Memory). is_live m u) c.read_u32-2.ensures.counts ∙ ap (λ (m : Memory). is_live m u) c.read_u32.ensures.counts ∙ c.in_ok-write_u32-2.ensures.page.rest.live u ∙ c.in_ok-u.ensures.live
