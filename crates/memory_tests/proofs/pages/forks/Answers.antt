use Rattle.std.proofs.Common.{◌∙◌, refl, ap}
use Rattle.cow_pages.specs.Memory.{Memory, is_live}
use Rattle.memory_tests.proofs.Memories.{joined-apart}
use Rattle.memory_tests.proofs.pages.forks.Goals as goal

pub read_u32-requires-clause-mapped : goal.read_u32-requires-clause-mapped
read_u32-requires-clause-mapped g c =
    let t = c.in_ok-t.t.0 in
    let u = c.in_ok-u.u.0 in
    let apart = joined-apart c.settle.new.self t u c.settle.ensures.live c.in_ok-u.ensures.fresh in
    (c.in_ok-write_u32-2.ensures.others_seen t apart).mapped 0x20000000 ∙ (c.in_ok-u.ensures.others_seen t apart).mapped 0x20000000 ∙ (c.settle.ensures.all_seen t).mapped 0x20000000 ∙ c.in_ok-write_u32.ensures.view.mapped 0x20000000 ∙ c.in_ok-map_zero.ensures.view.mapped 0x20000000 refl

pub written-requires : goal.written-requires
written-requires g c =
    let t = c.in_ok-t.t.0 in
    let u = c.in_ok-u.u.0 in
    let apart = joined-apart c.settle.new.self t u c.settle.ensures.live c.in_ok-u.ensures.fresh in
    ap (λ (m : Memory). is_live m t) c.read_u32-2.ensures.counts ∙ ap (λ (m : Memory). is_live m t) c.read_u32.ensures.counts ∙ c.in_ok-write_u32-2.ensures.page.rest.live t ∙ c.in_ok-u.ensures.rest.live t apart ∙ c.settle.ensures.live

pub drop_table-requires : goal.drop_table-requires
drop_table-requires g c =
    let t = c.in_ok-t.t.0 in
    let u = c.in_ok-u.u.0 in
    let apart = joined-apart c.settle.new.self t u c.settle.ensures.live c.in_ok-u.ensures.fresh in
    ap (λ (m : Memory). is_live m t) c.read_u32-2.ensures.counts ∙ ap (λ (m : Memory). is_live m t) c.read_u32.ensures.counts ∙ c.in_ok-write_u32-2.ensures.page.rest.live t ∙ c.in_ok-u.ensures.rest.live t apart ∙ c.settle.ensures.live
