use Rattle.std.proofs.Common.{◌≡◌, ◌∙◌, ◌*◌, ◌%◌, ℕ, Err, List, inl, sym, ap, subst, arith}
use Rattle.page_tables.specs.declared.address.Addr.{Addr}
use Rattle.cow_pages.specs.Memory.{Memory}
use Rattle.cow_pages.specs.Only.{OnlyTable}
use Rattle.cow_pages.proofs.OnlyLemmas.{only-trans}
use Rattle.image_space.specs.Space.{pages_up_to, KeepsPages}
use Rattle.object_view.specs.Seen.{RoseBy}
use Rattle.raw_objects.specs.Raws.{Raws}
use Rattle.object_moves.specs.Turns.{reads_to_turn}
use Rattle.object_collection.specs.Collects.{state_of, HeapState}
use Rattle.zygote_space.specs.Space.{to_page, HasPagesUpTo}
use Rattle.object_promotion.specs.declared.promotion.PromoteError.TheVariants.{Full}
use Rattle.object_promotion.specs.Promotes.{bytes_at, LeavesPages}
use Rattle.object_promotion.proofs.Opened.{packed-there}
use Rattle.object_promotion.proofs.Walk.{bytes-eights}
use Rattle.object_promotion.proofs.Planned.{is-opened}
use Rattle.object_promotion.proofs.promotion.promote_objects.Goals as goal

pub young_bytes-total-requires : goal.young_bytes-total-requires
young_bytes-total-requires c =
    let h : HeapState = state_of c.args.classes.now c.args.regions.now c.args.larges.now c.args.roots.now c.args.slots.now in
    let can = c.requires.1.can in
    (c.requires.0, can.young.0, packed-there h c.args.frames.now c.args.t.0 c.requires.0 can.young.0 can can.young.1)

pub open_segment-requires-clause-multiple : goal.open_segment-requires-clause-multiple
open_segment-requires-clause-multiple c =
    let h : HeapState = state_of c.args.classes.now c.args.regions.now c.args.larges.now c.args.roots.now c.args.slots.now in
    let can = c.requires.1.can in
    let packed = packed-there h c.args.frames.now c.args.t.0 c.requires.0 can.young.0 can can.young.1 in
    let total = c.young_bytes-total.ensures.total c.requires.0 can.young.0 packed in
    ap (λ (n : ℕ). n % 8) total ∙ bytes-eights c.args.classes.now c.requires.0 can.young.0

pub open_segment-requires-clause-pages : goal.open_segment-requires-clause-pages
open_segment-requires-clause-pages c =
    subst (λ (m : Memory). HasPagesUpTo m c.args.t.0 c.args.zygote.now.fill) (sym (c.plan_promotion.ensures.same ∙ c.young_bytes-total.ensures.same)) c.requires.1.pages

pub carry_out-requires : goal.carry_out-requires
carry_out-requires c =
    let h : HeapState = state_of c.args.classes.now c.args.regions.now c.args.larges.now c.args.roots.now c.args.slots.now in
    let raws : Raws = c.requires.0 in
    let can = c.requires.1 in
    let opened = is-opened h c.args.frames.now c.young_bytes-total.new.frames c.plan_promotion.new.frames _ c.args.t.0 raws c.args.zygote.now _ _ _ can.can.young.0 can can.can.young.1 c.young_bytes-total.ensures.same c.plan_promotion.ensures.same
    (c.young_bytes-total.ensures.total raws can.can.young.0) (c.in_ok-plan.ensures.plan raws c.args.zygote.now can.can.young.0) c.in-Ok.ensures.opens c.in-Ok.ensures.maps c.open_segment.ensures.space c.open_segment.ensures.sound c.open_segment.ensures.pages in
    (c.args.slots.now, c.args.frames.now, raws, c.args.zygote.now, opened.0)

pub returns-in-Ok-clause-promoted : goal.returns-in-Ok-clause-promoted
returns-in-Ok-clause-promoted c raws can =
    let h : HeapState = state_of c.args.classes.now c.args.regions.now c.args.larges.now c.args.roots.now c.args.slots.now in
    let opened = is-opened h c.args.frames.now c.young_bytes-total.new.frames c.plan_promotion.new.frames _ c.args.t.0 raws c.args.zygote.now _ _ _ can.can.young.0 can can.can.young.1 c.young_bytes-total.ensures.same c.plan_promotion.ensures.same
    (c.young_bytes-total.ensures.total raws can.can.young.0) (c.in_ok-plan.ensures.plan raws c.args.zygote.now can.can.young.0) c.in-Ok.ensures.opens c.in-Ok.ensures.maps c.open_segment.ensures.space c.open_segment.ensures.sound c.open_segment.ensures.pages in
    (c.carry_out.ensures.done c.args.slots.now c.args.frames.now raws c.args.zygote.now opened.0).0

pub returns-in-Ok-clause-pages : goal.returns-in-Ok-clause-pages
returns-in-Ok-clause-pages c raws young can are =
    let h : HeapState = state_of c.args.classes.now c.args.regions.now c.args.larges.now c.args.roots.now c.args.slots.now in
    let opened = is-opened h c.args.frames.now c.young_bytes-total.new.frames c.plan_promotion.new.frames _ c.args.t.0 raws c.args.zygote.now _ _ _ young can are c.young_bytes-total.ensures.same c.plan_promotion.ensures.same
    (c.young_bytes-total.ensures.total raws young) (c.in_ok-plan.ensures.plan raws c.args.zygote.now young) c.in-Ok.ensures.opens c.in-Ok.ensures.maps c.open_segment.ensures.space c.open_segment.ensures.sound c.open_segment.ensures.pages in
    subst (λ (ats : List Addr). LeavesPages h c.args.frames.now c.carry_out.new.frames c.args.t.0 c.args.zygote.now.fill (bytes_at h raws ats)) opened.1
    (c.carry_out.ensures.done c.args.slots.now c.args.frames.now raws c.args.zygote.now opened.0).1

pub returns-in-Ok-clause-only : goal.returns-in-Ok-clause-only
returns-in-Ok-clause-only c =
    let h : HeapState = state_of c.args.classes.now c.args.regions.now c.args.larges.now c.args.roots.now c.args.slots.now in
    let raws : Raws = c.requires.0 in
    let can = c.requires.1 in
    let opened = is-opened h c.args.frames.now c.young_bytes-total.new.frames c.plan_promotion.new.frames _ c.args.t.0 raws c.args.zygote.now _ _ _ can.can.young.0 can can.can.young.1 c.young_bytes-total.ensures.same c.plan_promotion.ensures.same
    (c.young_bytes-total.ensures.total raws can.can.young.0) (c.in_ok-plan.ensures.plan raws c.args.zygote.now can.can.young.0) c.in-Ok.ensures.opens c.in-Ok.ensures.maps c.open_segment.ensures.space c.open_segment.ensures.sound c.open_segment.ensures.pages in
    let before = subst (λ (m : Memory). OnlyTable m c.open_segment.new.frames c.args.t.0) (c.plan_promotion.ensures.same ∙ c.young_bytes-total.ensures.same) c.open_segment.ensures.only in
    only-trans _ _ _ c.args.t.0 before (c.carry_out.ensures.done c.args.slots.now c.args.frames.now raws c.args.zygote.now opened.0).3

pub returns-in-Ok-clause-reads : goal.returns-in-Ok-clause-reads
returns-in-Ok-clause-reads c raws young can are =
    let h : HeapState = state_of c.args.classes.now c.args.regions.now c.args.larges.now c.args.roots.now c.args.slots.now in
    let opened = is-opened h c.args.frames.now c.young_bytes-total.new.frames c.plan_promotion.new.frames _ c.args.t.0 raws c.args.zygote.now _ _ _ young can are c.young_bytes-total.ensures.same c.plan_promotion.ensures.same
    (c.young_bytes-total.ensures.total raws young) (c.in_ok-plan.ensures.plan raws c.args.zygote.now young) c.in-Ok.ensures.opens c.in-Ok.ensures.maps c.open_segment.ensures.space c.open_segment.ensures.sound c.open_segment.ensures.pages in
    subst (λ (n : ℕ). RoseBy (reads_to_turn c.args.classes.now raws young) n c.carry_out.new.frames.reads) opened.0.maps.reads
    (subst (λ (ats : List Addr). RoseBy (reads_to_turn c.args.classes.now raws ats) c.open_segment.new.frames.reads c.carry_out.new.frames.reads) opened.1
    (c.carry_out.ensures.done c.args.slots.now c.args.frames.now raws c.args.zygote.now opened.0).2)

pub returns-then-total-fill-clause-full : goal.returns-then-total-fill-clause-full
returns-then-total-fill-clause-full c raws young can are much =
    let h : HeapState = state_of c.args.classes.now c.args.regions.now c.args.larges.now c.args.roots.now c.args.slots.now in
    let total = c.young_bytes-total.ensures.total raws young (packed-there h c.args.frames.now c.args.t.0 raws young can.can are) in
    let fill = c.fill.ensures.fill in
    let up = c.div_ceil-fill.ensures in
    let rounded : c.div_ceil-fill.result * 4096 ≡ to_page c.args.zygote.now.fill = omega (arith, fill, up) in
    (ap (λ (n : ℕ). Err (Full n c.young_bytes-total.result)) rounded ∙ ap (λ (n : ℕ). Err (Full (to_page c.args.zygote.now.fill) n)) total, c.young_bytes-total.ensures.same)

pub returns-then-total-fill-clause-err : goal.returns-then-total-fill-clause-err
returns-then-total-fill-clause-err c raws young can are =
    let h : HeapState = state_of c.args.classes.now c.args.regions.now c.args.larges.now c.args.roots.now c.args.slots.now in
    let total = c.young_bytes-total.ensures.total raws young (packed-there h c.args.frames.now c.args.t.0 raws young can.can are) in
    let fill = c.fill.ensures.fill in
    let up = c.div_ceil-fill.ensures in
    inl (omega (arith, total, fill, up, c.if-total-fill.true))

pub returns-in_err-plan-clause-full : goal.returns-in_err-plan-clause-full
returns-in_err-plan-clause-full c raws young can are much =
    let h : HeapState = state_of c.args.classes.now c.args.regions.now c.args.larges.now c.args.roots.now c.args.slots.now in
    let total = c.young_bytes-total.ensures.total raws young (packed-there h c.args.frames.now c.args.t.0 raws young can.can are) in
    let fill = c.fill.ensures.fill in
    let up = c.div_ceil-fill.ensures in
    let bounded = c.fill.ensures.space.bounded in
    absurd (omega (arith, total, fill, up, bounded, much, c.if-total-fill.false))

pub returns-in-Ok-clause-full : goal.returns-in-Ok-clause-full
returns-in-Ok-clause-full c raws young can are much =
    let h : HeapState = state_of c.args.classes.now c.args.regions.now c.args.larges.now c.args.roots.now c.args.slots.now in
    let total = c.young_bytes-total.ensures.total raws young (packed-there h c.args.frames.now c.args.t.0 raws young can.can are) in
    let fill = c.fill.ensures.fill in
    let up = c.div_ceil-fill.ensures in
    let bounded = c.fill.ensures.space.bounded in
    absurd (omega (arith, total, fill, up, bounded, much, c.if-total-fill.false))

pub returns-in-Err-clause-full : goal.returns-in-Err-clause-full
returns-in-Err-clause-full c raws young can are much =
    let h : HeapState = state_of c.args.classes.now c.args.regions.now c.args.larges.now c.args.roots.now c.args.slots.now in
    let total = c.young_bytes-total.ensures.total raws young (packed-there h c.args.frames.now c.args.t.0 raws young can.can are) in
    let fill = c.fill.ensures.fill in
    let up = c.div_ceil-fill.ensures in
    let bounded = c.fill.ensures.space.bounded in
    absurd (omega (arith, total, fill, up, bounded, much, c.if-total-fill.false))

pub returns-in-Err-clause-same_pages : goal.returns-in-Err-clause-same_pages
returns-in-Err-clause-same_pages c raws young can are =
    let h : HeapState = state_of c.args.classes.now c.args.regions.now c.args.larges.now c.args.roots.now c.args.slots.now in
    let total = c.young_bytes-total.ensures.total raws young (packed-there h c.args.frames.now c.args.t.0 raws young can.can are) in
    subst (λ (m : Memory). KeepsPages m c.open_segment.new.frames (pages_up_to (bytes_at h raws young))) (c.plan_promotion.ensures.same ∙ c.young_bytes-total.ensures.same)
    (subst (λ (n : ℕ). KeepsPages c.plan_promotion.new.frames c.open_segment.new.frames (pages_up_to n)) total c.in-Err.ensures.same.1)
