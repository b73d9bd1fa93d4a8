use Rattle.std.proofs.Common.{◌≡◌, ◌∙◌, List, refl, ap, arith}
use Rattle.page_tables.specs.declared.address.Addr.{Addr}
use Rattle.raw_objects.specs.Raws.{Raws}
use Rattle.region_space.specs.Packed.{packed_pages}
use Rattle.object_moves.specs.Copies.{sizes_at}
use Rattle.object_collection.specs.Collects.{state_of, HeapState}
use Rattle.object_collection.specs.Listed.{KnowsLive}
use Rattle.object_collection.proofs.Planning.{can-mark, few-regions, knows-still, planned, young-counted}
use Rattle.object_collection.proofs.plan.plan_collection.Goals as goal

pub find_live-requires : goal.find_live-requires
find_live-requires c =
    let h : HeapState = state_of c.args.classes.now c.args.regions.now c.args.larges.now c.args.roots.now c.args.slots.now in
    let raws : Raws = c.requires.0 in
    let can = c.requires.1 in
    (raws, can-mark h c.args.frames.now c.args.t.0 raws can)

pub weak_slots-requires : goal.weak_slots-requires
weak_slots-requires c =
    let h : HeapState = state_of c.args.classes.now c.args.regions.now c.args.larges.now c.args.roots.now c.args.slots.now in
    let raws : Raws = c.requires.0 in
    let can = c.requires.1 in
    let mark = can-mark h c.args.frames.now c.args.t.0 raws can in
    let knows : KnowsLive h c.args.frames.now c.args.t.0 raws c.in_ok-live.live.young.items c.in_ok-live.live.large = record { can = can; young_are = c.in_ok-live.ensures.young raws mark; large_are = c.in_ok-live.ensures.large raws mark } in
    let once = knows-still h _ c.find_live.new.frames c.args.t.0 raws _ _ c.find_live.ensures.same knows in
    (h, raws, once, refl, refl)

pub slot_addresses-requires : goal.slot_addresses-requires
slot_addresses-requires c =
    let h : HeapState = state_of c.args.classes.now c.args.regions.now c.args.larges.now c.args.roots.now c.args.slots.now in
    let raws : Raws = c.requires.0 in
    let can = c.requires.1 in
    let mark = can-mark h c.args.frames.now c.args.t.0 raws can in
    let knows : KnowsLive h c.args.frames.now c.args.t.0 raws c.in_ok-live.live.young.items c.in_ok-live.live.large = record { can = can; young_are = c.in_ok-live.ensures.young raws mark; large_are = c.in_ok-live.ensures.large raws mark } in
    knows.large_are.all

pub pages_for-pages-requires : goal.pages_for-pages-requires
pages_for-pages-requires c =
    let h : HeapState = state_of c.args.classes.now c.args.regions.now c.args.larges.now c.args.roots.now c.args.slots.now in
    let raws : Raws = c.requires.0 in
    let can = c.requires.1 in
    let mark = can-mark h c.args.frames.now c.args.t.0 raws can in
    let knows : KnowsLive h c.args.frames.now c.args.t.0 raws c.in_ok-live.live.young.items c.in_ok-live.live.large = record { can = can; young_are = c.in_ok-live.ensures.young raws mark; large_are = c.in_ok-live.ensures.large raws mark } in
    let once = knows-still h _ c.find_live.new.frames c.args.t.0 raws _ _ c.find_live.ensures.same knows in
    let twice = knows-still h _ c.weak_slots.new.frames c.args.t.0 raws _ _ c.weak_slots.ensures.same once in (
      raws,
      young-counted h _ c.args.t.0 raws c.in_ok-live.live.young.items c.as_slice.result.now c.in_ok-live.live.large c.as_slice.ensures.value twice,
      few-regions h _ c.args.t.0 raws c.in_ok-live.live.young.items c.as_slice.result.now c.in_ok-live.live.large c.as_slice.ensures.value twice,
    )

pub add_promoted-requires : goal.add_promoted-requires
add_promoted-requires c =
    let h : HeapState = state_of c.args.classes.now c.args.regions.now c.args.larges.now c.args.roots.now c.args.slots.now in
    let raws : Raws = c.requires.0 in
    let can = c.requires.1 in
    let mark = can-mark h c.args.frames.now c.args.t.0 raws can in
    let knows : KnowsLive h c.args.frames.now c.args.t.0 raws c.in_ok-live.live.young.items c.in_ok-live.live.large = record { can = can; young_are = c.in_ok-live.ensures.young raws mark; large_are = c.in_ok-live.ensures.large raws mark } in
    knows.large_are.all

pub returns-clause-plan : goal.returns-clause-plan
returns-clause-plan c raws can =
    let h : HeapState = state_of c.args.classes.now c.args.regions.now c.args.larges.now c.args.roots.now c.args.slots.now in
    let mark = can-mark h c.args.frames.now c.args.t.0 raws can in
    let knows : KnowsLive h c.args.frames.now c.args.t.0 raws c.in_ok-live.live.young.items c.in_ok-live.live.large = record { can = can; young_are = c.in_ok-live.ensures.young raws mark; large_are = c.in_ok-live.ensures.large raws mark } in
    let once = knows-still h _ c.find_live.new.frames c.args.t.0 raws _ _ c.find_live.ensures.same knows in
    let twice = knows-still h _ c.weak_slots.new.frames c.args.t.0 raws _ _ c.weak_slots.ensures.same once in
    let counted = c.pages_for-pages.ensures.pages raws (young-counted h _ c.args.t.0 raws c.in_ok-live.live.young.items c.as_slice.result.now c.in_ok-live.live.large c.as_slice.ensures.value twice) in
    let pages : c.pages_for-pages.result ≡ packed_pages (sizes_at h.classes raws c.in_ok-live.live.young.items) = counted ∙ ap (λ (xs : List Addr). packed_pages (sizes_at h.classes raws xs)) c.as_slice.ensures.value in
    let room = c.in_ok-reserve.ensures.room in
    planned h c.args.frames.now c.args.t.0 raws can c.reserve.new.self c.in_ok-live.live.young.items c.in_ok-large.large.items c.in_ok-weak.weak.items c.in_ok-turned.turned.items c.in_ok-live.live.large c.add_promoted.new.slots
    knows c.in_ok-large.ensures c.add_promoted.ensures.slots c.add_promoted.ensures.room (c.in_ok-weak.ensures.weak h raws once refl refl) c.in_ok-turned.ensures (omega (arith, room, pages))
