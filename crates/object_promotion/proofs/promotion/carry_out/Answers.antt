use Rattle.std.proofs.Common.{◌∙◌, List, length, sum, refl, sym, ap, subst}
use Rattle.page_tables.specs.declared.address.Addr.{Addr}
use Rattle.object_view.specs.Seen.{RoseBy}
use Rattle.raw_objects.specs.Raws.{Raws}
use Rattle.region_lists.specs.Rows.{Row}
use Rattle.region_space.specs.Pages.{ReleasesRows}
use Rattle.region_space.specs.Space.{filled, lists_of, Space}
use Rattle.region_space.specs.Space.{AreAlone as AreRegionsAlone, HasPages as HasRegionPages}
use Rattle.object_moves.specs.Copies.{moved, sizes_at}
use Rattle.object_moves.specs.Turns.{reads_to_turn}
use Rattle.object_collection.specs.Collects.{state_of, HeapState}
use Rattle.object_collection.specs.Phases.{Turning}
use Rattle.object_promotion.specs.Promotes.{LeavesPages}
use Rattle.object_promotion.specs.Phases.{listed_in, IsOpened}
use Rattle.object_promotion.proofs.Opened.{can-place}
use Rattle.object_promotion.proofs.Called.{have-moved, same-plan}
use Rattle.object_promotion.proofs.Copied.{can-turn, large-high, large-within, may, slots-within, young-within}
use Rattle.object_promotion.proofs.Final.{leaves, live3, only-after, promoted, region-alone3, region-pages3, rose, HasRun}
use Rattle.object_promotion.proofs.promotion.carry_out.Goals as goal

pub move_to_segment-requires : goal.move_to_segment-requires
move_to_segment-requires c =
    let h : HeapState = state_of c.args.classes.now c.args.regions.now c.args.larges.now c.args.roots.now c.requires.0 in
    let raws : Raws = c.requires.2 in
    let plan : Turning = record { young = c.as_mut_slice-young.result.now; large = c.as_slice-large.result.now; slots = c.args.plan.turned.items } in
    let ok = subst (λ (p : Turning). IsOpened h c.requires.1 c.args.frames.now c.args.t.0 raws c.requires.3 c.args.zygote.now p)
    (same-plan (listed_in c.args.plan) plan.young plan.large plan.slots c.as_mut_slice-young.ensures.value c.as_slice-large.ensures.value refl) c.requires.4 in
    (raws, lists_of h.regions, can-place h c.requires.1 c.args.frames.now c.args.t.0 raws c.requires.3 c.args.zygote.now plan ok)

pub turn_references-requires : goal.turn_references-requires
turn_references-requires c =
    let h : HeapState = state_of c.args.classes.now c.args.regions.now c.args.larges.now c.args.roots.now c.requires.0 in
    let raws : Raws = c.requires.2 in
    let plan : Turning = record { young = c.as_mut_slice-young.result.now; large = c.as_slice-large.result.now; slots = c.as_slice.result.now } in
    let ok = subst (λ (p : Turning). IsOpened h c.requires.1 c.args.frames.now c.args.t.0 raws c.requires.3 c.args.zygote.now p)
    (same-plan (listed_in c.args.plan) plan.young plan.large plan.slots c.as_mut_slice-young.ensures.value c.as_slice-large.ensures.value c.as_slice.ensures.value) c.requires.4 in
    let place = can-place h c.requires.1 c.args.frames.now c.args.t.0 raws c.requires.3 c.args.zygote.now plan ok in
    let is = c.move_to_segment.ensures in
    let have = have-moved h c.requires.1 _ c.move_to_segment.new.frames c.args.t.0 raws c.requires.3 _ plan ok c.move_to_segment.new.young (is.held raws _ place) (is.moves raws _ place) (is.spots raws _ place) (λ test. is.keeps raws _ test place) in
    (moved raws plan.young c.move_to_segment.new.young (length plan.young), can-turn h c.requires.1 _ c.args.t.0 raws c.requires.3 _ plan ok _ _ have)

pub drop_from-requires-clause-live : goal.drop_from-requires-clause-live
drop_from-requires-clause-live c =
    let h : HeapState = state_of c.args.classes.now c.args.regions.now c.args.larges.now c.args.roots.now c.requires.0 in
    let raws : Raws = c.requires.2 in
    let plan : Turning = record { young = c.as_mut_slice-young.result.now; large = c.as_slice-large.result.now; slots = c.as_slice.result.now } in
    let ok = subst (λ (p : Turning). IsOpened h c.requires.1 c.args.frames.now c.args.t.0 raws c.requires.3 c.args.zygote.now p)
    (same-plan (listed_in c.args.plan) plan.young plan.large plan.slots c.as_mut_slice-young.ensures.value c.as_slice-large.ensures.value c.as_slice.ensures.value) c.requires.4 in
    let place = can-place h c.requires.1 c.args.frames.now c.args.t.0 raws c.requires.3 c.args.zygote.now plan ok in
    let is = c.move_to_segment.ensures in
    let tos : List Addr = c.move_to_segment.new.young in
    let now : Raws = moved raws plan.young tos (length plan.young) in
    let have = have-moved h c.requires.1 _ c.move_to_segment.new.frames c.args.t.0 raws c.requires.3 _ plan ok tos (is.held raws _ place) (is.moves raws _ place) (is.spots raws _ place) (λ test. is.keeps raws _ test place) in
    let turn = can-turn h c.requires.1 _ c.args.t.0 raws c.requires.3 _ plan ok _ tos have in
    let keeps = c.turn_references.ensures.keeps now (may h c.requires.1 _ c.args.t.0 raws c.requires.3 _ plan ok) turn (young-within h _ _ _ raws _ _ plan ok _ tos have) (large-within h _ _ _ raws _ _ plan ok _ tos have) (slots-within h _ _ _ raws _ _ plan ok _ tos have) in
    live3 h _ _ _ raws _ _ plan ok _ tos have _ keeps

pub drop_from-requires-clause-pages : goal.drop_from-requires-clause-pages
drop_from-requires-clause-pages c =
    let h : HeapState = state_of c.args.classes.now c.args.regions.now c.args.larges.now c.args.roots.now c.requires.0 in
    let raws : Raws = c.requires.2 in
    let plan : Turning = record { young = c.as_mut_slice-young.result.now; large = c.as_slice-large.result.now; slots = c.as_slice.result.now } in
    let ok = subst (λ (p : Turning). IsOpened h c.requires.1 c.args.frames.now c.args.t.0 raws c.requires.3 c.args.zygote.now p)
    (same-plan (listed_in c.args.plan) plan.young plan.large plan.slots c.as_mut_slice-young.ensures.value c.as_slice-large.ensures.value c.as_slice.ensures.value) c.requires.4 in
    let place = can-place h c.requires.1 c.args.frames.now c.args.t.0 raws c.requires.3 c.args.zygote.now plan ok in
    let is = c.move_to_segment.ensures in
    let tos : List Addr = c.move_to_segment.new.young in
    let now : Raws = moved raws plan.young tos (length plan.young) in
    let have = have-moved h c.requires.1 _ c.move_to_segment.new.frames c.args.t.0 raws c.requires.3 _ plan ok tos (is.held raws _ place) (is.moves raws _ place) (is.spots raws _ place) (λ test. is.keeps raws _ test place) in
    let turn = can-turn h c.requires.1 _ c.args.t.0 raws c.requires.3 _ plan ok _ tos have in
    let keeps = c.turn_references.ensures.keeps now (may h c.requires.1 _ c.args.t.0 raws c.requires.3 _ plan ok) turn (young-within h _ _ _ raws _ _ plan ok _ tos have) (large-within h _ _ _ raws _ _ plan ok _ tos have) (slots-within h _ _ _ raws _ _ plan ok _ tos have) in
    subst (λ (s : Space). HasRegionPages c.turn_references.new.frames c.args.t.0 (filled (lists_of s))) (sym c.flip.ensures.flips) (region-pages3 h _ _ _ raws _ _ plan ok _ tos have _ keeps)

pub drop_from-requires-clause-alone : goal.drop_from-requires-clause-alone
drop_from-requires-clause-alone c =
    let h : HeapState = state_of c.args.classes.now c.args.regions.now c.args.larges.now c.args.roots.now c.requires.0 in
    let raws : Raws = c.requires.2 in
    let plan : Turning = record { young = c.as_mut_slice-young.result.now; large = c.as_slice-large.result.now; slots = c.as_slice.result.now } in
    let ok = subst (λ (p : Turning). IsOpened h c.requires.1 c.args.frames.now c.args.t.0 raws c.requires.3 c.args.zygote.now p)
    (same-plan (listed_in c.args.plan) plan.young plan.large plan.slots c.as_mut_slice-young.ensures.value c.as_slice-large.ensures.value c.as_slice.ensures.value) c.requires.4 in
    let place = can-place h c.requires.1 c.args.frames.now c.args.t.0 raws c.requires.3 c.args.zygote.now plan ok in
    let is = c.move_to_segment.ensures in
    let tos : List Addr = c.move_to_segment.new.young in
    let now : Raws = moved raws plan.young tos (length plan.young) in
    let have = have-moved h c.requires.1 _ c.move_to_segment.new.frames c.args.t.0 raws c.requires.3 _ plan ok tos (is.held raws _ place) (is.moves raws _ place) (is.spots raws _ place) (λ test. is.keeps raws _ test place) in
    let turn = can-turn h c.requires.1 _ c.args.t.0 raws c.requires.3 _ plan ok _ tos have in
    let keeps = c.turn_references.ensures.keeps now (may h c.requires.1 _ c.args.t.0 raws c.requires.3 _ plan ok) turn (young-within h _ _ _ raws _ _ plan ok _ tos have) (large-within h _ _ _ raws _ _ plan ok _ tos have) (slots-within h _ _ _ raws _ _ plan ok _ tos have) in
    subst (λ (s : Space). AreRegionsAlone c.turn_references.new.frames c.args.t.0 s.from) (sym c.flip.ensures.flips) (region-alone3 h _ _ _ raws _ _ plan ok _ tos have _ keeps)

pub returns-clause-done : goal.returns-clause-done
returns-clause-done c slots before raws z opened =
    let h : HeapState = state_of c.args.classes.now c.args.regions.now c.args.larges.now c.args.roots.now slots in
    let plan : Turning = record { young = c.as_mut_slice-young.result.now; large = c.as_slice-large.result.now; slots = c.as_slice.result.now } in
    let ok = subst (λ (p : Turning). IsOpened h before c.args.frames.now c.args.t.0 raws z c.args.zygote.now p)
    (same-plan (listed_in c.args.plan) plan.young plan.large plan.slots c.as_mut_slice-young.ensures.value c.as_slice-large.ensures.value c.as_slice.ensures.value) opened in
    let place = can-place h before c.args.frames.now c.args.t.0 raws z c.args.zygote.now plan ok in
    let is = c.move_to_segment.ensures in
    let tos : List Addr = c.move_to_segment.new.young in
    let now : Raws = moved raws plan.young tos (length plan.young) in
    let have = have-moved h before _ c.move_to_segment.new.frames c.args.t.0 raws z _ plan ok tos (is.held raws _ place) (is.moves raws _ place) (is.spots raws _ place) (λ test. is.keeps raws _ test place) in
    let turn = can-turn h before _ c.args.t.0 raws z _ plan ok _ tos have in
    let turns = c.turn_references.ensures in
    let drops = c.drop_from.ensures in
    let flips = c.flip.ensures.flips in
    let run : HasRun h before c.args.frames.now c.args.t.0 raws z c.args.zygote.now plan ok c.move_to_segment.new.frames c.turn_references.new.frames c.drop_from.new.frames c.drop_from.new.self tos c.turn_references.new.roots c.promote_all.new.self c.move_to_segment.new.zygote = record {
      have = have;
      gains = is.gains raws _ place;
      reads2 = is.reads;
      turned_all = turns.held now turn;
      roots_are = turns.roots now turn;
      keeps3 = turns.keeps now (may h before _ c.args.t.0 raws z _ plan ok) turn (young-within h _ _ _ raws _ _ plan ok _ tos have) (large-within h _ _ _ raws _ _ plan ok _ tos have) (slots-within h _ _ _ raws _ _ plan ok _ tos have);
      rose3 = turns.bounded have.held.sound (large-high h _ _ _ raws _ _ plan ok _ tos have) now turn;
      releases = subst (λ (rows : List Row). ReleasesRows c.turn_references.new.frames c.drop_from.new.frames c.args.t.0 rows) (ap (λ (s : Space). s.from) flips) drops.releases;
      none_left = (drops.rest.0 ∙ ap (λ (s : Space). s.in_use) flips, drops.no_from.0, drops.rest.2 ∙ ap (λ (s : Space). s.objects) flips, drops.no_from.1);
      count = drops.rest.1 ∙ ap (λ (s : Space). s.count) flips;
      only4 = drops.only;
      space4 = drops.space;
      pages4 = drops.pages;
      sound4 = drops.sound (turns.sound have.held.sound);
      rows_are = c.promote_all.ensures;
    } in
    let same = c.as_mut_slice-young.ensures.value in (
      promoted h _ _ _ raws _ _ plan ok _ _ _ _ tos _ _ _ run,
      subst (λ (ats : List Addr). LeavesPages h before c.drop_from.new.frames c.args.t.0 z.fill (sum (sizes_at c.args.classes.now raws ats))) same (leaves h _ _ _ raws _ _ plan ok _ _ _ _ tos _ _ _ run),
      subst (λ (ats : List Addr). RoseBy (reads_to_turn c.args.classes.now raws ats) c.args.frames.now.reads c.drop_from.new.frames.reads) same (rose h _ _ _ raws _ _ plan ok _ _ _ _ tos _ _ _ run),
      only-after h _ _ _ raws _ _ plan ok _ _ _ _ tos _ _ _ run,
    )

pub returns-clause-sound : goal.returns-clause-sound
returns-clause-sound c =
    let h : HeapState = state_of c.args.classes.now c.args.regions.now c.args.larges.now c.args.roots.now c.requires.0 in
    let raws : Raws = c.requires.2 in
    let plan : Turning = record { young = c.as_mut_slice-young.result.now; large = c.as_slice-large.result.now; slots = c.as_slice.result.now } in
    let ok = subst (λ (p : Turning). IsOpened h c.requires.1 c.args.frames.now c.args.t.0 raws c.requires.3 c.args.zygote.now p)
    (same-plan (listed_in c.args.plan) plan.young plan.large plan.slots c.as_mut_slice-young.ensures.value c.as_slice-large.ensures.value c.as_slice.ensures.value) c.requires.4 in
    let place = can-place h c.requires.1 c.args.frames.now c.args.t.0 raws c.requires.3 c.args.zygote.now plan ok in
    let is = c.move_to_segment.ensures in
    let tos : List Addr = c.move_to_segment.new.young in
    let have = have-moved h c.requires.1 _ c.move_to_segment.new.frames c.args.t.0 raws c.requires.3 _ plan ok tos (is.held raws _ place) (is.moves raws _ place) (is.spots raws _ place) (λ test. is.keeps raws _ test place) in
    c.drop_from.ensures.sound (c.turn_references.ensures.sound have.held.sound)
