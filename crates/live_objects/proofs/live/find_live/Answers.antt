use Rattle.std.proofs.Common.{◌≡◌, ◌∙◌, true}
use Rattle.cow_pages.specs.View.{view_of}
use Rattle.region_space.specs.Space.{lists_of}
use Rattle.live_objects.specs.Marks.{marked}
use Rattle.live_objects.specs.Reach.{Reached, starts_of}
use Rattle.live_objects.proofs.FindLemmas.{Begins, begun, begun-numbers, can-follow, large-same, lists-same, reached-all, root-considered, slot-considered}
use Rattle.live_objects.proofs.live.find_live.Goals as goal

pub mark_roots-requires-clause-can : goal.mark_roots-requires-clause-can
mark_roots-requires-clause-can c = λ n within.
    let can = c.requires in
    root-considered c.args.classes.now (view_of c.args.frames.now c.args.t.0) can.0 (lists_of c.args.regions.now) c.args.larges.now c.args.roots.now c.args.slots.now c.in_ok-marks.marks.numbers n can.1 c.used-used.ensures.space
    c.in_ok-marks.ensures.numbers within

pub mark_slots-requires-clause-can : goal.mark_slots-requires-clause-can
mark_slots-requires-clause-can c = λ n within.
    let can = c.requires in
    slot-considered c.args.classes.now (view_of c.args.frames.now c.args.t.0) can.0 (lists_of c.args.regions.now) c.args.larges.now c.args.roots.now c.args.slots.now c.mark_roots.new.self.numbers n can.1 c.used-used.ensures.space
    (c.in_ok-mark_roots.ensures.numbers ∙ c.in_ok-marks.ensures.numbers) within

pub follow-requires-clause-can : goal.follow-requires-clause-can
follow-requires-clause-can c =
    let cs = c.args.classes.now in
    let v = view_of c.args.frames.now c.args.t.0 in
    let rows = c.args.larges.now in
    let roots = c.args.roots.now in
    let slots = c.args.slots.now in
    let in_use = c.args.regions.now.in_use in
    let begins : Begins rows roots slots in_use c.in_ok-marks.marks c.mark_roots.new.self c.mark_slots.new.self = record {
      clear = c.in_ok-marks.ensures.clear;
      empty = c.in_ok-marks.ensures.none;
      numbers = c.in_ok-marks.ensures.numbers;
      roots_marked = c.in_ok-mark_roots.ensures;
      slots_marked = c.in_ok-mark_slots.ensures;
    } in
    let numbers = begun-numbers rows roots slots in_use c.in_ok-marks.marks c.mark_roots.new.self c.mark_slots.new.self begins in (
      c.requires.0,
      starts_of roots slots,
      can-follow cs v c.requires.0 (lists_of c.args.regions.now) rows (starts_of roots slots) c.mark_slots.new.self.numbers c.requires.1 c.used-used.ensures.space numbers,
      begun cs v c.requires.0 in_use rows roots slots c.in_ok-marks.marks c.mark_roots.new.self c.mark_slots.new.self c.requires.1 c.rows-rows.ensures.are_rows begins,
    )

pub returns-clause-young : goal.returns-clause-young
returns-clause-young c = λ raws can.
    let cs = c.args.classes.now in
    let rows = c.args.larges.now in
    let roots = c.args.roots.now in
    let slots = c.args.slots.now in
    let space = lists_of c.args.regions.now in
    let begins : Begins rows roots slots space.in_use c.in_ok-marks.marks c.mark_roots.new.self c.mark_slots.new.self = record {
      clear = c.in_ok-marks.ensures.clear;
      empty = c.in_ok-marks.ensures.none;
      numbers = c.in_ok-marks.ensures.numbers;
      roots_marked = c.in_ok-mark_roots.ensures;
      slots_marked = c.in_ok-mark_slots.ensures;
    } in
    let are = reached-all cs (view_of c.args.frames.now c.args.t.0) raws space rows roots slots c.in_ok-marks.marks c.mark_roots.new.self c.mark_slots.new.self c.follow.new.marks can c.used-used.ensures.space
    c.rows-rows.ensures.are_rows begins c.in_ok-follow.ensures.marks in
    let numbers = c.in_ok-follow.ensures.numbers ∙ begun-numbers rows roots slots space.in_use c.in_ok-marks.marks c.mark_roots.new.self c.mark_slots.new.self begins in
    lists-same space.in_use (λ a. marked c.follow.new.marks a ≡ true) (Reached cs rows raws (starts_of roots slots)) c.in_ok-young.young.items are (c.in_ok-young.ensures space.in_use numbers)

pub returns-clause-large : goal.returns-clause-large
returns-clause-large c = λ raws can.
    let cs = c.args.classes.now in
    let rows = c.args.larges.now in
    let roots = c.args.roots.now in
    let slots = c.args.slots.now in
    let space = lists_of c.args.regions.now in
    let begins : Begins rows roots slots space.in_use c.in_ok-marks.marks c.mark_roots.new.self c.mark_slots.new.self = record {
      clear = c.in_ok-marks.ensures.clear;
      empty = c.in_ok-marks.ensures.none;
      numbers = c.in_ok-marks.ensures.numbers;
      roots_marked = c.in_ok-mark_roots.ensures;
      slots_marked = c.in_ok-mark_slots.ensures;
    } in
    let are = reached-all cs (view_of c.args.frames.now c.args.t.0) raws space rows roots slots c.in_ok-marks.marks c.mark_roots.new.self c.mark_slots.new.self c.follow.new.marks can c.used-used.ensures.space
    c.rows-rows.ensures.are_rows begins c.in_ok-follow.ensures.marks in
    large-same (λ a. marked c.follow.new.marks a ≡ true) (Reached cs rows raws (starts_of roots slots)) c.into_large-large.result are c.into_large-large.ensures
