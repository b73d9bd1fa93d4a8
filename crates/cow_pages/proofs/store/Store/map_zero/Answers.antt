use Rattle.std.proofs.Common.{rules, ◌-◌, true≢false, sym, ap, ◌∙◌, arith}
use Rattle.std.specs.Prelude.{is_ok}
use Rattle.page_tables.proofs.WindowLemmas.{window_below}
use Rattle.cow_pages.proofs.ReadLemmas.{live_there}
use Rattle.cow_pages.proofs.SlotLemmas.{reserved_pages, entry_none}
use Rattle.cow_pages.proofs.CopyLemmas.{reserved_live, mapped_zero}
use Rattle.cow_pages.proofs.store.Store.map_zero.Goals as goal

pub own_leaf-leaf-requires-clause-live : goal.own_leaf-leaf-requires-clause-live
own_leaf-leaf-requires-clause-live c =
    let s = c.args.self.now in
    live_there c.reserve.new.self c.args.t (reserved_live s c.reserve.new.self (1 - s.frame_counts.spare) (1 - s.leaf_counts.spare) c.in_ok-reserve.ensures.made c.args.t ∙ c.requires.live)

pub own_leaf-leaf-requires-clause-within : goal.own_leaf-leaf-requires-clause-within
own_leaf-leaf-requires-clause-within c = omega (arith, window_below c.args.page c.requires.window)

pub own_leaf-leaf-requires-clause-spare : goal.own_leaf-leaf-requires-clause-spare
own_leaf-leaf-requires-clause-spare c = omega (arith, c.in_ok-reserve.ensures.made.leaves_spare)

pub map-requires-clause-unmapped : goal.map-requires-clause-unmapped
map-requires-clause-unmapped c =
    let s = c.args.self.now in
    let m0 = c.reserve.new.self in
    c.own_leaf-leaf.ensures.same.same c.args.t c.args.page
    ∙ entry_none s m0 c.requires.store.kept c.in_ok-reserve.ensures.store.kept (reserved_pages s m0 (1 - s.frame_counts.spare) (1 - s.leaf_counts.spare) c.in_ok-reserve.ensures.made) c.args.t c.args.page c.requires.unmapped

pub map-requires-clause-spare : goal.map-requires-clause-spare
map-requires-clause-spare c = omega (arith, c.in_ok-reserve.ensures.made.frames_spare, c.own_leaf-leaf.ensures.room.frames)

pub returns : goal.returns
returns c =
    let s = c.args.self.now in
    let all = mapped_zero s c.reserve.new.self c.own_leaf-leaf.new.self c.map.new.self c.args.t c.args.page c.own_leaf-leaf.result c.requires.store c.in_ok-reserve.ensures.store c.in_ok-reserve.ensures.made
    c.own_leaf-leaf.ensures.same c.own_leaf-leaf.ensures.leaf c.own_leaf-leaf.ensures.room c.map.ensures.store c.map.ensures.maps in
    record {
      store = c.map.ensures.store;
      zeros = all.zeros;
      rest = all.rest;
      takes = all.takes;
      one = all.one;
      leaf = all.leaf;
      succeeds = search rules;
      err = search rules;
    }

pub returns-in_err-reserve-clause-succeeds : goal.returns-in_err-reserve-clause-succeeds
returns-in_err-reserve-clause-succeeds c = λ some. absurd (true≢false (sym (c.reserve.ensures.enough (omega (arith, some))).0 ∙ ap is_ok c.in_err-reserve.was))
