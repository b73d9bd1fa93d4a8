use Rattle.std.proofs.Common.{◌≡◌, ◌+◌, [], None, is_some, length, get_or, subst, sym, ap, ◌∙◌, arith}
use Rattle.cow_pages.specs.declared.store.Store.{Store}
use Rattle.cow_pages.specs.Store.{table_grid}
use Rattle.cow_pages.specs.Steps.{Settling}
use Rattle.cow_pages.proofs.SharedLemmas.{leaf_held, leaf_within, leaf_length}
use Rattle.cow_pages.proofs.SoundLemmas.{leaf_there}
use Rattle.cow_pages.proofs.ReadLemmas.{live_there}
use Rattle.cow_pages.proofs.SettleLemmas.{settling_none, settling_skip, settling_leaf, settles}
use Rattle.cow_pages.proofs.store.Store.settle.Goals as goal
use Rattle.cow_pages.proofs.store.Store.settle.Goals.{in-Some, in_default}

pub loop-i-init : goal.loop-i-init
loop-i-init c = settling_none c.args.self.now c.args.t c.requires.store.kept c.requires.store.slots

pub place-requires-clause-live : goal.place-requires-clause-live
place-requires-clause-live c =
    ap (λ (it : Store). is_some (get_or it.tables.items c.args.t None)) c.loop-i.invariant.rest ∙ live_there c.args.self.now c.args.t c.requires.live

pub place-requires-clause-within : goal.place-requires-clause-within
place-requires-clause-within c =
    omega (
      arith,
      c.loop-i-test.true,
      c.requires.store.room.rows c.args.t (live_there c.args.self.now c.args.t c.requires.live),
      ap (λ (it : Store). length (get_or (table_grid it) c.args.t [])) c.loop-i.invariant.rest,
    )

pub settle_leaf-requires-clause-within : goal.settle_leaf-requires-clause-within
settle_leaf-requires-clause-within c = leaf_there c.loop-i.self c.loop-i.invariant.kept c.args.t c.loop-i.i c.in-Some.leaf (sym c.place.ensures ∙ c.in-Some.is)

pub settle_leaf-requires-clause-len : goal.settle_leaf-requires-clause-len
settle_leaf-requires-clause-len c = leaf_length c.loop-i.self c.loop-i.invariant.kept c.args.t c.loop-i.i c.in-Some.leaf (sym c.place.ensures ∙ c.in-Some.is)

pub settle_leaf-requires-clause-counts : goal.settle_leaf-requires-clause-counts
settle_leaf-requires-clause-counts c =
    let m = c.loop-i.self in
    leaf_within m c.in-Some.leaf (leaf_held m c.loop-i.invariant.kept.counts c.args.t c.loop-i.i c.in-Some.leaf (sym c.place.ensures ∙ c.in-Some.is))

pub loop-i-preserved : goal.loop-i-preserved
loop-i-preserved c =
    let s = c.args.self.now in
    let m = c.loop-i.self in
    let inv = c.loop-i.invariant in
    let P : Store → Type 0 = λ it. Settling s it c.args.t (c.loop-i.i + 1) in
    elim c.match-place.branch [
      | in-Some w ↦
          subst P (sym w.self-is) (settling_leaf s m w.settle_leaf.new.self c.args.t c.loop-i.i w.in-Some.leaf inv (sym c.place.ensures ∙ w.in-Some.is) w.settle_leaf.ensures)
      | in_default w ↦ subst P (sym w.self-is) (settling_skip s m c.args.t c.loop-i.i inv (sym c.place.ensures ∙ w.in_default.is))
    ]

pub clear_written-requires : goal.clear_written-requires
clear_written-requires c =
    ap (λ (it : Store). is_some (get_or it.tables.items c.args.t None)) c.loop-i.invariant.rest ∙ live_there c.args.self.now c.args.t c.requires.live

pub returns : goal.returns
returns c =
    let s = c.args.self.now in
    let m = c.loop-i.self in
    let end : c.loop-i.i ≡ 1024 = omega (arith, c.loop-i-test.false) in
    let all = settles s m c.clear_written.new.self c.args.t c.requires.store (live_there s c.args.t c.requires.live) (subst (Settling s m c.args.t) end c.loop-i.invariant) c.clear_written.ensures in
    record { store = all.store; live = all.live; pages = all.pages; rest = all.rest; leaves = all.leaves; used = all.used; room = all.room }
