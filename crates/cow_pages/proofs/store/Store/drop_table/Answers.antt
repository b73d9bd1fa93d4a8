use Rattle.std.proofs.Common.{◌≡◌, ◌+◌, ◌-◌, cond, ℕ, None, set, refl, subst, sym, ap, ◌∙◌, arith}
use Rattle.std.specs.Vec.{with_item}
use Rattle.sharers.specs.Shares.{count_of}
use Rattle.cow_pages.specs.declared.store.Store.{Store}
use Rattle.cow_pages.specs.Steps.{Ending}
use Rattle.page_tables.proofs.ListLemmas.{live_within}
use Rattle.cow_pages.proofs.ReadLemmas.{live_there}
use Rattle.cow_pages.proofs.EndLemmas.{ending_none, ending_skip, ended}
use Rattle.cow_pages.proofs.store.Store.drop_table.Goals as goal
use Rattle.cow_pages.proofs.store.Store.drop_table.Goals.{in-Some, in_default}

pub loop-i-init : goal.loop-i-init
loop-i-init c = ending_none c.args.self.now c.args.t c.requires.store

pub place-requires-clause-live : goal.place-requires-clause-live
place-requires-clause-live c = c.loop-i.invariant.live c.args.t ∙ live_there c.args.self.now c.args.t c.requires.live

pub place-requires-clause-within : goal.place-requires-clause-within
place-requires-clause-within c =
    omega (arith, c.loop-i-test.true, c.loop-i.invariant.room.rows c.args.t (c.loop-i.invariant.live c.args.t ∙ live_there c.args.self.now c.args.t c.requires.live))

pub drop_leaf-requires-clause-kept : goal.drop_leaf-requires-clause-kept
drop_leaf-requires-clause-kept c = c.loop-i.invariant.drops.kept

pub drop_leaf-requires-clause-room : goal.drop_leaf-requires-clause-room
drop_leaf-requires-clause-room c = c.loop-i.invariant.room

pub drop_leaf-requires-clause-place : goal.drop_leaf-requires-clause-place
drop_leaf-requires-clause-place c = sym c.place.ensures ∙ c.in-Some.is

pub loop-i-preserved : goal.loop-i-preserved
loop-i-preserved c =
    let s = c.args.self.now in
    let P : Store → Type 0 = λ it. Ending s it c.args.t (c.loop-i.i + 1) in
    elim c.match-place.branch [
      | in-Some w ↦ subst P (sym w.self-is) (w.drop_leaf.ensures s c.loop-i.invariant)
      | in_default w ↦ subst P (sym w.self-is) (ending_skip s c.loop-i.self c.args.t c.loop-i.i c.loop-i.invariant (sym c.place.ensures ∙ w.in_default.is))
    ]

pub index_mut-requires : goal.index_mut-requires
index_mut-requires c =
    let m = c.loop-i.self in
    omega (arith, m.tables.ok, live_within m.tables.items c.args.t (c.loop-i.invariant.live c.args.t ∙ live_there c.args.self.now c.args.t c.requires.live))

pub unshare-requires-clause-within : goal.unshare-requires-clause-within
unshare-requires-clause-within c =
    let m = c.loop-i.self in
    omega (arith, c.loop-i.invariant.room.tables, live_within m.tables.items c.args.t (c.loop-i.invariant.live c.args.t ∙ live_there c.args.self.now c.args.t c.requires.live))

pub unshare-requires-clause-held : goal.unshare-requires-clause-held
unshare-requires-clause-held c =
    let live = c.loop-i.invariant.live c.args.t ∙ live_there c.args.self.now c.args.t c.requires.live in
    omega (arith, c.loop-i.invariant.room.numbers c.args.t, ap (λ b. cond {A = ℕ} b 1 0) live)

pub returns : goal.returns
returns c =
    let s = c.args.self.now in
    let m = c.loop-i.self in
    let t = c.args.t in
    let first = live_there s t c.requires.live in
    let live = c.loop-i.invariant.live t ∙ first in
    let one : count_of m.table_counts t ≡ 1 = c.loop-i.invariant.room.numbers t ∙ ap (λ b. cond {A = ℕ} b 1 0) live in
    let none : count_of m.table_counts t - 1 ≡ 0 = omega (arith, one) in
    let end : c.loop-i.i ≡ 1024 = omega (arith, c.loop-i-test.false) in
    let all = ended s m (record m { tables = with_item m.tables t None; table_counts = c.unshare.new.self }) t c.requires.store first (subst (Ending s m t) end c.loop-i.invariant)
    (record {
      tables = refl;
      counts = c.unshare.ensures.counts ∙ ap (λ (n : ℕ). set m.table_counts.counts t n) none;
      tallied = c.unshare.ensures.tallied;
      rest = refl;
    }) in
    record { store = all.store; ended = all.ended; rest = all.rest; leaves = (all.others, all.none); used = all.used; room = all.room }
