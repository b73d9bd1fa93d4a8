use Rattle.std.proofs.Common.{◌+◌, List, Some, None, [], length, get_or, Option, refl, sym, ap, ◌∙◌, arith, inl, inr}
use Rattle.std.proofs.lemmas.Bool.{cases_eq}
use Rattle.sharers.specs.Shares.{count_of}
use Rattle.page_tables.specs.declared.leaf.Entry.{Entry}
use Rattle.cow_pages.specs.declared.store.Store.{Store}
use Rattle.cow_pages.specs.Store.{leaf_grid, frame_key}
use Rattle.cow_pages.proofs.CountLemmas.{held-none, take-all, unshare_step, unshare_none, unshares_there, read_slot}
use Rattle.cow_pages.proofs.store.Store.unshare_row.Goals as goal
use Rattle.cow_pages.proofs.store.Store.unshare_row.Goals.{in-Some, in_default}

pub loop-i-init : goal.loop-i-init
loop-i-init c = record {
  sharers = λ f. omega (arith, held-none frame_key (get_or (leaf_grid c.args.self.now) c.args.leaf []) f);
  spare = omega arith;
  len = refl;
  tallied = c.requires.tallied;
  rest = refl;
}

pub index-requires : goal.index-requires
index-requires c = omega (arith, c.requires.within, ap (λ (s : Store). length s.leaves.items) c.loop-i.invariant.rest, c.loop-i.self.leaves.ok)

pub unshare-requires-clause-within : goal.unshare-requires-clause-within
unshare-requires-clause-within c =
    let e = c.in-Some.entry in
    let is = read_slot c.args.self.now c.loop-i.self c.args.leaf c.loop-i.i c.index.result.now (Some e) (ap (λ (s : Store). s.leaves.items) c.loop-i.invariant.rest) c.requires.within c.index.ensures (sym c.entry.ensures ∙ c.in-Some.is) in
    omega (arith, c.requires.frames c.loop-i.i e is, c.loop-i.invariant.len)

pub unshare-requires-clause-held : goal.unshare-requires-clause-held
unshare-requires-clause-held c =
    let s = c.args.self.now in
    let e = c.in-Some.entry in
    let is = read_slot s c.loop-i.self c.args.leaf c.loop-i.i c.index.result.now (Some e) (ap (λ (s : Store). s.leaves.items) c.loop-i.invariant.rest) c.requires.within c.index.ensures (sym c.entry.ensures ∙ c.in-Some.is) in
    unshares_there frame_key s.frame_counts c.loop-i.self.frame_counts (get_or (leaf_grid s) c.args.leaf []) c.loop-i.i e c.loop-i.invariant.sharers (omega (arith, c.requires.len, c.loop-i-test.true)) is (c.requires.held e.frame)

pub loop-i-preserved : goal.loop-i-preserved
loop-i-preserved c =
    let s = c.args.self.now in
    let mid = c.loop-i.self in
    let inv = c.loop-i.invariant in
    let row = get_or (leaf_grid s) c.args.leaf [] in
    let same = ap (λ (s : Store). s.leaves.items) inv.rest in
    elim c.match-entry.branch [
      | in-Some w ↦
          let e = w.in-Some.entry in
          let is = read_slot s mid c.args.leaf c.loop-i.i c.index.result.now (Some e) same c.requires.within c.index.ensures (sym c.entry.ensures ∙ w.in-Some.is) in
          let some = unshares_there frame_key s.frame_counts mid.frame_counts row c.loop-i.i e inv.sharers (omega (arith, c.requires.len, c.loop-i-test.true)) is (c.requires.held e.frame) in
          unshare_step s mid c.match-entry.self c.args.leaf c.loop-i.i e w.unshare.new.self inv (omega (arith, c.requires.len, c.loop-i-test.true)) is some w.unshare.ensures.counts
          (elim (cases_eq (count_of mid.frame_counts e.frame) 1) [
            | inl one ↦ omega (arith, w.unshare.ensures.freed one)
            | inr more ↦ omega (arith, w.unshare.ensures.kept (omega (arith, some, more)))
          ])
          w.unshare.ensures.tallied w.self-is
      | in_default w ↦
          unshare_none s mid c.match-entry.self c.args.leaf c.loop-i.i inv (omega (arith, c.requires.len, c.loop-i-test.true))
          (read_slot s mid c.args.leaf c.loop-i.i c.index.result.now None same c.requires.within c.index.ensures (sym c.entry.ensures ∙ w.in_default.is)) w.self-is
    ]

pub returns : goal.returns
returns c =
    let row = get_or (leaf_grid c.args.self.now) c.args.leaf [] in
    let all = take-all row c.loop-i.i (omega (arith, c.requires.len, c.loop-i-test.false)) in
    record {
      sharers = λ f. ap (λ (es : List (Option Entry)). count_of c.loop-i.self.frame_counts f + Rattle.page_tables.specs.Grid.held frame_key es f) (sym all) ∙ c.loop-i.invariant.sharers f;
      spare = c.loop-i.invariant.spare;
      counts = record { len = c.loop-i.invariant.len; tallied = c.loop-i.invariant.tallied };
      rest = c.loop-i.invariant.rest;
    }
