use Rattle.std.proofs.Common.{◌+◌, List, Some, None, [], length, get_or, Option, refl, sym, ap, ◌∙◌, arith}
use Rattle.sharers.specs.Shares.{count_of}
use Rattle.page_tables.specs.declared.leaf.Entry.{Entry}
use Rattle.cow_pages.specs.declared.store.Store.{Store}
use Rattle.cow_pages.specs.Store.{leaf_grid, frame_key}
use Rattle.cow_pages.proofs.CountLemmas.{held-le, held-none, take-all, share_step, share_none, read_slot}
use Rattle.cow_pages.proofs.store.Store.share_row.Goals as goal
use Rattle.cow_pages.proofs.store.Store.share_row.Goals.{in-Some, in_default}

pub loop-i-init : goal.loop-i-init
loop-i-init c = record {
  sharers = λ f. omega (arith, held-none frame_key (get_or (leaf_grid c.args.self.now) c.args.leaf []) f);
  spare = refl;
  len = refl;
  tallied = c.requires.tallied;
  rest = refl;
}

pub index-requires : goal.index-requires
index-requires c = omega (arith, c.requires.within, ap (λ (s : Store). length s.leaves.items) c.loop-i.invariant.rest, c.loop-i.self.leaves.ok)

pub share-requires-clause-within : goal.share-requires-clause-within
share-requires-clause-within c =
    let e = c.in-Some.entry in
    let is = read_slot c.args.self.now c.loop-i.self c.args.leaf c.loop-i.i c.index.result.now (Some e) (ap (λ (s : Store). s.leaves.items) c.loop-i.invariant.rest) c.requires.within c.index.ensures (sym c.entry.ensures ∙ c.in-Some.is) in
    omega (arith, (c.requires.frames c.loop-i.i e is).0, c.loop-i.invariant.len)

pub share-requires-clause-held : goal.share-requires-clause-held
share-requires-clause-held c =
    let e = c.in-Some.entry in
    let is = read_slot c.args.self.now c.loop-i.self c.args.leaf c.loop-i.i c.index.result.now (Some e) (ap (λ (s : Store). s.leaves.items) c.loop-i.invariant.rest) c.requires.within c.index.ensures (sym c.entry.ensures ∙ c.in-Some.is) in
    omega (arith, (c.requires.frames c.loop-i.i e is).1, c.loop-i.invariant.sharers e.frame)

pub share-requires-clause-fits : goal.share-requires-clause-fits
share-requires-clause-fits c =
    let e = c.in-Some.entry in
    omega (
      arith,
      c.loop-i.invariant.sharers e.frame,
      held-le frame_key (get_or (leaf_grid c.args.self.now) c.args.leaf []) c.loop-i.i e.frame,
      c.requires.fits e.frame,
      c.loop-i-test.true,
    )

pub loop-i-preserved : goal.loop-i-preserved
loop-i-preserved c =
    let s = c.args.self.now in
    let mid = c.loop-i.self in
    let inv = c.loop-i.invariant in
    let same = ap (λ (s : Store). s.leaves.items) inv.rest in
    elim c.match-entry.branch [
      | in-Some w ↦
          let e = w.in-Some.entry in
          let is = read_slot s mid c.args.leaf c.loop-i.i c.index.result.now (Some e) same c.requires.within c.index.ensures (sym c.entry.ensures ∙ w.in-Some.is) in
          share_step s mid c.match-entry.self c.args.leaf c.loop-i.i e w.share.new.self inv (omega (arith, c.requires.len, c.loop-i-test.true)) is
          (omega (arith, (c.requires.frames c.loop-i.i e is).0, inv.len)) w.share.ensures.counts w.share.ensures.spare w.share.ensures.tallied w.self-is
      | in_default w ↦
          share_none s mid c.match-entry.self c.args.leaf c.loop-i.i inv (omega (arith, c.requires.len, c.loop-i-test.true))
          (read_slot s mid c.args.leaf c.loop-i.i c.index.result.now None same c.requires.within c.index.ensures (sym c.entry.ensures ∙ w.in_default.is)) w.self-is
    ]

pub returns : goal.returns
returns c =
    let row = get_or (leaf_grid c.args.self.now) c.args.leaf [] in
    let all = take-all row c.loop-i.i (omega (arith, c.requires.len, c.loop-i-test.false)) in
    record {
      sharers = λ f. c.loop-i.invariant.sharers f ∙ ap (λ (es : List (Option Entry)). count_of c.args.self.now.frame_counts f + Rattle.page_tables.specs.Grid.held frame_key es f) all;
      spare = c.loop-i.invariant.spare;
      counts = record { len = c.loop-i.invariant.len; tallied = c.loop-i.invariant.tallied };
      rest = c.loop-i.invariant.rest;
    }
