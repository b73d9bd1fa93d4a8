use Rattle.std.proofs.Common.{◌+◌, ℕ, List, Option, refl, sym, ap, subst, ◌∙◌, arith}
use Rattle.sharers.specs.Shares.{Shares, count_of}
use Rattle.page_tables.specs.Grid.{held}
use Rattle.cow_pages.specs.Store.{leaf_key}
use Rattle.cow_pages.specs.Steps.{SharesLeaves}
use Rattle.cow_pages.proofs.CountLemmas.{held-none, held-le, take-all, share_leaf, share_no_leaf}
use Rattle.cow_pages.proofs.tables.share_all.Goals as goal
use Rattle.cow_pages.proofs.tables.share_all.Goals.{in-Some, in_default}

pub loop-leaf-init : goal.loop-leaf-init
loop-leaf-init c = record {
  sharers = λ l. omega (arith, held-none leaf_key c.args.leaves.now l);
  spare = refl;
  len = refl;
  tallied = c.requires.tallied;
}

pub share-requires-clause-within : goal.share-requires-clause-within
share-requires-clause-within c = omega (arith, (c.requires.held c.loop-leaf.leaf-index c.in-Some.leaf c.in-Some.is).0, c.loop-leaf.invariant.len)

pub share-requires-clause-held : goal.share-requires-clause-held
share-requires-clause-held c = omega (arith, (c.requires.held c.loop-leaf.leaf-index c.in-Some.leaf c.in-Some.is).1, c.loop-leaf.invariant.sharers c.in-Some.leaf)

pub share-requires-clause-fits : goal.share-requires-clause-fits
share-requires-clause-fits c =
    omega (
      arith,
      c.loop-leaf.invariant.sharers c.in-Some.leaf,
      held-le leaf_key c.args.leaves.now c.loop-leaf.leaf-index c.in-Some.leaf,
      c.requires.fits c.in-Some.leaf,
      c.loop-leaf-test.true,
    )

pub loop-leaf-preserved : goal.loop-leaf-preserved
loop-leaf-preserved c =
    let inv = c.loop-leaf.invariant in
    let P : Shares → Type 0 = λ it. SharesLeaves c.args.counts.now it c.args.leaves.now (c.loop-leaf.leaf-index + 1) in
    elim c.match-leaf.branch [
      | in-Some w ↦
          subst P (sym w.counts-is)
          (share_leaf c.args.counts.now c.loop-leaf.counts w.share.new.self c.args.leaves.now c.loop-leaf.leaf-index w.in-Some.leaf inv c.loop-leaf-test.true w.in-Some.is
          (omega (arith, (c.requires.held c.loop-leaf.leaf-index w.in-Some.leaf w.in-Some.is).0, inv.len)) w.share.ensures.counts w.share.ensures.spare w.share.ensures.tallied)
      | in_default w ↦ subst P (sym w.counts-is) (share_no_leaf c.args.counts.now c.loop-leaf.counts c.args.leaves.now c.loop-leaf.leaf-index inv c.loop-leaf-test.true w.in_default.is)
    ]

pub returns-clause-sharers : goal.returns-clause-sharers
returns-clause-sharers c = λ l.
    c.loop-leaf.invariant.sharers l
    ∙ ap (λ (row : List (Option ℕ)). count_of c.args.counts.now l + held leaf_key row l) (take-all c.args.leaves.now c.loop-leaf.leaf-index (omega (arith, c.loop-leaf-test.false)))
