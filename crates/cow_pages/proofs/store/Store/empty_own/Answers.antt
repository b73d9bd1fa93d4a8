use Rattle.std.proofs.Common.{length, set, refl, sym, ap, ◌∙◌, arith}
use Rattle.std.specs.Vec.{with_item}
use Rattle.cow_pages.specs.declared.store.Store.{Store}
use Rattle.page_tables.specs.Leaf.{Leaf, no_leaf}
use Rattle.cow_pages.proofs.StoreLemmas.{row_frames}
use Rattle.cow_pages.proofs.EndLemmas.{row_held, row_there, row_whole}
use Rattle.cow_pages.proofs.store.Store.empty_own.Goals as goal

pub unshare_row-requires-clause-len : goal.unshare_row-requires-clause-len
unshare_row-requires-clause-len c = row_whole c.args.self.now c.requires.kept c.args.leaf c.requires.within

pub unshare_row-requires-clause-frames : goal.unshare_row-requires-clause-frames
unshare_row-requires-clause-frames c = λ a e is. (row_frames c.args.self.now c.requires.kept c.args.leaf a e is).0

pub unshare_row-requires-clause-held : goal.unshare_row-requires-clause-held
unshare_row-requires-clause-held c = row_held c.args.self.now c.requires.kept c.args.leaf (row_there c.args.self.now c.args.leaf c.requires.within)

pub index_mut-requires : goal.index_mut-requires
index_mut-requires c = omega (arith, c.requires.within, ap (λ (it : Store). length it.leaves.items) c.unshare_row.ensures.rest, c.unshare_row.new.self.leaves.ok)

pub returns-then-holders-eq1 : goal.returns-then-holders-eq1
returns-then-holders-eq1 c =
    let s = c.args.self.now in
    let m = c.unshare_row.new.self in
    let l = c.args.leaf in
    record {
      own = λ one. record {
        sharers = c.unshare_row.ensures.sharers;
        spare = c.unshare_row.ensures.spare;
        len = c.unshare_row.ensures.counts.len;
        tallied = c.unshare_row.ensures.counts.tallied;
        leaves = ap (λ (it : Leaf). set m.leaves.items l it) c.empty.ensures ∙ ap (λ (it : Store). set it.leaves.items l no_leaf) c.unshare_row.ensures.rest;
      };
      shared = λ more. absurd (more (sym c.holders.ensures ∙ c.if-holders-eq1.true));
      rest = ap (λ (it : Store). record it { leaves = with_item m.leaves l c.empty.result }) c.unshare_row.ensures.rest;
    }

pub returns-else-holders-eq1 : goal.returns-else-holders-eq1
returns-else-holders-eq1 c = record {
  own = λ one. absurd (c.if-holders-eq1.false (c.holders.ensures ∙ one));
  shared = λ more. refl;
  rest = refl;
}
