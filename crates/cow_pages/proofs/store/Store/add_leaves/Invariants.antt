use Rattle.std.proofs.Common.{◌≡◌, ◌+◌, ◌++◌, ◌≤◌, vec_len, vec_capacity}
use Rattle.std.specs.Prelude.{replicate}
use Rattle.page_tables.specs.Leaf.{no_leaf}
use Rattle.cow_pages.proofs.store.Store.add_leaves.Given as goal

abbrev pub invariant-loop-i : goal.invariant-loop-i
invariant-loop-i l = record {
  items : l.self.leaves.items ≡ l.fn.self.leaves.items ++ replicate l._i no_leaf;
  len : vec_len l.self.leaves ≡ vec_len l.fn.self.leaves + l._i;
  room : vec_len l.fn.self.leaves + l.fn.count ≤ vec_capacity l.self.leaves;
  counts : l.self.leaf_counts ≡ l.initial.self.leaf_counts;
  rest : l.self ≡ record l.fn.self { leaves = l.self.leaves; leaf_counts = l.self.leaf_counts };
}
