use Rattle.std.proofs.Common.{◌≡◌, ◌≤◌, ◌+◌, ℕ, List, take}
use Rattle.indexmap.specs.IndexMap.{get, spare, index_map_len}
use Rattle.class_layout.specs.Names.{same_name}
use Rattle.root_list.specs.Places.{place_of}
use Rattle.root_list.proofs.table.renumber.Given as goal

-- the names before this place have theirs
abbrev pub invariant-loop-k : goal.invariant-loop-k
invariant-loop-k l = record {
  found : (name : List ℕ) → get same_name l.index name ≡ place_of (take l.k l.fn.names) name;
  count : index_map_len l.index ≡ l.k;
  room : index_map_len l.fn.index + spare l.fn.index ≤ index_map_len l.index + spare l.index;
}
