use Rattle.std.proofs.Common.{◌≡◌, map}
use Rattle.std.specs.Prelude.{filter}
use Rattle.std.specs.List.{range_with_len}
use Rattle.root_paths.specs.Paths.{is_root}
use Rattle.root_paths.specs.Levels.{root_reach}
use Rattle.root_paths.proofs.levels.reach_roots.Given as goal

abbrev pub invariant-loop-i : goal.invariant-loop-i
invariant-loop-i l = record {
  reached : l.reached.items ≡ map (root_reach l.graph) (range_with_len 0 l.i);
  roots : l.roots.items ≡ filter (is_root l.graph) (range_with_len 0 l.i);
}
