use Rattle.root_paths.proofs.Shortest.{no-path}
use Rattle.root_paths.proofs.laws.no_path_ends_without_distance.Goals as goal

pub returns : goal.returns
returns c g n p lead none path end = no-path g lead n p none path end
