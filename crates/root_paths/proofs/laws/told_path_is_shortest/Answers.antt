use Rattle.root_paths.proofs.Shortest.{path-longer, way-is-path}
use Rattle.root_paths.proofs.laws.told_path_is_shortest.Goals as goal

pub returns-clause-path : goal.returns-clause-path
returns-clause-path c g n k is = (way-is-path g k n is).0

pub returns-clause-end : goal.returns-clause-end
returns-clause-end c g n k is = (way-is-path g k n is).1

pub returns-clause-length : goal.returns-clause-length
returns-clause-length c g n k is = (way-is-path g k n is).2

pub returns-clause-shortest : goal.returns-clause-shortest
returns-clause-shortest c = path-longer
