use Rattle.root_paths.proofs.Shortest.{edge-near, root-dist}
use Rattle.root_paths.proofs.laws.distances_show_themselves.Goals as goal

pub returns-clause-roots : goal.returns-clause-roots
returns-clause-roots c = root-dist

pub returns-clause-edges : goal.returns-clause-edges
returns-clause-edges c g m n d lead is edge = let r = edge-near g lead m n d is edge in (r.0, r.1.0, r.1.1)
