use Rattle.std.proofs.Common.{ap, arith}
use Rattle.region_space.proofs.PackLemmas.{full-most, full_or}
use Rattle.region_space.proofs.WalkLemmas.{in_use-filled}
use Rattle.region_space.proofs.space.Regions.would_open.Goals as goal

pub overflow_add-result : goal.overflow_add-result
overflow_add-result c =
    let most = full-most c.self.inside.lists.in_use (in_use-filled c.self.inside.lists (c.self.invariant.0)) in
    omega (arith, most, ap full_or c.in-Some.ensures, c.requires.greatest)
