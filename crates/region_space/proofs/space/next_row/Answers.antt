use Rattle.std.proofs.Common.{ap, arith}
use Rattle.region_space.proofs.PackLemmas.{full-most, full_or}
use Rattle.region_space.proofs.WalkLemmas.{in_use-filled}
use Rattle.region_space.proofs.space.next_row.Goals as goal

pub overflow_add-row : goal.overflow_add-row
overflow_add-row c =
    let most = full-most c.args.lists.now.in_use (in_use-filled c.args.lists.now c.requires.space) in
    omega (arith, most, ap full_or c.in-Some.ensures, c.requires.size.greatest)
