use Rattle.std.proofs.Common.{◌∙◌, ap, sym, arith, nat_eq, length}
use Rattle.dump_graph.proofs.Positions.{position-at}
use Rattle.hprof_convert.proofs.places.Places.rename.Goals as goal

pub overflow_add-result : goal.overflow_add-result
overflow_add-result c =
    let at = position-at (nat_eq c.args.id) c.args.self.now c.in-Some.place 0 (sym c.place_of.ensures ∙ c.in-Some.is) in
    let same = ap length c.self.view_is in
    omega (arith, at.0, same, c.self.invariant.few)
