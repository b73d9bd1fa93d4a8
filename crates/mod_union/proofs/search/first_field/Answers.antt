use Rattle.std.proofs.Common.{◌/◌, ◌≤◌, sym, subst, arith}
use Rattle.heap_graph.specs.declared.names.Shape.TheVariants.{Instance}
use Rattle.mod_union.proofs.Refs.{reference-low}
use Rattle.mod_union.proofs.search.first_field.Goals as goal

pub loop-low-init : goal.loop-low-init
loop-low-init c = record {
  order = omega arith;
  small = subst (λ n. c.args.offset / n ≤ c.args.offset) (sym c.bytes.ensures) (omega arith);
  before = λ k place low is. absurd (omega arith);
  behind = λ k place high is.
      let low = reference-low c.args.classes.now (Instance c.args.class) k place is in
      let most : c.args.offset / 4 ≤ k = subst (λ n. c.args.offset / n ≤ k) c.bytes.ensures high in
      omega (arith, low, most);
}
