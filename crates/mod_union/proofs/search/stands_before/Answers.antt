use Rattle.std.proofs.Common.{◌∙◌, sym, arith}
use Rattle.std.proofs.lemmas.Bool.{ltb-true, ltb-false}
use Rattle.heap_graph.specs.declared.names.Shape.TheVariants.{Instance}
use Rattle.mod_union.proofs.Refs.{found-none, found-place, none-behind, reference-order}
use Rattle.mod_union.proofs.search.stands_before.Goals as goal

pub returns-in-Some-clause-before : goal.returns-in-Some-clause-before
returns-in-Some-clause-before c is j place le there =
    let it = found-place c.args.classes.now (Instance c.args.class) c.args.k c.in-Some.at c.in-Some.field-0-1 (sym c.in-Some.is ∙ c.ref_offset.ensures) in
    let low = ltb-true c.in-Some.at c.args.offset is in
    let order = reference-order c.args.classes.now (Instance c.args.class) j c.args.k place it.0 le there it.1 in
    omega (arith, low, order, it.2)

pub returns-in-Some-clause-behind : goal.returns-in-Some-clause-behind
returns-in-Some-clause-behind c is j place le there =
    let it = found-place c.args.classes.now (Instance c.args.class) c.args.k c.in-Some.at c.in-Some.field-0-1 (sym c.in-Some.is ∙ c.ref_offset.ensures) in
    let high = ltb-false c.in-Some.at c.args.offset is in
    let order = reference-order c.args.classes.now (Instance c.args.class) c.args.k j it.0 place le it.1 there in
    omega (arith, high, order, it.2)

pub returns-in-None-clause-behind : goal.returns-in-None-clause-behind
returns-in-None-clause-behind c is j place le there =
    absurd (none-behind c.args.classes.now (Instance c.args.class) j c.args.k place le (found-none c.args.classes.now (Instance c.args.class) c.args.k (sym c.in-None.is ∙ c.ref_offset.ensures)) there)
