use Rattle.std.proofs.Common.{◌≡◌, true, IfOk, rules, subst, sym}
use Rattle.heap_graph.specs.Collection.{collect}
use Rattle.heap_world.specs.Acts.{gc_if, gc_to}
use Rattle.plain_machine.specs.Outcomes.{IsOutcome}
use Rattle.plain_machine.proofs.part.Part.collect.Goals as goal

pub returns : goal.returns
returns c =
    let is : c.in_ok-collected.field-0 ≡ collect c.args.self.now.graph = search rules in
    let sealed : c.args.self.now.graph.sealed ≡ true = search rules in
    subst (λ b. IfOk c.collect_to.result (λ out. IsOutcome c.args.self.now out (gc_if b c.args.self.now))) (sym sealed)
    (subst (λ g. IfOk c.collect_to.result (λ out. IsOutcome c.args.self.now out (gc_to c.args.self.now g))) is c.collect_to.ensures)
