use Rattle.std.proofs.Common.{◌≡◌, ◌≤◌, length, rules, subst, sym}
use Rattle.heap_graph.specs.Collection.{collect, loose_count}
use Rattle.heap_graph.specs.Formed.{IsFormed}
use Rattle.heap_world.proofs.FormedKept.{collect_formed}
use Rattle.plain_machine.proofs.Collected.{collected_fewer, loose_fewer}
use Rattle.plain_machine.proofs.part.Part.collected.Goals as goal

pub returns-clause-formed : goal.returns-clause-formed
returns-clause-formed c =
    let is : c.in_ok-graph.graph ≡ collect c.args.self.now.graph = search rules in
    subst IsFormed (sym is) (collect_formed c.args.self.now.graph c.requires.sealed c.requires.sound.formed)

pub returns-clause-fewer : goal.returns-clause-fewer
returns-clause-fewer c =
    let is : c.in_ok-graph.graph ≡ collect c.args.self.now.graph = search rules in
    subst (λ g. length g.objects ≤ length c.args.self.now.graph.objects) (sym is) (collected_fewer c.args.self.now.graph)

pub returns-clause-loose : goal.returns-clause-loose
returns-clause-loose c =
    let is : c.in_ok-graph.graph ≡ collect c.args.self.now.graph = search rules in
    subst (λ g. loose_count g ≤ length c.args.self.now.graph.objects) (sym is) (loose_fewer c.args.self.now.graph)
