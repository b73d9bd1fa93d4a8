use Rattle.std.proofs.Common.{◌≡◌, ap, subst, ◌∙◌}
use Rattle.heap_graph.specs.Graph.{Graph}
use Rattle.heap_graph.specs.Formed.{IsFormed}
use Rattle.plain_view.specs.Viewed.{Viewed}
use Rattle.plain_view.proofs.Shown.{root-null, root-value}
use Rattle.plain_view.proofs.view.ViewHeapView.root_at.Goals as goal

pub returns-in-Object-clause-null : goal.returns-in-Object-clause-null
returns-in-Object-clause-null c =
    let g : Graph = c.args.self.now.graph in
    let e : c.self.inside.graph.now ≡ g = ap (λ (w : Viewed). w.graph) c.self.view_is in
    root-null g c.args.k c.in-Object.number c.stands_at.result.0 c.roots.result.now _ (c.roots.ensures ∙ ap (λ (x : Graph). x.roots) e) c.requires c.in-Object.is c.stands_at.ensures
    (subst IsFormed e c.self.invariant.0)

pub returns-in-Object-clause-value : goal.returns-in-Object-clause-value
returns-in-Object-clause-value c =
    let g : Graph = c.args.self.now.graph in
    let e : c.self.inside.graph.now ≡ g = ap (λ (w : Viewed). w.graph) c.self.view_is in
    root-value g c.args.k c.in-Object.number c.stands_at.result.0 c.roots.result.now _ (c.roots.ensures ∙ ap (λ (x : Graph). x.roots) e) c.requires c.in-Object.is c.stands_at.ensures
