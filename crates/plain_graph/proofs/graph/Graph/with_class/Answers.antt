use Rattle.std.proofs.Common.{sym, ap, ◌∙◌}
use Rattle.class_layout.specs.ClassList.{define_class}
use Rattle.heap_graph.specs.Graph.{Graph}
use Rattle.plain_graph.proofs.graph.Graph.with_class.Goals as goal

-- the class goes into the copy's classes
pub returns-clause-made : goal.returns-clause-made
returns-clause-made c =
    let same = c.graph.view_is ∙ c.in_ok-graph.ensures in
    let classes = ap (λ (g : Graph). g.classes) same in (
      c.define.new.self,
      sym (ap (λ cs. define_class cs c.args.name c.args.parent.now c.args.fields.now) classes) ∙ c.in_ok-define.ensures.made.1,
      ap (λ (g : Graph). record g { classes = c.define.new.self }) same,
    )
