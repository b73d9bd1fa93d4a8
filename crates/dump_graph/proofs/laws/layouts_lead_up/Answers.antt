use Rattle.dump_graph.proofs.Superclasses.{layout-up, layout-way}
use Rattle.dump_graph.proofs.laws.layouts_lead_up.Goals as goal

pub returns : goal.returns
returns c = record { layout = layout-up; line = layout-way }
