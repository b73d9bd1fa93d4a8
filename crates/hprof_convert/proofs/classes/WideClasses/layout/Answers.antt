use Rattle.std.proofs.Common.{ap, sym, ◌∙◌, length, option_map}
use Rattle.std.specs.Prelude.{option_and_then}
use Rattle.dump_graph.specs.Climbing.{gathered}
use Rattle.dump_graph.proofs.Layouts.{codes-by-climb}
use Rattle.hprof_convert.specs.Layouts.{if_of_size}
use Rattle.hprof_convert.proofs.classes.WideClasses.layout.Goals as goal

pub returns-in-None : goal.returns-in-None
returns-in-None c =
    let known = c.args.self.now in
    sym (ap (option_and_then (if_of_size c.args.width c.args.size)) (codes-by-climb known (length known) c.args.class ∙ ap (option_map (gathered known (length known))) (sym c.laid_out.ensures ∙ c.in-None.is)))

pub returns-in-Some : goal.returns-in-Some
returns-in-Some c =
    let known = c.args.self.now in
    let e = ap (option_and_then (if_of_size c.args.width c.args.size)) (codes-by-climb known (length known) c.args.class ∙ ap (option_map (gathered known (length known))) (sym c.laid_out.ensures ∙ c.in-Some.is)) in
    rw e c.gather.ensures
