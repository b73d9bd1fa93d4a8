use Rattle.std.proofs.Common.{ap, ◌∙◌}
use Rattle.hprof_wide.specs.declared.wide_sub.WideSub.{WideSub}
use Rattle.hprof_convert.specs.Names.{with_names}
use Rattle.hprof_convert.specs.Identifiers.{ids_of_part}
use Rattle.hprof_convert.proofs.Namings.{each-named}
use Rattle.hprof_convert.proofs.identifiers.name_parts.Goals as goal

pub loop-part-preserved : goal.loop-part-preserved
loop-part-preserved c =
    each-named (ids_of_part c.args.width c.args.classes.now) c.args.parts.now c.loop-part.part-index _ c.loop-part.names c.name_part.new.names c.loop-part-test.true
    (c.in_ok-name_part.ensures ∙ ap (λ (p : WideSub). with_names c.loop-part.names (ids_of_part c.args.width c.args.classes.now p)) c.part-item.is)
    ∙ c.loop-part.invariant
