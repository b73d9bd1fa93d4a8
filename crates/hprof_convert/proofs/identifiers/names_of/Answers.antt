use Rattle.std.proofs.Common.{ap, ◌∙◌}
use Rattle.hprof_wide.specs.declared.wide_top.WideTop.{WideTop}
use Rattle.hprof_convert.specs.Names.{with_names}
use Rattle.hprof_convert.specs.Identifiers.{ids_of_record}
use Rattle.hprof_convert.proofs.Namings.{each-named}
use Rattle.hprof_convert.proofs.identifiers.names_of.Goals as goal

pub loop-one-preserved : goal.loop-one-preserved
loop-one-preserved c =
    each-named (ids_of_record c.args.width c.args.classes.now) c.args.records.now c.loop-one.one-index _ c.loop-one.names c.name_record.new.names c.loop-one-test.true
    (c.in_ok-name_record.ensures ∙ ap (λ (r : WideTop). with_names c.loop-one.names (ids_of_record c.args.width c.args.classes.now r)) c.one-item.is)
    ∙ c.loop-one.invariant
