use Rattle.std.proofs.Common.{List, ◌++◌, take, ap, sym, ◌∙◌}
use Rattle.std.specs.List.{filter_map}
use Rattle.dump_graph.specs.Classes.{Class}
use Rattle.hprof_wide.specs.declared.wide_sub.WideSub.{WideSub}
use Rattle.hprof_convert.specs.Layouts.{wide_class_of, wide_classes, wide_parts_of}
use Rattle.hprof_convert.proofs.ClassDumps.{classes-more}
use Rattle.hprof_convert.proofs.classes.known_classes.Goals as goal

pub loop-one-preserved : goal.loop-one-preserved
loop-one-preserved c =
    let before : List Class = wide_classes (take c.loop-one.one-index c.args.records.now) in
    c.in_ok-add_classes.ensures
    ∙ (ap (λ (l : List Class). l ++ filter_map wide_class_of c.parts_of.result.now) c.loop-one.invariant
    ∙ (ap (λ (l : List WideSub). before ++ filter_map wide_class_of l) (c.parts_of.ensures ∙ ap wide_parts_of c.one-item.is)
    ∙ sym (classes-more c.args.records.now c.loop-one.one-index _ c.loop-one-test.true)))
