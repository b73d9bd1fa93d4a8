use Rattle.std.proofs.Common.{List, ◌++◌, take, ap, sym, ◌∙◌}
use Rattle.std.specs.Prelude.{option_to_list}
use Rattle.std.specs.List.{filter_map}
use Rattle.hprof_records.specs.declared.top_record.TopRecord.{TopRecord}
use Rattle.hprof_wide.specs.declared.wide_top.WideTop.{WideTop}
use Rattle.hprof_convert.specs.Converted.{converted_record}
use Rattle.hprof_convert.proofs.Renaming.{kept-more}
use Rattle.hprof_convert.proofs.converted.converted_records.Goals as goal

pub loop-one-preserved : goal.loop-one-preserved
loop-one-preserved c =
    let f = converted_record c.args.width c.args.classes.now c.args.names.now in
    let i = c.loop-one.one-index in
    c.in_ok-add_record.ensures
    ∙ (ap (λ (l : List TopRecord). l ++ option_to_list (f c.one-item.result)) c.loop-one.invariant
    ∙ (ap (λ (r : WideTop). filter_map f (take i c.args.records.now) ++ option_to_list (f r)) c.one-item.is
    ∙ sym (kept-more f c.args.records.now i _ c.loop-one-test.true)))
