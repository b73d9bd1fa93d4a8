use Rattle.std.proofs.Common.{◌≡◌, ℕ, ◌<◌, ◌^◌, List, length, ap, subst, sym, ◌∙◌}
use Rattle.std.specs.List.{filter_map, flat_map}
use Rattle.hprof_records.specs.declared.top_record.TopRecord.{TopRecord}
use Rattle.hprof_records.specs.Dump.{AreRecords}
use Rattle.hprof_wide.specs.declared.wide_top.WideTop.{WideTop}
use Rattle.hprof_wide.specs.Dump.{AreWideRecords}
use Rattle.dump_graph.specs.Classes.{Class}
use Rattle.hprof_convert.specs.Names.{named}
use Rattle.hprof_convert.specs.Identifiers.{ids_of_record}
use Rattle.hprof_convert.specs.Converted.{converted, converted_record, names_of}
use Rattle.hprof_convert.proofs.Narrowing.{width-least}
use Rattle.hprof_convert.proofs.WellFormed.{records-fit}
use Rattle.hprof_convert.proofs.conversion.convert.Goals as goal

pub returns-clause-converted : goal.returns-clause-converted
returns-clause-converted c =
    let w = c.args.dump.now.width in
    let records = c.as_slice-records.result.now in
    c.in_ok-top.ensures
    ∙ (ap (λ (n : List ℕ). filter_map (converted_record w c.in_ok-classes.classes n) records) c.in_ok-names.ensures
    ∙ (ap (λ (k : List Class). filter_map (converted_record w k (named (flat_map (ids_of_record w k) records))) records) c.in_ok-classes.ensures
    ∙ ap (converted w) c.as_slice-records.ensures))

pub returns-clause-formed : goal.returns-clause-formed
returns-clause-formed c =
    let w = c.args.dump.now.width in
    let records = c.as_slice-records.result.now in
    let formed : AreWideRecords w records = subst (λ (l : List WideTop). AreWideRecords w l) (sym c.as_slice-records.ensures) c.requires.formed in
    let few : length c.in_ok-names.names < 2 ^ 32 = subst (λ (l : List ℕ). length l < 2 ^ 32) c.names.view_is c.names.invariant.few in
    subst (λ (l : List TopRecord). AreRecords l) (sym c.in_ok-top.ensures)
    (records-fit w (width-least w c.requires.width) c.in_ok-classes.classes c.in_ok-names.names few records formed)

pub returns-clause-counted : goal.returns-clause-counted
returns-clause-counted c =
    let w = c.args.dump.now.width in
    let few : length c.in_ok-names.names < 2 ^ 32 = subst (λ (l : List ℕ). length l < 2 ^ 32) c.names.view_is c.names.invariant.few in
    let same : c.in_ok-names.names ≡ names_of w c.args.dump.now.top =
    c.in_ok-names.ensures
    ∙ (ap (λ (k : List Class). named (flat_map (ids_of_record w k) c.as_slice-records.result.now)) c.in_ok-classes.ensures
    ∙ ap (names_of w) c.as_slice-records.ensures) in
    subst (λ (l : List ℕ). length l < 2 ^ 32) same few
