use Rattle.std.proofs.Common.{◌≡◌, ℕ, ◌+◌, ◌*◌, List, length, ap, sym, subst, ◌∙◌}
use Rattle.std.specs.Prelude.{IfSome}
use Rattle.std.specs.List.{flat_map}
use Rattle.hprof_records.specs.Fields.{field}
use Rattle.hprof_wide.specs.declared.wide_top.WideTop.{WideTop}
use Rattle.hprof_wide.specs.Records.{wide_record_bytes}
use Rattle.hprof_convert.proofs.MissingLemmas.{length-ids, size-load, size-text, size-trace}
use Rattle.hprof_convert.proofs.missing.wide_record_size.Goals as goal

pub returns-in-Text : goal.returns-in-Text
returns-in-Text c =
    let r = c.in-Text in
    let w = c.args.width in
    subst (λ k. IfSome c.more.result (λ n. n ≡ k)) (ap (λ (l : List ℕ). 9 + w + length l) c.as_slice.ensures ∙ size-text w r.time r.id r.bytes ∙ ap (λ (x : WideTop). length (wide_record_bytes w x)) (sym r.is)) c.more.ensures

pub returns-in-LoadClass : goal.returns-in-LoadClass
returns-in-LoadClass c =
    let r = c.in-LoadClass in
    let w = c.args.width in
    subst (λ k. IfSome c.with_two_ids.result (λ n. n ≡ k)) (ap (λ (l : List ℕ). 17 + 2 * w + length l) c.as_slice-in-LoadClass.ensures ∙ size-load w r.time r.serial r.class r.stack r.name r.rest ∙ ap (λ (x : WideTop). length (wide_record_bytes w x)) (sym r.is)) c.with_two_ids.ensures

pub returns-in_ok-ids-in-Trace : goal.returns-in_ok-ids-in-Trace
returns-in_ok-ids-in-Trace c =
    let r = c.in-Trace in
    let w = c.args.width in
    subst (λ k. IfSome c.more-in-Trace.result (λ n. n ≡ k)) (ap (λ k. 21 + k + length c.as_slice-in-Trace-2.result.now) (c.in_ok-ids-in-Trace.ensures ∙ (ap (λ (l : List ℕ). length l * w) c.as_slice-in-Trace.ensures ∙ sym (length-ids w r.frames)))
    ∙ ap (λ (l : List ℕ). 21 + length (flat_map (field w) r.frames) + length l) c.as_slice-in-Trace-2.ensures ∙ size-trace w r.time r.serial r.thread r.frames r.rest ∙ ap (λ (x : WideTop). length (wide_record_bytes w x)) (sym r.is)) c.more-in-Trace.ensures
