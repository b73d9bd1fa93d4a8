use Rattle.std.proofs.Common.{ℕ, ◌<◌, ◌^◌, List, ap, subst, sym, ◌∙◌}
use Rattle.hprof_records.specs.declared.top_record.TopRecord.TheVariants.{Text, LoadClass, Trace}
use Rattle.hprof_records.specs.Dump.{IsRecord}
use Rattle.hprof_records.specs.Records.{bytes_of_record}
use Rattle.hprof_list.proofs.Putting.{said}
use Rattle.hprof_bytes.proofs.Frames.{trace-length}
use Rattle.hprof_bytes.proofs.records.put_record.Goals as goal

pub put_trace-requires : goal.put_trace-requires
put_trace-requires g c =
    let t = c.in-Trace in
    let formed : IsRecord (Trace t.time t.serial t.thread t.frames t.rest) = subst IsRecord t.is c.requires in
    let fits : ℕ → Type 0 = λ n. n < 2 ^ 32 in
    rw (c.as_slice-in-Trace.ensures, c.as_slice-in-Trace-2.ensures) (subst fits (sym (trace-length t.time t.serial t.thread t.frames t.rest)) formed.2)

pub returns-in-Text : goal.returns-in-Text
returns-in-Text g c =
    said _ _ _ _ _ _ _ c.put_text.ensures (ap (λ (l : List ℕ). bytes_of_record (Text c.in-Text.time c.in-Text.id l)) c.as_slice.ensures ∙ ap bytes_of_record (sym c.in-Text.is))

pub returns-in-LoadClass : goal.returns-in-LoadClass
returns-in-LoadClass g c =
    let r = c.in-LoadClass in
    said _ _ _ _ _ _ _ c.put_load.ensures (ap (λ (l : List ℕ). bytes_of_record (LoadClass r.time r.serial r.class r.stack r.name l)) c.as_slice-in-LoadClass.ensures ∙ ap bytes_of_record (sym r.is))

pub returns-in-Trace : goal.returns-in-Trace
returns-in-Trace g c =
    let t = c.in-Trace in
    said _ _ _ _ _ _ _ c.put_trace.ensures
    (ap (λ (l : List ℕ). bytes_of_record (Trace t.time t.serial t.thread l c.as_slice-in-Trace-2.result.now)) c.as_slice-in-Trace.ensures
    ∙ (ap (λ (l : List ℕ). bytes_of_record (Trace t.time t.serial t.thread t.frames l)) c.as_slice-in-Trace-2.ensures
    ∙ ap bytes_of_record (sym t.is)))
