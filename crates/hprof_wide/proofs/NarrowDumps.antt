-- A dump with identifiers of 4 bytes is a wide dump with the same records.
use Rattle.std.proofs.Common.{◌≡◌, ℕ, ◌<◌, ◌^◌, Bool, true, false, cond, inl, inr, List, [], ◌∷◌, ◌++◌, length, map, None, Some, refl, sym, ap, subst, ◌∙◌, All}
use Rattle.std.specs.Prelude.{nat_eq}
use Rattle.std.proofs.lemmas.Bool.{eqb-true}
use Rattle.std.proofs.lemmas.List.Elements.{All-nil, All-cons, All-head, All-tail, All-weaker}
use Rattle.hprof_records.specs.declared.sub_record.SubRecord.{SubRecord}
use Rattle.hprof_records.specs.declared.sub_record.SubRecord.TheVariants.{Root, HeapInfo, ClassDump, Instance, ObjectArray, PrimitiveArray, NoData}
use Rattle.hprof_records.specs.declared.top_record.TopRecord.{TopRecord}
use Rattle.hprof_records.specs.declared.top_record.TopRecord.TheVariants.{Text, LoadClass, Trace, Segment, Other}
use Rattle.hprof_records.specs.Fields.{field}
use Rattle.hprof_records.specs.Types.{value_bytes}
use Rattle.hprof_records.specs.Parts.{word, bytes_of_part, bytes_of_parts}
use Rattle.hprof_records.specs.Records.{body_of, bytes_of_record, bytes_of_records, header_bytes, dump_bytes}
use Rattle.hprof_records.specs.Formed.{IsWord, IsConstant, IsStatic, IsPart}
use Rattle.hprof_records.specs.Dump.{HasFields, IsRecord, AreRecords}
use Rattle.hprof_read.specs.Fault.{framed}
use Rattle.hprof_wide.specs.Parts.{wide_value_bytes, further_width, wide_part_bytes, wide_parts_bytes}
use Rattle.hprof_wide.specs.Records.{wide_body_of, wide_time_of, wide_record_bytes, wide_records_bytes}
use Rattle.hprof_wide.specs.Formed.{IsId, IsWideConstant, IsWideStatic, IsWidePart}
use Rattle.hprof_wide.specs.Dump.{text_3, HasWideFields, IsWideRecord, AreWideRecords, IsWideDumpOf}
use Rattle.hprof_wide.specs.Narrow.{wide_part_of, wide_record_of}

value_by : (code : ℕ) (is_ref : Bool) → nat_eq code 2 ≡ is_ref → cond is_ref 4 (value_bytes code) ≡ value_bytes code
value_by code true e = ap value_bytes (sym (eqb-true _ _ e))
value_by code false e = refl

value_same : (code : ℕ) → wide_value_bytes 4 code ≡ value_bytes code
value_same code = value_by code (nat_eq code 2) refl

same_by : (b : Bool) (n : ℕ) → cond b n n ≡ n
same_by true n = refl
same_by false n = refl

further_same : (tag : ℕ) → further_width 4 tag ≡ 4
further_same tag = same_by (nat_eq tag 0x01) 4

constant_fits : (c : ℕ × ℕ × List ℕ) → IsConstant c → IsWideConstant 4 c
constant_fits c h = (h.0, h.1, (h.2.0, h.2.1 ∙ sym (value_same c.1)))

static_fits : (c : ℕ × ℕ × List ℕ) → IsStatic c → IsWideStatic 4 c
static_fits c h = (h.0, h.1, (h.2.0, h.2.1 ∙ sym (value_same c.1)))

part_fits : (p : SubRecord) → IsPart p → IsWidePart 4 (wide_part_of p)
part_fits (Root tag id None None) fit = fit
part_fits (Root tag id None (Some second)) fit = fit
part_fits (Root tag id (Some first) None) fit = (fit.0, (fit.1.0, subst (λ (n : ℕ). IsId n first) (sym (further_same tag)) fit.1.1))
part_fits (Root tag id (Some first) (Some second)) fit = fit
part_fits (HeapInfo heap name) fit = fit
part_fits (ClassDump id stack parent loader signers domain spare_a spare_b size cs ss fs) fit =
    (fit.0, fit.1, fit.2, fit.3, fit.4, fit.5, fit.6, fit.7, fit.8, fit.9, All-weaker IsConstant (IsWideConstant 4) constant_fits cs fit.10, fit.11, All-weaker IsStatic (IsWideStatic 4) static_fits ss fit.12, fit.13, fit.14)
part_fits (Instance id stack class bytes) fit = fit
part_fits (ObjectArray id stack class items) fit = fit
part_fits (PrimitiveArray id stack code count bytes) fit = fit
part_fits (NoData id stack count code) fit = fit

part_same : (p : SubRecord) → wide_part_bytes 4 (wide_part_of p) ≡ bytes_of_part p
part_same (Root tag id None None) = refl
part_same (Root tag id None (Some second)) = refl
part_same (Root tag id (Some first) None) = ap (λ (n : ℕ). field 1 tag ++ (word id ++ (field n first ++ []))) (further_same tag)
part_same (Root tag id (Some first) (Some second)) = refl
part_same (HeapInfo heap name) = refl
part_same (ClassDump id stack parent loader signers domain spare_a spare_b size cs ss fs) = refl
part_same (Instance id stack class bytes) = refl
part_same (ObjectArray id stack class items) = refl
part_same (PrimitiveArray id stack code count bytes) = refl
part_same (NoData id stack count code) = refl

parts_fit : (ps : List SubRecord) → All IsPart ps → All (IsWidePart 4) (map wide_part_of ps)
parts_fit [] h = All-nil (IsWidePart 4)
parts_fit (p ∷ ps) h = All-cons (IsWidePart 4) (wide_part_of p) (map wide_part_of ps) (part_fits p (All-head IsPart p ps h)) (parts_fit ps (All-tail IsPart p ps h))

parts_same : (ps : List SubRecord) → wide_parts_bytes 4 (map wide_part_of ps) ≡ bytes_of_parts ps
parts_same [] = refl
parts_same (p ∷ ps) = ap (λ (t : List ℕ). t ++ wide_parts_bytes 4 (map wide_part_of ps)) (part_same p) ∙ ap (λ (t : List ℕ). bytes_of_part p ++ t) (parts_same ps)

fields_fit : (r : TopRecord) → HasFields r → HasWideFields 4 (wide_record_of r)
fields_fit (Text time id bytes) fit = fit
fields_fit (LoadClass time serial class stack name rest) fit = fit
fields_fit (Trace time serial thread frames rest) fit = fit
fields_fit (Segment time tag size parts) fit = (fit.0, fit.1 ∙ ap length (sym (parts_same parts)), parts_fit parts fit.2)
fields_fit (Other time tag body) fit = fit

body_same : (r : TopRecord) → wide_body_of 4 (wide_record_of r) ≡ body_of r
body_same (Text time id bytes) = refl
body_same (LoadClass time serial class stack name rest) = refl
body_same (Trace time serial thread frames rest) = refl
body_same (Segment time tag size parts) = parts_same parts
body_same (Other time tag body) = refl

time_fits : (r : TopRecord) → IsRecord r → IsWord (wide_time_of (wide_record_of r))
time_fits (Text time id bytes) fit = fit.0
time_fits (LoadClass time serial class stack name rest) fit = fit.0
time_fits (Trace time serial thread frames rest) fit = fit.0
time_fits (Segment time tag size parts) fit = fit.0
time_fits (Other time tag body) fit = fit.0

record_fits : (r : TopRecord) → IsRecord r → IsWideRecord 4 (wide_record_of r)
record_fits r fit = (time_fits r fit, fields_fit r fit.1, subst (λ (b : List ℕ). IsWord (length b)) (sym (body_same r)) fit.2)

record_same : (r : TopRecord) → wide_record_bytes 4 (wide_record_of r) ≡ bytes_of_record r
record_same (Text time id bytes) = refl
record_same (LoadClass time serial class stack name rest) = refl
record_same (Trace time serial thread frames rest) = refl
record_same (Segment time tag size parts) = ap (framed tag time) (parts_same parts)
record_same (Other time tag body) = refl

records_fit : (rs : List TopRecord) → AreRecords rs → AreWideRecords 4 (map wide_record_of rs)
records_fit [] h = All-nil (IsWideRecord 4)
records_fit (r ∷ rs) h = All-cons (IsWideRecord 4) (wide_record_of r) (map wide_record_of rs) (record_fits r (All-head IsRecord r rs h)) (records_fit rs (All-tail IsRecord r rs h))

records_same : (rs : List TopRecord) → wide_records_bytes 4 (map wide_record_of rs) ≡ bytes_of_records rs
records_same [] = refl
records_same (r ∷ rs) = ap (λ (t : List ℕ). t ++ wide_records_bytes 4 (map wide_record_of rs)) (record_same r) ∙ ap (λ (t : List ℕ). bytes_of_record r ++ t) (records_same rs)

pub dump_is_wide : (time : ℕ) (records : List TopRecord) → time < 2 ^ 64 → AreRecords records → IsWideDumpOf 4 time (map wide_record_of records) (dump_bytes time records)
dump_is_wide time records small formed =
    (text_3, ((inr refl, inl refl, small), records_fit records formed, ap (λ (t : List ℕ). header_bytes time ++ t) (sym (records_same records))))
