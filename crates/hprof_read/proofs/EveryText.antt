-- Each text of bytes is a dump, or has a first fault.
use Rattle.std.proofs.Common.{◌≡◌, ◌≢◌, ℕ, zero, suc, ◌+◌, ◌^◌, ◌<◌, ◌⊎◌, inl, inr, Bool, true, false, cond, ltb, List, [], ◌∷◌, ◌++◌, length, take, drop, Result, Ok, Err, refl, sym, ap, subst, ◌∙◌, arith, All}
use Rattle.std.specs.Prelude.{nat_eq}
use Rattle.std.specs.Int.{w32, w64, from_be_bytes}
use Rattle.std.specs.Cmp.Lexicographic.{pointwise}
use Rattle.std.proofs.lemmas.Bool.{cases_Bool, eqb-true, eqb-false, ltb-true}
use Rattle.std.proofs.lemmas.List.{append-nil, length-append}
use Rattle.std.proofs.lemmas.List.Elements.{All-nil}
use Rattle.hprof_records.specs.declared.sub_record.SubRecord.{SubRecord}
use Rattle.hprof_records.specs.declared.top_record.TopRecord.{TopRecord}
use Rattle.hprof_records.specs.declared.top_record.TopRecord.TheVariants.{Segment, Other}
use Rattle.hprof_records.specs.Parts.{word, bytes_of_parts}
use Rattle.hprof_records.specs.Records.{bytes_of_record, bytes_of_records, header_bytes}
use Rattle.hprof_records.specs.Formed.{IsByte, IsPart, is_one_of}
use Rattle.hprof_records.specs.Dump.{segment_tags, read_tags, IsRecord, AreRecords, IsDump}
use Rattle.hprof_read.specs.declared.fields.Stop.{Stop}
use Rattle.hprof_read.specs.declared.fields.Stop.TheVariants.{Short, Refused}
use Rattle.hprof_read.specs.declared.fields.Halt.TheVariants as halts
use Rattle.hprof_read.specs.declared.read_error.ReadError.{ReadError}
use Rattle.hprof_read.specs.declared.read_error.ReadError.TheVariants as errors
use Rattle.hprof_read.specs.Reading.{number, frame, part_at, part_fault, text_of, load_of, trace_of}
use Rattle.hprof_read.specs.Fault.{magic, field_tags, LacksFields, NoRecord, BodyFault, ContentFault, RecordFault, RecordsFault, HeaderFault, IsFirstFault}
use Rattle.hprof_read.proofs.Formats.{AreBytes, AreBytes-right}
use Rattle.hprof_read.proofs.FieldFormats.{word_format, long_number_format, guard_err}
use Rattle.hprof_read.proofs.PartsByTag.{listed}
use Rattle.hprof_read.proofs.Segments.{part_read, fault_of_part}
use Rattle.hprof_read.proofs.Bodies.{IsRead, text_takes, load_takes, trace_takes, text_lacks, load_lacks, trace_lacks, framed_stands, record_stands, record_fault, cut_record, record_read}
use Rattle.hprof_read.proofs.Header.{begins, begins_not, other_word}

-- reading gave a value, or it stopped
pub cases_read : {A : Type 0} (r : Result A Stop) → ((x : A) × (r ≡ Ok x)) ⊎ ((s : Stop) × (r ≡ Err s))
cases_read (Ok x) = inl (x, refl)
cases_read (Err s) = inr (s, refl)

-- ---- the parts of a segment

told_by : (t : Bool) (a b : ℕ) → cond t (errors.UnknownTag a) (errors.BadType b) ≢ errors.OutOfMemory
told_by true a b e = absurd cc
told_by false a b e = absurd cc

told : (s : Stop) (left end : ℕ) → part_fault (halts.Stopped s) left end ≢ errors.OutOfMemory
told Short left end e = absurd cc
told (Refused n) left end e = told_by (nat_eq n left) _ _ e

abbrev PartsOrFault : List ℕ → ℕ → Type 0
PartsOrFault body at = ((parts : List SubRecord) × (All IsPart parts × (body ≡ bytes_of_parts parts))) ⊎ ((e : ReadError) × BodyFault e body at)

parts_behind : (n : ℕ) (body : List ℕ) (at : ℕ) (parts : List SubRecord) (rest : List ℕ) → AreBytes body → body ≡ bytes_of_parts parts ++ rest → All IsPart parts → length rest < n → PartsOrFault body at
parts_behind zero body at parts rest fits whole formed lt = absurd (omega (arith, lt))
parts_behind (suc n) body at parts [] fits whole formed lt = inl (parts, (formed, whole ∙ append-nil (bytes_of_parts parts)))
parts_behind (suc n) body at parts (b ∷ rest) fits whole formed lt =
    elim (cases_read (part_at (b ∷ rest))) [
      | inl x ↦
          let one = part_read body parts (b ∷ rest) x.0.0 x.0.1 fits whole formed x.1 in
          parts_behind n body at (parts ++ x.0.0 ∷ []) x.0.1 fits one.whole one.formed (omega (arith, one.shorter, lt))
      | inr s ↦
          let fits' : AreBytes (b ∷ rest) = AreBytes-right (bytes_of_parts parts) (b ∷ rest) (subst AreBytes whole fits) in
          let end = at + length body in
          let sums : (at + length (bytes_of_parts parts)) + length (b ∷ rest) ≡ end = omega (arith, ap length whole, length-append (bytes_of_parts parts) (b ∷ rest)) in
          let f = fault_of_part (halts.Stopped s.0) (b ∷ rest) (at + length (bytes_of_parts parts)) end fits' s.1 sums (told s.0 (length (b ∷ rest)) end) in
          inr (part_fault (halts.Stopped s.0) (length (b ∷ rest)) end, (parts, b ∷ rest, (formed, whole, (λ e. absurd cc), f.0, f.1)))
    ]

-- ---- a record's body

abbrev ContentOrFault : ℕ → List ℕ → ℕ → ℕ → Type 0
ContentOrFault time body o tag = ((r : TopRecord) × IsRead tag time body r) ⊎ ((e : ReadError) × ContentFault e tag body o)

fields_or_fault : (tag time : ℕ) (body : List ℕ) (o : ℕ) (read : Result TopRecord Stop) → is_one_of field_tags tag ≡ true → ((r : TopRecord) → read ≡ Ok r → IsRead tag time body r) → ((s : Stop) → read ≡ Err s → LacksFields tag body) → ContentOrFault time body o tag
fields_or_fault tag time body o read fields takes lacks =
    elim (cases_read read) [
      | inl r ↦ inl (r.0, takes r.0 r.1)
      | inr s ↦ inr (errors.PastEnd o, inl (refl, (fields, lacks s.0 s.1)))
    ]

segment_or_fault : (tag time : ℕ) (body : List ℕ) (o : ℕ) → AreBytes body → is_one_of segment_tags tag ≡ true → ContentOrFault time body o tag
segment_or_fault tag time body o fits is =
    elim (parts_behind (suc (length body)) body (o + 9) [] body fits refl (All-nil IsPart) (omega arith)) [
      | inl p ↦ inl (Segment time tag (length body) p.0, ((is, ap length p.1.1, p.1.0), refl, refl, sym p.1.1))
      | inr f ↦ inr (f.0, inr (is, f.1))
    ]

content_or_fault : (tag time : ℕ) (body : List ℕ) (o : ℕ) → IsByte tag → AreBytes body → ContentOrFault time body o tag
content_or_fault tag time body o byte fits =
    elim (cases_Bool (is_one_of read_tags tag)) [
      | inl h ↦
          let texts : ContentOrFault time body o 0x01 = fields_or_fault 0x01 time body o (text_of time body) refl (λ r e. text_takes time body r fits e) (λ s e. text_lacks time body s e) in
          let loads : ContentOrFault time body o 0x02 = fields_or_fault 0x02 time body o (load_of time body) refl (λ r e. load_takes time body r fits e) (λ s e. load_lacks time body s e) in
          let traces : ContentOrFault time body o 0x05 = fields_or_fault 0x05 time body o (trace_of time body) refl (λ r e. trace_takes time body r fits e) (λ s e. trace_lacks time body s e) in
          listed (ContentOrFault time body o) read_tags tag (texts, (loads, (traces, (segment_or_fault 0x0c time body o fits refl, (segment_or_fault 0x1c time body o fits refl, tt))))) h
      | inr h ↦ inl (Other time tag body, ((byte, h, fits), refl, refl, refl))
    ]

-- ---- records

abbrev RecordOrFault : List ℕ → ℕ → Type 0
RecordOrFault rest o =
    ((r : TopRecord) × (after : List ℕ) × (IsRecord r × (rest ≡ bytes_of_record r ++ after)))
    ⊎ ((e : ReadError) × (NoRecord rest × RecordFault e rest o))

record_or_fault : (rest : List ℕ) (o : ℕ) → AreBytes rest → RecordOrFault rest o
record_or_fault rest o fits =
    elim (cases_read (frame rest)) [
      | inl x ↦
          let tag = x.0.0.0 in
          let time = x.0.0.1.0 in
          let body = x.0.0.1.1 in
          let after = x.0.1 in
          let one = framed_stands rest tag time body after fits x.1 in
          elim (content_or_fault tag time body o one.1.0 one.1.3) [
            | inl r ↦ inl (r.0, after, record_stands rest tag time body after r.0 fits x.1 r.1)
            | inr f ↦ inr (f.0, record_fault f.0 rest tag time body after o fits x.1 f.1)
          ]
      | inr s ↦ let cut = cut_record rest s.0 fits s.1 in inr (errors.CutShort o, (cut.0, inl (refl, cut.1)))
    ]

abbrev RecordsOrFault : List ℕ → ℕ → Type 0
RecordsOrFault text at = ((records : List TopRecord) × (AreRecords records × (text ≡ bytes_of_records records))) ⊎ ((e : ReadError) × RecordsFault e text at)

records_behind : (n : ℕ) (text : List ℕ) (at : ℕ) (records : List TopRecord) (rest : List ℕ) → AreBytes text → text ≡ bytes_of_records records ++ rest → AreRecords records → length rest < n → RecordsOrFault text at
records_behind zero text at records rest fits whole formed lt = absurd (omega (arith, lt))
records_behind (suc n) text at records [] fits whole formed lt = inl (records, (formed, whole ∙ append-nil (bytes_of_records records)))
records_behind (suc n) text at records (b ∷ rest) fits whole formed lt =
    let fits' : AreBytes (b ∷ rest) = AreBytes-right (bytes_of_records records) (b ∷ rest) (subst AreBytes whole fits) in
    elim (record_or_fault (b ∷ rest) (at + length (bytes_of_records records)) fits') [
      | inl x ↦
          let one = record_read text records (b ∷ rest) x.0 x.1 whole formed x.2.0 x.2.1 in
          records_behind n text at (records ++ x.0 ∷ []) x.1 fits one.whole one.formed (omega (arith, one.shorter, lt))
      | inr f ↦ inr (f.0, (records, b ∷ rest, (formed, whole, (λ e. absurd cc), f.1.0, f.1.1)))
    ]

-- ---- the header

abbrev HeaderOrFault : List ℕ → Type 0
HeaderOrFault text = ((time : ℕ) × (body : List ℕ) × ((time < 2 ^ 64) × (text ≡ header_bytes time ++ body))) ⊎ ((e : ReadError) × HeaderFault e text)

time_or_fault : (text rest : List ℕ) → AreBytes rest → text ≡ magic ++ (word 4 ++ rest) → HeaderOrFault text
time_or_fault text rest fits whole =
    elim (cases_read (number w64 rest)) [
      | inl x ↦
          let one = long_number_format.takes rest x.0.0 x.0.1 fits x.1 in
          inl (x.0.0, x.0.1, (one.1, whole ∙ ap (λ (t : List ℕ). magic ++ (word 4 ++ t)) one.0))
      | inr s ↦
          let got : ℕ × List ℕ = (from_be_bytes w64 (take 8 rest), drop 8 rest) in
          let few : length rest < 8 = ltb-true _ _ (guard_err (ltb (length rest) 8) Short s.0 got s.1).0 in
          inr (errors.CutShort 23, inr (refl, (rest, (whole, few))))
    ]

size_or_fault : (text rest : List ℕ) → AreBytes rest → text ≡ magic ++ rest → HeaderOrFault text
size_or_fault text rest fits whole =
    elim (cases_read (number w32 rest)) [
      | inl x ↦
          let one = word_format.takes rest x.0.0 x.0.1 fits x.1 in
          elim (cases_Bool (nat_eq x.0.0 4)) [
            | inl h ↦
                let four : rest ≡ word 4 ++ x.0.1 = one.0 ∙ ap (λ (n : ℕ). word n ++ x.0.1) (eqb-true _ _ h) in
                time_or_fault text x.0.1 (AreBytes-right (word 4) x.0.1 (subst AreBytes four fits)) (whole ∙ ap (λ (t : List ℕ). magic ++ t) four)
            | inr h ↦ inr (errors.IdSize 19, (refl, (word x.0.0, x.0.1, (whole ∙ ap (λ (t : List ℕ). magic ++ t) one.0, refl, other_word x.0.0 4 one.1 (omega arith) (eqb-false _ _ h)))))
          ]
      | inr s ↦
          let got : ℕ × List ℕ = (from_be_bytes w32 (take 4 rest), drop 4 rest) in
          let few : length rest < 4 = ltb-true _ _ (guard_err (ltb (length rest) 4) Short s.0 got s.1).0 in
          inr (errors.CutShort 19, inl (refl, (rest, (whole, few))))
    ]

header_or_fault : (text : List ℕ) → AreBytes text → HeaderOrFault text
header_or_fault text fits =
    elim (cases_Bool (pointwise nat_eq (take (length magic) text) magic)) [
      | inl h ↦
          let whole : text ≡ magic ++ drop (length magic) text = begins magic text h in
          size_or_fault text (drop (length magic) text) (AreBytes-right magic (drop (length magic) text) (subst AreBytes whole fits)) whole
      | inr h ↦ inr (errors.Magic 0, (refl, (λ rest e. begins_not magic text rest h e)))
    ]

pub dump_or_fault : (text : List ℕ) → AreBytes text → IsDump text ⊎ ((e : ReadError) × IsFirstFault e text)
dump_or_fault text fits =
    elim (header_or_fault text fits) [
      | inl h ↦
          let fits' : AreBytes h.1 = AreBytes-right (header_bytes h.0) h.1 (subst AreBytes h.2.1 fits) in
          elim (records_behind (suc (length h.1)) h.1 31 [] h.1 fits' refl (All-nil IsRecord) (omega arith)) [
            | inl r ↦ inl (h.0, r.0, (h.2.0, r.1.0, h.2.1 ∙ ap (λ (t : List ℕ). header_bytes h.0 ++ t) r.1.1))
            | inr f ↦ inr (f.0, inr (h.0, h.1, (h.2.0, h.2.1, f.1)))
          ]
      | inr f ↦ inr (f.0, inl f.1)
    ]
