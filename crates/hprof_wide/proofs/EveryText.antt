-- Each text of bytes is a wide dump, or has a first fault.
use Rattle.std.proofs.Common.{◌≡◌, ◌≢◌, ℕ, zero, suc, ◌+◌, ◌<◌, ◌⊎◌, inl, inr, Bool, true, false, cond, ltb, List, [], ◌∷◌, ◌++◌, length, take, drop, Result, Ok, Err, refl, sym, ap, subst, ◌∙◌, arith, All}
use Rattle.std.specs.Prelude.{nat_eq}
use Rattle.std.specs.Int.{w32, w64, from_be_bytes}
use Rattle.std.specs.Cmp.Lexicographic.{pointwise}
use Rattle.std.proofs.lemmas.Bool.{cases_Bool, eqb-true, eqb-false, ltb-true}
use Rattle.std.proofs.lemmas.List.{append-nil, length-append}
use Rattle.std.proofs.lemmas.List.Elements.{All-nil}
use Rattle.hprof_records.specs.Fields.{field}
use Rattle.hprof_records.specs.Parts.{word}
use Rattle.hprof_records.specs.Formed.{IsByte, is_one_of}
use Rattle.hprof_records.specs.Dump.{segment_tags, read_tags}
use Rattle.hprof_read.specs.declared.fields.Stop.{Stop}
use Rattle.hprof_read.specs.declared.fields.Stop.TheVariants.{Short, Refused}
use Rattle.hprof_read.specs.declared.fields.Halt.TheVariants as halts
use Rattle.hprof_read.specs.Reading.{number, frame}
use Rattle.hprof_read.specs.Fault.{field_tags}
use Rattle.hprof_read.proofs.Formats.{AreBytes, AreBytes-right}
use Rattle.hprof_read.proofs.FieldFormats.{word_format, long_number_format, guard_err}
use Rattle.hprof_read.proofs.PartsByTag.{listed}
use Rattle.hprof_read.proofs.Bodies.{framed_stands}
use Rattle.hprof_read.proofs.EveryText.{cases_read}
use Rattle.hprof_read.proofs.Header.{begins, begins_not, other_word}
use Rattle.hprof_wide.specs.declared.ids.IdSize.{IdSize}
use Rattle.hprof_wide.specs.declared.ids.IdSize.TheVariants.{Four, Eight}
use Rattle.hprof_wide.specs.declared.wide_sub.WideSub.{WideSub}
use Rattle.hprof_wide.specs.declared.wide_top.WideTop.{WideTop}
use Rattle.hprof_wide.specs.declared.wide_top.WideTop.TheVariants.{Segment, Other}
use Rattle.hprof_wide.specs.declared.wide_error.WideError.{WideError}
use Rattle.hprof_wide.specs.declared.wide_error.WideError.TheVariants as errors
use Rattle.hprof_wide.specs.Parts.{wide_parts_bytes}
use Rattle.hprof_wide.specs.Records.{wide_record_bytes, wide_records_bytes, wide_header_bytes}
use Rattle.hprof_wide.specs.Formed.{IsIdWidth, IsWidePart}
use Rattle.hprof_wide.specs.Dump.{text_2, text_3, IsHeader, IsWideRecord, AreWideRecords, IsWideDump}
use Rattle.hprof_wide.specs.Reading.{width_of, part_at, part_fault, text_of, load_of, trace_of}
use Rattle.hprof_wide.specs.Fault.{LacksWideFields, NoWideRecord, WideBodyFault, WideContentFault, WideRecordFault, WideRecordsFault, BeginsFormat, WideHeaderFault, IsFirstWideFault}
use Rattle.hprof_wide.proofs.Segments.{part_read, fault_of_part}
use Rattle.hprof_wide.proofs.Bodies.{IsRead, text_takes, load_takes, trace_takes, text_lacks, load_lacks, trace_lacks, record_stands, record_fault, cut_record, record_read}
use Rattle.hprof_wide.proofs.LawLemmas.{header_pieces}

module _ (z : IdSize) where
  abbrev w : ℕ
  w = width_of z

  -- ---- the parts of a segment

  told_by : (t : Bool) (a b : ℕ) → cond t (errors.UnknownTag a) (errors.BadType b) ≢ errors.OutOfMemory
  told_by true a b e = absurd cc
  told_by false a b e = absurd cc

  told : (s : Stop) (left end : ℕ) → part_fault (halts.Stopped s) left end ≢ errors.OutOfMemory
  told Short left end e = absurd cc
  told (Refused n) left end e = told_by (nat_eq n left) _ _ e

  abbrev PartsOrFault : List ℕ → ℕ → Type 0
  PartsOrFault body at = ((parts : List WideSub) × (All (IsWidePart w) parts × (body ≡ wide_parts_bytes w parts))) ⊎ ((e : WideError) × WideBodyFault w e body at)

  parts_behind : (n : ℕ) (body : List ℕ) (at : ℕ) (parts : List WideSub) (rest : List ℕ) → AreBytes body → body ≡ wide_parts_bytes w parts ++ rest → All (IsWidePart w) parts → length rest < n → PartsOrFault body at
  parts_behind zero body at parts rest fits whole formed lt = absurd (omega (arith, lt))
  parts_behind (suc n) body at parts [] fits whole formed lt = inl (parts, (formed, whole ∙ append-nil (wide_parts_bytes w parts)))
  parts_behind (suc n) body at parts (b ∷ rest) fits whole formed lt =
      elim (cases_read (part_at z (b ∷ rest))) [
        | inl x ↦
            let one = part_read z body parts (b ∷ rest) x.0.0 x.0.1 fits whole formed x.1 in
            parts_behind n body at (parts ++ x.0.0 ∷ []) x.0.1 fits one.whole one.formed (omega (arith, one.shorter, lt))
        | inr s ↦
            let fits' : AreBytes (b ∷ rest) = AreBytes-right (wide_parts_bytes w parts) (b ∷ rest) (subst AreBytes whole fits) in
            let end = at + length body in
            let sums : (at + length (wide_parts_bytes w parts)) + length (b ∷ rest) ≡ end = omega (arith, ap length whole, length-append (wide_parts_bytes w parts) (b ∷ rest)) in
            let f = fault_of_part z (halts.Stopped s.0) (b ∷ rest) (at + length (wide_parts_bytes w parts)) end fits' s.1 sums (told s.0 (length (b ∷ rest)) end) in
            inr (part_fault (halts.Stopped s.0) (length (b ∷ rest)) end, (parts, b ∷ rest, (formed, whole, (λ e. absurd cc), f.0, f.1)))
      ]

  -- ---- a record's body

  abbrev ContentOrFault : ℕ → List ℕ → ℕ → ℕ → Type 0
  ContentOrFault time body o tag = ((r : WideTop) × IsRead z tag time body r) ⊎ ((e : WideError) × WideContentFault w e tag body o)

  fields_or_fault : (tag time : ℕ) (body : List ℕ) (o : ℕ) (read : Result WideTop Stop) → is_one_of field_tags tag ≡ true → ((r : WideTop) → read ≡ Ok r → IsRead z tag time body r) → ((s : Stop) → read ≡ Err s → LacksWideFields w tag body) → ContentOrFault time body o tag
  fields_or_fault tag time body o read fields takes lacks =
      elim (cases_read read) [
        | inl r ↦ inl (r.0, takes r.0 r.1)
        | inr s ↦ inr (errors.PastEnd o, inl (refl, (fields, lacks s.0 s.1)))
      ]

  segment_or_fault : (tag time : ℕ) (body : List ℕ) (o : ℕ) → AreBytes body → is_one_of segment_tags tag ≡ true → ContentOrFault time body o tag
  segment_or_fault tag time body o fits is =
      elim (parts_behind (suc (length body)) body (o + 9) [] body fits refl (All-nil (IsWidePart w)) (omega arith)) [
        | inl p ↦ inl (Segment time tag (length body) p.0, ((is, ap length p.1.1, p.1.0), refl, refl, sym p.1.1))
        | inr f ↦ inr (f.0, inr (is, f.1))
      ]

  content_or_fault : (tag time : ℕ) (body : List ℕ) (o : ℕ) → IsByte tag → AreBytes body → ContentOrFault time body o tag
  content_or_fault tag time body o byte fits =
      elim (cases_Bool (is_one_of read_tags tag)) [
        | inl h ↦
            let texts : ContentOrFault time body o 0x01 = fields_or_fault 0x01 time body o (text_of z time body) refl (λ r e. text_takes z time body r fits e) (λ s e. text_lacks z time body s e) in
            let loads : ContentOrFault time body o 0x02 = fields_or_fault 0x02 time body o (load_of z time body) refl (λ r e. load_takes z time body r fits e) (λ s e. load_lacks z time body s e) in
            let traces : ContentOrFault time body o 0x05 = fields_or_fault 0x05 time body o (trace_of z time body) refl (λ r e. trace_takes z time body r fits e) (λ s e. trace_lacks z time body s e) in
            listed (ContentOrFault time body o) read_tags tag (texts, (loads, (traces, (segment_or_fault 0x0c time body o fits refl, (segment_or_fault 0x1c time body o fits refl, tt))))) h
        | inr h ↦ inl (Other time tag body, ((byte, h, fits), refl, refl, refl))
      ]

  -- ---- records

  abbrev RecordOrFault : List ℕ → ℕ → Type 0
  RecordOrFault rest o =
      ((r : WideTop) × (after : List ℕ) × (IsWideRecord w r × (rest ≡ wide_record_bytes w r ++ after)))
      ⊎ ((e : WideError) × (NoWideRecord w rest × WideRecordFault w e rest o))

  record_or_fault : (rest : List ℕ) (o : ℕ) → AreBytes rest → RecordOrFault rest o
  record_or_fault rest o fits =
      elim (cases_read (frame rest)) [
        | inl x ↦
            let tag = x.0.0.0 in
            let time = x.0.0.1.0 in
            let body = x.0.0.1.1 in
            let after = x.0.1 in
            let one = framed_stands rest tag time body after fits x.1 in
            elim (content_or_fault tag time body o one.1.0 one.1.3) [
              | inl r ↦ inl (r.0, after, (record_stands z) rest tag time body after r.0 fits x.1 r.1)
              | inr f ↦ inr (f.0, (record_fault z) f.0 rest tag time body after o fits x.1 f.1)
            ]
        | inr s ↦ let cut = cut_record z rest s.0 fits s.1 in inr (errors.CutShort o, (cut.0, inl (refl, cut.1)))
      ]

  abbrev RecordsOrFault : List ℕ → ℕ → Type 0
  RecordsOrFault text at = ((records : List WideTop) × (AreWideRecords w records × (text ≡ wide_records_bytes w records))) ⊎ ((e : WideError) × WideRecordsFault w e text at)

  pub records_behind : (n : ℕ) (text : List ℕ) (at : ℕ) (records : List WideTop) (rest : List ℕ) → AreBytes text → text ≡ wide_records_bytes w records ++ rest → AreWideRecords w records → length rest < n → RecordsOrFault text at
  records_behind zero text at records rest fits whole formed lt = absurd (omega (arith, lt))
  records_behind (suc n) text at records [] fits whole formed lt = inl (records, (formed, whole ∙ append-nil (wide_records_bytes w records)))
  records_behind (suc n) text at records (b ∷ rest) fits whole formed lt =
      let fits' : AreBytes (b ∷ rest) = AreBytes-right (wide_records_bytes w records) (b ∷ rest) (subst AreBytes whole fits) in
      elim (record_or_fault (b ∷ rest) (at + length (wide_records_bytes w records)) fits') [
        | inl x ↦
            let one = record_read z text records (b ∷ rest) x.0 x.1 whole formed x.2.0 x.2.1 in
            records_behind n text at (records ++ x.0 ∷ []) x.1 fits one.whole one.formed (omega (arith, one.shorter, lt))
        | inr f ↦ inr (f.0, (records, b ∷ rest, (formed, whole, (λ e. absurd cc), f.1.0, f.1.1)))
      ]

-- ---- the header

abbrev HeaderOrFault : List ℕ → Type 0
HeaderOrFault text =
    ((format : List ℕ) × (z : IdSize) × (time : ℕ) × (body : List ℕ) × (IsHeader format (width_of z) time × (text ≡ wide_header_bytes format (width_of z) time ++ body)))
    ⊎ ((e : WideError) × WideHeaderFault e text)

width_is : (z : IdSize) → IsIdWidth (width_of z)
width_is Four = inl refl
width_is Eight = inr refl

time_or_fault : (z : IdSize) (text rest : List ℕ) → AreBytes rest → BeginsFormat text (word (width_of z) ++ rest) → HeaderOrFault text
time_or_fault z text rest fits front =
    let w = width_of z in
    elim (cases_read (number w64 rest)) [
      | inl x ↦
          let one = long_number_format.takes rest x.0.0 x.0.1 fits x.1 in
          let whole : text ≡ wide_header_bytes front.0 w x.0.0 ++ x.0.1 = front.1.1 ∙ ap (λ (t : List ℕ). front.0 ++ (field 1 0 ++ (word w ++ t))) one.0 ∙ sym (header_pieces front.0 w x.0.0 x.0.1) in
          inl (front.0, z, x.0.0, x.0.1, ((front.1.0, width_is z, one.1), whole))
      | inr s ↦
          let got : ℕ × List ℕ = (from_be_bytes w64 (take 8 rest), drop 8 rest) in
          let few : length rest < 8 = ltb-true _ _ (guard_err (ltb (length rest) 8) Short s.0 got s.1).0 in
          inr (errors.CutShort 23, inr (refl, (w, rest, (width_is z, front, few))))
    ]

-- the same front, with its first bytes told
told_front : (text rest more : List ℕ) → BeginsFormat text rest → rest ≡ more → BeginsFormat text more
told_front text rest more front e = subst (BeginsFormat text) e front

sized : (z : IdSize) (text rest : List ℕ) (n : ℕ) (body : List ℕ) → AreBytes rest → BeginsFormat text rest → rest ≡ word n ++ body → n ≡ width_of z → HeaderOrFault text
sized z text rest n body fits front whole is =
    let told : rest ≡ word (width_of z) ++ body = whole ∙ ap (λ (k : ℕ). word k ++ body) is in
    time_or_fault z text body (AreBytes-right (word (width_of z)) body (subst AreBytes told fits)) (told_front text rest (word (width_of z) ++ body) front told)

size_or_fault : (text rest : List ℕ) → AreBytes rest → BeginsFormat text rest → HeaderOrFault text
size_or_fault text rest fits front =
    elim (cases_read (number w32 rest)) [
      | inl x ↦
          let n = x.0.0 in
          let one = word_format.takes rest n x.0.1 fits x.1 in
          elim (cases_Bool (nat_eq n 4)) [
            | inl four ↦ sized Four text rest n x.0.1 fits front one.0 (eqb-true _ _ four)
            | inr not_four ↦ elim (cases_Bool (nat_eq n 8)) [
              | inl eight ↦ sized Eight text rest n x.0.1 fits front one.0 (eqb-true _ _ eight)
              | inr not_eight ↦
                  inr (
                    errors.IdSize 19,
                    (
                      refl,
                      (
                        word n,
                        x.0.1,
                        (
                          told_front text rest (word n ++ x.0.1) front one.0,
                          refl,
                          other_word n 4 one.1 (omega arith) (eqb-false _ _ not_four),
                          other_word n 8 one.1 (omega arith) (eqb-false _ _ not_eight),
                        ),
                      ),
                    ),
                  )
            ]
          ]
      | inr s ↦
          let got : ℕ × List ℕ = (from_be_bytes w32 (take 4 rest), drop 4 rest) in
          let few : length rest < 4 = ltb-true _ _ (guard_err (ltb (length rest) 4) Short s.0 got s.1).0 in
          inr (errors.CutShort 19, inl (refl, (rest, (front, few))))
    ]

abbrev magic_2 : List ℕ
magic_2 = text_2 ++ field 1 0

abbrev magic_3 : List ℕ
magic_3 = text_3 ++ field 1 0

header_or_fault : (text : List ℕ) → AreBytes text → HeaderOrFault text
header_or_fault text fits =
    elim (cases_Bool (pointwise nat_eq (take (length magic_3) text) magic_3)) [
      | inl h ↦
          let whole : text ≡ magic_3 ++ drop 19 text = begins magic_3 text h in
          size_or_fault text (drop 19 text) (AreBytes-right magic_3 (drop 19 text) (subst AreBytes whole fits)) (text_3, (inr refl, whole))
      | inr not_3 ↦ elim (cases_Bool (pointwise nat_eq (take (length magic_2) text) magic_2)) [
        | inl h ↦
            let whole : text ≡ magic_2 ++ drop 19 text = begins magic_2 text h in
            size_or_fault text (drop 19 text) (AreBytes-right magic_2 (drop 19 text) (subst AreBytes whole fits)) (text_2, (inl refl, whole))
        | inr not_2 ↦
            inr (
              errors.Magic 0,
              (
                refl,
                (λ rest front. elim front.1.0 [
                  | inl is ↦ begins_not magic_2 text rest not_2 (front.1.1 ∙ ap (λ (t : List ℕ). t ++ (field 1 0 ++ rest)) is)
                  | inr is ↦ begins_not magic_3 text rest not_3 (front.1.1 ∙ ap (λ (t : List ℕ). t ++ (field 1 0 ++ rest)) is)
                ]),
              ),
            )
      ]
    ]

pub dump_or_fault : (text : List ℕ) → AreBytes text → IsWideDump text ⊎ ((e : WideError) × IsFirstWideFault e text)
dump_or_fault text fits =
    elim (header_or_fault text fits) [
      | inl h ↦
          let z = h.1 in
          let w = width_of z in
          let header = wide_header_bytes h.0 w h.2 in
          let fits' : AreBytes h.3 = AreBytes-right header h.3 (subst AreBytes h.4.1 fits) in
          elim (records_behind z (suc (length h.3)) h.3 31 [] h.3 fits' refl (All-nil (IsWideRecord w)) (omega arith)) [
            | inl r ↦ inl (w, h.2, r.0, (h.0, (h.4.0, r.1.0, h.4.1 ∙ ap (λ (t : List ℕ). header ++ t) r.1.1)))
            | inr f ↦ inr (f.0, inr (h.0, w, h.2, h.3, (h.4.0, h.4.1, f.1)))
          ]
      | inr f ↦ inr (f.0, inl f.1)
    ]
