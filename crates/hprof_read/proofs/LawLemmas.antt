-- A text is the dump of at most one list of records.
use Rattle.std.proofs.Common.{suc, take, inl, inr, ◌≡◌, ℕ, ◌^◌, ◌<◌, ◌≤◌, List, [], ◌++◌, length, refl, sym, ap, ◌∙◌, append_assoc, arith, ◌≢◌, ◌+◌, ◌⊎◌, ◌∷◌, Ok, subst}
use Rattle.std.specs.Int.{w64}
use Rattle.std.proofs.lemmas.List.{append-nil, append_cancel_left, length-append, take_at}
use Rattle.hprof_records.specs.declared.top_record.TopRecord.{TopRecord}
use Rattle.hprof_records.specs.Fields.{field}
use Rattle.hprof_records.specs.Parts.{word, bytes_of_parts}
use Rattle.hprof_records.specs.Records.{tag_of, time_of, body_of, bytes_of_record, bytes_of_records, header_bytes, dump_bytes}
use Rattle.hprof_records.specs.Dump.{IsRecord, AreRecords}
use Rattle.hprof_read.specs.Reading.{frame, number}
use Rattle.hprof_read.specs.Fault.{magic, NoRecord, HeaderFault, IsFirstFault, framed, IsFramed, IsCut, BeginsPart, BeginsNoPart, PartFault, BodyFault, ContentFault, RecordFault, RecordsFault}
use Rattle.hprof_read.specs.declared.read_error.ReadError.{ReadError}
use Rattle.hprof_read.specs.declared.read_error.ReadError.TheVariants as errors
use Rattle.hprof_records.specs.declared.sub_record.SubRecord.{SubRecord}
use Rattle.hprof_read.proofs.Formats.{ok_is}
use Rattle.hprof_read.proofs.FieldFormats.{long_number_format}
use Rattle.hprof_read.proofs.Unique.{HasOneReading, one_reading, not_past, parts_end}
use Rattle.hprof_read.proofs.Bodies.{record_again, same_fields, segment_not, frame_format, framed_is}

abbrev pub FrameParts : Type 0
FrameParts = (ℕ × (ℕ × List ℕ)) × List ℕ

-- no record's bytes begin another's
pub one_record : HasOneReading bytes_of_record IsRecord
one_record r s x y f g e =
    let got : FrameParts = ((tag_of r, (time_of r, body_of r)), x) in
    let want : FrameParts = ((tag_of s, (time_of s, body_of s)), y) in
    let same : got ≡ want = ok_is got want (sym (record_again r x f) ∙ ap frame e ∙ record_again s y g) in
    (same_fields r s f.1 g.1 (ap (λ (q : FrameParts). q.0.0) same) (ap (λ (q : FrameParts). q.0.1.0) same) (ap (λ (q : FrameParts). q.0.1.1) same), ap (λ (q : FrameParts). q.1) same)

pub no_record_at_end : NoRecord []
no_record_at_end r more fit e = absurd cc

-- records that are followed by no record are one list
pub one_list_of_records : (rs ss : List TopRecord) (x y : List ℕ) → AreRecords rs → AreRecords ss → bytes_of_records rs ++ x ≡ bytes_of_records ss ++ y → NoRecord x → NoRecord y → (rs ≡ ss) × (x ≡ y)
one_list_of_records = one_reading bytes_of_record IsRecord one_record

-- no list of records goes past a place where no record stands
pub records_end : (rs ss : List TopRecord) (x y : List ℕ) → AreRecords rs → AreRecords ss → bytes_of_records rs ++ x ≡ bytes_of_records ss ++ y → NoRecord y → length (bytes_of_records rs) ≤ length (bytes_of_records ss)
records_end = not_past bytes_of_record IsRecord one_record

-- a header gives its time
pub one_header : (t u : ℕ) (x y : List ℕ) → t < 2 ^ 64 → u < 2 ^ 64 → header_bytes t ++ x ≡ header_bytes u ++ y → (t ≡ u) × (x ≡ y)
one_header t u x y f g e =
    let got : ℕ × List ℕ = (t, x) in
    let want : ℕ × List ℕ = (u, y) in
    let behind : field 8 t ++ x ≡ field 8 u ++ y = append_cancel_left (magic ++ word 4) (field 8 t ++ x) (field 8 u ++ y) e in
    let same : got ≡ want = ok_is got want (sym (long_number_format.again t x f) ∙ ap (number w64) behind ∙ long_number_format.again u y g) in
    (ap (λ (q : ℕ × List ℕ). q.0) same, ap (λ (q : ℕ × List ℕ). q.1) same)

pub one_dump : (t u : ℕ) (rs ss : List TopRecord) → t < 2 ^ 64 → u < 2 ^ 64 → AreRecords rs → AreRecords ss → dump_bytes t rs ≡ dump_bytes u ss → (t ≡ u) × (rs ≡ ss)
one_dump t u rs ss f g fr gs e =
    let h = one_header t u (bytes_of_records rs) (bytes_of_records ss) f g e in
    (h.0, (one_list_of_records rs ss [] [] fr gs (append-nil (bytes_of_records rs) ∙ h.1 ∙ sym (append-nil (bytes_of_records ss))) no_record_at_end no_record_at_end).0)

pub longest_dump : (t u : ℕ) (rs ss : List TopRecord) (rest more : List ℕ) → t < 2 ^ 64 → u < 2 ^ 64 → AreRecords rs → AreRecords ss → NoRecord rest → dump_bytes u ss ++ more ≡ dump_bytes t rs ++ rest → length (dump_bytes u ss) ≤ length (dump_bytes t rs)
longest_dump t u rs ss rest more f g fr gs none e =
    let whole : header_bytes u ++ (bytes_of_records ss ++ more) ≡ header_bytes t ++ (bytes_of_records rs ++ rest) = sym (append_assoc (header_bytes u) (bytes_of_records ss) more) ∙ e ∙ append_assoc (header_bytes t) (bytes_of_records rs) rest in
    let h = one_header u t (bytes_of_records ss ++ more) (bytes_of_records rs ++ rest) g f whole in
    let le = records_end ss rs more rest gs fr h.1 none in
    let same : length (header_bytes u) ≡ length (header_bytes t) = refl in
    omega (arith, length-append (header_bytes u) (bytes_of_records ss), length-append (header_bytes t) (bytes_of_records rs))

sizes_apart : (size rest more : List ℕ) → length size ≡ 4 → word 4 ++ more ≡ size ++ rest → size ≡ word 4
sizes_apart size rest more len e = sym (take_at size rest 4 len) ∙ ap (take 4) (sym e)

header_fault_not : (e : ReadError) (time : ℕ) (body : List ℕ) → HeaderFault e (header_bytes time ++ body) → ⊥
header_fault_not (errors.Magic offset) time body f = f.1 (word 4 ++ (field 8 time ++ body)) refl
header_fault_not (errors.IdSize offset) time body f =
    f.1.2.2 (sizes_apart f.1.0 f.1.1 (field 8 time ++ body) f.1.2.1 (append_cancel_left magic (word 4 ++ (field 8 time ++ body)) (f.1.0 ++ f.1.1) f.1.2.0))
header_fault_not (errors.CutShort offset) time body f =
    elim f [
      | inl h ↦
          let rest : word 4 ++ (field 8 time ++ body) ≡ h.1.0 = append_cancel_left magic (word 4 ++ (field 8 time ++ body)) h.1.0 h.1.1.0 in
          let long : suc (suc (suc (suc (length (field 8 time ++ body))))) ≡ length h.1.0 = ap length rest in
          absurd (omega (arith, h.1.1.1))
      | inr h ↦
          let rest : field 8 time ++ body ≡ h.1.0 = append_cancel_left (magic ++ word 4) (field 8 time ++ body) h.1.0 h.1.1.0 in
          let long : suc (suc (suc (suc (suc (suc (suc (suc (length body)))))))) ≡ length h.1.0 = ap length rest in
          absurd (omega (arith, h.1.1.1))
    ]
header_fault_not (errors.UnknownTag offset) time body f = f
header_fault_not (errors.PastEnd offset) time body f = f
header_fault_not (errors.BadType offset) time body f = f
header_fault_not errors.OutOfMemory time body f = f

-- a dump has no fault
pub no_fault : (e : ReadError) (time : ℕ) (records : List TopRecord) → time < 2 ^ 64 → AreRecords records → IsFirstFault e (dump_bytes time records) → ⊥
no_fault e time records small formed f =
    elim f [
      | inl h ↦ header_fault_not e time (bytes_of_records records) h
      | inr h ↦
          let behind = one_header time h.0 (bytes_of_records records) h.1 small h.2.0 h.2.1 in
          let g = h.2.2 in
          let same = one_list_of_records records g.0 [] g.1 formed g.2.0 (append-nil (bytes_of_records records) ∙ behind.1 ∙ g.2.1) no_record_at_end g.2.3 in
          g.2.2 (sym same.1)
    ]

-- ---- at most one first fault

-- of two ways to cut bytes one goes at least as far
pub ahead : (xs ys : List ℕ) (a b : ℕ) (us vs : List ℕ) → xs ++ a ∷ us ≡ ys ++ b ∷ vs → (length xs ≡ length ys) ⊎ ((more : List ℕ) × (ys ≡ (xs ++ a ∷ []) ++ more)) ⊎ ((more : List ℕ) × (xs ≡ (ys ++ b ∷ []) ++ more))
ahead [] [] a b us vs e = inl refl
ahead [] (y ∷ ys) a b us vs e = let head : a ≡ y = cc in inr (inl (ys, ap (λ (n : ℕ). n ∷ ys) (sym head)))
ahead (x ∷ xs) [] a b us vs e = let head : x ≡ b = cc in inr (inr (xs, ap (λ (n : ℕ). n ∷ xs) head))
ahead (x ∷ xs) (y ∷ ys) a b us vs e =
    let head : x ≡ y = cc in
    let tail : xs ++ a ∷ us ≡ ys ++ b ∷ vs = cc in
    elim (ahead xs ys a b us vs tail) [
      | inl h ↦ inl (ap suc h)
      | inr g ↦ elim g [
        | inl h ↦ inr (inl (h.0, ap (λ (n : ℕ). n ∷ ys) (sym head) ∙ ap (λ (t : List ℕ). x ∷ t) h.1))
        | inr h ↦ inr (inr (h.0, ap (λ (n : ℕ). n ∷ xs) head ∙ ap (λ (t : List ℕ). y ∷ t) h.1))
      ]
    ]

-- what begins a part that goes on has no front that begins none
begins_clash : (front after : List ℕ) → BeginsPart (front ++ after) → BeginsNoPart front → ⊥
begins_clash front after h none = none h.0 (after ++ h.1 ∷ h.2) h.3.0 (h.3.1 ∙ append_assoc front after (h.1 ∷ h.2))

unknown_clash : (front : List ℕ) (code : ℕ) (after : List ℕ) (tag : ℕ) (behind : List ℕ) → front ≢ [] → front ++ code ∷ after ≡ tag ∷ behind → BeginsPart front → BeginsNoPart (tag ∷ []) → ⊥
unknown_clash [] code after tag behind some e begins none = some refl
unknown_clash (x ∷ front) code after tag behind some e begins none =
    let head : x ≡ tag = cc in
    begins_clash (tag ∷ []) front (subst (λ (n : ℕ). BeginsPart (n ∷ front)) head begins) none

one_part_fault : (e f : ReadError) (rest : List ℕ) (q : ℕ) → PartFault e rest q → PartFault f rest q → e ≡ f
one_part_fault (errors.UnknownTag a) (errors.UnknownTag b) rest q g h = ap errors.UnknownTag (g.0 ∙ sym h.0)
one_part_fault (errors.UnknownTag a) (errors.PastEnd b) rest q g h = absurd (begins_clash (g.1.0 ∷ []) g.1.1 (subst BeginsPart g.1.2.0 h.1) g.1.2.1)
one_part_fault (errors.UnknownTag a) (errors.BadType b) rest q g h = absurd (unknown_clash h.0 h.1 h.2 g.1.0 g.1.1 h.3.1 (sym h.3.2 ∙ g.1.2.0) h.3.3 g.1.2.1)
one_part_fault (errors.PastEnd a) (errors.UnknownTag b) rest q g h = absurd (begins_clash (h.1.0 ∷ []) h.1.1 (subst BeginsPart h.1.2.0 g.1) h.1.2.1)
one_part_fault (errors.PastEnd a) (errors.PastEnd b) rest q g h = ap errors.PastEnd (g.0 ∙ sym h.0)
one_part_fault (errors.PastEnd a) (errors.BadType b) rest q g h = absurd (begins_clash (h.0 ++ h.1 ∷ []) h.2 (subst BeginsPart (h.3.2 ∙ sym (append_assoc h.0 (h.1 ∷ []) h.2)) g.1) h.3.4)
one_part_fault (errors.BadType a) (errors.UnknownTag b) rest q g h = absurd (unknown_clash g.0 g.1 g.2 h.1.0 h.1.1 g.3.1 (sym g.3.2 ∙ h.1.2.0) g.3.3 h.1.2.1)
one_part_fault (errors.BadType a) (errors.PastEnd b) rest q g h = absurd (begins_clash (g.0 ++ g.1 ∷ []) g.2 (subst BeginsPart (g.3.2 ∙ sym (append_assoc g.0 (g.1 ∷ []) g.2)) h.1) g.3.4)
one_part_fault (errors.BadType a) (errors.BadType b) rest q g h =
    elim (ahead g.0 h.0 g.1 h.1 g.2 h.2 (sym g.3.2 ∙ h.3.2)) [
      | inl same ↦ ap errors.BadType (g.3.0 ∙ ap (λ (n : ℕ). q + n) same ∙ sym h.3.0)
      | inr two ↦ elim two [
        | inl m ↦ absurd (begins_clash (g.0 ++ g.1 ∷ []) m.0 (subst BeginsPart m.1 h.3.3) g.3.4)
        | inr m ↦ absurd (begins_clash (h.0 ++ h.1 ∷ []) m.0 (subst BeginsPart m.1 g.3.3) h.3.4)
      ]
    ]
one_part_fault (errors.UnknownTag a) (errors.Magic b) rest q g h = absurd h
one_part_fault (errors.UnknownTag a) (errors.IdSize b) rest q g h = absurd h
one_part_fault (errors.UnknownTag a) (errors.CutShort b) rest q g h = absurd h
one_part_fault (errors.UnknownTag a) errors.OutOfMemory rest q g h = absurd h
one_part_fault (errors.PastEnd a) (errors.Magic b) rest q g h = absurd h
one_part_fault (errors.PastEnd a) (errors.IdSize b) rest q g h = absurd h
one_part_fault (errors.PastEnd a) (errors.CutShort b) rest q g h = absurd h
one_part_fault (errors.PastEnd a) errors.OutOfMemory rest q g h = absurd h
one_part_fault (errors.BadType a) (errors.Magic b) rest q g h = absurd h
one_part_fault (errors.BadType a) (errors.IdSize b) rest q g h = absurd h
one_part_fault (errors.BadType a) (errors.CutShort b) rest q g h = absurd h
one_part_fault (errors.BadType a) errors.OutOfMemory rest q g h = absurd h
one_part_fault (errors.Magic a) f rest q g h = absurd g
one_part_fault (errors.IdSize a) f rest q g h = absurd g
one_part_fault (errors.CutShort a) f rest q g h = absurd g
one_part_fault errors.OutOfMemory f rest q g h = absurd g

one_body_fault : (e f : ReadError) (body : List ℕ) (at : ℕ) → BodyFault e body at → BodyFault f body at → e ≡ f
one_body_fault e f body at g h =
    let same = parts_end g.0 h.0 g.1 h.1 g.2.0 h.2.0 (sym g.2.1 ∙ h.2.1) g.2.3 h.2.3 in
    one_part_fault e f h.1 (at + length (bytes_of_parts h.0))
    (subst (λ (r : List ℕ). PartFault e r (at + length (bytes_of_parts h.0))) same.1 (subst (λ (ps : List SubRecord). PartFault e g.1 (at + length (bytes_of_parts ps))) same.0 g.2.4)) h.2.4

one_content_fault : (e f : ReadError) (tag : ℕ) (body : List ℕ) (o : ℕ) → ContentFault e tag body o → ContentFault f tag body o → e ≡ f
one_content_fault e f tag body o g h =
    elim g [
      | inl a ↦ elim h [ inl b ↦ a.0 ∙ sym b.0 | inr b ↦ absurd (segment_not tag b.0 a.1.0) ]
      | inr a ↦ elim h [ inl b ↦ absurd (segment_not tag a.0 b.1.0) | inr b ↦ one_body_fault e f body (o + 9) a.1 b.1 ]
    ]

pub framed_again : (tag time : ℕ) (body rest : List ℕ) → IsFramed tag time body → frame (framed tag time body ++ rest) ≡ Ok ((tag, (time, body)), rest)
framed_again tag time body rest fit = ap (λ (t : List ℕ). frame (t ++ rest)) (framed_is tag time body) ∙ frame_format.again (tag, (time, body)) rest (fit.0, (fit.1, (fit.2, fit.3)))

pub cut_clash : (rest : List ℕ) (tag time : ℕ) (body after : List ℕ) → IsCut rest → IsFramed tag time body → rest ≡ framed tag time body ++ after → ⊥
cut_clash rest tag time body after c fit e =
    let got : FrameParts = ((c.0, (c.1, c.2)), []) in
    let want : FrameParts = ((tag, (time, body)), after ++ c.3 ∷ c.4) in
    let whole : framed c.0 c.1 c.2 ++ [] ≡ framed tag time body ++ (after ++ c.3 ∷ c.4) = append-nil (framed c.0 c.1 c.2) ∙ c.5.1 ∙ ap (λ (t : List ℕ). t ++ c.3 ∷ c.4) e ∙ append_assoc (framed tag time body) after (c.3 ∷ c.4) in
    let same : got ≡ want = ok_is got want (sym (framed_again c.0 c.1 c.2 [] c.5.0) ∙ ap frame whole ∙ framed_again tag time body (after ++ c.3 ∷ c.4) fit) in
    let ends : [] ≡ after ++ c.3 ∷ c.4 = ap (λ (q : FrameParts). q.1) same in
    let none : 0 ≡ length (after ++ c.3 ∷ c.4) = ap length ends in
    let long = length-append after (c.3 ∷ c.4) in
    let one : length (c.3 ∷ c.4) ≡ suc (length c.4) = refl in
    omega arith

one_record_fault : (e f : ReadError) (rest : List ℕ) (o : ℕ) → RecordFault e rest o → RecordFault f rest o → e ≡ f
one_record_fault e f rest o g h =
    elim g [
      | inl a ↦ elim h [ inl b ↦ a.0 ∙ sym b.0 | inr b ↦ absurd (cut_clash rest b.0 b.1 b.2 b.3 a.1 b.4.0 b.4.1) ]
      | inr a ↦ elim h [
        | inl b ↦ absurd (cut_clash rest a.0 a.1 a.2 a.3 b.1 a.4.0 a.4.1)
        | inr b ↦
            let got : FrameParts = ((a.0, (a.1, a.2)), a.3) in
            let want : FrameParts = ((b.0, (b.1, b.2)), b.3) in
            let same : got ≡ want = ok_is got want (sym (framed_again a.0 a.1 a.2 a.3 a.4.0) ∙ ap frame (sym a.4.1 ∙ b.4.1) ∙ framed_again b.0 b.1 b.2 b.3 b.4.0) in
            one_content_fault e f b.0 b.2 o
            (subst (λ (t : List ℕ). ContentFault e b.0 t o) (ap (λ (q : FrameParts). q.0.1.1) same) (subst (λ (t : ℕ). ContentFault e t a.2 o) (ap (λ (q : FrameParts). q.0.0) same) a.4.2)) b.4.2
      ]
    ]

one_records_fault : (e f : ReadError) (text : List ℕ) (at : ℕ) → RecordsFault e text at → RecordsFault f text at → e ≡ f
one_records_fault e f text at g h =
    let same = one_list_of_records g.0 h.0 g.1 h.1 g.2.0 h.2.0 (sym g.2.1 ∙ h.2.1) g.2.3 h.2.3 in
    one_record_fault e f h.1 (at + length (bytes_of_records h.0))
    (subst (λ (r : List ℕ). RecordFault e r (at + length (bytes_of_records h.0))) same.1 (subst (λ (rs : List TopRecord). RecordFault e g.1 (at + length (bytes_of_records rs))) same.0 g.2.4)) h.2.4

magic_clash : (text rest : List ℕ) → ((more : List ℕ) → text ≡ magic ++ more → ⊥) → text ≡ magic ++ rest → ⊥
magic_clash text rest none e = none rest e

size_short : (text size rest short : List ℕ) → text ≡ magic ++ (size ++ rest) → length size ≡ 4 → text ≡ magic ++ short → length short < 4 → ⊥
size_short text size rest short e len f lt =
    let same : size ++ rest ≡ short = append_cancel_left magic (size ++ rest) short (sym e ∙ f) in
    omega (arith, ap length same, length-append size rest)

size_four : (text size rest more : List ℕ) → text ≡ magic ++ (size ++ rest) → length size ≡ 4 → text ≡ magic ++ (word 4 ++ more) → size ≡ word 4
size_four text size rest more e len f = sizes_apart size rest more len (append_cancel_left magic (word 4 ++ more) (size ++ rest) (sym f ∙ e))

four_short : (text more short : List ℕ) → text ≡ magic ++ (word 4 ++ more) → text ≡ magic ++ short → length short < 4 → ⊥
four_short text more short e f lt =
    let same : word 4 ++ more ≡ short = append_cancel_left magic (word 4 ++ more) short (sym e ∙ f) in
    let long : suc (suc (suc (suc (length more)))) ≡ length short = ap length same in
    omega arith

one_header_fault : (e f : ReadError) (text : List ℕ) → HeaderFault e text → HeaderFault f text → e ≡ f
one_header_fault (errors.Magic a) (errors.Magic b) text g h = ap errors.Magic (g.0 ∙ sym h.0)
one_header_fault (errors.Magic a) (errors.IdSize b) text g h = absurd (g.1 (h.1.0 ++ h.1.1) h.1.2.0)
one_header_fault (errors.Magic a) (errors.CutShort b) text g h = elim h [ inl i ↦ absurd (g.1 i.1.0 i.1.1.0) | inr i ↦ absurd (g.1 (word 4 ++ i.1.0) i.1.1.0) ]
one_header_fault (errors.IdSize a) (errors.Magic b) text g h = absurd (h.1 (g.1.0 ++ g.1.1) g.1.2.0)
one_header_fault (errors.IdSize a) (errors.IdSize b) text g h = ap errors.IdSize (g.0 ∙ sym h.0)
one_header_fault (errors.IdSize a) (errors.CutShort b) text g h = elim h [
  | inl i ↦ absurd (size_short text g.1.0 g.1.1 i.1.0 g.1.2.0 g.1.2.1 i.1.1.0 i.1.1.1)
  | inr i ↦ absurd (g.1.2.2 (size_four text g.1.0 g.1.1 i.1.0 g.1.2.0 g.1.2.1 i.1.1.0))
]
one_header_fault (errors.CutShort a) (errors.Magic b) text g h = elim g [ inl i ↦ absurd (h.1 i.1.0 i.1.1.0) | inr i ↦ absurd (h.1 (word 4 ++ i.1.0) i.1.1.0) ]
one_header_fault (errors.CutShort a) (errors.IdSize b) text g h = elim g [
  | inl i ↦ absurd (size_short text h.1.0 h.1.1 i.1.0 h.1.2.0 h.1.2.1 i.1.1.0 i.1.1.1)
  | inr i ↦ absurd (h.1.2.2 (size_four text h.1.0 h.1.1 i.1.0 h.1.2.0 h.1.2.1 i.1.1.0))
]
one_header_fault (errors.CutShort a) (errors.CutShort b) text g h = elim g [
  | inl i ↦ elim h [ inl j ↦ ap errors.CutShort (i.0 ∙ sym j.0) | inr j ↦ absurd (four_short text j.1.0 i.1.0 j.1.1.0 i.1.1.0 i.1.1.1) ]
  | inr i ↦ elim h [ inl j ↦ absurd (four_short text i.1.0 j.1.0 i.1.1.0 j.1.1.0 j.1.1.1) | inr j ↦ ap errors.CutShort (i.0 ∙ sym j.0) ]
]
one_header_fault (errors.UnknownTag a) f text g h = absurd g
one_header_fault (errors.PastEnd a) f text g h = absurd g
one_header_fault (errors.BadType a) f text g h = absurd g
one_header_fault errors.OutOfMemory f text g h = absurd g
one_header_fault e f text g h = absurd h

-- a text has at most one first fault
pub one_first_fault : (e f : ReadError) (text : List ℕ) → IsFirstFault e text → IsFirstFault f text → e ≡ f
one_first_fault e f text g h =
    elim g [
      | inl a ↦ elim h [
        | inl b ↦ one_header_fault e f text a b
        | inr b ↦ absurd (header_fault_not e b.0 b.1 (subst (HeaderFault e) b.2.1 a))
      ]
      | inr a ↦ elim h [
        | inl b ↦ absurd (header_fault_not f a.0 a.1 (subst (HeaderFault f) a.2.1 b))
        | inr b ↦
            let same = one_header a.0 b.0 a.1 b.1 a.2.0 b.2.0 (sym a.2.1 ∙ b.2.1) in
            one_records_fault e f b.1 31 (subst (λ (t : List ℕ). RecordsFault e t 31) same.1 a.2.2) b.2.2
      ]
    ]
