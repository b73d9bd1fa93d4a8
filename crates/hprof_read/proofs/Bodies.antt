-- Records: what their bodies say, and where a record begins and ends.
use Rattle.std.proofs.Common.{◌≡◌, ◌≢◌, ℕ, suc, ◌+◌, ◌≤◌, ◌<◌, ◌⊎◌, inl, inr, Bool, true, false, cond, List, [], ◌∷◌, ◌++◌, length, take, drop, ltb, Result, Ok, Err, refl, sym, ap, subst, ◌∙◌, append_assoc, arith}
use Rattle.std.specs.Prelude.{IfOk, IfErr, IsTrue}
use Rattle.std.specs.Int.{Width, w8, w32, byte_len, from_be_bytes}
use Rattle.std.specs.List.{flat_map}
use Rattle.std.proofs.lemmas.List.{append-nil, length-append}
use Rattle.std.proofs.lemmas.List.Elements.{All-nil, All-append, All-push}
use Rattle.std.proofs.lemmas.List.Concat.{flat_map-append}
use Rattle.std.proofs.lemmas.Bool.{ne_eqb}
use Rattle.hprof_records.specs.declared.sub_record.SubRecord.{SubRecord}
use Rattle.hprof_records.specs.declared.top_record.TopRecord.{TopRecord}
use Rattle.hprof_records.specs.declared.top_record.TopRecord.TheVariants.{Text, LoadClass, Trace, Segment, Other}
use Rattle.hprof_records.specs.Fields.{field}
use Rattle.hprof_records.specs.Parts.{word, bytes_of_part, bytes_of_parts}
use Rattle.hprof_records.specs.Records.{tag_of, time_of, body_of, bytes_of_record, bytes_of_records}
use Rattle.hprof_records.specs.Formed.{IsByte, IsWord, IsPart, is_one_of}
use Rattle.hprof_records.specs.Dump.{segment_tags, read_tags, HasFields, IsRecord, AreRecords}
use Rattle.hprof_read.specs.declared.fields.Stop.{Stop}
use Rattle.hprof_read.specs.declared.fields.Stop.TheVariants.{Short, Refused}
use Rattle.hprof_read.specs.declared.fields.Halt.{Halt}
use Rattle.hprof_read.specs.declared.fields.Halt.TheVariants as halts
use Rattle.hprof_read.specs.declared.read_error.ReadError.{ReadError}
use Rattle.hprof_read.specs.declared.read_error.ReadError.TheVariants as errors
use Rattle.hprof_read.specs.Reading.{Reader, ◌>>=◌, Gives, Fails, number, raw, made, both, counted, counted_bytes, triple, frame, text_head, load_head, trace_head, text_of, load_of, trace_of, with_place, part_at}
use Rattle.hprof_read.specs.Fault.{framed, IsFramed, IsCut, NoRecord, NoPart, BodyFault, field_tags, LacksFields, ContentFault, RecordFault}
use Rattle.hprof_read.proofs.Formats.{AreBytes, AreBytes-right, IsFormat, bind_ok, bind_err, ok_is, both_format, times_format}
use Rattle.hprof_read.proofs.FieldFormats.{byte_format, word_format}
use Rattle.hprof_read.proofs.PartFormats.{Triple, triple_text, TripleFits, triple_format, counted_text, CountedFits, counted_format, long_text, LongFits, long_format}
use Rattle.hprof_read.proofs.PartsByTag.{part_format, listed}
use Rattle.hprof_read.proofs.Unique.{part_nonempty, parts_end}

-- a record with this tag, time and body
abbrev pub IsRead : ℕ → ℕ → List ℕ → TopRecord → Type 0
IsRead tag time body r = HasFields r × (tag_of r ≡ tag) × (time_of r ≡ time) × (body_of r ≡ body)

-- ---- strings

abbrev make_text : ℕ → ℕ × List ℕ → Result TopRecord Stop
make_text time x = Ok (Text time x.0 x.1)

pub text_takes : (time : ℕ) (body : List ℕ) (r : TopRecord) → AreBytes body → text_of time body ≡ Ok r → IsRead 1 time body r
unfolding text_of text_head
text_takes time body r fits e =
    let a = bind_ok (number w32 body) (make_text time) r e in
    let x = a.0 in
    let one = word_format.takes body x.0 x.1 fits a.1.0 in
    let rest_fits : AreBytes x.1 = AreBytes-right (word x.0) x.1 (subst AreBytes one.0 fits) in
    subst (IsRead 1 time body) (ok_is (Text time x.0 x.1) r a.1.1)
    ((one.1, rest_fits), refl, refl, ap (λ (t : List ℕ). word x.0 ++ t) (append-nil x.1) ∙ sym one.0)

-- ---- loaded classes

abbrev load_text : Triple × ℕ → List ℕ
load_text a = triple_text a.0 ++ word a.1

abbrev LoadFits : Triple × ℕ → Type 0
LoadFits a = TripleFits a.0 × IsWord a.1

load_format : IsFormat load_head load_text LoadFits
unfolding load_head
load_format = both_format triple triple_text TripleFits (λ _. number w32) word (λ _. IsWord) triple_format (λ _ _. word_format)

abbrev make_load : ℕ → (Triple × ℕ) × List ℕ → Result TopRecord Stop
make_load time x = Ok (LoadClass time x.0.0.0 x.0.0.1.0 x.0.0.1.1 x.0.1 x.1)

pub load_takes : (time : ℕ) (body : List ℕ) (r : TopRecord) → AreBytes body → load_of time body ≡ Ok r → IsRead 2 time body r
unfolding load_of
load_takes time body r fits e =
    let a = bind_ok (load_head body) (make_load time) r e in
    let x = a.0 in
    let one = load_format.takes body x.0 x.1 fits a.1.0 in
    let rest_fits : AreBytes x.1 = AreBytes-right (load_text x.0) x.1 (subst AreBytes one.0 fits) in
    subst (IsRead 2 time body) (ok_is (LoadClass time x.0.0.0 x.0.0.1.0 x.0.0.1.1 x.0.1 x.1) r a.1.1)
    ((one.1.0.0, one.1.0.1.0, one.1.0.1.1, one.1.1, rest_fits), refl, refl, ap (λ (t : List ℕ). load_text x.0 ++ t) (append-nil x.1) ∙ sym one.0)

-- ---- stack traces

abbrev trace_text : (ℕ × ℕ) × List ℕ → List ℕ
trace_text a = (word a.0.0 ++ word a.0.1) ++ long_text (number w32) word IsWord a.1

abbrev TraceFits : (ℕ × ℕ) × List ℕ → Type 0
TraceFits a = (IsWord a.0.0 × IsWord a.0.1) × LongFits (number w32) word IsWord a.1

trace_format : IsFormat trace_head trace_text TraceFits
unfolding trace_head
trace_format =
    both_format (both (number w32) (λ _. number w32)) (λ p. word p.0 ++ word p.1) (λ p. IsWord p.0 × IsWord p.1) (λ _. counted w32 (number w32)) (long_text (number w32) word IsWord) (λ _. LongFits (number w32) word IsWord)
    (both_format (number w32) word IsWord (λ _. number w32) word (λ _. IsWord) word_format (λ _ _. word_format)) (λ _ _. long_format (number w32) word IsWord word_format)

abbrev make_trace : ℕ → ((ℕ × ℕ) × List ℕ) × List ℕ → Result TopRecord Stop
make_trace time x = Ok (Trace time x.0.0.0 x.0.0.1 x.0.1 x.1)

pub trace_takes : (time : ℕ) (body : List ℕ) (r : TopRecord) → AreBytes body → trace_of time body ≡ Ok r → IsRead 5 time body r
unfolding trace_of
trace_takes time body r fits e =
    let a = bind_ok (trace_head body) (make_trace time) r e in
    let x = a.0 in
    let one = trace_format.takes body x.0 x.1 fits a.1.0 in
    let rest_fits : AreBytes x.1 = AreBytes-right (trace_text x.0) x.1 (subst AreBytes one.0 fits) in
    subst (IsRead 5 time body) (ok_is (Trace time x.0.0.0 x.0.0.1 x.0.1 x.1) r a.1.1)
    ((one.1.0.0, one.1.0.1, one.1.1.0, one.1.1.1, rest_fits), refl, refl, ap (λ (t : List ℕ). (word x.0.0.0 ++ word x.0.0.1) ++ (word (length x.0.1) ++ (flat_map word x.0.1 ++ t))) (append-nil x.1) ∙ sym (one.0 ∙ append_assoc (word x.0.0.0 ++ word x.0.0.1) (long_text (number w32) word IsWord x.0.1) x.1))

-- ---- where no fields give a body

-- a record that isn't of these three kinds has no tag of theirs
pub segment_not : (tag : ℕ) → is_one_of segment_tags tag ≡ true → is_one_of field_tags tag ≡ true → ⊥
segment_not tag s f =
    let no : is_one_of field_tags tag ≡ false = listed (λ t. is_one_of field_tags t ≡ false) segment_tags tag (refl, (refl, tt)) s in
    let both = sym f ∙ no in absurd cc

pub other_not : (tag : ℕ) → is_one_of read_tags tag ≡ false → is_one_of field_tags tag ≡ true → ⊥
other_not tag o f =
    let yes : is_one_of read_tags tag ≡ true = listed (λ t. is_one_of read_tags t ≡ true) field_tags tag (refl, (refl, (refl, tt))) f in
    let both = sym yes ∙ o in absurd cc

pub text_lacks : (time : ℕ) (body : List ℕ) (s : Stop) → text_of time body ≡ Err s → LacksFields 1 body
unfolding text_of text_head
text_lacks time body s e (Text t id bytes) fit tag whole =
    let read : text_of time (word id ++ (bytes ++ [])) ≡ Ok (Text time id (bytes ++ [])) = ap (λ (q : Result (ℕ × List ℕ) Stop). q >>= make_text time) (word_format.again id (bytes ++ []) fit.0) in
    let both = sym read ∙ ap (text_of time) whole ∙ e in
    absurd cc
text_lacks time body s e (LoadClass t serial class stack name rest) fit tag whole = absurd (omega arith)
text_lacks time body s e (Trace t serial thread frames rest) fit tag whole = absurd (omega arith)
text_lacks time body s e (Segment t g size parts) fit tag whole = absurd (segment_not g fit.0 (ap (is_one_of field_tags) tag))
text_lacks time body s e (Other t g bytes) fit tag whole = absurd (other_not g fit.1 (ap (is_one_of field_tags) tag))

pub load_lacks : (time : ℕ) (body : List ℕ) (s : Stop) → load_of time body ≡ Err s → LacksFields 2 body
unfolding load_of
load_lacks time body s e (Text t id bytes) fit tag whole = absurd (omega arith)
load_lacks time body s e (LoadClass t serial class stack name rest) fit tag whole =
    let x : Triple × ℕ = ((serial, (class, stack)), name) in
    let read : load_of time (load_text x ++ (rest ++ [])) ≡ Ok (LoadClass time serial class stack name (rest ++ [])) = ap (λ (q : Result ((Triple × ℕ) × List ℕ) Stop). q >>= make_load time) (load_format.again x (rest ++ []) ((fit.0, (fit.1, fit.2)), fit.3)) in
    let both = sym read ∙ ap (load_of time) whole ∙ e in
    absurd cc
load_lacks time body s e (Trace t serial thread frames rest) fit tag whole = absurd (omega arith)
load_lacks time body s e (Segment t g size parts) fit tag whole = absurd (segment_not g fit.0 (ap (is_one_of field_tags) tag))
load_lacks time body s e (Other t g bytes) fit tag whole = absurd (other_not g fit.1 (ap (is_one_of field_tags) tag))

pub trace_lacks : (time : ℕ) (body : List ℕ) (s : Stop) → trace_of time body ≡ Err s → LacksFields 5 body
unfolding trace_of
trace_lacks time body s e (Text t id bytes) fit tag whole = absurd (omega arith)
trace_lacks time body s e (LoadClass t serial class stack name rest) fit tag whole = absurd (omega arith)
trace_lacks time body s e (Trace t serial thread frames rest) fit tag whole =
    let x : (ℕ × ℕ) × List ℕ = ((serial, thread), frames) in
    let regrouped : trace_text x ++ (rest ++ []) ≡ body_of (Trace t serial thread frames rest) = append_assoc (word serial ++ word thread) (long_text (number w32) word IsWord frames) (rest ++ []) in
    let read : trace_of time (trace_text x ++ (rest ++ [])) ≡ Ok (Trace time serial thread frames (rest ++ [])) = ap (λ (q : Result (((ℕ × ℕ) × List ℕ) × List ℕ) Stop). q >>= make_trace time) (trace_format.again x (rest ++ []) ((fit.0, fit.1), (fit.2, fit.3))) in
    let both = sym read ∙ ap (trace_of time) (regrouped ∙ whole) ∙ e in
    absurd cc
trace_lacks time body s e (Segment t g size parts) fit tag whole = absurd (segment_not g fit.0 (ap (is_one_of field_tags) tag))
trace_lacks time body s e (Other t g bytes) fit tag whole = absurd (other_not g fit.1 (ap (is_one_of field_tags) tag))

-- what a record's fields are, with the record's place
pub placed_found : (read : Result TopRecord Halt) (list : Result TopRecord Stop) (at : ℕ) (P : TopRecord → Type 0) → Gives (λ r. r) read list → ((r : TopRecord) → list ≡ Ok r → P r) → IfOk (with_place read at) P
placed_found (Ok r) list at P given f = f r given
placed_found (Err h) list at P given f = tt

pub placed_fault : (read : Result TopRecord Halt) (list : Result TopRecord Stop) (at : ℕ) (Q : Type 0) (R : ReadError → Type 0) → Gives (λ r. r) read list → ((s : Stop) → list ≡ Err s → Q) → IfErr (with_place read at) (λ e. e ≢ errors.OutOfMemory → ((e ≡ errors.PastEnd at) × Q) ⊎ R e)
placed_fault (Ok r) list at Q R given f = tt
placed_fault (Err halts.OutOfMemory) list at Q R given f = λ other. absurd (other refl)
placed_fault (Err (halts.Stopped s)) list at Q R given f = λ other. inl (refl, f s given)

pub kind_found : (n tag time at : ℕ) (body : List ℕ) (list : Result TopRecord Stop) (read : Result TopRecord Halt) (result : Result TopRecord ReadError) → tag ≡ n → ((r : TopRecord) → list ≡ Ok r → IsRead n time body r) → Gives (λ r. r) read list → result ≡ with_place read at
    → IfOk result (IsRead tag time body)
kind_found n tag time at body list read result is f given placed =
    let told : IfOk (with_place read at) (IsRead n time body) = placed_found read list at (IsRead n time body) given f in
    subst (λ (g : ℕ). IfOk result (IsRead g time body)) (sym is) (subst (λ (q : Result TopRecord ReadError). IfOk q (IsRead n time body)) (sym placed) told)

pub kind_fault : (n tag at : ℕ) (body : List ℕ) (list : Result TopRecord Stop) (read : Result TopRecord Halt) (result : Result TopRecord ReadError) → tag ≡ n → is_one_of field_tags n ≡ true → ((s : Stop) → list ≡ Err s → LacksFields n body) → Gives (λ r. r) read list → result ≡ with_place read at
    → IfErr result (λ e. e ≢ errors.OutOfMemory → ContentFault e tag body at)
kind_fault n tag at body list read result is fields f given placed =
    let told : IfErr (with_place read at) (λ e. e ≢ errors.OutOfMemory → ContentFault e n body at) =
    placed_fault read list at (IsTrue (is_one_of field_tags n) × LacksFields n body) (λ e. IsTrue (is_one_of segment_tags n) × BodyFault e body (at + 9)) given (λ s e. (fields, f s e)) in
    subst (λ (g : ℕ). IfErr result (λ e. e ≢ errors.OutOfMemory → ContentFault e g body at)) (sym is) (subst (λ (q : Result TopRecord ReadError). IfErr q (λ e. e ≢ errors.OutOfMemory → ContentFault e n body at)) (sym placed) told)

-- ---- frames

abbrev pub frame_text : ℕ × (ℕ × List ℕ) → List ℕ
frame_text f = field 1 f.0 ++ (word f.1.0 ++ counted_text f.1.1)

abbrev pub FrameFits : ℕ × (ℕ × List ℕ) → Type 0
FrameFits f = IsByte f.0 × (IsWord f.1.0 × CountedFits f.1.1)

pub frame_format : IsFormat frame frame_text FrameFits
unfolding frame
frame_format =
    both_format (number w8) (field 1) IsByte (λ _. both (number w32) (λ _. counted_bytes)) (λ f. word f.0 ++ counted_text f.1) (λ _ f. IsWord f.0 × CountedFits f.1)
    byte_format (λ _ _. both_format (number w32) word IsWord (λ _. counted_bytes) counted_text (λ _. CountedFits) word_format (λ _ _. counted_format))

pub framed_is : (tag time : ℕ) (body : List ℕ) → framed tag time body ≡ frame_text (tag, (time, body))
framed_is tag time body = ap (λ (t : List ℕ). field 1 tag ++ (word time ++ (word (length body) ++ t))) (append-nil body)

abbrev Small : ℕ → Type 0
Small t = t < 256

tag_fits : (r : TopRecord) → HasFields r → IsByte (tag_of r)
tag_fits (Text t id bytes) fit = omega arith
tag_fits (LoadClass t serial class stack name rest) fit = omega arith
tag_fits (Trace t serial thread frames rest) fit = omega arith
tag_fits (Segment t g size parts) fit = listed Small segment_tags g (omega arith, (omega arith, tt)) fit.0
tag_fits (Other t g bytes) fit = fit.0

-- ---- frames never refuse a byte

abbrev pub IsCalm : {A : Type 0} → Reader A → Type 0
IsCalm {A} read = (bytes : List ℕ) (left : ℕ) → read bytes ≡ Err (Refused left) → ⊥

calm : (t : Bool) {A : Type 0} (x : A) (left : ℕ) → cond t (Err Short) (Ok x) ≡ Err (Refused left) → ⊥
calm true x left e = absurd cc
calm false x left e = absurd cc

number_calm : (w : Width) → IsCalm (number w)
number_calm w bytes left e = let got : ℕ × List ℕ = (from_be_bytes w (take (byte_len w) bytes), drop (byte_len w) bytes) in calm (ltb (length bytes) (byte_len w)) got left e

raw_calm : (n : ℕ) → IsCalm (raw n)
raw_calm n bytes left e = let got : List ℕ × List ℕ = (take n bytes, drop n bytes) in calm (ltb (length bytes) n) got left e

module _ {A B : Type 0} (first : Reader A) (second : A → Reader B) where
  abbrev two : A → B × List ℕ → Result ((A × B) × List ℕ) Stop
  two a y = Ok ((a, y.0), y.1)

  abbrev then_two : A × List ℕ → Result ((A × B) × List ℕ) Stop
  then_two x = second x.0 x.1 >>= two x.0

  both_calm : IsCalm first → ((a : A) → IsCalm (second a)) → IsCalm (both first second)
  both_calm f g bytes left e =
      elim (bind_err (first bytes) then_two (Refused left) e) [
        | inl h ↦ f bytes left h
        | inr a ↦ elim (bind_err (second a.0.0 a.0.1) (two a.0.0) (Refused left) a.1.1) [
          | inl h ↦ g a.0.0 a.0.1 left h
          | inr b ↦ absurd cc
        ]
      ]

module _ {A B : Type 0} (read : Reader A) (make : A → B) where
  abbrev one_made : A × List ℕ → Result (B × List ℕ) Stop
  one_made x = Ok (make x.0, x.1)

  made_calm : IsCalm read → IsCalm (made make read)
  made_calm f bytes left e =
      elim (bind_err (read bytes) one_made (Refused left) e) [ inl h ↦ f bytes left h | inr a ↦ absurd cc ]

abbrev second_of : ℕ × List ℕ → List ℕ
second_of x = x.1

counted_calm : IsCalm counted_bytes
unfolding counted_bytes
counted_calm = made_calm (both (number w32) raw) second_of (both_calm (number w32) raw (number_calm w32) raw_calm)

pub frame_calm : IsCalm frame
unfolding frame
frame_calm = both_calm (number w8) (λ _. both (number w32) (λ _. counted_bytes)) (number_calm w8) (λ _. both_calm (number w32) (λ _. counted_bytes) (number_calm w32) (λ _. counted_calm))

-- ---- records that stand whole

body_octets : (r : TopRecord) → HasFields r → AreBytes (body_of r)
body_octets (Text t id bytes) fit = All-append IsByte (word id) (bytes ++ []) (word_format.octets id fit.0) (All-append IsByte bytes [] fit.1 (All-nil IsByte))
body_octets (LoadClass t serial class stack name rest) fit =
    let x : Triple × ℕ = ((serial, (class, stack)), name) in
    All-append IsByte (load_text x) (rest ++ []) (load_format.octets x ((fit.0, (fit.1, fit.2)), fit.3)) (All-append IsByte rest [] fit.4 (All-nil IsByte))
body_octets (Trace t serial thread frames rest) fit =
    let x : (ℕ × ℕ) × List ℕ = ((serial, thread), frames) in
    let regrouped : trace_text x ++ (rest ++ []) ≡ body_of (Trace t serial thread frames rest) = append_assoc (word serial ++ word thread) (long_text (number w32) word IsWord frames) (rest ++ []) in
    subst AreBytes regrouped (All-append IsByte (trace_text x) (rest ++ []) (trace_format.octets x ((fit.0, fit.1), (fit.2, fit.3))) (All-append IsByte rest [] fit.4 (All-nil IsByte)))
body_octets (Segment t g size parts) fit = (times_format part_at bytes_of_part IsPart part_format (length parts)).octets parts (refl, fit.2)
body_octets (Other t g bytes) fit = fit.2

-- the frame of a record
pub record_again : (r : TopRecord) (rest : List ℕ) → IsRecord r → frame (bytes_of_record r ++ rest) ≡ Ok ((tag_of r, (time_of r, body_of r)), rest)
record_again r rest fit =
    ap (λ (t : List ℕ). frame (t ++ rest)) (framed_is (tag_of r) (time_of r) (body_of r))
    ∙ frame_format.again (tag_of r, (time_of r, body_of r)) rest (tag_fits r fit.1, (fit.0, (fit.2, body_octets r fit.1)))

pub framed_stands : (bytes : List ℕ) (tag time : ℕ) (body rest : List ℕ) → AreBytes bytes → frame bytes ≡ Ok ((tag, (time, body)), rest) → (bytes ≡ framed tag time body ++ rest) × IsFramed tag time body
framed_stands bytes tag time body rest fits e =
    let one = frame_format.takes bytes (tag, (time, body)) rest fits e in
    (one.0 ∙ ap (λ (t : List ℕ). t ++ rest) (sym (framed_is tag time body)), (one.1.0, one.1.1.0, one.1.1.1.0, one.1.1.1.1))

pub record_stands : (bytes : List ℕ) (tag time : ℕ) (body rest : List ℕ) (r : TopRecord) → AreBytes bytes → frame bytes ≡ Ok ((tag, (time, body)), rest) → IsRead tag time body r → IsRecord r × (bytes ≡ bytes_of_record r ++ rest)
record_stands bytes tag time body rest r fits e is =
    let one = framed_stands bytes tag time body rest fits e in
    let same : framed tag time body ≡ bytes_of_record r =
    ap (λ (g : ℕ). framed g time body) (sym is.1) ∙ ap (λ (t : ℕ). framed (tag_of r) t body) (sym is.2) ∙ ap (λ (b : List ℕ). framed (tag_of r) (time_of r) b) (sym is.3) in
    ((subst IsWord (sym is.2) one.1.1, is.0, subst (λ (b : List ℕ). IsWord (length b)) (sym is.3) one.1.2), one.0 ∙ ap (λ (t : List ℕ). t ++ rest) same)

abbrev FrameParts : Type 0
FrameParts = (ℕ × (ℕ × List ℕ)) × List ℕ

-- where no fields give the body no record stands
pub no_record : (bytes : List ℕ) (tag time : ℕ) (body rest : List ℕ) → frame bytes ≡ Ok ((tag, (time, body)), rest) → LacksFields tag body → NoRecord bytes
no_record bytes tag time body rest e lacks r more fit whole =
    let got : FrameParts = ((tag_of r, (time_of r, body_of r)), more) in
    let want : FrameParts = ((tag, (time, body)), rest) in
    let same : got ≡ want = ok_is got want (sym (record_again r more fit) ∙ ap frame (sym whole) ∙ e) in
    lacks r fit.1 (ap (λ (q : FrameParts). q.0.0) same) (ap (λ (q : FrameParts). q.0.1.1) same)

pub cut_record : (bytes : List ℕ) (s : Stop) → AreBytes bytes → frame bytes ≡ Err s → NoRecord bytes × IsCut bytes
cut_record bytes Short fits e =
    let h = frame_format.short bytes fits e in
    let f = h.0 in (
      (λ r more fit whole. let both = sym (record_again r more fit) ∙ ap frame (sym whole) ∙ e in absurd cc),
      (f.0, f.1.0, f.1.1, h.1, h.2, ((h.3.0.0, h.3.0.1.0, h.3.0.1.1.0, h.3.0.1.1.1), framed_is f.0 f.1.0 f.1.1 ∙ h.3.1)),
    )
cut_record bytes (Refused left) fits e = absurd (frame_calm bytes left e)

-- ---- a body's fault leaves no fields

pub field_not : (tag n : ℕ) → is_one_of segment_tags tag ≡ true → n ≡ tag → is_one_of segment_tags n ≡ false → ⊥
field_not tag n s same none = let both = sym (ap (is_one_of segment_tags) same ∙ s) ∙ none in absurd cc

segment_lacks : (e : ReadError) (tag : ℕ) (body : List ℕ) (at : ℕ) → is_one_of segment_tags tag ≡ true → BodyFault e body at → LacksFields tag body
segment_lacks e tag body at s f (Text t id bytes) fit same whole = field_not tag 1 s same refl
segment_lacks e tag body at s f (LoadClass t serial class stack name rest) fit same whole = field_not tag 2 s same refl
segment_lacks e tag body at s f (Trace t serial thread frames rest) fit same whole = field_not tag 5 s same refl
segment_lacks e tag body at s f (Segment t g size parts) fit same whole =
    let ends : bytes_of_parts parts ++ [] ≡ bytes_of_parts f.0 ++ f.1 = append-nil (bytes_of_parts parts) ∙ whole ∙ f.2.1 in
    let none : NoPart [] = λ p more formed e. part_nonempty p more e in
    f.2.2 (sym (parts_end parts f.0 [] f.1 fit.2 f.2.0 ends none f.2.3).1)
segment_lacks e tag body at s f (Other t g bytes) fit same whole =
    let yes : is_one_of read_tags tag ≡ true = listed (λ t. is_one_of read_tags t ≡ true) segment_tags tag (refl, (refl, tt)) s in
    let both = sym yes ∙ ap (is_one_of read_tags) (sym same) ∙ fit.1 in absurd cc

pub content_lacks : (e : ReadError) (tag : ℕ) (body : List ℕ) (o : ℕ) → ContentFault e tag body o → LacksFields tag body
content_lacks e tag body o f =
    elim f [ inl h ↦ h.1.1 | inr h ↦ segment_lacks e tag body (o + 9) h.0 h.1 ]

pub record_fault : (e : ReadError) (bytes : List ℕ) (tag time : ℕ) (body rest : List ℕ) (o : ℕ) → AreBytes bytes → frame bytes ≡ Ok ((tag, (time, body)), rest) → ContentFault e tag body o → NoRecord bytes × RecordFault e bytes o
record_fault e bytes tag time body rest o fits read f =
    let one = framed_stands bytes tag time body rest fits read in
    (no_record bytes tag time body rest read (content_lacks e tag body o f), inr (tag, time, body, rest, (one.1, one.0, f)))

pub frame_lengths : (bytes : List ℕ) (tag time : ℕ) (body rest : List ℕ) → AreBytes bytes → frame bytes ≡ Ok ((tag, (time, body)), rest) → (9 + length body ≤ length bytes) × IsWord (length body)
frame_lengths bytes tag time body rest fits e =
    let one = frame_format.takes bytes (tag, (time, body)) rest fits e in
    let long : length bytes ≡ suc (suc (suc (suc (suc (suc (suc (suc (suc (length (body ++ rest)))))))))) = ap length one.0 in
    (omega (arith, length-append body rest), one.1.1.1.0)

-- a tag that is none of those whose bodies are read
pub none_of : (tag : ℕ) → tag ≢ 1 → tag ≢ 2 → tag ≢ 5 → tag ≢ 0x0c → tag ≢ 0x1c → is_one_of read_tags tag ≡ false
none_of tag a b c d e = rw (ne_eqb tag 1 a, ne_eqb tag 2 b, ne_eqb tag 5 c, ne_eqb tag 0x0c d, ne_eqb tag 0x1c e) refl

-- one more record was read
pub record OneMoreRecord (text : List ℕ) (records : List TopRecord) (rest after : List ℕ) : Type 0 where
  pub whole : text ≡ bytes_of_records records ++ after
  pub formed : AreRecords records
  pub shorter : length after < length rest

pub record_read : (text : List ℕ) (records : List TopRecord) (rest : List ℕ) (r : TopRecord) (after : List ℕ) → text ≡ bytes_of_records records ++ rest → AreRecords records → IsRecord r → rest ≡ bytes_of_record r ++ after
    → OneMoreRecord text (records ++ r ∷ []) rest after
record_read text records rest r after whole formed fit here =
    let joined : bytes_of_records (records ++ r ∷ []) ≡ bytes_of_records records ++ bytes_of_record r =
    flat_map-append bytes_of_record records (r ∷ []) ∙ ap (λ (t : List ℕ). bytes_of_records records ++ t) (append-nil (bytes_of_record r)) in
    let long : length rest ≡ suc (suc (suc (suc (suc (suc (suc (suc (suc (length ((body_of r ++ []) ++ after)))))))))) = ap length here in
    record {
      whole = whole ∙ ap (λ (t : List ℕ). bytes_of_records records ++ t) here ∙ sym (append_assoc (bytes_of_records records) (bytes_of_record r) after) ∙ ap (λ (t : List ℕ). t ++ after) (sym joined);
      formed = All-push IsRecord records r formed fit;
      shorter = omega (arith, length-append (body_of r ++ []) after);
    }

pub cut_fault : (bytes : List ℕ) (h : Halt) (s : Stop) (o : ℕ) → AreBytes bytes → h ≡ halts.Stopped s → Fails h (frame bytes) → NoRecord bytes × RecordFault (errors.CutShort o) bytes o
cut_fault bytes h s o fits is failed =
    let e : frame bytes ≡ Err s = subst (λ (k : Halt). Fails k (frame bytes)) is failed in
    let cut = cut_record bytes s fits e in
    (cut.0, inl (refl, cut.1))

-- ---- a tag, a time and a body are those of one record

-- a record's kind, and what a tag tells of it
abbrev pub kind_by : Bool → Bool → ℕ → ℕ
kind_by true is_read tag = 12
kind_by false true tag = tag
kind_by false false tag = 99

abbrev pub kind_by_tag : ℕ → ℕ
kind_by_tag tag = kind_by (is_one_of segment_tags tag) (is_one_of read_tags tag) tag

abbrev record_kind : TopRecord → ℕ
record_kind (Text t id bytes) = 1
record_kind (LoadClass t serial class stack name rest) = 2
record_kind (Trace t serial thread frames rest) = 5
record_kind (Segment t g size parts) = 12
record_kind (Other t g bytes) = 99

pub other_kind : (tag : ℕ) (s : Bool) → is_one_of segment_tags tag ≡ s → is_one_of read_tags tag ≡ false → kind_by s (is_one_of read_tags tag) tag ≡ 99
other_kind tag true s o =
    let yes : is_one_of read_tags tag ≡ true = listed (λ t. is_one_of read_tags t ≡ true) segment_tags tag (refl, (refl, tt)) s in
    let both = sym yes ∙ o in absurd cc
other_kind tag false s o = ap (λ (b : Bool). kind_by false b tag) o

kind_told : (r : TopRecord) → HasFields r → kind_by_tag (tag_of r) ≡ record_kind r
kind_told (Text t id bytes) fit = refl
kind_told (LoadClass t serial class stack name rest) fit = refl
kind_told (Trace t serial thread frames rest) fit = refl
kind_told (Segment t g size parts) fit = ap (λ (b : Bool). kind_by b (is_one_of read_tags g) g) fit.0
kind_told (Other t g bytes) fit = other_kind g (is_one_of segment_tags g) refl fit.1

pub same_rest : (xs ys : List ℕ) → xs ++ [] ≡ ys ++ [] → xs ≡ ys
same_rest xs ys e = sym (append-nil xs) ∙ e ∙ append-nil ys

pub same_fields : (r s : TopRecord) → HasFields r → HasFields s → tag_of r ≡ tag_of s → time_of r ≡ time_of s → body_of r ≡ body_of s → r ≡ s
same_fields (Text t id bytes) (Text u id' bytes') f g tag time body =
    let got : ℕ × List ℕ = (id, bytes ++ []) in
    let want : ℕ × List ℕ = (id', bytes' ++ []) in
    let same : got ≡ want = ok_is got want (sym (word_format.again id (bytes ++ []) f.0) ∙ ap (number w32) body ∙ word_format.again id' (bytes' ++ []) g.0) in
    let ids = ap (λ (q : ℕ × List ℕ). q.0) same in
    let rests = same_rest bytes bytes' (ap (λ (q : ℕ × List ℕ). q.1) same) in
    cc
same_fields (LoadClass t serial class stack name rest) (LoadClass u serial' class' stack' name' rest') f g tag time body =
    let x : Triple × ℕ = ((serial, (class, stack)), name) in
    let y : Triple × ℕ = ((serial', (class', stack')), name') in
    let got : (Triple × ℕ) × List ℕ = (x, rest ++ []) in
    let want : (Triple × ℕ) × List ℕ = (y, rest' ++ []) in
    let same : got ≡ want = ok_is got want (sym (load_format.again x (rest ++ []) ((f.0, (f.1, f.2)), f.3)) ∙ ap load_head body ∙ load_format.again y (rest' ++ []) ((g.0, (g.1, g.2)), g.3)) in
    let serials = ap (λ (q : (Triple × ℕ) × List ℕ). q.0.0.0) same in
    let classes = ap (λ (q : (Triple × ℕ) × List ℕ). q.0.0.1.0) same in
    let stacks = ap (λ (q : (Triple × ℕ) × List ℕ). q.0.0.1.1) same in
    let names = ap (λ (q : (Triple × ℕ) × List ℕ). q.0.1) same in
    let rests = same_rest rest rest' (ap (λ (q : (Triple × ℕ) × List ℕ). q.1) same) in
    cc
same_fields (Trace t serial thread frames rest) (Trace u serial' thread' frames' rest') f g tag time body =
    let x : (ℕ × ℕ) × List ℕ = ((serial, thread), frames) in
    let y : (ℕ × ℕ) × List ℕ = ((serial', thread'), frames') in
    let got : ((ℕ × ℕ) × List ℕ) × List ℕ = (x, rest ++ []) in
    let want : ((ℕ × ℕ) × List ℕ) × List ℕ = (y, rest' ++ []) in
    let here : trace_text x ++ (rest ++ []) ≡ body_of (Trace t serial thread frames rest) = append_assoc (word serial ++ word thread) (long_text (number w32) word IsWord frames) (rest ++ []) in
    let there : trace_text y ++ (rest' ++ []) ≡ body_of (Trace u serial' thread' frames' rest') = append_assoc (word serial' ++ word thread') (long_text (number w32) word IsWord frames') (rest' ++ []) in
    let same : got ≡ want = ok_is got want (sym (trace_format.again x (rest ++ []) ((f.0, f.1), (f.2, f.3))) ∙ ap trace_head (here ∙ body ∙ sym there) ∙ trace_format.again y (rest' ++ []) ((g.0, g.1), (g.2, g.3))) in
    let serials = ap (λ (q : ((ℕ × ℕ) × List ℕ) × List ℕ). q.0.0.0) same in
    let threads = ap (λ (q : ((ℕ × ℕ) × List ℕ) × List ℕ). q.0.0.1) same in
    let lists = ap (λ (q : ((ℕ × ℕ) × List ℕ) × List ℕ). q.0.1) same in
    let rests = same_rest rest rest' (ap (λ (q : ((ℕ × ℕ) × List ℕ) × List ℕ). q.1) same) in
    cc
same_fields (Segment t tag size parts) (Segment u tag' size' parts') f g tags time body =
    let none : NoPart [] = λ p more formed e. part_nonempty p more e in
    let same : parts ≡ parts' = (parts_end parts parts' [] [] f.2 g.2 (append-nil (bytes_of_parts parts) ∙ body ∙ sym (append-nil (bytes_of_parts parts'))) none none).0 in
    let sizes : size ≡ size' = f.1 ∙ ap (λ (ps : List SubRecord). length (bytes_of_parts ps)) same ∙ sym g.1 in
    cc
same_fields (Other t tag bytes) (Other u tag' bytes') f g tags time body = cc
same_fields r s f g tag time body =
    let e : record_kind r ≡ record_kind s = sym (kind_told r f) ∙ ap kind_by_tag tag ∙ kind_told s g in
    absurd (omega arith)
