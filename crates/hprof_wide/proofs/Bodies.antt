-- Wide records: what their bodies say, and where a record begins and ends.
use Rattle.std.proofs.Common.{◌≡◌, ◌≢◌, ℕ, suc, ◌+◌, ◌<◌, ◌⊎◌, inl, inr, Bool, true, List, [], ◌∷◌, ◌++◌, length, Result, Ok, Err, refl, sym, ap, subst, ◌∙◌, append_assoc, arith}
use Rattle.std.specs.Prelude.{IfOk, IfErr, IsTrue}
use Rattle.std.specs.Int.{w32}
use Rattle.std.specs.List.{flat_map}
use Rattle.std.proofs.lemmas.List.{append-nil, length-append}
use Rattle.std.proofs.lemmas.List.Elements.{All-nil, All-append, All-push}
use Rattle.std.proofs.lemmas.List.Concat.{flat_map-append}
use Rattle.hprof_records.specs.Fields.{field}
use Rattle.hprof_records.specs.Parts.{word}
use Rattle.hprof_records.specs.Formed.{IsByte, IsWord, is_one_of}
use Rattle.hprof_records.specs.Dump.{segment_tags, read_tags}
use Rattle.hprof_read.specs.declared.fields.Stop.{Stop}
use Rattle.hprof_read.specs.declared.fields.Stop.TheVariants.{Short, Refused}
use Rattle.hprof_read.specs.declared.fields.Halt.{Halt}
use Rattle.hprof_read.specs.declared.fields.Halt.TheVariants as halts
use Rattle.hprof_read.specs.Reading.{◌>>=◌, Gives, Fails, number, both, counted, frame}
use Rattle.hprof_read.specs.Fault.{framed, IsCut, field_tags}
use Rattle.hprof_read.proofs.Formats.{AreBytes, AreBytes-right, IsFormat, bind_ok, ok_is, both_format, times_format}
use Rattle.hprof_read.proofs.FieldFormats.{word_format}
use Rattle.hprof_read.proofs.PartFormats.{Triple, long_text, LongFits, long_format}
use Rattle.hprof_read.proofs.PartsByTag.{listed}
use Rattle.hprof_read.proofs.Bodies.{frame_format, framed_is, framed_stands, frame_calm, field_not, segment_not, other_not, kind_by, kind_by_tag, other_kind, same_rest}
use Rattle.hprof_wide.specs.declared.ids.IdSize.{IdSize}
use Rattle.hprof_wide.specs.declared.wide_sub.WideSub.{WideSub}
use Rattle.hprof_wide.specs.declared.wide_top.WideTop.{WideTop}
use Rattle.hprof_wide.specs.declared.wide_top.WideTop.TheVariants.{Text, LoadClass, Trace, Segment, Other}
use Rattle.hprof_wide.specs.declared.wide_error.WideError.{WideError}
use Rattle.hprof_wide.specs.declared.wide_error.WideError.TheVariants as errors
use Rattle.hprof_wide.specs.Parts.{wide_part_bytes, wide_parts_bytes}
use Rattle.hprof_wide.specs.Records.{wide_tag_of, wide_time_of, wide_body_of, wide_record_bytes, wide_records_bytes}
use Rattle.hprof_wide.specs.Formed.{IsId, IsWidePart}
use Rattle.hprof_wide.specs.Dump.{HasWideFields, IsWideRecord, AreWideRecords}
use Rattle.hprof_wide.specs.Reading.{width_of, ident, three, text_head, load_head, trace_head, text_of, load_of, trace_of, with_place, part_at}
use Rattle.hprof_wide.specs.Fault.{NoWideRecord, NoWidePart, WideBodyFault, LacksWideFields, WideContentFault, WideRecordFault}
use Rattle.hprof_wide.proofs.Values.{id_format, three_text, three_same, ThreeFit, three_format}
use Rattle.hprof_wide.proofs.PartsByTag.{part_format}
use Rattle.hprof_wide.proofs.Unique.{part_nonempty, parts_end}

module _ (z : IdSize) where
  abbrev w : ℕ
  w = width_of z

  -- a record with this tag, time and body
  abbrev pub IsRead : ℕ → ℕ → List ℕ → WideTop → Type 0
  IsRead tag time body r = HasWideFields w r × (wide_tag_of r ≡ tag) × (wide_time_of r ≡ time) × (wide_body_of w r ≡ body)

  -- ---- strings

  abbrev make_text : ℕ → ℕ × List ℕ → Result WideTop Stop
  make_text time x = Ok (Text time x.0 x.1)

  pub text_takes : (time : ℕ) (body : List ℕ) (r : WideTop) → AreBytes body → text_of z time body ≡ Ok r → IsRead 1 time body r
  unfolding text_of text_head
  text_takes time body r fits e =
      let a = bind_ok (ident z body) (make_text time) r e in
      let x = a.0 in
      let one = (id_format z).takes body x.0 x.1 fits a.1.0 in
      let rest_fits : AreBytes x.1 = AreBytes-right (field w x.0) x.1 (subst AreBytes one.0 fits) in
      subst (IsRead 1 time body) (ok_is (Text time x.0 x.1) r a.1.1)
      ((one.1, rest_fits), refl, refl, ap (λ (t : List ℕ). field w x.0 ++ t) (append-nil x.1) ∙ sym one.0)

  -- ---- loaded classes

  abbrev load_text : Triple × ℕ → List ℕ
  load_text a = three_text word (field w) word a.0 ++ field w a.1

  abbrev LoadFits : Triple × ℕ → Type 0
  LoadFits a = ThreeFit IsWord (IsId w) IsWord a.0 × IsId w a.1

  load_format : IsFormat (load_head z) load_text LoadFits
  unfolding load_head
  load_format =
      both_format (three (number w32) (ident z) (number w32)) (three_text word (field w) word) (ThreeFit IsWord (IsId w) IsWord) (λ _. ident z) (field w) (λ _. IsId w)
      (three_format (number w32) (ident z) (number w32) word (field w) word IsWord (IsId w) IsWord word_format (id_format z) word_format) (λ _ _. id_format z)

  load_joined : (a : Triple × ℕ) (rest : List ℕ) → load_text a ++ rest ≡ word a.0.0 ++ (field w a.0.1.0 ++ (word a.0.1.1 ++ (field w a.1 ++ rest)))
  load_joined a rest = append_assoc (three_text word (field w) word a.0) (field w a.1) rest ∙ sym (three_same word (field w) word a.0 refl)

  abbrev make_load : ℕ → (Triple × ℕ) × List ℕ → Result WideTop Stop
  make_load time x = Ok (LoadClass time x.0.0.0 x.0.0.1.0 x.0.0.1.1 x.0.1 x.1)

  pub load_takes : (time : ℕ) (body : List ℕ) (r : WideTop) → AreBytes body → load_of z time body ≡ Ok r → IsRead 2 time body r
  unfolding load_of
  load_takes time body r fits e =
      let a = bind_ok (load_head z body) (make_load time) r e in
      let x = a.0 in
      let one = load_format.takes body x.0 x.1 fits a.1.0 in
      let rest_fits : AreBytes x.1 = AreBytes-right (load_text x.0) x.1 (subst AreBytes one.0 fits) in
      subst (IsRead 2 time body) (ok_is (LoadClass time x.0.0.0 x.0.0.1.0 x.0.0.1.1 x.0.1 x.1) r a.1.1)
      ((one.1.0.0, one.1.0.1.0, one.1.0.1.1, one.1.1, rest_fits), refl, refl, sym (load_joined x.0 (x.1 ++ [])) ∙ ap (λ (t : List ℕ). load_text x.0 ++ t) (append-nil x.1) ∙ sym one.0)

  -- ---- stack traces

  abbrev trace_text : (ℕ × ℕ) × List ℕ → List ℕ
  trace_text a = (word a.0.0 ++ word a.0.1) ++ long_text (ident z) (field w) (IsId w) a.1

  abbrev TraceFits : (ℕ × ℕ) × List ℕ → Type 0
  TraceFits a = (IsWord a.0.0 × IsWord a.0.1) × LongFits (ident z) (field w) (IsId w) a.1

  trace_format : IsFormat (trace_head z) trace_text TraceFits
  unfolding trace_head
  trace_format =
      both_format (both (number w32) (λ _. number w32)) (λ p. word p.0 ++ word p.1) (λ p. IsWord p.0 × IsWord p.1) (λ _. counted w32 (ident z)) (long_text (ident z) (field w) (IsId w)) (λ _. LongFits (ident z) (field w) (IsId w))
      (both_format (number w32) word IsWord (λ _. number w32) word (λ _. IsWord) word_format (λ _ _. word_format)) (λ _ _. long_format (ident z) (field w) (IsId w) (id_format z))

  abbrev make_trace : ℕ → ((ℕ × ℕ) × List ℕ) × List ℕ → Result WideTop Stop
  make_trace time x = Ok (Trace time x.0.0.0 x.0.0.1 x.0.1 x.1)

  pub trace_takes : (time : ℕ) (body : List ℕ) (r : WideTop) → AreBytes body → trace_of z time body ≡ Ok r → IsRead 5 time body r
  unfolding trace_of
  trace_takes time body r fits e =
      let a = bind_ok (trace_head z body) (make_trace time) r e in
      let x = a.0 in
      let one = trace_format.takes body x.0 x.1 fits a.1.0 in
      let rest_fits : AreBytes x.1 = AreBytes-right (trace_text x.0) x.1 (subst AreBytes one.0 fits) in
      subst (IsRead 5 time body) (ok_is (Trace time x.0.0.0 x.0.0.1 x.0.1 x.1) r a.1.1)
      ((one.1.0.0, one.1.0.1, one.1.1.0, one.1.1.1, rest_fits), refl, refl, ap (λ (t : List ℕ). (word x.0.0.0 ++ word x.0.0.1) ++ (word (length x.0.1) ++ (flat_map (field w) x.0.1 ++ t))) (append-nil x.1) ∙ sym (one.0 ∙ append_assoc (word x.0.0.0 ++ word x.0.0.1) (long_text (ident z) (field w) (IsId w) x.0.1) x.1))

  -- ---- where no fields give a body

  pub text_lacks : (time : ℕ) (body : List ℕ) (s : Stop) → text_of z time body ≡ Err s → LacksWideFields w 1 body
  unfolding text_of text_head
  text_lacks time body s e (Text t id bytes) fit tag whole =
      let read : text_of z time (field w id ++ (bytes ++ [])) ≡ Ok (Text time id (bytes ++ [])) = ap (λ (q : Result (ℕ × List ℕ) Stop). q >>= make_text time) ((id_format z).again id (bytes ++ []) fit.0) in
      let both = sym read ∙ ap (text_of z time) whole ∙ e in
      absurd cc
  text_lacks time body s e (LoadClass t serial class stack name rest) fit tag whole = absurd (omega arith)
  text_lacks time body s e (Trace t serial thread frames rest) fit tag whole = absurd (omega arith)
  text_lacks time body s e (Segment t g size parts) fit tag whole = absurd (segment_not g fit.0 (ap (is_one_of field_tags) tag))
  text_lacks time body s e (Other t g bytes) fit tag whole = absurd (other_not g fit.1 (ap (is_one_of field_tags) tag))

  pub load_lacks : (time : ℕ) (body : List ℕ) (s : Stop) → load_of z time body ≡ Err s → LacksWideFields w 2 body
  unfolding load_of
  load_lacks time body s e (Text t id bytes) fit tag whole = absurd (omega arith)
  load_lacks time body s e (LoadClass t serial class stack name rest) fit tag whole =
      let x : Triple × ℕ = ((serial, (class, stack)), name) in
      let read : load_of z time (load_text x ++ (rest ++ [])) ≡ Ok (LoadClass time serial class stack name (rest ++ [])) = ap (λ (q : Result ((Triple × ℕ) × List ℕ) Stop). q >>= make_load time) (load_format.again x (rest ++ []) ((fit.0, (fit.1, fit.2)), fit.3)) in
      let both = sym read ∙ ap (load_of z time) (load_joined x (rest ++ []) ∙ whole) ∙ e in
      absurd cc
  load_lacks time body s e (Trace t serial thread frames rest) fit tag whole = absurd (omega arith)
  load_lacks time body s e (Segment t g size parts) fit tag whole = absurd (segment_not g fit.0 (ap (is_one_of field_tags) tag))
  load_lacks time body s e (Other t g bytes) fit tag whole = absurd (other_not g fit.1 (ap (is_one_of field_tags) tag))

  pub trace_lacks : (time : ℕ) (body : List ℕ) (s : Stop) → trace_of z time body ≡ Err s → LacksWideFields w 5 body
  unfolding trace_of
  trace_lacks time body s e (Text t id bytes) fit tag whole = absurd (omega arith)
  trace_lacks time body s e (LoadClass t serial class stack name rest) fit tag whole = absurd (omega arith)
  trace_lacks time body s e (Trace t serial thread frames rest) fit tag whole =
      let x : (ℕ × ℕ) × List ℕ = ((serial, thread), frames) in
      let regrouped : trace_text x ++ (rest ++ []) ≡ wide_body_of w (Trace t serial thread frames rest) = append_assoc (word serial ++ word thread) (long_text (ident z) (field w) (IsId w) frames) (rest ++ []) in
      let read : trace_of z time (trace_text x ++ (rest ++ [])) ≡ Ok (Trace time serial thread frames (rest ++ [])) = ap (λ (q : Result (((ℕ × ℕ) × List ℕ) × List ℕ) Stop). q >>= make_trace time) (trace_format.again x (rest ++ []) ((fit.0, fit.1), (fit.2, fit.3))) in
      let both = sym read ∙ ap (trace_of z time) (regrouped ∙ whole) ∙ e in
      absurd cc
  trace_lacks time body s e (Segment t g size parts) fit tag whole = absurd (segment_not g fit.0 (ap (is_one_of field_tags) tag))
  trace_lacks time body s e (Other t g bytes) fit tag whole = absurd (other_not g fit.1 (ap (is_one_of field_tags) tag))

  -- what a record's fields are, with the record's place
  pub placed_found : (read : Result WideTop Halt) (list : Result WideTop Stop) (at : ℕ) (P : WideTop → Type 0) → Gives (λ r. r) read list → ((r : WideTop) → list ≡ Ok r → P r) → IfOk (with_place read at) P
  placed_found (Ok r) list at P given f = f r given
  placed_found (Err h) list at P given f = tt

  pub placed_fault : (read : Result WideTop Halt) (list : Result WideTop Stop) (at : ℕ) (Q : Type 0) (R : WideError → Type 0) → Gives (λ r. r) read list → ((s : Stop) → list ≡ Err s → Q) → IfErr (with_place read at) (λ e. e ≢ errors.OutOfMemory → ((e ≡ errors.PastEnd at) × Q) ⊎ R e)
  placed_fault (Ok r) list at Q R given f = tt
  placed_fault (Err halts.OutOfMemory) list at Q R given f = λ other. absurd (other refl)
  placed_fault (Err (halts.Stopped s)) list at Q R given f = λ other. inl (refl, f s given)

  pub kind_found : (n tag time at : ℕ) (body : List ℕ) (list : Result WideTop Stop) (read : Result WideTop Halt) (result : Result WideTop WideError) → tag ≡ n → ((r : WideTop) → list ≡ Ok r → IsRead n time body r) → Gives (λ r. r) read list → result ≡ with_place read at
      → IfOk result (IsRead tag time body)
  kind_found n tag time at body list read result is f given placed =
      let told : IfOk (with_place read at) (IsRead n time body) = placed_found read list at (IsRead n time body) given f in
      subst (λ (g : ℕ). IfOk result (IsRead g time body)) (sym is) (subst (λ (q : Result WideTop WideError). IfOk q (IsRead n time body)) (sym placed) told)

  pub kind_fault : (n tag at : ℕ) (body : List ℕ) (list : Result WideTop Stop) (read : Result WideTop Halt) (result : Result WideTop WideError) → tag ≡ n → is_one_of field_tags n ≡ true → ((s : Stop) → list ≡ Err s → LacksWideFields w n body) → Gives (λ r. r) read list → result ≡ with_place read at
      → IfErr result (λ e. e ≢ errors.OutOfMemory → WideContentFault w e tag body at)
  kind_fault n tag at body list read result is fields f given placed =
      let told : IfErr (with_place read at) (λ e. e ≢ errors.OutOfMemory → WideContentFault w e n body at) =
      placed_fault read list at (IsTrue (is_one_of field_tags n) × LacksWideFields w n body) (λ e. IsTrue (is_one_of segment_tags n) × WideBodyFault w e body (at + 9)) given (λ s e. (fields, f s e)) in
      subst (λ (g : ℕ). IfErr result (λ e. e ≢ errors.OutOfMemory → WideContentFault w e g body at)) (sym is) (subst (λ (q : Result WideTop WideError). IfErr q (λ e. e ≢ errors.OutOfMemory → WideContentFault w e n body at)) (sym placed) told)

  abbrev Small : ℕ → Type 0
  Small t = t < 256

  tag_fits : (r : WideTop) → HasWideFields w r → IsByte (wide_tag_of r)
  tag_fits (Text t id bytes) fit = omega arith
  tag_fits (LoadClass t serial class stack name rest) fit = omega arith
  tag_fits (Trace t serial thread frames rest) fit = omega arith
  tag_fits (Segment t g size parts) fit = listed Small segment_tags g (omega arith, (omega arith, tt)) fit.0
  tag_fits (Other t g bytes) fit = fit.0

  -- ---- records that stand whole

  body_octets : (r : WideTop) → HasWideFields w r → AreBytes (wide_body_of w r)
  body_octets (Text t id bytes) fit = All-append IsByte (field w id) (bytes ++ []) ((id_format z).octets id fit.0) (All-append IsByte bytes [] fit.1 (All-nil IsByte))
  body_octets (LoadClass t serial class stack name rest) fit =
      let x : Triple × ℕ = ((serial, (class, stack)), name) in
      subst AreBytes (load_joined x (rest ++ [])) (All-append IsByte (load_text x) (rest ++ []) (load_format.octets x ((fit.0, (fit.1, fit.2)), fit.3)) (All-append IsByte rest [] fit.4 (All-nil IsByte)))
  body_octets (Trace t serial thread frames rest) fit =
      let x : (ℕ × ℕ) × List ℕ = ((serial, thread), frames) in
      let regrouped : trace_text x ++ (rest ++ []) ≡ wide_body_of w (Trace t serial thread frames rest) = append_assoc (word serial ++ word thread) (long_text (ident z) (field w) (IsId w) frames) (rest ++ []) in
      subst AreBytes regrouped (All-append IsByte (trace_text x) (rest ++ []) (trace_format.octets x ((fit.0, fit.1), (fit.2, fit.3))) (All-append IsByte rest [] fit.4 (All-nil IsByte)))
  body_octets (Segment t g size parts) fit = (times_format (part_at z) (wide_part_bytes w) (IsWidePart w) (part_format z) (length parts)).octets parts (refl, fit.2)
  body_octets (Other t g bytes) fit = fit.2

  -- the frame of a record
  pub record_again : (r : WideTop) (rest : List ℕ) → IsWideRecord w r → frame (wide_record_bytes w r ++ rest) ≡ Ok ((wide_tag_of r, (wide_time_of r, (wide_body_of w) r)), rest)
  record_again r rest fit =
      ap (λ (t : List ℕ). frame (t ++ rest)) (framed_is (wide_tag_of r) (wide_time_of r) (wide_body_of w r))
      ∙ frame_format.again (wide_tag_of r, (wide_time_of r, (wide_body_of w) r)) rest (tag_fits r fit.1, (fit.0, (fit.2, body_octets r fit.1)))

  pub record_stands : (bytes : List ℕ) (tag time : ℕ) (body rest : List ℕ) (r : WideTop) → AreBytes bytes → frame bytes ≡ Ok ((tag, (time, body)), rest) → IsRead tag time body r → IsWideRecord w r × (bytes ≡ wide_record_bytes w r ++ rest)
  record_stands bytes tag time body rest r fits e is =
      let one = framed_stands bytes tag time body rest fits e in
      let same : framed tag time body ≡ wide_record_bytes w r =
      ap (λ (g : ℕ). framed g time body) (sym is.1) ∙ ap (λ (t : ℕ). framed (wide_tag_of r) t body) (sym is.2) ∙ ap (λ (b : List ℕ). framed (wide_tag_of r) (wide_time_of r) b) (sym is.3) in
      ((subst IsWord (sym is.2) one.1.1, is.0, subst (λ (b : List ℕ). IsWord (length b)) (sym is.3) one.1.2), one.0 ∙ ap (λ (t : List ℕ). t ++ rest) same)

  abbrev FrameParts : Type 0
  FrameParts = (ℕ × (ℕ × List ℕ)) × List ℕ

  -- where no fields give the body no record stands
  pub no_record : (bytes : List ℕ) (tag time : ℕ) (body rest : List ℕ) → frame bytes ≡ Ok ((tag, (time, body)), rest) → LacksWideFields w tag body → NoWideRecord w bytes
  no_record bytes tag time body rest e lacks r more fit whole =
      let got : FrameParts = ((wide_tag_of r, (wide_time_of r, (wide_body_of w) r)), more) in
      let want : FrameParts = ((tag, (time, body)), rest) in
      let same : got ≡ want = ok_is got want (sym (record_again r more fit) ∙ ap frame (sym whole) ∙ e) in
      lacks r fit.1 (ap (λ (q : FrameParts). q.0.0) same) (ap (λ (q : FrameParts). q.0.1.1) same)

  pub cut_record : (bytes : List ℕ) (s : Stop) → AreBytes bytes → frame bytes ≡ Err s → NoWideRecord w bytes × IsCut bytes
  cut_record bytes Short fits e =
      let h = frame_format.short bytes fits e in
      let f = h.0 in (
        (λ r more fit whole. let both = sym (record_again r more fit) ∙ ap frame (sym whole) ∙ e in absurd cc),
        (f.0, f.1.0, f.1.1, h.1, h.2, ((h.3.0.0, h.3.0.1.0, h.3.0.1.1.0, h.3.0.1.1.1), framed_is f.0 f.1.0 f.1.1 ∙ h.3.1)),
      )
  cut_record bytes (Refused left) fits e = absurd (frame_calm bytes left e)

  -- ---- a body's fault leaves no fields

  segment_lacks : (e : WideError) (tag : ℕ) (body : List ℕ) (at : ℕ) → is_one_of segment_tags tag ≡ true → WideBodyFault w e body at → LacksWideFields w tag body
  segment_lacks e tag body at s f (Text t id bytes) fit same whole = field_not tag 1 s same refl
  segment_lacks e tag body at s f (LoadClass t serial class stack name rest) fit same whole = field_not tag 2 s same refl
  segment_lacks e tag body at s f (Trace t serial thread frames rest) fit same whole = field_not tag 5 s same refl
  segment_lacks e tag body at s f (Segment t g size parts) fit same whole =
      let ends : wide_parts_bytes w parts ++ [] ≡ wide_parts_bytes w f.0 ++ f.1 = append-nil (wide_parts_bytes w parts) ∙ whole ∙ f.2.1 in
      let none : NoWidePart w [] = λ p more formed e. part_nonempty z p more e in
      f.2.2 (sym (parts_end z parts f.0 [] f.1 fit.2 f.2.0 ends none f.2.3).1)
  segment_lacks e tag body at s f (Other t g bytes) fit same whole =
      let yes : is_one_of read_tags tag ≡ true = listed (λ t. is_one_of read_tags t ≡ true) segment_tags tag (refl, (refl, tt)) s in
      let both = sym yes ∙ ap (is_one_of read_tags) (sym same) ∙ fit.1 in absurd cc

  pub content_lacks : (e : WideError) (tag : ℕ) (body : List ℕ) (o : ℕ) → WideContentFault w e tag body o → LacksWideFields w tag body
  content_lacks e tag body o f =
      elim f [ inl h ↦ h.1.1 | inr h ↦ segment_lacks e tag body (o + 9) h.0 h.1 ]

  pub record_fault : (e : WideError) (bytes : List ℕ) (tag time : ℕ) (body rest : List ℕ) (o : ℕ) → AreBytes bytes → frame bytes ≡ Ok ((tag, (time, body)), rest) → WideContentFault w e tag body o → NoWideRecord w bytes × WideRecordFault w e bytes o
  record_fault e bytes tag time body rest o fits read f =
      let one = framed_stands bytes tag time body rest fits read in
      (no_record bytes tag time body rest read (content_lacks e tag body o f), inr (tag, time, body, rest, (one.1, one.0, f)))

  -- one more record was read
  pub record OneMoreRecord (text : List ℕ) (records : List WideTop) (rest after : List ℕ) : Type 0 where
    pub whole : text ≡ wide_records_bytes w records ++ after
    pub formed : AreWideRecords w records
    pub shorter : length after < length rest

  pub record_read : (text : List ℕ) (records : List WideTop) (rest : List ℕ) (r : WideTop) (after : List ℕ) → text ≡ wide_records_bytes w records ++ rest → AreWideRecords w records → IsWideRecord w r → rest ≡ wide_record_bytes w r ++ after
      → OneMoreRecord text (records ++ r ∷ []) rest after
  record_read text records rest r after whole formed fit here =
      let joined : wide_records_bytes w (records ++ r ∷ []) ≡ wide_records_bytes w records ++ wide_record_bytes w r =
      flat_map-append (wide_record_bytes w) records (r ∷ []) ∙ ap (λ (t : List ℕ). wide_records_bytes w records ++ t) (append-nil (wide_record_bytes w r)) in
      let long : length rest ≡ suc (suc (suc (suc (suc (suc (suc (suc (suc (length ((wide_body_of w r ++ []) ++ after)))))))))) = ap length here in
      record {
        whole = whole ∙ ap (λ (t : List ℕ). wide_records_bytes w records ++ t) here ∙ sym (append_assoc (wide_records_bytes w records) (wide_record_bytes w r) after) ∙ ap (λ (t : List ℕ). t ++ after) (sym joined);
        formed = All-push (IsWideRecord w) records r formed fit;
        shorter = omega (arith, length-append (wide_body_of w r ++ []) after);
      }

  pub cut_fault : (bytes : List ℕ) (h : Halt) (s : Stop) (o : ℕ) → AreBytes bytes → h ≡ halts.Stopped s → Fails h (frame bytes) → NoWideRecord w bytes × WideRecordFault w (errors.CutShort o) bytes o
  cut_fault bytes h s o fits is failed =
      let e : frame bytes ≡ Err s = subst (λ (k : Halt). Fails k (frame bytes)) is failed in
      let cut = cut_record bytes s fits e in
      (cut.0, inl (refl, cut.1))

  -- ---- a tag, a time and a body are those of one record

  abbrev record_kind : WideTop → ℕ
  record_kind (Text t id bytes) = 1
  record_kind (LoadClass t serial class stack name rest) = 2
  record_kind (Trace t serial thread frames rest) = 5
  record_kind (Segment t g size parts) = 12
  record_kind (Other t g bytes) = 99

  kind_told : (r : WideTop) → HasWideFields w r → kind_by_tag (wide_tag_of r) ≡ record_kind r
  kind_told (Text t id bytes) fit = refl
  kind_told (LoadClass t serial class stack name rest) fit = refl
  kind_told (Trace t serial thread frames rest) fit = refl
  kind_told (Segment t g size parts) fit = ap (λ (b : Bool). kind_by b (is_one_of read_tags g) g) fit.0
  kind_told (Other t g bytes) fit = other_kind g (is_one_of segment_tags g) refl fit.1

  pub same_fields : (r s : WideTop) → HasWideFields w r → HasWideFields w s → wide_tag_of r ≡ wide_tag_of s → wide_time_of r ≡ wide_time_of s → wide_body_of w r ≡ wide_body_of w s → r ≡ s
  same_fields (Text t id bytes) (Text u id' bytes') f g tag time body =
      let got : ℕ × List ℕ = (id, bytes ++ []) in
      let want : ℕ × List ℕ = (id', bytes' ++ []) in
      let same : got ≡ want = ok_is got want (sym ((id_format z).again id (bytes ++ []) f.0) ∙ ap (ident z) body ∙ (id_format z).again id' (bytes' ++ []) g.0) in
      let ids = ap (λ (q : ℕ × List ℕ). q.0) same in
      let rests = same_rest bytes bytes' (ap (λ (q : ℕ × List ℕ). q.1) same) in
      cc
  same_fields (LoadClass t serial class stack name rest) (LoadClass u serial' class' stack' name' rest') f g tag time body =
      let x : Triple × ℕ = ((serial, (class, stack)), name) in
      let y : Triple × ℕ = ((serial', (class', stack')), name') in
      let got : (Triple × ℕ) × List ℕ = (x, rest ++ []) in
      let want : (Triple × ℕ) × List ℕ = (y, rest' ++ []) in
      let same : got ≡ want = ok_is got want (sym (load_format.again x (rest ++ []) ((f.0, (f.1, f.2)), f.3)) ∙ ap (load_head z) (load_joined x (rest ++ []) ∙ body ∙ sym (load_joined y (rest' ++ []))) ∙ load_format.again y (rest' ++ []) ((g.0, (g.1, g.2)), g.3)) in
      let serials = ap (λ (q : (Triple × ℕ) × List ℕ). q.0.0.0) same in
      let classes = ap (λ (q : (Triple × ℕ) × List ℕ). q.0.0.1.0) same in
      let stacks = ap (λ (q : (Triple × ℕ) × List ℕ). q.0.0.1.1) same in
      let names = ap (λ (q : (Triple × ℕ) × List ℕ). q.0.1) same in
      let rests = same_rest rest rest' (ap (λ (q : (Triple × ℕ) × List ℕ). q.1) same) in
      cc
  same_fields (Trace t serial thread frames rest) (Trace u serial' thread' frames' rest') f g tag time body =
      let x : (ℕ × ℕ) × List ℕ = ((serial, thread), frames) in
      let y : (ℕ × ℕ) × List ℕ = ((serial', thread'), frames') in
      let got : ((ℕ × ℕ) × List ℕ) × List ℕ = (x, rest ++ []) in
      let want : ((ℕ × ℕ) × List ℕ) × List ℕ = (y, rest' ++ []) in
      let here : trace_text x ++ (rest ++ []) ≡ wide_body_of w (Trace t serial thread frames rest) = append_assoc (word serial ++ word thread) (long_text (ident z) (field w) (IsId w) frames) (rest ++ []) in
      let there : trace_text y ++ (rest' ++ []) ≡ wide_body_of w (Trace u serial' thread' frames' rest') = append_assoc (word serial' ++ word thread') (long_text (ident z) (field w) (IsId w) frames') (rest' ++ []) in
      let same : got ≡ want = ok_is got want (sym (trace_format.again x (rest ++ []) ((f.0, f.1), (f.2, f.3))) ∙ ap (trace_head z) (here ∙ body ∙ sym there) ∙ trace_format.again y (rest' ++ []) ((g.0, g.1), (g.2, g.3))) in
      let serials = ap (λ (q : ((ℕ × ℕ) × List ℕ) × List ℕ). q.0.0.0) same in
      let threads = ap (λ (q : ((ℕ × ℕ) × List ℕ) × List ℕ). q.0.0.1) same in
      let lists = ap (λ (q : ((ℕ × ℕ) × List ℕ) × List ℕ). q.0.1) same in
      let rests = same_rest rest rest' (ap (λ (q : ((ℕ × ℕ) × List ℕ) × List ℕ). q.1) same) in
      cc
  same_fields (Segment t tag size parts) (Segment u tag' size' parts') f g tags time body =
      let none : NoWidePart w [] = λ p more formed e. part_nonempty z p more e in
      let same : parts ≡ parts' = (parts_end z parts parts' [] [] f.2 g.2 (append-nil (wide_parts_bytes w parts) ∙ body ∙ sym (append-nil (wide_parts_bytes w parts'))) none none).0 in
      let sizes : size ≡ size' = f.1 ∙ ap (λ (ps : List WideSub). length (wide_parts_bytes w ps)) same ∙ sym g.1 in
      cc
  same_fields (Other t tag bytes) (Other u tag' bytes') f g tags time body = cc
  same_fields r s f g tag time body =
      let e : record_kind r ≡ record_kind s = sym (kind_told r f) ∙ ap kind_by_tag tag ∙ kind_told s g in
      absurd (omega arith)
