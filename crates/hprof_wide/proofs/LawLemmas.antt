-- A text is the wide dump of at most one list of records, and a wide dump has no fault.
use Rattle.std.proofs.Common.{suc, take, inl, inr, ◌≡◌, ℕ, ◌<◌, ◌^◌, ◌≤◌, List, [], ◌++◌, length, get_or, refl, sym, ap, ◌∙◌, append_assoc, arith, subst}
use Rattle.std.specs.Int.{w32, w64}
use Rattle.std.proofs.lemmas.List.{append-nil, append_cancel_left, length-append, take_at}
use Rattle.hprof_records.specs.Fields.{field}
use Rattle.hprof_records.specs.Parts.{word}
use Rattle.hprof_read.specs.Reading.{frame, number}
use Rattle.hprof_read.proofs.Formats.{ok_is}
use Rattle.hprof_read.proofs.FieldFormats.{word_format, long_number_format}
use Rattle.hprof_read.proofs.Unique.{HasOneReading, one_reading, not_past}
use Rattle.hprof_wide.specs.declared.ids.IdSize.{IdSize}
use Rattle.hprof_wide.specs.declared.ids.IdSize.TheVariants.{Four, Eight}
use Rattle.hprof_wide.specs.declared.wide_top.WideTop.{WideTop}
use Rattle.hprof_wide.specs.declared.wide_error.WideError.{WideError}
use Rattle.hprof_wide.specs.declared.wide_error.WideError.TheVariants as errors
use Rattle.hprof_wide.specs.Records.{wide_tag_of, wide_time_of, wide_body_of, wide_record_bytes, wide_records_bytes, wide_header_bytes}
use Rattle.hprof_wide.specs.Formed.{IsIdWidth}
use Rattle.hprof_wide.specs.Dump.{text_2, text_3, IsFormatText, IsHeader, IsWideRecord, AreWideRecords, IsWideDumpOf}
use Rattle.hprof_wide.specs.Reading.{width_of}
use Rattle.hprof_wide.specs.Fault.{NoWideRecord, WideRecordsFault, WideHeaderFault, IsFirstWideFault}
use Rattle.hprof_wide.proofs.Bodies.{record_again, same_fields}

module _ (z : IdSize) where
  abbrev w : ℕ
  w = width_of z

  abbrev FrameParts : Type 0
  FrameParts = (ℕ × (ℕ × List ℕ)) × List ℕ

  -- no record's bytes begin another's
  pub one_record : HasOneReading (wide_record_bytes w) (IsWideRecord w)
  one_record r s x y f g e =
      let got : FrameParts = ((wide_tag_of r, (wide_time_of r, (wide_body_of w) r)), x) in
      let want : FrameParts = ((wide_tag_of s, (wide_time_of s, (wide_body_of w) s)), y) in
      let same : got ≡ want = ok_is got want (sym (record_again z r x f) ∙ ap frame e ∙ record_again z s y g) in
      (same_fields z r s f.1 g.1 (ap (λ (q : FrameParts). q.0.0) same) (ap (λ (q : FrameParts). q.0.1.0) same) (ap (λ (q : FrameParts). q.0.1.1) same), ap (λ (q : FrameParts). q.1) same)

  pub no_record_at_end : NoWideRecord w []
  no_record_at_end r more fit e = absurd cc

  -- records that are followed by no record are one list
  pub one_list_of_records : (rs ss : List WideTop) (x y : List ℕ) → AreWideRecords w rs → AreWideRecords w ss → wide_records_bytes w rs ++ x ≡ wide_records_bytes w ss ++ y → NoWideRecord w x → NoWideRecord w y → (rs ≡ ss) × (x ≡ y)
  one_list_of_records = one_reading (wide_record_bytes w) (IsWideRecord w) one_record

  -- no list of records goes past a place where no record stands
  pub records_end : (rs ss : List WideTop) (x y : List ℕ) → AreWideRecords w rs → AreWideRecords w ss → wide_records_bytes w rs ++ x ≡ wide_records_bytes w ss ++ y → NoWideRecord w y → length (wide_records_bytes w rs) ≤ length (wide_records_bytes w ss)
  records_end = not_past (wide_record_bytes w) (IsWideRecord w) one_record

-- ---- headers

pub size_of_width : (w : ℕ) → IsIdWidth w → (z : IdSize) × (width_of z ≡ w)
size_of_width w h = elim h [ inl e ↦ (Four, sym e) | inr e ↦ (Eight, sym e) ]

width_small : (w : ℕ) → IsIdWidth w → w < 2 ^ 32
width_small w h = elim h [ inl e ↦ omega arith | inr e ↦ omega arith ]

same_front : (t u v : List ℕ) (r q : List ℕ) → t ≡ v → u ≡ v → t ++ (field 1 0 ++ r) ≡ u ++ (field 1 0 ++ q) → v ++ (field 1 0 ++ r) ≡ v ++ (field 1 0 ++ q)
same_front t u v r q a b e =
    ap (λ (x : List ℕ). x ++ (field 1 0 ++ r)) (sym a) ∙ e ∙ ap (λ (x : List ℕ). x ++ (field 1 0 ++ q)) b

texts_differ : (r q : List ℕ) → text_2 ++ (field 1 0 ++ r) ≡ text_3 ++ (field 1 0 ++ q) → ⊥
texts_differ r q e = let last : ◌≡◌ {A = ℕ} 50 51 = ap (λ (x : List ℕ). get_or x 17 0) e in omega arith

-- what stands behind one of the texts has one text before it
pub one_text : (t u : List ℕ) (r q : List ℕ) → IsFormatText t → IsFormatText u → t ++ (field 1 0 ++ r) ≡ u ++ (field 1 0 ++ q) → (t ≡ u) × (r ≡ q)
one_text t u r q f g e =
    elim f [
      | inl a ↦ elim g [
        | inl b ↦ (a ∙ sym b, append_cancel_left (text_2 ++ field 1 0) r q (same_front t u text_2 r q a b e))
        | inr b ↦ absurd (texts_differ r q (ap (λ (x : List ℕ). x ++ (field 1 0 ++ r)) (sym a) ∙ e ∙ ap (λ (x : List ℕ). x ++ (field 1 0 ++ q)) b))
      ]
      | inr a ↦ elim g [
        | inl b ↦ absurd (texts_differ q r (ap (λ (x : List ℕ). x ++ (field 1 0 ++ q)) (sym b) ∙ sym e ∙ ap (λ (x : List ℕ). x ++ (field 1 0 ++ r)) a))
        | inr b ↦ (a ∙ sym b, append_cancel_left (text_3 ++ field 1 0) r q (same_front t u text_3 r q a b e))
      ]
    ]

-- a header piece by piece
pub header_pieces : (text : List ℕ) (w time : ℕ) (body : List ℕ) → wide_header_bytes text w time ++ body ≡ text ++ (field 1 0 ++ (word w ++ (field 8 time ++ body)))
header_pieces text w time body = append_assoc text (field 1 0 ++ (word w ++ (field 8 time ++ []))) body

-- a header gives its text, its width and its time
pub one_header : (t t' : List ℕ) (w w' u u' : ℕ) (x y : List ℕ) → IsHeader t w u → IsHeader t' w' u' → wide_header_bytes t w u ++ x ≡ wide_header_bytes t' w' u' ++ y → (w ≡ w') × (u ≡ u') × (x ≡ y)
one_header t t' w w' u u' x y f g e =
    let behind = one_text t t' (word w ++ (field 8 u ++ x)) (word w' ++ (field 8 u' ++ y)) f.0 g.0 (sym (header_pieces t w u x) ∙ e ∙ header_pieces t' w' u' y) in
    let got : ℕ × List ℕ = (w, field 8 u ++ x) in
    let want : ℕ × List ℕ = (w', field 8 u' ++ y) in
    let widths : got ≡ want = ok_is got want (sym (word_format.again w (field 8 u ++ x) (width_small w f.1)) ∙ ap (number w32) behind.1 ∙ word_format.again w' (field 8 u' ++ y) (width_small w' g.1)) in
    let got' : ℕ × List ℕ = (u, x) in
    let want' : ℕ × List ℕ = (u', y) in
    let times : got' ≡ want' = ok_is got' want' (sym (long_number_format.again u x f.2) ∙ ap (number w64) (ap (λ (q : ℕ × List ℕ). q.1) widths) ∙ long_number_format.again u' y g.2) in
    (ap (λ (q : ℕ × List ℕ). q.0) widths, ap (λ (q : ℕ × List ℕ). q.0) times, ap (λ (q : ℕ × List ℕ). q.1) times)

pub header_fault_not : (e : WideError) (t : List ℕ) (w time : ℕ) (body : List ℕ) → IsHeader t w time → WideHeaderFault e (wide_header_bytes t w time ++ body) → ⊥
header_fault_not (errors.Magic offset) t w time body h f = f.1 (word w ++ (field 8 time ++ body)) (t, (h.0, header_pieces t w time body))
header_fault_not (errors.IdSize offset) t w time body h f =
    let size = f.1.0 in
    let rest = f.1.1 in
    let format = f.1.2.0 in
    let behind = one_text t format.0 (word w ++ (field 8 time ++ body)) (size ++ rest) h.0 format.1.0 (sym (header_pieces t w time body) ∙ format.1.1) in
    let is : size ≡ word w = sym (take_at size rest 4 f.1.2.1) ∙ ap (take 4) (sym behind.1) in
    elim h.1 [ inl four ↦ f.1.2.2 (is ∙ ap word four) | inr eight ↦ f.1.2.3 (is ∙ ap word eight) ]
header_fault_not (errors.CutShort offset) t w time body h f =
    elim f [
      | inl g ↦
          let format = g.1.1.0 in
          let behind = one_text t format.0 (word w ++ (field 8 time ++ body)) g.1.0 h.0 format.1.0 (sym (header_pieces t w time body) ∙ format.1.1) in
          let long : suc (suc (suc (suc (length (field 8 time ++ body))))) ≡ length g.1.0 = ap length behind.1 in
          absurd (omega (arith, g.1.1.1))
      | inr g ↦
          let v = g.1.0 in
          let rest = g.1.1 in
          let format = g.1.2.1 in
          let behind = one_text t format.0 (word w ++ (field 8 time ++ body)) (word v ++ rest) h.0 format.1.0 (sym (header_pieces t w time body) ∙ format.1.1) in
          let long : suc (suc (suc (suc (suc (suc (suc (suc (suc (suc (suc (suc (length body)))))))))))) ≡ suc (suc (suc (suc (length rest)))) = ap length behind.1 in
          absurd (omega (arith, g.1.2.2))
    ]
header_fault_not (errors.UnknownTag offset) t w time body h f = f
header_fault_not (errors.PastEnd offset) t w time body h f = f
header_fault_not (errors.BadType offset) t w time body h f = f
header_fault_not errors.OutOfMemory t w time body h f = f

-- ---- dumps

-- for each width that identifiers may have
pub by_size : (P : ℕ → Type 0) → ((z : IdSize) → P (width_of z)) → (w : ℕ) → IsIdWidth w → P w
by_size P all w h = let z = size_of_width w h in subst P z.1 (all z.0)

abbrev OneList : ℕ → Type 0
OneList w = (rs ss : List WideTop) → AreWideRecords w rs → AreWideRecords w ss → wide_records_bytes w rs ≡ wide_records_bytes w ss → rs ≡ ss

one_list_by : (z : IdSize) → OneList (width_of z)
one_list_by z rs ss f g e =
    let none = no_record_at_end z in
    let w = width_of z in
    (one_list_of_records z rs ss [] [] f g (append-nil (wide_records_bytes w rs) ∙ e ∙ sym (append-nil (wide_records_bytes w ss))) none none).0

pub one_dump : (w w' u u' : ℕ) (rs ss : List WideTop) (bytes : List ℕ) → IsWideDumpOf w u rs bytes → IsWideDumpOf w' u' ss bytes → (w ≡ w') × (u ≡ u') × (rs ≡ ss)
one_dump w w' u u' rs ss bytes f g =
    let h = one_header f.0 g.0 w w' u u' (wide_records_bytes w rs) (wide_records_bytes w' ss) f.1.0 g.1.0 (sym f.1.2 ∙ g.1.2) in
    let formed : AreWideRecords w ss = subst (λ (v : ℕ). AreWideRecords v ss) (sym h.0) g.1.1 in
    let same : wide_records_bytes w rs ≡ wide_records_bytes w ss = h.2 ∙ ap (λ (v : ℕ). wide_records_bytes v ss) (sym h.0) in
    (h.0, h.1, by_size OneList one_list_by w f.1.0.1 rs ss f.1.1 formed same)

abbrev NoFaultBehind : WideError → ℕ → Type 0
NoFaultBehind e w = (records : List WideTop) (at : ℕ) → AreWideRecords w records → WideRecordsFault w e (wide_records_bytes w records) at → ⊥

no_fault_by : (e : WideError) (z : IdSize) → NoFaultBehind e (width_of z)
no_fault_by e z records at formed g =
    let same = one_list_of_records z records g.0 [] g.1 formed g.2.0 (append-nil (wide_records_bytes (width_of z) records) ∙ g.2.1) (no_record_at_end z) g.2.3 in
    g.2.2 (sym same.1)

-- a dump has no fault
pub no_fault : (e : WideError) (w time : ℕ) (records : List WideTop) (bytes : List ℕ) → IsWideDumpOf w time records bytes → IsFirstWideFault e bytes → ⊥
no_fault e w time records bytes d f =
    let body = wide_records_bytes w records in
    elim (subst (IsFirstWideFault e) d.1.2 f) [
      | inl h ↦ header_fault_not e d.0 w time body d.1.0 h
      | inr h ↦
          let same = one_header d.0 h.0 w h.1 time h.2 body h.3 d.1.0 h.4.0 h.4.1 in
          let there : WideRecordsFault w e h.3 31 = subst (λ (v : ℕ). WideRecordsFault v e h.3 31) (sym same.0) h.4.2 in
          by_size (NoFaultBehind e) (no_fault_by e) w d.1.0.1 records 31 d.1.1 (subst (λ (t : List ℕ). WideRecordsFault w e t 31) (sym same.2) there)
    ]

-- ---- the longest front

text_long : (t : List ℕ) → IsFormatText t → length t ≡ 18
text_long t h = elim h [ inl e ↦ ap length e | inr e ↦ ap length e ]

header_long : (t : List ℕ) (w time : ℕ) → IsFormatText t → length (wide_header_bytes t w time) ≡ 31
header_long t w time h =
    let behind : length (field 1 0 ++ (word w ++ (field 8 time ++ []))) ≡ 13 = refl in
    omega (arith, text_long t h, length-append t (field 1 0 ++ (word w ++ (field 8 time ++ []))))

abbrev IsNotPassed : ℕ → Type 0
IsNotPassed w = (rs ss : List WideTop) (x y : List ℕ) → AreWideRecords w rs → AreWideRecords w ss → wide_records_bytes w rs ++ x ≡ wide_records_bytes w ss ++ y → NoWideRecord w y → length (wide_records_bytes w rs) ≤ length (wide_records_bytes w ss)

pub longest_dump : (w v u u' : ℕ) (rs ss : List WideTop) (bytes longer rest more : List ℕ) → IsWideDumpOf w u rs bytes → IsWideDumpOf v u' ss longer → NoWideRecord w rest → longer ++ more ≡ bytes ++ rest → length longer ≤ length bytes
longest_dump w v u u' rs ss bytes longer rest more f g none e =
    let here = wide_header_bytes f.0 w u in
    let there = wide_header_bytes g.0 v u' in
    let whole : there ++ (wide_records_bytes v ss ++ more) ≡ here ++ (wide_records_bytes w rs ++ rest) =
    sym (append_assoc there (wide_records_bytes v ss) more) ∙ ap (λ (t : List ℕ). t ++ more) (sym g.1.2) ∙ e ∙ ap (λ (t : List ℕ). t ++ rest) f.1.2 ∙ append_assoc here (wide_records_bytes w rs) rest in
    let h = one_header g.0 f.0 v w u' u (wide_records_bytes v ss ++ more) (wide_records_bytes w rs ++ rest) g.1.0 f.1.0 whole in
    let formed : AreWideRecords w ss = subst (λ (k : ℕ). AreWideRecords k ss) h.0 g.1.1 in
    let tail : wide_records_bytes w ss ++ more ≡ wide_records_bytes w rs ++ rest = ap (λ (k : ℕ). wide_records_bytes k ss ++ more) (sym h.0) ∙ h.2 in
    let le : length (wide_records_bytes w ss) ≤ length (wide_records_bytes w rs) = by_size IsNotPassed records_end w f.1.0.1 ss rs more rest formed f.1.1 tail none in
    let same : length (wide_records_bytes v ss) ≡ length (wide_records_bytes w ss) = ap (λ (k : ℕ). length (wide_records_bytes k ss)) h.0 in
    omega (arith, le, same, ap length f.1.2, ap length g.1.2, length-append here (wide_records_bytes w rs), length-append there (wide_records_bytes v ss), header_long f.0 w u f.1.0.0, header_long g.0 v u' g.1.0.0)
