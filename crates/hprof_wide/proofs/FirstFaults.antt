-- A text has at most one first fault.
use Rattle.std.proofs.Common.{suc, take, inl, inr, ◌≡◌, ◌≢◌, ℕ, ◌+◌, ◌<◌, List, [], ◌∷◌, ◌++◌, length, refl, sym, ap, ◌∙◌, append_assoc, arith, subst}
use Rattle.std.proofs.lemmas.List.{length-append, take_at}
use Rattle.hprof_records.specs.Parts.{word}
use Rattle.hprof_read.specs.Reading.{frame}
use Rattle.hprof_read.proofs.Formats.{ok_is}
use Rattle.hprof_read.proofs.Bodies.{segment_not}
use Rattle.hprof_read.proofs.LawLemmas.{FrameParts, ahead, framed_again, cut_clash}
use Rattle.hprof_wide.specs.declared.ids.IdSize.{IdSize}
use Rattle.hprof_wide.specs.declared.wide_sub.WideSub.{WideSub}
use Rattle.hprof_wide.specs.declared.wide_top.WideTop.{WideTop}
use Rattle.hprof_wide.specs.declared.wide_error.WideError.{WideError}
use Rattle.hprof_wide.specs.declared.wide_error.WideError.TheVariants as errors
use Rattle.hprof_wide.specs.Parts.{wide_parts_bytes}
use Rattle.hprof_wide.specs.Records.{wide_records_bytes}
use Rattle.hprof_wide.specs.Formed.{IsIdWidth}
use Rattle.hprof_wide.specs.Reading.{width_of}
use Rattle.hprof_wide.specs.Fault.{BeginsWidePart, BeginsNoWidePart, WidePartFault, WideBodyFault, WideContentFault, WideRecordFault, WideRecordsFault, BeginsFormat, WideHeaderFault, IsFirstWideFault}
use Rattle.hprof_wide.proofs.Unique.{parts_end}
use Rattle.hprof_wide.proofs.LawLemmas.{one_list_of_records, one_text, one_header, header_fault_not, by_size}

module _ (z : IdSize) where
  abbrev w : ℕ
  w = width_of z

  -- what begins a part that goes on has no front that begins none
  begins_clash : (front after : List ℕ) → BeginsWidePart w (front ++ after) → BeginsNoWidePart w front → ⊥
  begins_clash front after h none = none h.0 (after ++ h.1 ∷ h.2) h.3.0 (h.3.1 ∙ append_assoc front after (h.1 ∷ h.2))

  unknown_clash : (front : List ℕ) (code : ℕ) (after : List ℕ) (tag : ℕ) (behind : List ℕ) → front ≢ [] → front ++ code ∷ after ≡ tag ∷ behind → BeginsWidePart w front → BeginsNoWidePart w (tag ∷ []) → ⊥
  unknown_clash [] code after tag behind some e begins none = some refl
  unknown_clash (x ∷ front) code after tag behind some e begins none =
      let head : x ≡ tag = cc in
      begins_clash (tag ∷ []) front (subst (λ (n : ℕ). BeginsWidePart w (n ∷ front)) head begins) none

  one_part_fault : (e f : WideError) (rest : List ℕ) (q : ℕ) → WidePartFault w e rest q → WidePartFault w f rest q → e ≡ f
  one_part_fault (errors.UnknownTag a) (errors.UnknownTag b) rest q g h = ap errors.UnknownTag (g.0 ∙ sym h.0)
  one_part_fault (errors.UnknownTag a) (errors.PastEnd b) rest q g h = absurd (begins_clash (g.1.0 ∷ []) g.1.1 (subst (BeginsWidePart w) g.1.2.0 h.1) g.1.2.1)
  one_part_fault (errors.UnknownTag a) (errors.BadType b) rest q g h = absurd (unknown_clash h.0 h.1 h.2 g.1.0 g.1.1 h.3.1 (sym h.3.2 ∙ g.1.2.0) h.3.3 g.1.2.1)
  one_part_fault (errors.PastEnd a) (errors.UnknownTag b) rest q g h = absurd (begins_clash (h.1.0 ∷ []) h.1.1 (subst (BeginsWidePart w) h.1.2.0 g.1) h.1.2.1)
  one_part_fault (errors.PastEnd a) (errors.PastEnd b) rest q g h = ap errors.PastEnd (g.0 ∙ sym h.0)
  one_part_fault (errors.PastEnd a) (errors.BadType b) rest q g h = absurd (begins_clash (h.0 ++ h.1 ∷ []) h.2 (subst (BeginsWidePart w) (h.3.2 ∙ sym (append_assoc h.0 (h.1 ∷ []) h.2)) g.1) h.3.4)
  one_part_fault (errors.BadType a) (errors.UnknownTag b) rest q g h = absurd (unknown_clash g.0 g.1 g.2 h.1.0 h.1.1 g.3.1 (sym g.3.2 ∙ h.1.2.0) g.3.3 h.1.2.1)
  one_part_fault (errors.BadType a) (errors.PastEnd b) rest q g h = absurd (begins_clash (g.0 ++ g.1 ∷ []) g.2 (subst (BeginsWidePart w) (g.3.2 ∙ sym (append_assoc g.0 (g.1 ∷ []) g.2)) h.1) g.3.4)
  one_part_fault (errors.BadType a) (errors.BadType b) rest q g h =
      elim (ahead g.0 h.0 g.1 h.1 g.2 h.2 (sym g.3.2 ∙ h.3.2)) [
        | inl same ↦ ap errors.BadType (g.3.0 ∙ ap (λ (n : ℕ). q + n) same ∙ sym h.3.0)
        | inr two ↦ elim two [
          | inl m ↦ absurd (begins_clash (g.0 ++ g.1 ∷ []) m.0 (subst (BeginsWidePart w) m.1 h.3.3) g.3.4)
          | inr m ↦ absurd (begins_clash (h.0 ++ h.1 ∷ []) m.0 (subst (BeginsWidePart w) m.1 g.3.3) h.3.4)
        ]
      ]
  one_part_fault (errors.UnknownTag a) (errors.Magic b) rest q g h = absurd h
  one_part_fault (errors.UnknownTag a) (errors.IdSize b) rest q g h = absurd h
  one_part_fault (errors.UnknownTag a) (errors.CutShort b) rest q g h = absurd h
  one_part_fault (errors.UnknownTag a) errors.OutOfMemory rest q g h = absurd h
  one_part_fault (errors.PastEnd a) (errors.Magic b) rest q g h = absurd h
  one_part_fault (errors.PastEnd a) (errors.IdSize b) rest q g h = absurd h
  one_part_fault (errors.PastEnd a) (errors.CutShort b) rest q g h = absurd h
  one_part_fault (errors.PastEnd a) errors.OutOfMemory rest q g h = absurd h
  one_part_fault (errors.BadType a) (errors.Magic b) rest q g h = absurd h
  one_part_fault (errors.BadType a) (errors.IdSize b) rest q g h = absurd h
  one_part_fault (errors.BadType a) (errors.CutShort b) rest q g h = absurd h
  one_part_fault (errors.BadType a) errors.OutOfMemory rest q g h = absurd h
  one_part_fault (errors.Magic a) f rest q g h = absurd g
  one_part_fault (errors.IdSize a) f rest q g h = absurd g
  one_part_fault (errors.CutShort a) f rest q g h = absurd g
  one_part_fault errors.OutOfMemory f rest q g h = absurd g

  one_body_fault : (e f : WideError) (body : List ℕ) (at : ℕ) → WideBodyFault w e body at → WideBodyFault w f body at → e ≡ f
  one_body_fault e f body at g h =
      let same = parts_end z g.0 h.0 g.1 h.1 g.2.0 h.2.0 (sym g.2.1 ∙ h.2.1) g.2.3 h.2.3 in
      one_part_fault e f h.1 (at + length (wide_parts_bytes w h.0))
      (subst (λ (r : List ℕ). WidePartFault w e r (at + length (wide_parts_bytes w h.0))) same.1 (subst (λ (ps : List WideSub). WidePartFault w e g.1 (at + length (wide_parts_bytes w ps))) same.0 g.2.4)) h.2.4

  one_content_fault : (e f : WideError) (tag : ℕ) (body : List ℕ) (o : ℕ) → WideContentFault w e tag body o → WideContentFault w f tag body o → e ≡ f
  one_content_fault e f tag body o g h =
      elim g [
        | inl a ↦ elim h [ inl b ↦ a.0 ∙ sym b.0 | inr b ↦ absurd (segment_not tag b.0 a.1.0) ]
        | inr a ↦ elim h [ inl b ↦ absurd (segment_not tag a.0 b.1.0) | inr b ↦ one_body_fault e f body (o + 9) a.1 b.1 ]
      ]

  one_record_fault : (e f : WideError) (rest : List ℕ) (o : ℕ) → WideRecordFault w e rest o → WideRecordFault w f rest o → e ≡ f
  one_record_fault e f rest o g h =
      elim g [
        | inl a ↦ elim h [ inl b ↦ a.0 ∙ sym b.0 | inr b ↦ absurd (cut_clash rest b.0 b.1 b.2 b.3 a.1 b.4.0 b.4.1) ]
        | inr a ↦ elim h [
          | inl b ↦ absurd (cut_clash rest a.0 a.1 a.2 a.3 b.1 a.4.0 a.4.1)
          | inr b ↦
              let got : FrameParts = ((a.0, (a.1, a.2)), a.3) in
              let want : FrameParts = ((b.0, (b.1, b.2)), b.3) in
              let same : got ≡ want = ok_is got want (sym (framed_again a.0 a.1 a.2 a.3 a.4.0) ∙ ap frame (sym a.4.1 ∙ b.4.1) ∙ framed_again b.0 b.1 b.2 b.3 b.4.0) in
              one_content_fault e f b.0 b.2 o
              (subst (λ (t : List ℕ). WideContentFault w e b.0 t o) (ap (λ (q : FrameParts). q.0.1.1) same) (subst (λ (t : ℕ). WideContentFault w e t a.2 o) (ap (λ (q : FrameParts). q.0.0) same) a.4.2)) b.4.2
        ]
      ]

  one_records_fault : (e f : WideError) (text : List ℕ) (at : ℕ) → WideRecordsFault w e text at → WideRecordsFault w f text at → e ≡ f
  one_records_fault e f text at g h =
      let same = one_list_of_records z g.0 h.0 g.1 h.1 g.2.0 h.2.0 (sym g.2.1 ∙ h.2.1) g.2.3 h.2.3 in
      one_record_fault e f h.1 (at + length (wide_records_bytes w h.0))
      (subst (λ (r : List ℕ). WideRecordFault w e r (at + length (wide_records_bytes w h.0))) same.1 (subst (λ (rs : List WideTop). WideRecordFault w e g.1 (at + length (wide_records_bytes w rs))) same.0 g.2.4)) h.2.4

-- ---- headers

-- what follows the text and its zero is one
one_front : (text rest more : List ℕ) → BeginsFormat text rest → BeginsFormat text more → rest ≡ more
one_front text rest more f g = (one_text f.0 g.0 rest more f.1.0 g.1.0 (sym f.1.1 ∙ g.1.1)).1

-- a width that isn't whole, one that is no width, one that is
size_short : (text size rest short : List ℕ) → BeginsFormat text (size ++ rest) → length size ≡ 4 → BeginsFormat text short → length short < 4 → ⊥
size_short text size rest short f len g lt =
    let same = one_front text (size ++ rest) short f g in
    omega (arith, ap length same, length-append size rest)

size_word : (text size rest more : List ℕ) (w : ℕ) → BeginsFormat text (size ++ rest) → length size ≡ 4 → BeginsFormat text (word w ++ more) → size ≡ word w
size_word text size rest more w f len g = sym (take_at size rest 4 len) ∙ ap (take 4) (one_front text (size ++ rest) (word w ++ more) f g)

size_width : (size : List ℕ) (w : ℕ) → IsIdWidth w → size ≡ word w → size ≢ word 4 → size ≢ word 8 → ⊥
size_width size w h e four eight = elim h [ inl is ↦ four (e ∙ ap word is) | inr is ↦ eight (e ∙ ap word is) ]

word_short : (text more short : List ℕ) (w : ℕ) → BeginsFormat text (word w ++ more) → BeginsFormat text short → length short < 4 → ⊥
word_short text more short w f g lt =
    let long : suc (suc (suc (suc (length more)))) ≡ length short = ap length (one_front text (word w ++ more) short f g) in
    omega arith

one_header_fault : (e f : WideError) (text : List ℕ) → WideHeaderFault e text → WideHeaderFault f text → e ≡ f
one_header_fault (errors.Magic a) (errors.Magic b) text g h = ap errors.Magic (g.0 ∙ sym h.0)
one_header_fault (errors.Magic a) (errors.IdSize b) text g h = absurd (g.1 (h.1.0 ++ h.1.1) h.1.2.0)
one_header_fault (errors.Magic a) (errors.CutShort b) text g h = elim h [ inl i ↦ absurd (g.1 i.1.0 i.1.1.0) | inr i ↦ absurd (g.1 (word i.1.0 ++ i.1.1) i.1.2.1) ]
one_header_fault (errors.IdSize a) (errors.Magic b) text g h = absurd (h.1 (g.1.0 ++ g.1.1) g.1.2.0)
one_header_fault (errors.IdSize a) (errors.IdSize b) text g h = ap errors.IdSize (g.0 ∙ sym h.0)
one_header_fault (errors.IdSize a) (errors.CutShort b) text g h = elim h [
  | inl i ↦ absurd (size_short text g.1.0 g.1.1 i.1.0 g.1.2.0 g.1.2.1 i.1.1.0 i.1.1.1)
  | inr i ↦ absurd (size_width g.1.0 i.1.0 i.1.2.0 (size_word text g.1.0 g.1.1 i.1.1 i.1.0 g.1.2.0 g.1.2.1 i.1.2.1) g.1.2.2 g.1.2.3)
]
one_header_fault (errors.CutShort a) (errors.Magic b) text g h = elim g [ inl i ↦ absurd (h.1 i.1.0 i.1.1.0) | inr i ↦ absurd (h.1 (word i.1.0 ++ i.1.1) i.1.2.1) ]
one_header_fault (errors.CutShort a) (errors.IdSize b) text g h = elim g [
  | inl i ↦ absurd (size_short text h.1.0 h.1.1 i.1.0 h.1.2.0 h.1.2.1 i.1.1.0 i.1.1.1)
  | inr i ↦ absurd (size_width h.1.0 i.1.0 i.1.2.0 (size_word text h.1.0 h.1.1 i.1.1 i.1.0 h.1.2.0 h.1.2.1 i.1.2.1) h.1.2.2 h.1.2.3)
]
one_header_fault (errors.CutShort a) (errors.CutShort b) text g h = elim g [
  | inl i ↦ elim h [ inl j ↦ ap errors.CutShort (i.0 ∙ sym j.0) | inr j ↦ absurd (word_short text j.1.1 i.1.0 j.1.0 j.1.2.1 i.1.1.0 i.1.1.1) ]
  | inr i ↦ elim h [ inl j ↦ absurd (word_short text i.1.1 j.1.0 i.1.0 i.1.2.1 j.1.1.0 j.1.1.1) | inr j ↦ ap errors.CutShort (i.0 ∙ sym j.0) ]
]
one_header_fault (errors.UnknownTag a) f text g h = absurd g
one_header_fault (errors.PastEnd a) f text g h = absurd g
one_header_fault (errors.BadType a) f text g h = absurd g
one_header_fault errors.OutOfMemory f text g h = absurd g
one_header_fault e f text g h = absurd h

abbrev OneFaultBehind : WideError → WideError → ℕ → Type 0
OneFaultBehind e f w = (text : List ℕ) (at : ℕ) → WideRecordsFault w e text at → WideRecordsFault w f text at → e ≡ f

pub one_first_fault : (e f : WideError) (text : List ℕ) → IsFirstWideFault e text → IsFirstWideFault f text → e ≡ f
one_first_fault e f text g h =
    elim g [
      | inl a ↦ elim h [
        | inl b ↦ one_header_fault e f text a b
        | inr b ↦ absurd (header_fault_not e b.0 b.1 b.2 b.3 b.4.0 (subst (WideHeaderFault e) b.4.1 a))
      ]
      | inr a ↦ elim h [
        | inl b ↦ absurd (header_fault_not f a.0 a.1 a.2 a.3 a.4.0 (subst (WideHeaderFault f) a.4.1 b))
        | inr b ↦
            let same = one_header a.0 b.0 a.1 b.1 a.2 b.2 a.3 b.3 a.4.0 b.4.0 (sym a.4.1 ∙ b.4.1) in
            let there : WideRecordsFault b.1 e b.3 31 = subst (λ (t : List ℕ). WideRecordsFault b.1 e t 31) same.2 (subst (λ (v : ℕ). WideRecordsFault v e a.3 31) same.0 a.4.2) in
            by_size (OneFaultBehind e f) (λ z. one_records_fault z e f) b.1 b.4.0.1 b.3 31 there b.4.2
      ]
    ]
