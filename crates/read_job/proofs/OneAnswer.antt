-- What is put is determined by the text.
use Rattle.std.proofs.Common.{◌≡◌, ◌⊎◌, inl, inr, ℕ, ◌<◌, List, None, Some, Option, sym, ◌∙◌, ap, subst}
use Rattle.std.specs.Prelude.{◌^◌}
use Rattle.hprof_convert.specs.Converted.{converted}
use Rattle.hprof_convert.specs.Missing.{missing_layout}
use Rattle.hprof_read.specs.declared.read_error.ReadError.{ReadError}
use Rattle.hprof_read.specs.Fault.{IsFirstFault}
use Rattle.hprof_records.specs.declared.top_record.TopRecord.{TopRecord}
use Rattle.hprof_records.specs.Dump.{AreRecords}
use Rattle.hprof_records.specs.Records.{dump_bytes}
use Rattle.hprof_wide.specs.declared.wide_error.WideError.{WideError}
use Rattle.hprof_wide.specs.declared.wide_top.WideTop.{WideTop}
use Rattle.hprof_wide.specs.Dump.{IsWideDumpOf}
use Rattle.hprof_wide.specs.Fault.{IsFirstWideFault}
use Rattle.read_job.specs.declared.question.Question.{Question}
use Rattle.read_job.specs.declared.question.Question.TheVariants.{Listing, Path, Converted}
use Rattle.read_job.specs.Ends.{IsTold, TellsConverted, TellsDump, TellsDumpFault, TellsFault, TellsMissing, TellsWideFault, fault_line, numbered_line, path_told, wide_fault_line}
use Rattle.hprof_list.specs.Listing.{listing}

-- what is known of dumps and of faults
pub record AreLaws : Type 0 where
  pub one_list : (time other : ℕ) (records others : List TopRecord) → time < 2 ^ 64 → other < 2 ^ 64 → AreRecords records → AreRecords others
      → dump_bytes time records ≡ dump_bytes other others → (time ≡ other) × (records ≡ others)
  pub no_fault : (e : ReadError) (time : ℕ) (records : List TopRecord) → time < 2 ^ 64 → AreRecords records → IsFirstFault e (dump_bytes time records) → ⊥
  pub one_fault : (e f : ReadError) (text : List ℕ) → IsFirstFault e text → IsFirstFault f text → e ≡ f
  pub one_wide_list : (w other_w time other : ℕ) (records others : List WideTop) (bytes : List ℕ)
      → IsWideDumpOf w time records bytes → IsWideDumpOf other_w other others bytes → (w ≡ other_w) × (time ≡ other) × (records ≡ others)
  pub no_wide_fault : (e : WideError) (w time : ℕ) (records : List WideTop) (bytes : List ℕ) → IsWideDumpOf w time records bytes → IsFirstWideFault e bytes → ⊥
  pub one_wide_fault : (e f : WideError) (text : List ℕ) → IsFirstWideFault e text → IsFirstWideFault f text → e ≡ f

-- of a dump
same_dump_told : AreLaws → (told : ℕ → List TopRecord → List ℕ) (text put other : List ℕ) → TellsDump told text put → TellsDump told text other → put ≡ other
same_dump_told laws told text put other (t, rs, (small, formed, is, lists)) (t', rs', (small', formed', is', lists')) =
    let same = laws.one_list t t' rs rs' small small' formed formed' (sym is ∙ is') in
    lists ∙ (ap (λ n. told n rs) same.0 ∙ (ap (told t') same.1 ∙ sym lists'))

no_dump_and_fault : AreLaws → (told : ℕ → List TopRecord → List ℕ) (text put other : List ℕ) → TellsDump told text put → TellsDumpFault text other → ⊥
no_dump_and_fault laws told text put other (t, rs, (small, formed, is, lists)) (e, (first, tells)) = laws.no_fault e t rs small formed (subst (IsFirstFault e) is first)

same_dump_fault : AreLaws → (text put other : List ℕ) → TellsDumpFault text put → TellsDumpFault text other → put ≡ other
same_dump_fault laws text put other (e, (first, tells)) (f, (first', tells')) = tells ∙ (ap fault_line (laws.one_fault e f text first first') ∙ sym tells')

-- of a wide dump
same_converted : AreLaws → (text put other : List ℕ) → TellsConverted text put → TellsConverted text other → put ≡ other
same_converted laws text put other (w, t, rs, (is, laid, formed, puts)) (w', t', rs', (is', laid', formed', puts')) =
    let same = laws.one_wide_list w w' t t' rs rs' text is is' in
    puts ∙ (ap (λ n. dump_bytes n (converted w rs)) same.1
    ∙ (ap (λ n. dump_bytes t' (converted n rs)) same.0 ∙ (ap (λ (records : List WideTop). dump_bytes t' (converted w' records)) same.2 ∙ sym puts')))

-- two lists of one text have their first instance without a layout at one place
same_missing_layout : AreLaws → (w w' t t' : ℕ) (rs rs' : List WideTop) (text : List ℕ) → IsWideDumpOf w t rs text → IsWideDumpOf w' t' rs' text → missing_layout w rs ≡ missing_layout w' rs'
same_missing_layout laws w w' t t' rs rs' text is is' =
    let same = laws.one_wide_list w w' t t' rs rs' text is is' in
    ap (λ n. missing_layout n rs) same.0 ∙ ap (missing_layout w') same.2

none_is_not_some : (place : Option ℕ) (offset : ℕ) → place ≡ None → place ≡ Some offset → ⊥
none_is_not_some place offset none some = cc

some_is_one : (place : Option ℕ) (a b : ℕ) → place ≡ Some a → place ≡ Some b → a ≡ b
some_is_one place a b is is' = cc

no_wide_dump_and_fault : AreLaws → (text put other : List ℕ) → TellsConverted text put → TellsWideFault text other ⊎ TellsMissing text other → ⊥
no_wide_dump_and_fault laws text put other (w, t, rs, (is, laid, formed, puts)) (inl (e, (first, tells))) = laws.no_wide_fault e w t rs text is first
no_wide_dump_and_fault laws text put other (w, t, rs, (is, laid, formed, puts)) (inr (w', t', rs', offset, (is', missing, tells))) =
    none_is_not_some (missing_layout w rs) offset laid (same_missing_layout laws w w' t t' rs rs' text is is' ∙ missing)

same_wide_fault : AreLaws → (text put other : List ℕ) → TellsWideFault text put ⊎ TellsMissing text put → TellsWideFault text other ⊎ TellsMissing text other → put ≡ other
same_wide_fault laws text put other (inl (e, (first, tells))) (inl (f, (first', tells'))) = tells ∙ (ap wide_fault_line (laws.one_wide_fault e f text first first') ∙ sym tells')
same_wide_fault laws text put other (inl (e, (first, tells))) (inr (w, t, rs, offset, (is, missing, tells'))) = absurd (laws.no_wide_fault e w t rs text is first)
same_wide_fault laws text put other (inr (w, t, rs, offset, (is, missing, tells))) (inl (e, (first, tells'))) = absurd (laws.no_wide_fault e w t rs text is first)
same_wide_fault laws text put other (inr (w, t, rs, offset, (is, missing, tells))) (inr (w', t', rs', offset', (is', missing', tells'))) =
    tells ∙ (ap (numbered_line 7) (some_is_one (missing_layout w rs) offset offset' missing (same_missing_layout laws w w' t t' rs rs' text is is' ∙ missing')) ∙ sym tells')

-- of a text, by what is asked
pub same_telling : AreLaws → (question : Question) (text put other : List ℕ) → IsTold question text put → IsTold question text other → put ≡ other
same_telling laws Listing text put other a b = same_dump_told laws listing text put other a b
same_telling laws (Path id) text put other a b = same_dump_told laws (path_told id) text put other a b
same_telling laws Converted text put other a b = same_converted laws text put other a b

pub same_fault : AreLaws → (question : Question) (text put other : List ℕ) → TellsFault question text put → TellsFault question text other → put ≡ other
same_fault laws Listing text put other a b = same_dump_fault laws text put other a b
same_fault laws (Path id) text put other a b = same_dump_fault laws text put other a b
same_fault laws Converted text put other a b = same_wide_fault laws text put other a b

pub not_both : AreLaws → (question : Question) (text put other : List ℕ) → IsTold question text put → TellsFault question text other → ⊥
not_both laws Listing text put other a b = no_dump_and_fault laws listing text put other a b
not_both laws (Path id) text put other a b = no_dump_and_fault laws (path_told id) text put other a b
not_both laws Converted text put other a b = no_wide_dump_and_fault laws text put other a b

pub same_answer : AreLaws → (question : Question) (text put other : List ℕ) → IsTold question text put ⊎ TellsFault question text put → IsTold question text other ⊎ TellsFault question text other → put ≡ other
same_answer laws question text put other (inl a) (inl b) = same_telling laws question text put other a b
same_answer laws question text put other (inl a) (inr b) = absurd (not_both laws question text put other a b)
same_answer laws question text put other (inr a) (inl b) = absurd (not_both laws question text other put b a)
same_answer laws question text put other (inr a) (inr b) = same_fault laws question text put other a b
