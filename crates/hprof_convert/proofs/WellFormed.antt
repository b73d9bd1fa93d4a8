-- The converted records of well-formed records are well formed.
use Rattle.std.proofs.Common.{◌≡◌, ℕ, ◌<◌, ◌≤◌, ◌^◌, Bool, true, false, cond, nat_eq, List, [], ◌∷◌, map, length, Option, None, Some, sym, refl, arith, subst, All}
use Rattle.std.specs.Prelude.{option_map}
use Rattle.std.specs.List.{cons_option, filter_map}
use Rattle.std.proofs.lemmas.List.{length-map}
use Rattle.std.proofs.lemmas.List.Elements.{All-nil, All-cons, All-head, All-tail}
use Rattle.hprof_records.specs.declared.top_record.TopRecord.{TopRecord}
use Rattle.hprof_records.specs.declared.top_record.TopRecord.TheVariants as narrow_record
use Rattle.hprof_records.specs.Formed.{IsByte, IsHalf, IsWord, IsConstant, IsStatic, IsFieldName, HasFurther, IsPart}
use Rattle.hprof_records.specs.Dump.{IsRecord, AreRecords}
use Rattle.hprof_wide.specs.declared.wide_sub.WideSub.{WideSub}
use Rattle.hprof_wide.specs.declared.wide_sub.WideSub.TheVariants.{Root, HeapInfo, ClassDump, Instance, ObjectArray, PrimitiveArray, NoData}
use Rattle.hprof_wide.specs.declared.wide_top.WideTop.{WideTop}
use Rattle.hprof_wide.specs.declared.wide_top.WideTop.TheVariants.{Text, LoadClass, Trace, Segment, Other}
use Rattle.hprof_wide.specs.Formed.{IsId, HasWideFurther, IsWideConstant, IsWideStatic, IsWideFieldName, IsWidePart}
use Rattle.hprof_wide.specs.Dump.{IsWideRecord, AreWideRecords}
use Rattle.dump_graph.specs.Classes.{Class}
use Rattle.hprof_convert.specs.Names.{rename}
use Rattle.hprof_convert.specs.Layouts.{instance_layout}
use Rattle.hprof_convert.specs.Converted.{heap_dump_end, renamed_further, renamed_constant, renamed_static, renamed_field, renamed_bytes, converted_part, converted_record}
use Rattle.hprof_convert.proofs.Narrowing.{rename-within, value-fits, values-octets}
use Rattle.hprof_convert.proofs.Shorter.{bytes-shorter, parts-shorter, text-shorter, load-shorter, trace-shorter}

-- each element fits, and so does what becomes of it
all-become : {X Y : Type 0} (P : X → Type 0) (Q : Y → Type 0) (f : X → Y) → ((x : X) → P x → Q (f x)) → (xs : List X) → All P xs → All Q (map f xs)
all-become P Q f each [] fit = All-nil Q
all-become P Q f each (x ∷ xs) fit = All-cons Q (f x) (map f xs) (each x (All-head P x xs fit)) (all-become P Q f each xs (All-tail P x xs fit))

module _ (w : ℕ) (wide : 4 ≤ w) (known : List Class) (names : List ℕ) (few : length names < 2 ^ 32) where
  id-fits : (id : ℕ) → IsWord (rename names id)
  id-fits id = omega (arith, rename-within names id, few)

  constant-fits : (c : ℕ × ℕ × List ℕ) → IsWideConstant w c → IsConstant (renamed_constant w names c)
  constant-fits c fit = (fit.0, fit.1, value-fits w names c.1 c.2 fit.2)

  static-fits : (s : ℕ × ℕ × List ℕ) → IsWideStatic w s → IsStatic (renamed_static w names s)
  static-fits s fit = (id-fits s.0, fit.1, value-fits w names s.1 s.2 fit.2)

  field-fits : (f : ℕ × ℕ) → IsWideFieldName w f → IsFieldName (renamed_field names f)
  field-fits f fit = (id-fits f.0, fit.1)

  ids-fit : (ids : List ℕ) → All IsWord (map (rename names) ids)
  ids-fit [] = All-nil IsWord
  ids-fit (id ∷ ids) = All-cons IsWord (rename names id) (map (rename names) ids) (id-fits id) (ids-fit ids)

  octets-by : (o : Option (List ℕ)) (bytes : List ℕ) → All IsByte bytes → All IsByte (renamed_bytes w names o bytes)
  octets-by None bytes fit = fit
  octets-by (Some codes) bytes fit = values-octets w names codes bytes fit

  further-fits : (tag : ℕ) (first second : Option ℕ) → HasWideFurther w tag first second → HasFurther tag (renamed_further names tag first) second
  further-fits tag first second fit = by (nat_eq tag 1) refl first second fit
    where
      by : (b : Bool) → nat_eq tag 1 ≡ b → (first second : Option ℕ) → HasWideFurther w tag first second → HasFurther tag (cond b (option_map (rename names) first) first) second
      by true is None None fit = fit
      by true is None (Some second) fit = fit
      by true is (Some first) None fit = (fit.0, id-fits first)
      by true is (Some first) (Some second) fit = (fit.0, id-fits first, fit.2)
      by false is None None fit = fit
      by false is None (Some second) fit = fit
      by false is (Some first) None fit = (fit.0, subst (λ (b : Bool). IsId (cond b w 4) first) is fit.1)
      by false is (Some first) (Some second) fit = fit

  part-fits : (p : WideSub) → IsWidePart w p → IsPart (converted_part w known names p)
  part-fits (Root tag id first second) fit = (id-fits id, further-fits tag first second fit.1)
  part-fits (HeapInfo heap name) fit = (fit.0, id-fits name)
  part-fits (ClassDump id stack parent loader signers domain spare_a spare_b size cs ss fs) fit = (
    id-fits id,
    fit.1,
    id-fits parent,
    id-fits loader,
    id-fits signers,
    id-fits domain,
    id-fits spare_a,
    id-fits spare_b,
    fit.8,
    subst IsHalf (sym (length-map cs (renamed_constant w names))) fit.9,
    all-become (IsWideConstant w) IsConstant (renamed_constant w names) constant-fits cs fit.10,
    subst IsHalf (sym (length-map ss (renamed_static w names))) fit.11,
    all-become (IsWideStatic w) IsStatic (renamed_static w names) static-fits ss fit.12,
    subst IsHalf (sym (length-map fs (renamed_field names))) fit.13,
    all-become (IsWideFieldName w) IsFieldName (renamed_field names) field-fits fs fit.14,
  )
  part-fits (Instance id stack class bytes) fit =
      (id-fits id, fit.1, id-fits class, omega (arith, fit.3, bytes-shorter w wide known names class bytes), octets-by (instance_layout w known class (length bytes)) bytes fit.4)
  part-fits (ObjectArray id stack class items) fit = (id-fits id, fit.1, id-fits class, subst IsWord (sym (length-map items (rename names))) fit.3, ids-fit items)
  part-fits (PrimitiveArray id stack code count bytes) fit = (id-fits id, fit.1, fit.2, fit.3, fit.4, fit.5)
  part-fits (NoData id stack count code) fit = (id-fits id, fit.1, fit.2, fit.3)

  -- one record, if it is kept
  abbrev FitsIfKept : Option TopRecord → Type 0
  FitsIfKept None = Unit {0}
  FitsIfKept (Some r) = IsRecord r

  other-fits : (time tag : ℕ) (body : List ℕ) → IsWideRecord w (Other time tag body) → (b : Bool) → FitsIfKept (cond b (Some (narrow_record.Other time tag body)) None)
  other-fits time tag body fit true = fit
  other-fits time tag body fit false = tt

  record-fits : (r : WideTop) → IsWideRecord w r → FitsIfKept (converted_record w known names r)
  record-fits (Text time id bytes) fit = (fit.0, (id-fits id, fit.1.1), omega (arith, fit.2, text-shorter w wide known names time id bytes))
  record-fits (LoadClass time serial class stack name rest) fit =
      (fit.0, (fit.1.0, id-fits class, fit.1.2, id-fits name, fit.1.4), omega (arith, fit.2, load-shorter w wide known names time serial class stack name rest))
  record-fits (Trace time serial thread frames rest) fit =
      (fit.0, (fit.1.0, fit.1.1, subst IsWord (sym (length-map frames (rename names))) fit.1.2, ids-fit frames, fit.1.4), omega (arith, fit.2, trace-shorter w wide known names time serial thread frames rest))
  record-fits (Segment time tag size parts) fit =
      (fit.0, (fit.1.0, refl, all-become (IsWidePart w) IsPart (converted_part w known names) part-fits parts fit.1.2), omega (arith, fit.2, parts-shorter w wide known names parts fit.1.2))
  record-fits (Other time tag body) fit = other-fits time tag body fit (nat_eq tag heap_dump_end)

  kept-fits : (o : Option TopRecord) (l : List TopRecord) → FitsIfKept o → AreRecords l → AreRecords (cons_option o l)
  kept-fits None l fit rest = rest
  kept-fits (Some r) l fit rest = All-cons IsRecord r l fit rest

  pub records-fit : (rs : List WideTop) → AreWideRecords w rs → AreRecords (filter_map (converted_record w known names) rs)
  records-fit [] fit = All-nil IsRecord
  records-fit (r ∷ rs) fit =
      kept-fits (converted_record w known names r) (filter_map (converted_record w known names) rs) (record-fits r (All-head (IsWideRecord w) r rs fit)) (records-fit rs (All-tail (IsWideRecord w) r rs fit))
