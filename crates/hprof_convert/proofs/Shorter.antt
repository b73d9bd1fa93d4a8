-- A converted record is no longer than the wide one.
use Rattle.std.proofs.Common.{◌≡◌, ℕ, ◌+◌, ◌≤◌, Bool, true, false, cond, nat_eq, List, [], ◌∷◌, ◌++◌, map, length, Option, None, Some, ap, sym, ◌∙◌, refl, arith, All, length-append}
use Rattle.std.specs.Prelude.{sum_by, option_and_then, option_map}
use Rattle.std.specs.List.{flat_map}
use Rattle.std.proofs.lemmas.Bool.{eqb-true}
use Rattle.std.proofs.lemmas.List.{append-nil}
use Rattle.std.proofs.lemmas.List.Elements.{All-head, All-tail}
use Rattle.byteorder.specs.Numbers.{length-bytes_high_first}
use Rattle.hprof_records.specs.Fields.{field}
use Rattle.hprof_records.specs.Parts.{word, further_bytes, constant_bytes, static_bytes, field_name_bytes, bytes_of_part, bytes_of_parts}
use Rattle.hprof_records.specs.declared.top_record.TopRecord.TheVariants as narrow_record
use Rattle.hprof_records.specs.Records.{body_of}
use Rattle.hprof_wide.specs.declared.wide_sub.WideSub.{WideSub}
use Rattle.hprof_wide.specs.declared.wide_sub.WideSub.TheVariants.{Root, HeapInfo, ClassDump, Instance, ObjectArray, PrimitiveArray, NoData}
use Rattle.hprof_wide.specs.declared.wide_top.WideTop.TheVariants.{Text, LoadClass, Trace}
use Rattle.hprof_wide.specs.Parts.{wide_value_bytes, further_width, further_fields, wide_static_bytes, wide_field_name_bytes, wide_part_bytes, wide_parts_bytes}
use Rattle.hprof_wide.specs.Records.{wide_body_of}
use Rattle.hprof_wide.specs.Formed.{IsWideConstant, IsWideStatic, IsWidePart}
use Rattle.dump_graph.specs.Classes.{Class, layout}
use Rattle.hprof_convert.specs.Names.{rename}
use Rattle.hprof_convert.specs.Values.{renamed_value}
use Rattle.hprof_convert.specs.Layouts.{if_of_size, instance_layout}
use Rattle.hprof_convert.specs.Converted.{renamed_further, renamed_constant, renamed_static, renamed_field, renamed_bytes, converted_part}
use Rattle.hprof_convert.proofs.MissingLemmas.{length-static, size-root, size-heap, size-instance, size-array, size-primitive, size-no_data, size-class}
use Rattle.hprof_convert.proofs.Narrowing.{length-value, length-values, size-within, sizes-within}

-- the values of an instance with a layout have its bytes
if-of-size : (w size : ℕ) (codes : List ℕ) (some : List ℕ) → if_of_size w size codes ≡ Some some → (codes ≡ some) × (sum_by (wide_value_bytes w) codes ≡ size)
if-of-size w size codes some is = by (nat_eq (sum_by (wide_value_bytes w) codes) size) refl is
  where
    by : (b : Bool) → nat_eq (sum_by (wide_value_bytes w) codes) size ≡ b → cond b (Some codes) None ≡ Some some → (codes ≡ some) × (sum_by (wide_value_bytes w) codes ≡ size)
    by true same is = (cc, eqb-true _ _ same)
    by false other is = absurd cc

pub layout-size : (w : ℕ) (known : List Class) (class size : ℕ) (codes : List ℕ) → instance_layout w known class size ≡ Some codes → (layout known class ≡ Some codes) × (sum_by (wide_value_bytes w) codes ≡ size)
layout-size w known class size codes is = by (layout known class) refl is
  where
    by : (o : Option (List ℕ)) → layout known class ≡ o → option_and_then (if_of_size w size) o ≡ Some codes → (layout known class ≡ Some codes) × (sum_by (wide_value_bytes w) codes ≡ size)
    by None at is = absurd cc
    by (Some l) at is =
        let found = if-of-size w size l codes is in
        (at ∙ ap Some found.0, ap (sum_by (wide_value_bytes w)) (sym found.0) ∙ found.1)

module _ (w : ℕ) (wide : 4 ≤ w) (known : List Class) (names : List ℕ) where
  bytes-by : (class : ℕ) (bytes : List ℕ) (o : Option (List ℕ)) → instance_layout w known class (length bytes) ≡ o → length (renamed_bytes w names o bytes) ≤ length bytes
  bytes-by class bytes None is = omega arith
  bytes-by class bytes (Some codes) is =
      let size = (layout-size w known class (length bytes) codes is).1 in
      omega (arith, size, length-values w names codes bytes (omega (arith, size)), sizes-within w codes wide)

  -- the values of an instance
  pub bytes-shorter : (class : ℕ) (bytes : List ℕ) → length (renamed_bytes w names (instance_layout w known class (length bytes)) bytes) ≤ length bytes
  bytes-shorter class bytes = bytes-by class bytes (instance_layout w known class (length bytes)) refl

  value-shorter : (code : ℕ) (bytes : List ℕ) → length bytes ≡ wide_value_bytes w code → length (renamed_value w names (code, bytes)) ≤ length bytes
  value-shorter code bytes size = omega (arith, size, length-value w names code bytes size, size-within w code wide)

  -- the lists of a class
  constants-shorter : (cs : List (ℕ × ℕ × List ℕ)) → All (IsWideConstant w) cs → length (flat_map constant_bytes (map (renamed_constant w names) cs)) ≤ length (flat_map constant_bytes cs)
  constants-shorter [] fit = omega arith
  constants-shorter (c ∷ cs) fit =
      let new : List ℕ = renamed_value w names (c.1, c.2) in
      omega (arith, length-append (constant_bytes (renamed_constant w names c)) (flat_map constant_bytes (map (renamed_constant w names) cs)), length-append (constant_bytes c) (flat_map constant_bytes cs), ap length (append-nil new), ap length (append-nil c.2), value-shorter c.1 c.2 (All-head (IsWideConstant w) c cs fit).2.1, constants-shorter cs (All-tail (IsWideConstant w) c cs fit))

  statics-shorter : (ss : List (ℕ × ℕ × List ℕ)) → All (IsWideStatic w) ss → length (flat_map static_bytes (map (renamed_static w names) ss)) ≤ length (flat_map (wide_static_bytes w) ss)
  statics-shorter [] fit = omega arith
  statics-shorter (s ∷ ss) fit =
      let new : List ℕ = renamed_value w names (s.1, s.2) in
      omega (arith, length-append (static_bytes (renamed_static w names s)) (flat_map static_bytes (map (renamed_static w names) ss)), length-append (wide_static_bytes w s) (flat_map (wide_static_bytes w) ss), length-static w s, ap length (append-nil new), value-shorter s.1 s.2 (All-head (IsWideStatic w) s ss fit).2.1, statics-shorter ss (All-tail (IsWideStatic w) s ss fit), wide)

  fields-shorter : (fs : List (ℕ × ℕ)) → length (flat_map field_name_bytes (map (renamed_field names) fs)) ≤ length (flat_map (wide_field_name_bytes w) fs)
  fields-shorter [] = omega arith
  fields-shorter (f ∷ fs) =
      omega (arith, length-append (field_name_bytes (renamed_field names f)) (flat_map field_name_bytes (map (renamed_field names) fs)), length-append (wide_field_name_bytes w f) (flat_map (wide_field_name_bytes w) fs), length-append (field w f.0) (field 1 f.1 ++ []), length-bytes_high_first w f.0, fields-shorter fs, wide)

  -- identifiers
  pub ids-shorter : (ids : List ℕ) → length (flat_map word (map (rename names) ids)) ≤ length (flat_map (field w) ids)
  ids-shorter [] = omega arith
  ids-shorter (id ∷ ids) =
      omega (arith, length-append (field w id) (flat_map (field w) ids), length-bytes_high_first w id, ids-shorter ids, wide)

  -- the further fields of a root
  one-further : (tag : ℕ) (b : Bool) → 4 ≤ cond b w 4
  one-further tag true = wide
  one-further tag false = omega arith

  length-further : (tag : ℕ) (first second : Option ℕ) → length (further_bytes (renamed_further names tag first)) + length (further_bytes second) ≤ length (further_fields w tag first second)
  length-further tag first second = by (nat_eq tag 1) refl first second
    where
      by : (b : Bool) → nat_eq tag 1 ≡ b → (first second : Option ℕ) → length (further_bytes (cond b (option_map (rename names) first) first)) + length (further_bytes second) ≤ length (further_fields w tag first second)
      by true is None None = omega arith
      by true is None (Some second) = omega arith
      by true is (Some first) None = omega (arith, length-bytes_high_first (further_width w tag) first, one-further tag (nat_eq tag 1))
      by true is (Some first) (Some second) = omega arith
      by false is None None = omega arith
      by false is None (Some second) = omega arith
      by false is (Some first) None = omega (arith, length-bytes_high_first (further_width w tag) first, one-further tag (nat_eq tag 1))
      by false is (Some first) (Some second) = omega arith

  pub part-shorter : (p : WideSub) → IsWidePart w p → length (bytes_of_part (converted_part w known names p)) ≤ length (wide_part_bytes w p)
  part-shorter (Root tag id first second) fit =
      let more : Option ℕ = renamed_further names tag first in
      omega (arith, size-root w tag id first second, length-append (further_bytes more) (further_bytes second ++ []), ap length (append-nil (further_bytes second)), length-further tag first second, wide)
  part-shorter (HeapInfo heap name) fit = omega (arith, size-heap w heap name, wide)
  part-shorter (ClassDump id stack parent loader signers domain spare_a spare_b size cs ss fs) fit =
      let a : List ℕ = flat_map constant_bytes (map (renamed_constant w names) cs) in
      let b : List ℕ = flat_map static_bytes (map (renamed_static w names) ss) in
      let c : List ℕ = flat_map field_name_bytes (map (renamed_field names) fs) in
      let behind_statics : List ℕ = field 2 (length (map (renamed_field names) fs)) ++ (c ++ []) in
      let behind_constants : List ℕ = field 2 (length (map (renamed_static w names) ss)) ++ (b ++ behind_statics) in
      omega (arith, size-class w id stack parent loader signers domain spare_a spare_b size cs ss fs, length-append a behind_constants, length-append b behind_statics, ap length (append-nil c), constants-shorter cs fit.10, statics-shorter ss fit.12, fields-shorter fs, wide)
  part-shorter (Instance id stack class bytes) fit =
      omega (arith, size-instance w id stack class bytes, ap length (append-nil (renamed_bytes w names (instance_layout w known class (length bytes)) bytes)), bytes-shorter class bytes, wide)
  part-shorter (ObjectArray id stack class items) fit =
      omega (arith, size-array w id stack class items, ap length (append-nil (flat_map word (map (rename names) items))), ids-shorter items, wide)
  part-shorter (PrimitiveArray id stack code count bytes) fit = omega (arith, size-primitive w id stack code count bytes, ap length (append-nil bytes), wide)
  part-shorter (NoData id stack count code) fit = omega (arith, size-no_data w id stack count code, wide)

  pub parts-shorter : (ps : List WideSub) → All (IsWidePart w) ps → length (bytes_of_parts (map (converted_part w known names) ps)) ≤ length (wide_parts_bytes w ps)
  parts-shorter [] fit = omega arith
  parts-shorter (p ∷ ps) fit =
      omega (arith, length-append (bytes_of_part (converted_part w known names p)) (bytes_of_parts (map (converted_part w known names) ps)), length-append (wide_part_bytes w p) (wide_parts_bytes w ps), part-shorter p (All-head (IsWidePart w) p ps fit), parts-shorter ps (All-tail (IsWidePart w) p ps fit))

  -- bodies
  pub text-shorter : (time id : ℕ) (bytes : List ℕ) → length (body_of (narrow_record.Text time (rename names id) bytes)) ≤ length (wide_body_of w (Text time id bytes))
  text-shorter time id bytes = omega (arith, length-append (field w id) (bytes ++ []), length-bytes_high_first w id, ap length (append-nil bytes), wide)

  pub load-shorter : (time serial class stack name : ℕ) (rest : List ℕ)
      → length (body_of (narrow_record.LoadClass time serial (rename names class) stack (rename names name) rest)) ≤ length (wide_body_of w (LoadClass time serial class stack name rest))
  load-shorter time serial class stack name rest =
      omega (arith, length-append (field w class) (word stack ++ (field w name ++ (rest ++ []))), length-append (field w name) (rest ++ []), length-bytes_high_first w class, length-bytes_high_first w name, ap length (append-nil rest), wide)

  pub trace-shorter : (time serial thread : ℕ) (frames rest : List ℕ)
      → length (body_of (narrow_record.Trace time serial thread (map (rename names) frames) rest)) ≤ length (wide_body_of w (Trace time serial thread frames rest))
  trace-shorter time serial thread frames rest =
      omega (arith, length-append (flat_map (field w) frames) (rest ++ []), length-append (flat_map word (map (rename names) frames)) (rest ++ []), ids-shorter frames)
