-- The values of a converted instance, as they are read through the converted class dumps.
use Rattle.std.proofs.Common.{◌≡◌, ℕ, suc, ◌<◌, ◌≤◌, ◌^◌, inr, Bool, true, false, cond, nat_eq, List, [], ◌∷◌, ◌++◌, map, length, take, drop, Option, None, Some, option_map, refl, ap, sym, ◌∙◌, arith, subst, length-drop}
use Rattle.std.specs.Prelude.{Contains, nat_le, sum_by, option_and_then}
use Rattle.std.specs.List.{cons_option, flat_map}
use Rattle.std.specs.Int.{w32, from_be_bytes}
use Rattle.std.proofs.lemmas.Bool.{eqb-true}
use Rattle.std.proofs.lemmas.Grind.{common_steps}
use Rattle.std.proofs.lemmas.List.{length-take-le, take_at, drop_at}
use Rattle.std.proofs.lemmas.List.Sums.{sum_by-cons}
use Rattle.std.proofs.lemmas.List.Elements.{Contains-get_or}
use Rattle.hprof_records.specs.Types.{value_bytes}
use Rattle.hprof_records.specs.Parts.{word}
use Rattle.hprof_wide.specs.Parts.{wide_value_bytes}
use Rattle.hprof_wide.specs.declared.wide_sub.WideSub.{WideSub}
use Rattle.hprof_wide.specs.declared.wide_sub.WideSub.TheVariants.{Root, HeapInfo, ClassDump, Instance, ObjectArray, PrimitiveArray, NoData}
use Rattle.hprof_wide.specs.declared.wide_top.WideTop.{WideTop}
use Rattle.dump_graph.specs.Classes.{Class, classes, layout}
use Rattle.dump_graph.specs.Graph.{parts}
use Rattle.dump_graph.specs.References.{first_id, reference, references_in, instance_references, references}
use Rattle.dump_graph.proofs.Positions.{nat_eq-same}
use Rattle.hprof_convert.specs.Names.{rename, IsAmong}
use Rattle.hprof_convert.specs.Values.{id_in, ids_in, ids_among, renamed_value, values_of, renamed_values}
use Rattle.hprof_convert.specs.Layouts.{if_of_size, instance_layout, wide_parts, wide_classes}
use Rattle.hprof_convert.specs.Identifiers.{ids_of_part, ids_of}
use Rattle.hprof_convert.specs.Instances.{instance_values, wide_values_read, values_read, renamed_typed}
use Rattle.hprof_convert.specs.Converted.{converted, converted_part, names_of, renamed_bytes}
use Rattle.hprof_convert.proofs.Narrowing.{length-value, length-values, rename-within}
use Rattle.hprof_convert.proofs.Shorter.{layout-size}
use Rattle.hprof_convert.proofs.Layouts.{part-ids, layout-converted}

-- an identifier of 4 bytes has as many bytes as its type
four-by : (code : ℕ) (b : Bool) → nat_eq code 2 ≡ b → cond b 4 (value_bytes code) ≡ value_bytes code
four-by code true is = ap value_bytes (sym (eqb-true _ _ is))
four-by code false is = refl

four-bytes : (code : ℕ) → wide_value_bytes 4 code ≡ value_bytes code
four-bytes code = four-by code (nat_eq code 2) refl

four-sizes : (codes : List ℕ) → sum_by (wide_value_bytes 4) codes ≡ sum_by value_bytes codes
four-sizes [] = refl
four-sizes (code ∷ codes) = omega (arith, sum_by-cons value_bytes code codes, sum_by-cons (wide_value_bytes 4) code codes, four-bytes code, four-sizes codes)

word-back : (n : ℕ) → n < 2 ^ 32 → from_be_bytes w32 (word n) ≡ n
word-back n small = omega arith

long-enough : (n : ℕ) → nat_le 4 (suc (suc (suc (suc n)))) ≡ true
long-enough n = grind (arith, common_steps)

module _ (w : ℕ) (names : List ℕ) where
  -- the first value, and those behind it
  first-size : (code : ℕ) (codes bytes : List ℕ) → sum_by (wide_value_bytes w) (code ∷ codes) ≤ length bytes
      → (length (renamed_value w names (code, take (wide_value_bytes w code) bytes)) ≡ value_bytes code) × (sum_by (wide_value_bytes w) codes ≤ length (drop (wide_value_bytes w code) bytes))
  first-size code codes bytes enough =
      let n = wide_value_bytes w code in
      let sums = sum_by-cons (wide_value_bytes w) code codes in
      (length-value w names code (take n bytes) (length-take-le n bytes (omega (arith, sums, enough))), omega (arith, sums, enough, length-drop n bytes))

  pub values-cut : (codes bytes : List ℕ) → sum_by (wide_value_bytes w) codes ≤ length bytes → values_of 4 codes (renamed_values w names codes bytes) ≡ map (renamed_typed w names) (values_of w codes bytes)
  values-cut [] bytes enough = refl
  values-cut (code ∷ codes) bytes enough =
      let n = wide_value_bytes w code in
      let value : List ℕ = renamed_value w names (code, take n bytes) in
      let rest : List ℕ = renamed_values w names codes (drop n bytes) in
      let sizes = first-size code codes bytes enough in
      let size : length value ≡ wide_value_bytes 4 code = sizes.0 ∙ sym (four-bytes code) in
      ap (λ (l : List ℕ). (code, l) ∷ values_of 4 codes (drop (wide_value_bytes 4 code) (value ++ rest))) (take_at value rest (wide_value_bytes 4 code) size)
      ∙ (ap (λ (l : List ℕ). (code, value) ∷ values_of 4 codes l) (drop_at value rest (wide_value_bytes 4 code) size)
      ∙ ap (λ (l : List (ℕ × List ℕ)). (code, value) ∷ l) (values-cut codes (drop n bytes) sizes.1))

  module _ (few : length names < 2 ^ 32) where
    first-word : (n : ℕ) (rest : List ℕ) → n < 2 ^ 32 → first_id (word n ++ rest) ≡ Some n
    first-word n rest small = ap (λ b. cond b (Some (from_be_bytes w32 (word n))) None) (long-enough (length rest)) ∙ ap Some (word-back n small)

    reference-by : (code : ℕ) (value rest : List ℕ) (b : Bool) (more : List ℕ)
        → cons_option (cond b (first_id (cond b (word (rename names (id_in w value))) value ++ rest)) None) (map (rename names) more) ≡ map (rename names) (cond b (id_in w value ∷ []) [] ++ more)
    reference-by code value rest true more =
        ap (λ (o : Option ℕ). cons_option o (map (rename names) more)) (first-word (rename names (id_in w value)) rest (omega (arith, rename-within names (id_in w value), few)))
    reference-by code value rest false more = refl

    pub references-cut : (codes bytes : List ℕ) → sum_by (wide_value_bytes w) codes ≤ length bytes → references_in codes (renamed_values w names codes bytes) ≡ map (rename names) (ids_among w codes bytes)
    references-cut [] bytes enough = refl
    references-cut (code ∷ codes) bytes enough =
        let n = wide_value_bytes w code in
        let value : List ℕ = renamed_value w names (code, take n bytes) in
        let rest : List ℕ = renamed_values w names codes (drop n bytes) in
        let sizes = first-size code codes bytes enough in
        ap (λ (l : List ℕ). cons_option (reference code (value ++ rest)) (references_in codes l)) (drop_at value rest (value_bytes code) sizes.0)
        ∙ (ap (cons_option (reference code (value ++ rest))) (references-cut codes (drop n bytes) sizes.1)
        ∙ reference-by code (take n bytes) rest (nat_eq code 2) (ids_among w codes (drop n bytes)))

-- an instance whose layout is known
module _ (w : ℕ) (records : List WideTop) (id stack class : ℕ) (bytes codes : List ℕ) (at : Contains (wide_parts records) (Instance id stack class bytes)) (laid : instance_layout w (wide_classes records) class (length bytes) ≡ Some codes) where
  abbrev known : List Class
  known = classes (parts (converted w records))

  abbrev names : List ℕ
  names = names_of w records

  abbrev new_bytes : List ℕ
  new_bytes = renamed_values w names codes bytes

  class-among : IsAmong (ids_of w records) class
  class-among =
      let own : List ℕ = ids_of_part w (wide_classes records) (Instance id stack class bytes) in
      inr (part-ids w (wide_classes records) records (Instance id stack class bytes) class at (Contains-get_or own 1 0 (omega arith)))

  here : (layout (wide_classes records) class ≡ Some codes) × (sum_by (wide_value_bytes w) codes ≡ length bytes)
  here = layout-size w (wide_classes records) class (length bytes) codes laid

  enough : sum_by (wide_value_bytes w) codes ≤ length bytes
  enough = omega (arith, here.1)

  layout-new : layout known (rename names class) ≡ Some codes
  layout-new = layout-converted w class records class-among ∙ here.0

  size-new : sum_by value_bytes codes ≡ length new_bytes
  size-new = sym (length-values w names codes bytes enough)

  bytes-new : renamed_bytes w names (instance_layout w (wide_classes records) class (length bytes)) bytes ≡ new_bytes
  bytes-new = ap (λ (o : Option (List ℕ)). renamed_bytes w names o bytes) laid

  size-test : (m n : ℕ) → m ≡ n → nat_eq m n ≡ true
  size-test m n same = ap (nat_eq m) (sym same) ∙ nat_eq-same m

  instance-layout-new : instance_layout 4 known (rename names class) (length new_bytes) ≡ Some codes
  instance-layout-new =
      ap (option_and_then (if_of_size 4 (length new_bytes))) layout-new
      ∙ ap (λ b. cond b (Some codes) None) (size-test (sum_by (wide_value_bytes 4) codes) (length new_bytes) (four-sizes codes ∙ size-new))

  pub instance-read : values_read known (converted_part w (wide_classes records) names (Instance id stack class bytes)) ≡ Some (map (renamed_typed w names) (values_of w codes bytes))
  instance-read =
      ap (instance_values 4 known (rename names class)) bytes-new
      ∙ (ap (option_map (λ (l : List ℕ). values_of 4 l new_bytes)) instance-layout-new
      ∙ ap Some (values-cut w names codes bytes enough))

  pub instance-refers : length names < 2 ^ 32 → references known (converted_part w (wide_classes records) names (Instance id stack class bytes)) ≡ map (rename names) (flat_map (ids_in w) (values_of w codes bytes))
  instance-refers few =
      ap (instance_references (layout known (rename names class))) bytes-new
      ∙ (ap (λ (o : Option (List ℕ)). instance_references o new_bytes) layout-new
      ∙ (ap (λ b. cond b (references_in codes new_bytes) []) (size-test (sum_by value_bytes codes) (length new_bytes) size-new)
      ∙ references-cut w names few codes bytes enough))

-- what is known of a part's values
abbrev IsReadSo : ℕ → List WideTop → WideSub → List (ℕ × List ℕ) → Type 0
IsReadSo w records p values =
    let known : List Class = classes (parts (converted w records)) in
    let names : List ℕ = names_of w records in
    let new = converted_part w (wide_classes records) names p in
    (values_read known new ≡ Some (map (renamed_typed w names) values))
    × (length names < 2 ^ 32 → references known new ≡ map (rename names) (flat_map (ids_in w) values))

pub read-so : (w : ℕ) (records : List WideTop) (p : WideSub) (values : List (ℕ × List ℕ)) → Contains (wide_parts records) p → wide_values_read w (wide_classes records) p ≡ Some values → IsReadSo w records p values
read-so w records (Root tag id first second) values at is = absurd cc
read-so w records (HeapInfo heap name) values at is = absurd cc
read-so w records (ClassDump id stack parent loader signers domain spare_a spare_b size cs ss fs) values at is = absurd cc
read-so w records (Instance id stack class bytes) values at is = by (instance_layout w (wide_classes records) class (length bytes)) refl is
  where
    by : (o : Option (List ℕ)) → instance_layout w (wide_classes records) class (length bytes) ≡ o → option_map (λ codes. values_of w codes bytes) o ≡ Some values → IsReadSo w records (Instance id stack class bytes) values
    by None laid is = absurd cc
    by (Some codes) laid is =
        let same : values_of w codes bytes ≡ values = cc in
        subst (IsReadSo w records (Instance id stack class bytes)) same (instance-read w records id stack class bytes codes at laid, instance-refers w records id stack class bytes codes at laid)
read-so w records (ObjectArray id stack class items) values at is = absurd cc
read-so w records (PrimitiveArray id stack code count bytes) values at is = absurd cc
read-so w records (NoData id stack count code) values at is = absurd cc
