-- The parts and the class dumps of the converted records.
use Rattle.std.proofs.Common.{◌≡◌, ℕ, Bool, true, false, cond, nat_eq, List, [], ◌∷◌, ◌++◌, map, None, Some, refl, ap, sym, ◌∙◌}
use Rattle.std.specs.List.{cons_option, filter_map}
use Rattle.std.proofs.lemmas.List.{map-append}
use Rattle.hprof_records.specs.declared.sub_record.SubRecord.{SubRecord}
use Rattle.hprof_records.specs.declared.top_record.TopRecord.{TopRecord}
use Rattle.hprof_records.specs.declared.top_record.TopRecord.TheVariants as narrow_record
use Rattle.hprof_wide.specs.declared.wide_sub.WideSub.{WideSub}
use Rattle.hprof_wide.specs.declared.wide_sub.WideSub.TheVariants.{Root, HeapInfo, ClassDump, Instance, ObjectArray, PrimitiveArray, NoData}
use Rattle.hprof_wide.specs.declared.wide_top.WideTop.{WideTop}
use Rattle.hprof_wide.specs.declared.wide_top.WideTop.TheVariants.{Text, LoadClass, Trace, Segment, Other}
use Rattle.dump_graph.specs.Classes.{Class, classes}
use Rattle.dump_graph.specs.Graph.{parts}
use Rattle.hprof_convert.specs.Layouts.{wide_parts, wide_class_of, wide_classes}
use Rattle.hprof_convert.specs.Converted.{heap_dump_end, renamed_class, renamed_field, converted_part, converted_record, converted, names_of}

module _ (w : ℕ) (known : List Class) (names : List ℕ) where
  other-parts : (time tag : ℕ) (body : List ℕ) (b : Bool) (l : List TopRecord) → parts (cons_option (cond b (Some (narrow_record.Other time tag body)) None) l) ≡ parts l
  other-parts time tag body true l = refl
  other-parts time tag body false l = refl

  pub parts-converted : (rs : List WideTop) → parts (filter_map (converted_record w known names) rs) ≡ map (converted_part w known names) (wide_parts rs)
  parts-converted [] = refl
  parts-converted (Text time id bytes ∷ rs) = parts-converted rs
  parts-converted (LoadClass time serial class stack name rest ∷ rs) = parts-converted rs
  parts-converted (Trace time serial thread frames rest ∷ rs) = parts-converted rs
  parts-converted (Segment time tag size ps ∷ rs) =
      ap (λ (l : List SubRecord). map (converted_part w known names) ps ++ l) (parts-converted rs) ∙ sym (map-append (converted_part w known names) ps (wide_parts rs))
  parts-converted (Other time tag body ∷ rs) =
      other-parts time tag body (nat_eq tag heap_dump_end) (filter_map (converted_record w known names) rs) ∙ parts-converted rs

  codes-kept : (fs : List (ℕ × ℕ)) → map (λ (f : ℕ × ℕ). f.1) (map (renamed_field names) fs) ≡ map (λ (f : ℕ × ℕ). f.1) fs
  codes-kept [] = refl
  codes-kept (f ∷ fs) = ap (λ l. f.1 ∷ l) (codes-kept fs)

  pub classes-converted : (ps : List WideSub) → classes (map (converted_part w known names) ps) ≡ map (renamed_class names) (filter_map wide_class_of ps)
  classes-converted [] = refl
  classes-converted (Root tag id first second ∷ ps) = classes-converted ps
  classes-converted (HeapInfo heap name ∷ ps) = classes-converted ps
  classes-converted (ClassDump id stack parent loader signers domain spare_a spare_b size cs ss fs ∷ ps) =
      let class : List ℕ → Class = λ (codes : List ℕ). renamed_class names (record { id = id; parent = parent; codes = codes }) in
      ap (λ (codes : List ℕ). class codes ∷ classes (map (converted_part w known names) ps)) (codes-kept fs)
      ∙ ap (λ (l : List Class). class (map (λ (f : ℕ × ℕ). f.1) fs) ∷ l) (classes-converted ps)
  classes-converted (Instance id stack class bytes ∷ ps) = classes-converted ps
  classes-converted (ObjectArray id stack class items ∷ ps) = classes-converted ps
  classes-converted (PrimitiveArray id stack code count bytes ∷ ps) = classes-converted ps
  classes-converted (NoData id stack count code ∷ ps) = classes-converted ps

pub converted-parts : (w : ℕ) (records : List WideTop) → parts (converted w records) ≡ map (converted_part w (wide_classes records) (names_of w records)) (wide_parts records)
converted-parts w records = parts-converted w (wide_classes records) (names_of w records) records

pub converted-classes : (w : ℕ) (records : List WideTop) → classes (parts (converted w records)) ≡ map (renamed_class (names_of w records)) (wide_classes records)
converted-classes w records = ap classes (converted-parts w records) ∙ classes-converted w (wide_classes records) (names_of w records) (wide_parts records)
