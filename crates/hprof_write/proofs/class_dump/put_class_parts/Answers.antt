use Rattle.std.proofs.Common.{◌≡◌, ◌∙◌, ℕ, ◌++◌, [], ◌∷◌, List, length, map, ap, refl, sym}
use Rattle.std.proofs.lemmas.List.{length-map}
use Rattle.std.specs.List.{flat_map}
use Rattle.class_layout.specs.declared.kind.FieldDecl.{FieldDecl}
use Rattle.hprof_records.specs.declared.sub_record.SubRecord.TheVariants.{ClassDump}
use Rattle.hprof_records.specs.Fields.{field}
use Rattle.hprof_records.specs.Parts.{word, bytes_of_part, field_name_bytes}
use Rattle.hprof_write.specs.Classes.{field_entry}
use Rattle.hprof_write.proofs.Appends.{five-appends}
use Rattle.hprof_write.proofs.class_dump.put_class_parts.Goals as goal

parts-put : (ss : List (List ℕ)) (id parent size count : ℕ) (fields : List FieldDecl) (o a b c d e : List ℕ) → count ≡ length fields
    → a ≡ o ++ field 1 0x20 → b ≡ a ++ flat_map word (id ∷ 0 ∷ parent ∷ 0 ∷ 0 ∷ 0 ∷ 0 ∷ 0 ∷ size ∷ []) → c ≡ b ++ flat_map word (0 ∷ []) → d ≡ c ++ field 2 count
    → e ≡ d ++ flat_map field_name_bytes (map (field_entry ss) fields)
    → e ≡ o ++ bytes_of_part (ClassDump id 0 parent 0 0 0 0 0 size [] [] (map (field_entry ss) fields))
parts-put ss id parent size count fields o a b c d e few ha hb hc hd he =
    let words : List ℕ = flat_map word (id ∷ 0 ∷ parent ∷ 0 ∷ 0 ∷ 0 ∷ 0 ∷ 0 ∷ size ∷ []) in
    let names : List ℕ = flat_map field_name_bytes (map (field_entry ss) fields) in
    let n : count ≡ length (map (field_entry ss) fields) = few ∙ sym (length-map fields (field_entry ss)) in
    he ∙ ap (λ l. l ++ names) (hd ∙ ap (λ l. l ++ field 2 count) (hc ∙ ap (λ l. l ++ flat_map word (0 ∷ [])) (hb ∙ ap (λ l. l ++ words) ha)))
    ∙ five-appends o (field 1 0x20) words (flat_map word (0 ∷ [])) (field 2 count) names
    ∙ ap (λ (m : ℕ). o ++ (field 1 0x20 ++ (words ++ (flat_map word (0 ∷ []) ++ (field 2 m ++ (names ++ [])))))) n

pub returns : goal.returns
returns c =
    parts-put c.args.strings.now.keys c.args.id c.args.parent c.args.size (length c.args.fields.now) c.args.fields.now
    c.args.out.now.items c.put_u8.new.out.items c.put_words.new.out.items c.put_words-2.new.out.items c.put_u16.new.out.items c.put_field_names.new.out.items
    refl
    c.in_ok-put_u8.ensures.appended c.in_ok-put_words.ensures c.in_ok-put_words-2.ensures c.in_ok-put_u16.ensures.appended c.in_ok-put_field_names.ensures
