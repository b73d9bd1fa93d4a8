use Rattle.std.proofs.Common.{◌≡◌, ◌∙◌, ℕ, ◌+◌, ◌++◌, [], ◌∷◌, List, length, ap}
use Rattle.std.specs.List.{flat_map}
use Rattle.hprof_records.specs.Fields.{field}
use Rattle.hprof_records.specs.Parts.{word}
use Rattle.hprof_records.specs.Records.{bytes_of_record}
use Rattle.hprof_records.specs.declared.top_record.TopRecord.TheVariants.{Text}
use Rattle.hprof_write.proofs.RecordBytes.{three-appends, text-bytes}
use Rattle.hprof_write.proofs.front.put_text.Goals as goal

text-appended : (o a b c text bytes : List ℕ) (id size : ℕ) → bytes ≡ text → size ≡ 4 + length text → a ≡ o ++ field 1 1
    → b ≡ a ++ flat_map word (0 ∷ size ∷ id ∷ []) → c ≡ b ++ bytes → c ≡ o ++ bytes_of_record (Text 0 id text)
text-appended o a b c text bytes id size same e ha hb hc =
    three-appends o (field 1 1) (flat_map word (0 ∷ size ∷ id ∷ [])) text a b c ha hb (hc ∙ ap (λ l. b ++ l) same)
    ∙ ap (λ l. o ++ l) (text-bytes id size text e)

pub returns : goal.returns
returns c =
    text-appended c.args.out.now.items c.put_u8.new.out.items c.put_words.new.out.items c.extend_from_slice.new.self.items
    c.args.text.now c.as_bytes-bytes.result.now c.args.id (4 + length c.as_bytes-bytes.result.now)
    c.as_bytes-bytes.ensures.value (ap (λ (l : List ℕ). 4 + length l) c.as_bytes-bytes.ensures.value)
    c.in_ok-put_u8.ensures.appended c.in_ok-put_words.ensures c.in_ok-extend_from_slice.ensures.items
