use Rattle.std.proofs.Common.{◌≡◌, ◌∙◌, ℕ, ◌++◌, [], ◌∷◌, List, ap}
use Rattle.std.specs.List.{flat_map}
use Rattle.hprof_records.specs.Fields.{field}
use Rattle.hprof_records.specs.Parts.{word}
use Rattle.hprof_write.specs.Strings.{string_id}
use Rattle.hprof_write.proofs.RecordBytes.{two-appends}
use Rattle.hprof_write.proofs.front.put_load.Goals as goal

load-bytes : (o a b : List ℕ) (serial id t s : ℕ) → t ≡ s → a ≡ o ++ field 1 2 → b ≡ a ++ flat_map word (0 ∷ 16 ∷ serial ∷ id ∷ 0 ∷ t ∷ [])
    → b ≡ o ++ (field 1 2 ++ flat_map word (0 ∷ 16 ∷ serial ∷ id ∷ 0 ∷ s ∷ []))
load-bytes o a b serial id t s e ha hb =
    two-appends o (field 1 2) (flat_map word (0 ∷ 16 ∷ serial ∷ id ∷ 0 ∷ t ∷ [])) a b ha hb
    ∙ ap (λ (n : ℕ). o ++ (field 1 2 ++ flat_map word (0 ∷ 16 ∷ serial ∷ id ∷ 0 ∷ n ∷ []))) e

pub returns : goal.returns
returns c =
    load-bytes c.args.out.now.items c.put_u8.new.out.items c.put_words.new.out.items c.args.serial c.args.id c.in_ok-text.text
    (string_id c.args.strings.now.keys c.args.name.now) c.in_ok-text.ensures c.in_ok-put_u8.ensures.appended c.in_ok-put_words.ensures
