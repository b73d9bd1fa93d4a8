use Rattle.std.proofs.Common.{◌≡◌, ℕ, List, [], ◌∷◌, ◌++◌, codes, ap, ◌∙◌}
use Rattle.std.specs.Prelude.{decimal}
use Rattle.hprof_write.specs.TableText.{hex_digits, table_line}
use Rattle.hprof_write.proofs.Appends.{five-appends}
use Rattle.hprof_write.proofs.table_text.put_line.Goals as goal

line-appended : (number at : ℕ) (o a b c d e : List ℕ)
    → a ≡ o ++ codes "#" → b ≡ a ++ decimal number → c ≡ b ++ codes " 0x" → d ≡ c ++ hex_digits 8 at → e ≡ d ++ (10 ∷ [])
    → e ≡ o ++ table_line number at
line-appended number at o a b c d e ha hb hc hd he =
    he ∙ ap (λ l. l ++ (10 ∷ [])) (hd ∙ ap (λ l. l ++ hex_digits 8 at) (hc ∙ ap (λ l. l ++ codes " 0x") (hb ∙ ap (λ l. l ++ decimal number) ha)))
    ∙ five-appends o (codes "#") (decimal number) (codes " 0x") (hex_digits 8 at) (10 ∷ [])

pub returns : goal.returns
returns c =
    line-appended c.args.number c.args.at c.args.out.now.items c.extend_from_slice.new.self.items c.extend_from_slice-2.new.self.items
    c.extend_from_slice-3.new.self.items c.put_hex.new.out.items c.push.new.self.items
    c.in_ok-extend_from_slice.ensures.items
    (c.in_ok-extend_from_slice-2.ensures.items ∙ ap (λ l. c.extend_from_slice.new.self.items ++ l) (c.as_bytes.ensures.value ∙ c.format.ensures.text))
    c.in_ok-extend_from_slice-3.ensures.items c.in_ok-put_hex.ensures c.in_ok-push.ensures.items
