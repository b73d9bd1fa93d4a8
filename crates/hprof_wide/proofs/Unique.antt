-- Lists of wide parts have one reading.
use Rattle.std.proofs.Common.{◌≡◌, ℕ, List, [], ◌++◌, sym, ap, ◌∙◌, All}
use Rattle.hprof_records.specs.Fields.{field}
use Rattle.hprof_read.proofs.Formats.{ok_is}
use Rattle.hprof_read.proofs.Unique.{HasOneReading, one_reading}
use Rattle.hprof_wide.specs.declared.ids.IdSize.{IdSize}
use Rattle.hprof_wide.specs.declared.wide_sub.WideSub.{WideSub}
use Rattle.hprof_wide.specs.Parts.{wide_part_bytes, wide_parts_bytes}
use Rattle.hprof_wide.specs.Formed.{IsWidePart}
use Rattle.hprof_wide.specs.Reading.{width_of, part_at}
use Rattle.hprof_wide.specs.Fault.{NoWidePart}
use Rattle.hprof_wide.proofs.PartsByTag.{part_format, part_text, part_tag, part_body}

module _ (z : IdSize) where
  abbrev w : ℕ
  w = width_of z

  pub part_nonempty : (p : WideSub) (more : List ℕ) → [] ≡ wide_part_bytes w p ++ more → ⊥
  part_nonempty p more e =
      let none : [] ≡ field 1 (part_tag z p) ++ (part_body z p ++ more) = e ∙ ap (λ (t : List ℕ). t ++ more) (part_text z p) in
      absurd cc

  pub one_part : HasOneReading (wide_part_bytes w) (IsWidePart w)
  one_part p q x y f g e =
      let got : WideSub × List ℕ = (p, x) in
      let want : WideSub × List ℕ = (q, y) in
      let same : got ≡ want = ok_is got want (sym ((part_format z).again p x f) ∙ ap (part_at z) e ∙ (part_format z).again q y g) in
      (ap (λ (r : WideSub × List ℕ). r.0) same, ap (λ (r : WideSub × List ℕ). r.1) same)

  pub parts_end : (ps qs : List WideSub) (x y : List ℕ) → All (IsWidePart w) ps → All (IsWidePart w) qs → wide_parts_bytes w ps ++ x ≡ wide_parts_bytes w qs ++ y → NoWidePart w x → NoWidePart w y → (ps ≡ qs) × (x ≡ y)
  parts_end = one_reading (wide_part_bytes w) (IsWidePart w) one_part
