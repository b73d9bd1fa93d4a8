-- Lists of parts, and of records, have one reading.
use Rattle.std.proofs.Common.{◌≡◌, ℕ, ◌≤◌, List, [], ◌∷◌, ◌++◌, length, refl, sym, ap, ◌∙◌, append_assoc, arith, All}
use Rattle.std.specs.List.{flat_map}
use Rattle.std.proofs.lemmas.List.{length-append}
use Rattle.std.proofs.lemmas.List.Elements.{All-head, All-tail}
use Rattle.hprof_records.specs.declared.sub_record.SubRecord.{SubRecord}
use Rattle.hprof_records.specs.Fields.{field}
use Rattle.hprof_records.specs.Parts.{bytes_of_part, bytes_of_parts}
use Rattle.hprof_records.specs.Formed.{IsPart}
use Rattle.hprof_read.specs.Reading.{part_at}
use Rattle.hprof_read.specs.Fault.{NoPart}
use Rattle.hprof_read.proofs.Formats.{ok_is}
use Rattle.hprof_read.proofs.PartsByTag.{part_format, part_text, part_tag, part_body}

-- a list of texts, each of which has one reading and isn't empty
module _ {A : Type 0} (text : A → List ℕ) (Fits : A → Type 0) where
  abbrev pub HasOneReading : Type 0
  HasOneReading = (v w : A) (x y : List ℕ) → Fits v → Fits w → text v ++ x ≡ text w ++ y → (v ≡ w) × (x ≡ y)

  abbrev pub NoneAt : List ℕ → Type 0
  NoneAt rest = (v : A) (more : List ℕ) → Fits v → rest ≡ text v ++ more → ⊥

  -- up to where none stands, there is one list
  pub one_reading : HasOneReading → (vs ws : List A) (x y : List ℕ) → All Fits vs → All Fits ws → flat_map text vs ++ x ≡ flat_map text ws ++ y → NoneAt x → NoneAt y → (vs ≡ ws) × (x ≡ y)
  one_reading one [] [] x y f g e no_x no_y = (refl, e)
  one_reading one [] (w ∷ ws) x y f g e no_x no_y = absurd (no_x w (flat_map text ws ++ y) (All-head Fits w ws g) (e ∙ append_assoc (text w) (flat_map text ws) y))
  one_reading one (v ∷ vs) [] x y f g e no_x no_y = absurd (no_y v (flat_map text vs ++ x) (All-head Fits v vs f) (sym e ∙ append_assoc (text v) (flat_map text vs) x))
  one_reading one (v ∷ vs) (w ∷ ws) x y f g e no_x no_y =
      let first = one v w (flat_map text vs ++ x) (flat_map text ws ++ y) (All-head Fits v vs f) (All-head Fits w ws g) (sym (append_assoc (text v) (flat_map text vs) x) ∙ e ∙ append_assoc (text w) (flat_map text ws) y) in
      let others = one_reading one vs ws x y (All-tail Fits v vs f) (All-tail Fits w ws g) first.1 no_x no_y in
      let head = first.0 in
      let tail = others.0 in
      (cc, others.1)

  -- no list goes past where none stands
  pub not_past : HasOneReading → (vs ws : List A) (x y : List ℕ) → All Fits vs → All Fits ws → flat_map text vs ++ x ≡ flat_map text ws ++ y → NoneAt y → length (flat_map text vs) ≤ length (flat_map text ws)
  not_past one [] ws x y f g e no_y = omega arith
  not_past one (v ∷ vs) [] x y f g e no_y = absurd (no_y v (flat_map text vs ++ x) (All-head Fits v vs f) (sym e ∙ append_assoc (text v) (flat_map text vs) x))
  not_past one (v ∷ vs) (w ∷ ws) x y f g e no_y =
      let first = one v w (flat_map text vs ++ x) (flat_map text ws ++ y) (All-head Fits v vs f) (All-head Fits w ws g) (sym (append_assoc (text v) (flat_map text vs) x) ∙ e ∙ append_assoc (text w) (flat_map text ws) y) in
      let others = not_past one vs ws x y (All-tail Fits v vs f) (All-tail Fits w ws g) first.1 no_y in
      let same : length (text v) ≡ length (text w) = ap (λ (u : A). length (text u)) first.0 in
      simp length-append (omega arith)

pub part_nonempty : (p : SubRecord) (more : List ℕ) → [] ≡ bytes_of_part p ++ more → ⊥
part_nonempty p more e =
    let none : [] ≡ field 1 (part_tag p) ++ (part_body p ++ more) = e ∙ ap (λ (t : List ℕ). t ++ more) (part_text p) in
    absurd cc

pub one_part : HasOneReading bytes_of_part IsPart
one_part p q x y f g e =
    let got : SubRecord × List ℕ = (p, x) in
    let want : SubRecord × List ℕ = (q, y) in
    let same : got ≡ want = ok_is got want (sym (part_format.again p x f) ∙ ap part_at e ∙ part_format.again q y g) in
    (ap (λ (r : SubRecord × List ℕ). r.0) same, ap (λ (r : SubRecord × List ℕ). r.1) same)

pub parts_end : (ps qs : List SubRecord) (x y : List ℕ) → All IsPart ps → All IsPart qs → bytes_of_parts ps ++ x ≡ bytes_of_parts qs ++ y → NoPart x → NoPart y → (ps ≡ qs) × (x ≡ y)
parts_end = one_reading bytes_of_part IsPart one_part
