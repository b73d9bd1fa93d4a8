-- Reading parts one after the other, up to the end of a segment or to the first fault.
use Rattle.std.proofs.Common.{◌≡◌, ◌≢◌, ℕ, suc, ◌+◌, ◌-◌, ◌<◌, Bool, true, false, cond, List, [], ◌∷◌, ◌++◌, length, Ok, Err, refl, sym, ap, subst, ◌∙◌, append_assoc, arith, All}
use Rattle.std.specs.Prelude.{nat_eq}
use Rattle.std.proofs.lemmas.List.{append-nil, length-append}
use Rattle.std.proofs.lemmas.Bool.{eqb-true, eqb-false}
use Rattle.std.proofs.lemmas.List.Concat.{flat_map-append}
use Rattle.std.proofs.lemmas.List.Elements.{All-push}
use Rattle.hprof_records.specs.Fields.{field}
use Rattle.hprof_read.specs.declared.fields.Stop.{Stop}
use Rattle.hprof_read.specs.declared.fields.Stop.TheVariants.{Short, Refused}
use Rattle.hprof_read.specs.declared.fields.Halt.{Halt}
use Rattle.hprof_read.specs.declared.fields.Halt.TheVariants as halts
use Rattle.hprof_read.specs.Reading.{Fails, IsWithin}
use Rattle.hprof_read.proofs.Formats.{AreBytes, AreBytes-right}
use Rattle.hprof_wide.specs.declared.ids.IdSize.{IdSize}
use Rattle.hprof_wide.specs.declared.wide_sub.WideSub.{WideSub}
use Rattle.hprof_wide.specs.declared.wide_error.WideError.TheVariants as errors
use Rattle.hprof_wide.specs.Parts.{wide_part_bytes, wide_parts_bytes}
use Rattle.hprof_wide.specs.Formed.{IsWidePart}
use Rattle.hprof_wide.specs.Reading.{width_of, part_at, part_fault}
use Rattle.hprof_wide.specs.Fault.{NoWidePart, BeginsWidePart, BeginsNoWidePart, WidePartFault}
use Rattle.hprof_wide.proofs.PartsByTag.{part_format, part_text, part_tag, part_body}

module _ (z : IdSize) where
  abbrev w : ℕ
  w = width_of z

  -- one more part was read
  pub record OneMore (body : List ℕ) (parts : List WideSub) (rest after : List ℕ) : Type 0 where
    pub whole : body ≡ wide_parts_bytes w parts ++ after
    pub formed : All (IsWidePart w) parts
    pub shorter : length after < length rest

  pub part_read : (body : List ℕ) (parts : List WideSub) (rest : List ℕ) (p : WideSub) (after : List ℕ) → AreBytes body → body ≡ wide_parts_bytes w parts ++ rest → All (IsWidePart w) parts → part_at z rest ≡ Ok (p, after)
      → OneMore body (parts ++ p ∷ []) rest after
  part_read body parts rest p after fits whole formed e =
      let fits' : AreBytes rest = AreBytes-right (wide_parts_bytes w parts) rest (subst AreBytes whole fits) in
      let one = (part_format z).takes rest p after fits' e in
      let joined : wide_parts_bytes w (parts ++ p ∷ []) ≡ wide_parts_bytes w parts ++ wide_part_bytes w p =
      flat_map-append (wide_part_bytes w) parts (p ∷ []) ∙ ap (λ (t : List ℕ). wide_parts_bytes w parts ++ t) (append-nil (wide_part_bytes w p)) in
      let here : rest ≡ field 1 (part_tag z p) ++ (part_body z p ++ after) = one.0 ∙ ap (λ (t : List ℕ). t ++ after) (part_text z p) in
      let long : length rest ≡ suc (length (part_body z p ++ after)) = ap length here in
      record {
        whole = whole ∙ ap (λ (t : List ℕ). wide_parts_bytes w parts ++ t) one.0 ∙ sym (append_assoc (wide_parts_bytes w parts) (wide_part_bytes w p) after) ∙ ap (λ (t : List ℕ). t ++ after) (sym joined);
        formed = All-push (IsWidePart w) parts p formed one.1;
        shorter = omega (arith, length-append (part_body z p) after);
      }

  -- where reading a part fails no part stands
  no_part : (rest : List ℕ) (s : Stop) → part_at z rest ≡ Err s → NoWidePart w rest
  no_part rest s e p more fit whole =
      let read : part_at z rest ≡ Ok (p, more) = ap (part_at z) whole ∙ (part_format z).again p more fit in
      let both = sym read ∙ e in
      absurd cc

  -- what is refused begins no part
  refused_begins : (front : List ℕ) (code : ℕ) → ((rest : List ℕ) → part_at z (front ++ code ∷ rest) ≡ Err (Refused (suc (length rest)))) → BeginsNoWidePart w (front ++ code ∷ [])
  refused_begins front code refused p more fit whole =
      let read : part_at z (wide_part_bytes w p) ≡ Ok (p, []) = ap (part_at z) (sym (append-nil (wide_part_bytes w p))) ∙ (part_format z).again p [] fit in
      let cut : part_at z (wide_part_bytes w p) ≡ Err (Refused (suc (length more))) = ap (part_at z) (whole ∙ append_assoc front (code ∷ []) more) ∙ refused more in
      let both = sym read ∙ cut in
      absurd cc

  -- a refused byte is among those that are left
  pub within : (halt : Halt) (rest : List ℕ) → AreBytes rest → Fails halt (part_at z rest) → IsWithin halt (length rest)
  within halts.OutOfMemory rest fits e = tt
  within (halts.Stopped Short) rest fits e = tt
  within (halts.Stopped (Refused left)) rest fits e =
      let s = (part_format z).bad rest left fits e in
      omega (arith, s.place, ap length s.whole, length-append s.front (s.code ∷ s.after))

  front_by : (front : List ℕ) (code : ℕ) (after : List ℕ) (left q end : ℕ) (rest : List ℕ) (same : Bool) → rest ≡ front ++ code ∷ after → left ≡ suc (length after) → nat_eq left (length rest) ≡ same → q + length rest ≡ end
      → BeginsWidePart w front → BeginsNoWidePart w (front ++ code ∷ []) → WidePartFault w (cond same (errors.UnknownTag (end - length rest)) (errors.BadType (end - left))) rest q
  front_by [] code after left q end rest true whole place test sums begins none = (omega arith, (code, after, (whole, none)))
  front_by [] code after left q end rest false whole place test sums begins none =
      let differ : left ≡ length rest → ⊥ = eqb-false _ _ test in
      absurd (differ (place ∙ sym (ap length whole)))
  front_by (b ∷ front) code after left q end rest true whole place test sums begins none =
      let same : left ≡ length rest = eqb-true _ _ test in
      let long : length rest ≡ suc (length (front ++ code ∷ after)) = ap length whole in
      absurd (omega (arith, length-append front (code ∷ after)))
  front_by (b ∷ front) code after left q end rest false whole place test sums begins none =
      let long : length rest ≡ suc (length (front ++ code ∷ after)) = ap length whole in
      let there : end - left ≡ q + suc (length front) = omega (arith, length-append front (code ∷ after)) in
      let some : b ∷ front ≢ [] = λ e. absurd cc in
      (b ∷ front, code, after, (there, some, whole, begins, none))

  -- what is wrong where a part can't be read
  pub fault_of_part : (halt : Halt) (rest : List ℕ) (q end : ℕ) → AreBytes rest → Fails halt (part_at z rest) → q + length rest ≡ end → part_fault halt (length rest) end ≢ errors.OutOfMemory
      → NoWidePart w rest × WidePartFault w (part_fault halt (length rest) end) rest q
  fault_of_part halts.OutOfMemory rest q end fits e sums other = absurd (other refl)
  fault_of_part (halts.Stopped Short) rest q end fits e sums other = (no_part rest Short e, (omega arith, (part_format z).short rest fits e))
  fault_of_part (halts.Stopped (Refused left)) rest q end fits e sums other =
      let s = (part_format z).bad rest left fits e in
      (no_part rest (Refused left) e, front_by s.front s.code s.after left q end rest (nat_eq left (length rest)) s.whole s.place refl sums s.before (refused_begins s.front s.code s.refused))
