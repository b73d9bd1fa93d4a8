-- The gathering of an instance's types, class by class upwards.
use Rattle.std.proofs.Common.{◌≡◌, ℕ, ◌+◌, ◌-◌, ◌<◌, ◌≤◌, false, cond, nat_eq, List, [], ◌++◌, length, Option, None, Some, refl, ap, sym, ◌∙◌, arith, subst, append_assoc}
use Rattle.std.specs.Prelude.{sum_by}
use Rattle.std.proofs.lemmas.List.Sums.{sum_by-append}
use Rattle.std.proofs.lemmas.Grind.{common_steps}
use Rattle.hprof_wide.specs.Parts.{wide_value_bytes}
use Rattle.dump_graph.specs.Classes.{Class}
use Rattle.dump_graph.specs.Climbing.{climb, gathered, own_codes}
use Rattle.dump_graph.specs.Reading.{IsLeft}
use Rattle.dump_graph.specs.declared.climb.Up.TheVariants.{Top}
use Rattle.dump_graph.proofs.ReadAll.{left-next}
use Rattle.hprof_convert.specs.Layouts.{if_of_size}

-- these of all types were gathered, and so many bytes are left for the others
abbrev pub IsGathered : List Class → ℕ → List ℕ → ℕ → Option ℕ → ℕ → List ℕ → ℕ → Type 0
IsGathered known w all size at fuel codes left =
    (more : List ℕ) × (IsLeft known at fuel more × (all ≡ codes ++ more) × (left + sum_by (wide_value_bytes w) codes ≡ size))

pub gather-begins : (known : List Class) (w dumps fuel n size : ℕ) (codes : List ℕ) → dumps ≤ fuel → n < length known → (climb known dumps n).next ≡ Top → codes ≡ []
    → IsGathered known w (gathered known dumps n) size (Some n) fuel codes size
gather-begins known w dumps fuel n size codes few within top none =
    (gathered known dumps n, ((dumps, (few, within, top, refl)), ap (λ (l : List ℕ). l ++ gathered known dumps n) (sym none), omega (arith, ap (sum_by (wide_value_bytes w)) none)))

-- the fields of a class more were gathered
pub gather-on : (known : List Class) (w dumps fuel n size left after fuel' : ℕ) (at more : Option ℕ) (all codes own codes' : List ℕ)
    → IsGathered known w all size at fuel codes left → at ≡ Some n → fuel ≤ dumps → own ≡ own_codes known n → more ≡ (climb known dumps n).fielded
    → after + sum_by (wide_value_bytes w) own ≡ left → codes' ≡ codes ++ own → fuel' ≡ fuel - 1
    → IsGathered known w all size more fuel' codes' after
gather-on known w dumps fuel n size left after fuel' at more all codes own codes' (rest, (is, split, sizes)) at_n few own_is next fits also less =
    let here : IsLeft known (Some n) fuel rest = subst (λ o. IsLeft known o fuel rest) at_n is in
    let onward = left-next known n fuel dumps rest here few in
    let sums = sum_by-append (wide_value_bytes w) codes own in (
      onward.0,
      (
        subst (λ k. IsLeft known more k onward.0) (sym less) (subst (λ o. IsLeft known o (fuel - 1) onward.0) (sym next) onward.1.1),
        split ∙ (ap (λ (l : List ℕ). codes ++ l) (onward.1.0 ∙ ap (λ (l : List ℕ). l ++ onward.0) (sym own_is)) ∙ (sym (append_assoc codes own onward.0) ∙ ap (λ (l : List ℕ). l ++ onward.0) (sym also))),
        ap (λ (l : List ℕ). after + sum_by (wide_value_bytes w) l) also ∙ omega (arith, sums, fits, sizes),
      ),
    )

-- there are too few bytes for the fields of a class
pub gather-short : (known : List Class) (w dumps fuel n size left : ℕ) (at : Option ℕ) (all codes own : List ℕ)
    → IsGathered known w all size at fuel codes left → at ≡ Some n → fuel ≤ dumps → own ≡ own_codes known n → left < sum_by (wide_value_bytes w) own
    → None ≡ if_of_size w size all
gather-short known w dumps fuel n size left at all codes own (rest, (is, split, sizes)) at_n few own_is short =
    let here : IsLeft known (Some n) fuel rest = subst (λ o. IsLeft known o fuel rest) at_n is in
    let onward = left-next known n fuel dumps rest here few in
    let f = wide_value_bytes w in
    let whole : all ≡ codes ++ (own ++ onward.0) = split ∙ ap (λ (l : List ℕ). codes ++ l) (onward.1.0 ∙ ap (λ (l : List ℕ). l ++ onward.0) (sym own_is)) in
    let total : sum_by f all ≡ sum_by f codes + (sum_by f own + sum_by f onward.0) =
    ap (sum_by f) whole ∙ (sum_by-append f codes (own ++ onward.0) ∙ ap (λ k. sum_by f codes + k) (sum_by-append f own onward.0)) in
    not-size w size all (omega (arith, total, sizes, short))
  where
    not-size : (w size : ℕ) (all : List ℕ) → size < sum_by (wide_value_bytes w) all → None ≡ if_of_size w size all
    not-size w size all more = let no : nat_eq (sum_by (wide_value_bytes w) all) size ≡ false = grind (arith, common_steps, more) in sym (ap (λ b. cond b (Some all) None) no)
