-- The marks of roots.
use Rattle.std.proofs.Common.{◌≡◌, ◌≢◌, ℕ, ◌+◌, ◌<◌, ◌≤◌, ◌||◌, Bool, true, false, nat_eq, List, [], ◌∷◌, ◌++◌, length, get_or, take, drop, None, Some, refl, ap, sym, ◌∙◌, arith, subst}
use Rattle.std.specs.Prelude.{position}
use Rattle.std.specs.List.{list_any, slice_set}
use Rattle.std.proofs.lemmas.List.Folds.{list_any_at}
use Rattle.std.proofs.lemmas.List.{append-nil, take_all}
use Rattle.std.proofs.Math.ListN.{drop_of_length-le}
use Rattle.std.proofs.lemmas.Grind.{common_steps}
use Rattle.hprof_records.specs.declared.sub_record.SubRecord.{SubRecord}
use Rattle.dump_graph.specs.Firsts.{IsApart}
use Rattle.dump_graph.specs.Graph.{roots_it}
use Rattle.dump_graph.specs.Tables.{root_id}
use Rattle.dump_graph.proofs.Nodes.{roots-none, roots-some, take-next}
use Rattle.dump_graph.proofs.Positions.{equal_from, position-at, position-none}

or-false : (a : Bool) → a ≡ (a || false)
or-false true = refl
or-false false = refl

list_any-push : {X : Type 0} (f : X → Bool) (xs : List X) (x : X) → list_any f (xs ++ x ∷ []) ≡ (list_any f xs || f x)
list_any-push f [] x = by (f x)
  where
    by : (b : Bool) → (b || false) ≡ (false || b)
    by true = refl
    by false = refl
list_any-push f (y ∷ xs) x = by (f y) (list_any-push f xs x)
  where
    by : (b : Bool) → list_any f (xs ++ x ∷ []) ≡ (list_any f xs || f x) → (b || list_any f (xs ++ x ∷ [])) ≡ ((b || list_any f xs) || f x)
    by true rest = refl
    by false rest = rest

or-true : (a : Bool) → true ≡ (a || true)
or-true true = refl
or-true false = refl

-- a part that tells no root marks none
pub marks-none : (roots : List Bool) (ids : List ℕ) (p : SubRecord) (k : ℕ) → root_id p ≡ None → get_or roots k false ≡ (get_or roots k false || roots_it (get_or ids k 0) p)
marks-none roots ids p k none = or-false (get_or roots k false) ∙ ap (λ b. get_or roots k false || b) (sym (roots-none (get_or ids k 0) p none))

-- nor does one that tells a root which is no node
pub marks-unknown : (roots : List Bool) (ids : List ℕ) (p : SubRecord) (r k : ℕ) → root_id p ≡ Some r → position (nat_eq r) ids ≡ None → k < length ids
    → get_or roots k false ≡ (get_or roots k false || roots_it (get_or ids k 0) p)
marks-unknown roots ids p r k some none within = or-false (get_or roots k false) ∙ ap (λ b. get_or roots k false || b) (sym (roots-some (get_or ids k 0) r p some ∙ by (nat_eq r (get_or ids k 0)) refl))
  where
    by : (b : Bool) → nat_eq r (get_or ids k 0) ≡ b → nat_eq r (get_or ids k 0) ≡ false
    by false is = is
    by true is = let found : list_any (nat_eq r) ids ≡ true = list_any_at (nat_eq r) ids k 0 within is in absurd (cc (found, position-none (nat_eq r) ids none))

-- one that tells a root marks its node alone
pub marks-known : (roots : List Bool) (ids : List ℕ) (p : SubRecord) (r number k : ℕ) → root_id p ≡ Some r → position (nat_eq r) ids ≡ Some number → IsApart ids → k < length ids
    → length roots ≡ length ids → get_or (slice_set roots number true) k false ≡ (get_or roots k false || roots_it (get_or ids k 0) p)
marks-known roots ids p r number k some found apart within same =
    by (nat_eq r (get_or ids k 0)) refl ∙ ap (λ b. get_or roots k false || b) (sym (roots-some (get_or ids k 0) r p some))
  where
    at : (number < length ids) × (nat_eq r (get_or ids number 0) ≡ true)
    at = position-at (nat_eq r) ids number 0 found

    by : (b : Bool) → nat_eq r (get_or ids k 0) ≡ b → get_or (slice_set roots number true) k false ≡ (get_or roots k false || nat_eq r (get_or ids k 0))
    by true is =
        let here : position (nat_eq r) ids ≡ Some k = subst (λ z. position (nat_eq z) ids ≡ Some k) (sym (equal_from r (get_or ids k 0) is)) (apart k within) in
        let there : number ≡ k = cc (here, found) in
        let marked : get_or (slice_set roots number true) k false ≡ true = grind (arith, common_steps, there, same, within) in
        marked ∙ (or-true (get_or roots k false) ∙ ap (λ b. get_or roots k false || b) (sym is))
    by false is =
        let other : number ≢ k = λ same. absurd (cc (is, subst (λ z. nat_eq r (get_or ids z 0) ≡ true) same at.1)) in
        let kept : get_or (slice_set roots number true) k false ≡ get_or roots k false = grind (arith, common_steps, other) in
        kept ∙ (or-false (get_or roots k false) ∙ ap (λ b. get_or roots k false || b) (sym is))

-- a list that is written back whole
pub written-back : {X : Type 0} (new old : List X) (n : ℕ) → length new ≡ length old → n ≡ length old → take n (new ++ drop (length new) old) ≡ new
written-back new old n same is =
    let le : length old ≤ length new = omega arith in
    ap (λ rest. take n (new ++ rest)) (drop_of_length-le old {i = length new} le) ∙ (ap (take n) (append-nil new) ∙ take_all n new (omega arith))

-- one part more is gone over
pub marks-more : (ids : List ℕ) (ps : List SubRecord) (i : ℕ) (p : SubRecord) (k : ℕ) (was is : Bool) → i < length ps → p ≡ get_or ps i p → was ≡ list_any (roots_it (get_or ids k 0)) (take i ps)
    → is ≡ (was || roots_it (get_or ids k 0) p) → is ≡ list_any (roots_it (get_or ids k 0)) (take (i + 1) ps)
marks-more ids ps i p k was is within part had more =
    more ∙ (ap (λ b. b || roots_it (get_or ids k 0) p) had ∙ sym (ap (list_any (roots_it (get_or ids k 0))) (take-next ps i p within part) ∙ list_any-push (roots_it (get_or ids k 0)) (take i ps) p))
