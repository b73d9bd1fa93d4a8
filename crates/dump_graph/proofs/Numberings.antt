-- Numberings with one more identifier.
use Rattle.std.proofs.Common.{◌≡◌, ℕ, ◌+◌, ◌<◌, ◌≤◌, Bool, true, false, cond, inl, inr, nat_eq, List, [], ◌∷◌, ◌++◌, length, get_or, take, Option, None, Some, refl, ap, sym, ◌∙◌, arith, length-append, subst}
use Rattle.std.specs.Prelude.{position, All}
use Rattle.std.specs.Option.{option_or}
use Rattle.std.specs.Ordering.{is_eq, nat_cmp}
use Rattle.std.specs.Cmp.{unsigned_tied}
use Rattle.std.specs.BTreeMap.{BTreeMap, get}
use Rattle.std.proofs.lemmas.Bool.{cases_lt, ne_eqb}
use Rattle.std.proofs.lemmas.List.{get_or_append_left, get_or-take, length-take-le}
use Rattle.std.proofs.lemmas.List.Elements.{All-append, All-cons}
use Rattle.std.proofs.lemmas.List.Folds.{list_any_none}
use Rattle.std.proofs.Math.Seq.{get_or-append_seam}
use Rattle.dump_graph.specs.Firsts.{IsApart}
use Rattle.dump_graph.specs.Numbering.{IsNumbering}
use Rattle.dump_graph.proofs.Positions.{any-none, apart-push, equal_from, nat_eq-sym, position-push}

option_or-none : {X : Type 0} (o : Option X) → option_or o None ≡ o
option_or-none None = refl
option_or-none (Some x) = refl

-- a new identifier is found at the end, and the others where they were
pub numbered-push : (ids : List ℕ) (k q : ℕ) → position (nat_eq k) ids ≡ None → cond (is_eq (nat_cmp k q)) (Some (length ids)) (position (nat_eq q) ids) ≡ position (nat_eq q) (ids ++ k ∷ [])
numbered-push ids k q new =
    ap (λ b. cond b (Some (length ids)) (position (nat_eq q) ids)) (unsigned_tied k q ∙ nat_eq-sym k q) ∙ (by (nat_eq q k) refl ∙ sym (position-push (nat_eq q) k ids))
  where
    by : (b : Bool) → nat_eq q k ≡ b → cond b (Some (length ids)) (position (nat_eq q) ids) ≡ option_or (position (nat_eq q) ids) (cond b (Some (length ids)) None)
    by true is =
        let none : position (nat_eq q) ids ≡ None = subst (λ z. position (nat_eq z) ids ≡ None) (sym (equal_from q k is)) new in
        sym (ap (λ o. option_or o (Some (length ids))) none)
    by false is = sym (option_or-none (position (nat_eq q) ids))

-- a place is that of its identifier
pub place-is : (ids : List ℕ) (n id : ℕ) → IsApart ids → n < length ids → get_or ids n 0 ≡ id → Some n ≡ position (nat_eq id) ids
place-is ids n id apart within is = sym (subst (λ q. position (nat_eq q) ids ≡ Some n) is (apart n within))

-- what is greater than all is new
pub new-above : (ids : List ℕ) (id : ℕ) → All (λ q. q < id) ids → position (nat_eq id) ids ≡ None
new-above ids id all = any-none (nat_eq id) ids (list_any_none (nat_eq id) ids (λ k d within. let less : get_or ids k d < id = all k d within in ne_eqb id (get_or ids k d) (λ same. omega (arith, same, less))))

module _ (ids : List ℕ) (limit : ℕ) (rising places : List ℕ) (others : BTreeMap ℕ ℕ) (is : IsNumbering ids limit rising places others) where
  -- what a search finds, or doesn't
  pub searched-at : (id i : ℕ) → i < length rising → get_or rising i 0 ≡ id → Some (get_or places i 0) ≡ position (nat_eq id) ids
  searched-at id i within same = let r = is.placed i within in place-is ids (get_or places i 0) id is.apart r.0 (r.1 ∙ same)

  pub searched-past : (id i : ℕ) → ((k : ℕ) → k < i → get_or rising k 0 < id) → ((k : ℕ) → i ≤ k → k < length rising → id < get_or rising k 0) → get nat_cmp others id ≡ position (nat_eq id) ids
  searched-past id i less more =
      is.rest id (λ k within same. elim (cases_lt k i) [ inl lt ↦ (let r = less k lt in omega (arith, r, same)) | inr ge ↦ (let r = more k ge within in omega (arith, r, same)) ])

  -- other places behind those that count
  pub numbering-places : (more : List ℕ) → IsNumbering ids limit rising (take (length rising) places ++ more) others
  numbering-places more =
      let few = length-take-le (length rising) places is.enough in
      record {
        apart = is.apart;
        below = is.below;
        rises = is.rises;
        enough = omega (arith, few, length-append (take (length rising) places) more);
        placed = λ k within.
            let same : get_or (take (length rising) places ++ more) k 0 ≡ get_or places k 0 = get_or_append_left (take (length rising) places) more 0 k (omega (arith, few, within)) ∙ get_or-take (length rising) places k 0 within in
            subst (λ n. (n < length ids) × (get_or ids n 0 ≡ get_or rising k 0)) (sym same) (is.placed k within);
        rest = is.rest;
      }

  -- an identifier that is greater than all
  pub numbering-rising : (id : ℕ) → All (λ q. q < id) ids → IsNumbering (ids ++ id ∷ []) (id + 1) (rising ++ id ∷ []) (take (length rising) places ++ length ids ∷ []) others
  numbering-rising id all =
      let few = length-take-le (length rising) places is.enough in
      let new = new-above ids id all in
      let last : get_or (rising ++ id ∷ []) (length rising) 0 ≡ id = get_or-append_seam rising id [] 0 in
      record {
        apart = apart-push ids id is.apart new;
        below = All-append (λ q. q < id + 1) ids (id ∷ []) (λ k d within. let r = all k d within in omega (arith, r)) (All-cons (λ q. q < id + 1) id [] (omega arith) (λ k d within. absurd (omega (arith, within))));
        rises = λ i j le within. rises-on i j le (omega (arith, within, length-append rising (id ∷ [])));
        enough = omega (arith, few, length-append rising (id ∷ []), length-append (take (length rising) places) (length ids ∷ []));
        placed = λ k within. placed-on few k (omega (arith, within, length-append rising (id ∷ [])));
        rest = λ q none.
            let other : nat_eq q id ≡ false = ne_eqb q id (λ same. none (length rising) (omega (arith, length-append rising (id ∷ []))) (last ∙ sym same)) in
            is.rest q (λ k within same. none k (omega (arith, within, length-append rising (id ∷ []))) (get_or_append_left rising (id ∷ []) 0 k within ∙ same))
            ∙ (sym (option_or-none (position (nat_eq q) ids)) ∙ (ap (λ b. option_or (position (nat_eq q) ids) (cond b (Some (length ids)) None)) (sym other) ∙ sym (position-push (nat_eq q) id ids)));
      }
    where
      less : (k : ℕ) → k < length rising → get_or rising k 0 < id
      less k within = let r = is.placed k within in let s = all (get_or places k 0) 0 r.0 in omega (arith, r.1, s)

      rises-on : (i j : ℕ) → i ≤ j → j < length rising + 1 → get_or (rising ++ id ∷ []) i 0 ≤ get_or (rising ++ id ∷ []) j 0
      rises-on i j le within =
          elim (cases_lt j (length rising)) [
            | inl lt ↦ (let one = get_or_append_left rising (id ∷ []) 0 i (omega (arith, lt, le)) in let two = get_or_append_left rising (id ∷ []) 0 j lt in let r = is.rises i j le lt in omega (arith, one, two, r))
            | inr ge ↦ (let at : length rising ≡ j = omega (arith, within, ge) in
                let end : get_or (rising ++ id ∷ []) j 0 ≡ id = subst (λ n. get_or (rising ++ id ∷ []) n 0 ≡ id) at (get_or-append_seam rising id [] 0) in
                let r = last-of i (omega (arith, at, le)) in omega (arith, end, r))
          ]
        where
          last-of : (i : ℕ) → i ≤ length rising → get_or (rising ++ id ∷ []) i 0 ≤ id
          last-of i le =
              elim (cases_lt i (length rising)) [
                | inl lt ↦ (let one = get_or_append_left rising (id ∷ []) 0 i lt in let r = less i lt in omega (arith, one, r))
                | inr ge ↦ (let at : length rising ≡ i = omega (arith, le, ge) in let end : get_or (rising ++ id ∷ []) i 0 ≡ id = subst (λ n. get_or (rising ++ id ∷ []) n 0 ≡ id) at (get_or-append_seam rising id [] 0) in omega (arith, end))
              ]

      placed-on : length (take (length rising) places) ≡ length rising → (k : ℕ) → k < length rising + 1
          → (get_or (take (length rising) places ++ length ids ∷ []) k 0 < length (ids ++ id ∷ [])) × (get_or (ids ++ id ∷ []) (get_or (take (length rising) places ++ length ids ∷ []) k 0) 0 ≡ get_or (rising ++ id ∷ []) k 0)
      placed-on few k within =
          elim (cases_lt k (length rising)) [
            | inl lt ↦ (let same : get_or (take (length rising) places ++ length ids ∷ []) k 0 ≡ get_or places k 0 = get_or_append_left (take (length rising) places) (length ids ∷ []) 0 k (omega (arith, few, lt)) ∙ get_or-take (length rising) places k 0 lt in
                let r = is.placed k lt in
                subst (λ n. (n < length (ids ++ id ∷ [])) × (get_or (ids ++ id ∷ []) n 0 ≡ get_or (rising ++ id ∷ []) k 0)) (sym same)
                (omega (arith, r.0, length-append ids (id ∷ [])), get_or_append_left ids (id ∷ []) 0 (get_or places k 0) r.0 ∙ (r.1 ∙ sym (get_or_append_left rising (id ∷ []) 0 k lt))))
            | inr ge ↦ (let at : length (take (length rising) places) ≡ k = omega (arith, few, within, ge) in
                let same : get_or (take (length rising) places ++ length ids ∷ []) k 0 ≡ length ids = subst (λ n. get_or (take (length rising) places ++ length ids ∷ []) n 0 ≡ length ids) at (get_or-append_seam (take (length rising) places) (length ids) [] 0) in
                let end : get_or (rising ++ id ∷ []) k 0 ≡ id = subst (λ n. get_or (rising ++ id ∷ []) n 0 ≡ id) (sym few ∙ at) (get_or-append_seam rising id [] 0) in
                subst (λ n. (n < length (ids ++ id ∷ [])) × (get_or (ids ++ id ∷ []) n 0 ≡ get_or (rising ++ id ∷ []) k 0)) (sym same)
                (omega (arith, length-append ids (id ∷ [])), get_or-append_seam ids id [] 0 ∙ sym end))
          ]

  -- another one that is new
  pub numbering-other : (id : ℕ) (others' : BTreeMap ℕ ℕ) → position (nat_eq id) ids ≡ None → id < limit
      → ((q : ℕ) → get nat_cmp others' q ≡ cond (is_eq (nat_cmp id q)) (Some (length ids)) (get nat_cmp others q)) → IsNumbering (ids ++ id ∷ []) limit rising places others'
  numbering-other id others' new under updated = record {
    apart = apart-push ids id is.apart new;
    below = All-append (λ q. q < limit) ids (id ∷ []) is.below (All-cons (λ q. q < limit) id [] under (λ k d within. absurd (omega (arith, within))));
    rises = is.rises;
    enough = is.enough;
    placed = λ k within. let r = is.placed k within in (omega (arith, r.0, length-append ids (id ∷ [])), get_or_append_left ids (id ∷ []) 0 (get_or places k 0) r.0 ∙ r.1);
    rest = λ q none. updated q ∙ (ap (cond (is_eq (nat_cmp id q)) (Some (length ids))) (is.rest q none) ∙ numbered-push ids id q new);
  }
