-- From level to level, until no node is at the last one.
use Rattle.std.proofs.Common.{◌≡◌, ℕ, zero, suc, ◌+◌, ◌<◌, ◌≤◌, Bool, true, false, cond, ◌&&◌, inl, inr, nat_eq, List, [], ◌∷◌, ◌++◌, map, length, get_or, Option, None, Some, is_some, is_none, refl, ap, sym, ◌∙◌, arith, subst}
use Rattle.std.specs.Prelude.{count_by, filter, All}
use Rattle.std.specs.List.{list_any, range_with_len}
use Rattle.std.specs.Option.{option_or}
use Rattle.std.proofs.lemmas.Bool.{and_from, and_parts, both_ways, cases_lt, eq-eqb, ne_eqb}
use Rattle.std.proofs.lemmas.List.Folds.{list_any_at}
use Rattle.std.proofs.lemmas.List.FromFn.{get_or-map-range_with_len, length-map-range_with_len, map-range_with_len_more}
use Rattle.std.proofs.lemmas.List.Sums.{count_by-le-length, sum_by-cons}
use Rattle.dump_graph.specs.Graph.{Node, LeadsWithin}
use Rattle.root_paths.specs.Paths.{numbers, is_root, has_edge, ends, ends_with, dist, is_at, before}
use Rattle.root_paths.specs.Levels.{AreReached, IsBelow, MadeLevel, ReachedTo, before_of, dist_within, first_of, level_of, reach_by, root_reach}
use Rattle.root_paths.specs.declared.levels.Reach.{Reach}
use Rattle.root_paths.proofs.Finding.{find-none, find-same, find-some}
use Rattle.root_paths.proofs.Ends.{any-filter-range, at-dist, ends-root, ends-within, last-leads, led-from-last, within-finds, within-is-dist, within-more}

past : (xs : List (Option Reach)) (i : ℕ) → length xs ≤ i → get_or xs i None ≡ None
past [] i le = refl
past (x ∷ xs) zero le = absurd (omega arith)
past (x ∷ xs) (suc i) le = past xs i (omega arith)

-- what is reached is a node
reached-within : (xs : List (Option Reach)) (i : ℕ) (r : Reach) → get_or xs i None ≡ Some r → i < length xs
reached-within xs i r is =
    elim (cases_lt i (length xs)) [
      | inl lt ↦ lt
      | inr ge ↦ (let none : Some r ≡ None = sym is ∙ past xs i ge in absurd cc)
    ]

pub reached-below : (g : List Node) (d : ℕ) (reached : List (Option Reach)) (from : List ℕ) → ReachedTo g d reached from → IsBelow (suc d) reached
reached-below g d reached from so n r is =
    let within : n < length g = omega (arith, reached-within reached n r is, so.as_many) in
    let f = within-finds g d n r.level (sym (so.levels n within) ∙ ap level_of is) in
    omega (arith, f.below)

-- the nodes at the limit are nodes
pub last-within : (g : List Node) (d : ℕ) (reached : List (Option Reach)) (from : List ℕ) → ReachedTo g d reached from → All (λ m. m < length g) from
last-within g d reached from so k e lt =
    by (get_or reached (get_or from k e) None) refl (sym (so.last (get_or from k e)) ∙ list_any_at (nat_eq (get_or from k e)) from k e lt (eq-eqb (get_or from k e) (get_or from k e) refl))
  where
    by : (o : Option Reach) → get_or reached (get_or from k e) None ≡ o → is_at d (level_of o) ≡ true → get_or from k e < length g
    by None is at = absurd cc
    by (Some r) is at = omega (arith, reached-within reached (get_or from k e) r is, so.as_many)

-- where there are some at the limit, it is below the number of nodes
pub limit-below : (g : List Node) (d : ℕ) (reached : List (Option Reach)) (from : List ℕ) → ReachedTo g d reached from → d + length from ≤ length g
limit-below g d reached from so = omega (arith, so.few, so.as_many, count_by-le-length is_some reached)

-- one root more, or none
filter-more : (p : ℕ → Bool) (n a : ℕ) → filter p (range_with_len a (suc n)) ≡ filter p (range_with_len a n) ++ cond (p (a + n)) ((a + n) ∷ []) []
filter-more p zero a = let e : a + 0 ≡ a = omega arith in ap (λ x. cond (p x) (x ∷ []) []) (sym e)
filter-more p (suc n) a = by (filter-more p n (a + 1)) (p a)
  where
    next : (a + 1) + n ≡ a + suc n
    next = omega arith

    by : filter p (range_with_len (a + 1) (suc n)) ≡ filter p (range_with_len (a + 1) n) ++ cond (p ((a + 1) + n)) (((a + 1) + n) ∷ []) []
        → (b : Bool) → cond b (a ∷ filter p (range_with_len (a + 1) (suc n))) (filter p (range_with_len (a + 1) (suc n))) ≡ cond b (a ∷ filter p (range_with_len (a + 1) n)) (filter p (range_with_len (a + 1) n)) ++ cond (p (a + suc n)) ((a + suc n) ∷ []) []
    by rest true = ap (λ (l : List ℕ). a ∷ l) (rest ∙ ap (λ x. filter p (range_with_len (a + 1) n) ++ cond (p x) (x ∷ []) []) next)
    by rest false = rest ∙ ap (λ x. filter p (range_with_len (a + 1) n) ++ cond (p x) (x ∷ []) []) next

pub roots-more : (g : List Node) (i : ℕ) (b : Bool) → is_root g i ≡ b → filter (is_root g) (range_with_len 0 (i + 1)) ≡ filter (is_root g) (range_with_len 0 i) ++ cond b (i ∷ []) []
roots-more g i b is =
    ap (λ n. filter (is_root g) (range_with_len 0 n)) one ∙ (filter-more (is_root g) i 0
    ∙ (ap (λ n. filter (is_root g) (range_with_len 0 i) ++ cond (is_root g n) (n ∷ []) []) none ∙ ap (λ t. filter (is_root g) (range_with_len 0 i) ++ cond t (i ∷ []) []) is))
  where
    one : i + 1 ≡ suc i
    one = omega arith

    none : 0 + i ≡ i
    none = omega arith

pub reaches-more : (g : List Node) (i : ℕ) (b : Bool) → is_root g i ≡ b → map (root_reach g) (range_with_len 0 (i + 1)) ≡ map (root_reach g) (range_with_len 0 i) ++ cond b (Some (record { level = 0; before = i })) None ∷ []
reaches-more g i b is = map-range_with_len_more (root_reach g) 0 i i (omega arith) ∙ ap (λ t. map (root_reach g) (range_with_len 0 i) ++ cond t (Some (record { level = 0; before = i })) None ∷ []) is

-- the roots
root-some : (g : List Node) (xs : List ℕ) → length (filter (is_root g) xs) ≡ count_by (is_some {T = Reach}) (map (root_reach g) xs)
root-some g [] = refl
root-some g (x ∷ xs) = by (root-some g xs) (is_root g x) ∙ sym (sum_by-cons (λ (o : Option Reach). cond (is_some o) 1 0) (root_reach g x) (map (root_reach g) xs))
  where
    by : length (filter (is_root g) xs) ≡ count_by (is_some {T = Reach}) (map (root_reach g) xs) → (b : Bool)
        → length (cond b (x ∷ filter (is_root g) xs) (filter (is_root g) xs)) ≡ cond (is_some {T = Reach} (cond b (Some (record { level = 0; before = x })) None)) 1 0 + count_by (is_some {T = Reach}) (map (root_reach g) xs)
    by rest true = omega (arith, rest)
    by rest false = omega (arith, rest)

pub roots-reached : (g : List Node) → ReachedTo g 0 (map (root_reach g) (numbers g)) (ends g 0)
roots-reached g = record {
  as_many = length-map-range_with_len (root_reach g) 0 (length g);
  levels = levels;
  befores = λ n k lt is. absurd (omega (arith, (within-finds g 0 n (suc k) is).below));
  last = last;
  few = omega (arith, root-some g (numbers g));
}
  where
    at : (n : ℕ) → n < length g → get_or (map (root_reach g) (numbers g)) n None ≡ root_reach g n
    at n lt = get_or-map-range_with_len (root_reach g) 0 (length g) n n None lt (omega arith)

    level-by : (n : ℕ) (b : Bool) → level_of (cond b (Some (record { level = 0; before = n })) None) ≡ cond b (Some 0) None
    level-by n true = refl
    level-by n false = refl

    levels : (n : ℕ) → n < length g → level_of (get_or (map (root_reach g) (numbers g)) n None) ≡ dist_within g 0 n
    levels n lt = ap level_of (at n lt) ∙ (level-by n (is_root g n) ∙ ap (λ b. cond b (Some 0) None) (sym (ends-root g n lt)))

    last-by : (n : ℕ) (b : Bool) → b ≡ is_at 0 (level_of (cond b (Some (record { level = 0; before = n })) None))
    last-by n true = refl
    last-by n false = refl

    outside : (n : ℕ) → length g ≤ n → (b : Bool) → ends_with g n 0 ≡ b → ends_with g n 0 ≡ false
    outside n ge false e = e
    outside n ge true e = absurd (omega (arith, (any-filter-range (is_root g) n (length g) 0 e).0))

    last : (n : ℕ) → list_any (nat_eq n) (ends g 0) ≡ is_at 0 (level_of (get_or (map (root_reach g) (numbers g)) n None))
    last n =
        elim (cases_lt n (length g)) [
          | inl lt ↦ ends-root g n lt ∙ (last-by n (is_root g n) ∙ ap (λ o. is_at 0 (level_of o)) (sym (at n lt)))
          | inr ge ↦ outside n ge (ends_with g n 0) refl ∙ ap (λ o. is_at 0 (level_of o)) (sym (past (map (root_reach g) (numbers g)) n (omega (arith, length-map-range_with_len (root_reach g) 0 (length g)))))
        ]

-- a level more
module _ (g : List Node) (d : ℕ) (reached : List (Option Reach)) (from : List ℕ) (new : List (Option Reach)) (next : List ℕ) (lead : LeadsWithin g) (some : 0 < length from) (so : ReachedTo g d reached from) (made : MadeLevel g (suc d) from reached new next) where
  limit : d < length g
  limit = omega (arith, limit-below g d reached from so)

  at-last : (m : ℕ) → m < length g → list_any (nat_eq m) from ≡ is_at d (dist_within g d m)
  at-last m lt = so.last m ∙ ap (is_at d) (so.levels m lt)

  -- the first of them that leads to a node is the first node before it
  first-before : (n : ℕ) → first_of g from n ≡ before g d n
  first-before n =
      find-same (λ m. list_any (nat_eq m) from && has_edge g m n) (λ m. is_at d (dist g m) && has_edge g m n) (length g) 0
      (λ m ge lt. ap (λ b. b && has_edge g m n) (at-last m (omega arith) ∙ sym (at-dist g d m limit)))

  -- one of them leads to a node that isn't within the limit exactly where a path of one edge more ends with it
  first-ends : (n : ℕ) → dist_within g d n ≡ None → is_some (first_of g from n) ≡ ends_with g n (suc d)
  first-ends n none = by (first_of g from n) refl (ends_with g n (suc d)) refl
    where
      by : (o : Option ℕ) → first_of g from n ≡ o → (b : Bool) → ends_with g n (suc d) ≡ b → is_some o ≡ b
      by None is false e = refl
      by (Some m) is true e = refl
      by (Some m) is false e =
          let f = find-some (λ m. list_any (nat_eq m) from && has_edge g m n) (length g) 0 m is in
          let both = and_parts (list_any (nat_eq m) from) (has_edge g m n) f.passes in
          absurd (both_ways (ends_with g n (suc d)) e (last-leads g d m n (sym (at-last m (omega (arith, f.below))) ∙ both.0) both.1))
      by None is true e =
          let r = led-from-last g d n none e in
          let lt = ends-within g lead d r.0 r.1.0 in
          absurd (both_ways (list_any (nat_eq r.0) from && has_edge g r.0 n) (find-none (λ m. list_any (nat_eq m) from && has_edge g m n) (length g) 0 is r.0 (omega arith) (omega (arith, lt)))
          (and_from (list_any (nat_eq r.0) from) (has_edge g r.0 n) (at-last r.0 lt ∙ r.1.1.0) r.1.1.1))

  level-by : (f : Option ℕ) → level_of (reach_by (suc d) f) ≡ cond (is_some f) (Some (suc d)) None
  level-by None = refl
  level-by (Some m) = refl

  levels : (n : ℕ) → n < length g → level_of (get_or new n None) ≡ dist_within g (suc d) n
  levels n lt = ap level_of (made.reached n) ∙ (by (get_or reached n None) (so.levels n lt) ∙ sym (within-more g d n))
    where
      by : (o : Option Reach) → level_of o ≡ dist_within g d n → level_of (option_or o (reach_by (suc d) (first_of g from n))) ≡ option_or (dist_within g d n) (cond (ends_with g n (suc d)) (Some (suc d)) None)
      by (Some r) is = ap (λ (o : Option ℕ). option_or o (cond (ends_with g n (suc d)) (Some (suc d)) None)) is
      by None is =
          level-by (first_of g from n)
          ∙ (ap (λ (b : Bool). cond b (Some (suc d)) None) (first-ends n (sym is))
          ∙ ap (λ (o : Option ℕ). option_or o (cond (ends_with g n (suc d)) (Some (suc d)) None)) is)

  befores : (n k : ℕ) → n < length g → dist_within g (suc d) n ≡ Some (suc k) → before_of (get_or new n None) ≡ before g k n
  befores n k lt at = ap before_of (made.reached n) ∙ by (get_or reached n None) refl (so.levels n lt)
    where
      is-d : (b : Bool) → cond b (Some (suc d)) None ≡ Some (suc k) → d ≡ k
      is-d true e = cc
      is-d false e = absurd cc

      before-by : (f : Option ℕ) → before_of (reach_by (suc d) f) ≡ f
      before-by None = refl
      before-by (Some m) = refl

      by : (o : Option Reach) → get_or reached n None ≡ o → level_of o ≡ dist_within g d n → before_of (option_or o (reach_by (suc d) (first_of g from n))) ≡ before g k n
      by (Some r) is level =
          let within : dist_within g d n ≡ Some (suc k) = sym level ∙ (ap (λ (o : Option ℕ). option_or o (cond (ends_with g n (suc d)) (Some (suc d)) None)) level ∙ (sym (within-more g d n) ∙ at)) in
          ap before_of (sym is) ∙ so.befores n k lt within
      by None is level =
          let same : d ≡ k = is-d (ends_with g n (suc d)) (ap (λ (o : Option ℕ). option_or o (cond (ends_with g n (suc d)) (Some (suc d)) None)) level ∙ (sym (within-more g d n) ∙ at)) in
          before-by (first_of g from n) ∙ (first-before n ∙ ap (λ j. before g j n) same)

  last : (n : ℕ) → list_any (nat_eq n) next ≡ is_at (suc d) (level_of (get_or new n None))
  last n = made.added n ∙ (by (get_or reached n None) refl (first_of g from n) ∙ ap (λ o. is_at (suc d) (level_of o)) (sym (made.reached n)))
    where
      by : (o : Option Reach) → get_or reached n None ≡ o → (f : Option ℕ) → (is_none o && is_some f) ≡ is_at (suc d) (level_of (option_or o (reach_by (suc d) f)))
      by (Some r) is f = sym (ne_eqb (suc d) r.level (λ same. omega (arith, reached-below g d reached from so n r is)))
      by None is None = refl
      by None is (Some m) = sym (eq-eqb (suc d) (suc d) refl)

  pub reached-more : ReachedTo g (suc d) new next
  reached-more = record {
    as_many = made.as_many ∙ so.as_many;
    levels = levels;
    befores = befores;
    last = last;
    few = omega (arith, so.few, made.counted, some);
  }

pub level-more : (g : List Node) (d level : ℕ) (reached : List (Option Reach)) (from : List ℕ) (new : List (Option Reach)) (next : List ℕ) → level ≡ d + 1 → LeadsWithin g → 0 < length from → ReachedTo g d reached from → MadeLevel g level from reached new next → ReachedTo g level new next
level-more g d level reached from new next is lead some so made =
    let e : suc d ≡ level = omega arith in
    subst (λ l. ReachedTo g l new next) e (reached-more g d reached from new next lead some so (subst (λ l. MadeLevel g l from reached new next) (sym e) made))

pub below-level : (g : List Node) (d level : ℕ) (reached : List (Option Reach)) (from : List ℕ) → level ≡ d + 1 → ReachedTo g d reached from → IsBelow level reached
below-level g d level reached from is so n r at = let lt = reached-below g d reached from so n r at in omega arith

-- no level more
pub all-reached : (g : List Node) (d : ℕ) (reached : List (Option Reach)) (from : List ℕ) → LeadsWithin g → length from ≡ 0 → ReachedTo g d reached from → AreReached g reached
all-reached g d reached from lead none so = record {
  as_many = so.as_many;
  levels = λ n lt. so.levels n lt ∙ same n;
  befores = λ n k lt at. so.befores n k lt (same n ∙ at);
}
  where
    empty : (xs : List ℕ) (n : ℕ) → length xs ≡ 0 → list_any (nat_eq n) xs ≡ false
    empty [] n e = refl
    empty (x ∷ xs) n e = absurd (omega arith)

    nowhere : (m : ℕ) → m < length g → is_at d (dist_within g d m) ≡ false
    nowhere m lt = ap (is_at d) (sym (so.levels m lt)) ∙ (sym (so.last m) ∙ empty from m none)

    same : (n : ℕ) → dist_within g d n ≡ dist g n
    same = within-is-dist g d lead (omega (arith, limit-below g d reached from so)) nowhere
