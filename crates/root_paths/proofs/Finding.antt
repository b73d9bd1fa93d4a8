-- What a search through numbers in order finds.
use Rattle.std.proofs.Common.{◌≡◌, ℕ, zero, suc, ◌+◌, ◌<◌, ◌≤◌, Bool, true, false, cond, ◌&&◌, ◌||◌, inl, inr, nat_eq, min, Option, None, Some, refl, ap, sym, ◌∙◌, arith, subst, add-zero}
use Rattle.std.specs.List.{find, range_with_len}
use Rattle.std.specs.Option.{option_or}
use Rattle.std.proofs.lemmas.Bool.{both_ways, cases_eq, cases_lt, ne_eqb, eq-eqb}
use Rattle.root_paths.specs.Paths.{is_at}

-- a number passes, and none before it does
pub record Finds (p : ℕ → Bool) (a n k : ℕ) : Type 0 where
  pub passes : p k ≡ true
  pub above : a ≤ k
  pub below : k < a + n
  pub first : (j : ℕ) → a ≤ j → j < k → p j ≡ false

pub find-some : (p : ℕ → Bool) (n a k : ℕ) → find p (range_with_len a n) ≡ Some k → Finds p a n k
find-some p zero a k is = absurd cc
find-some p (suc n) a k is = by (find-some p n (a + 1) k) (p a) refl is
  where
    by : (find p (range_with_len (a + 1) n) ≡ Some k → Finds p (a + 1) n k) → (b : Bool) → p a ≡ b → cond b (Some a) (find p (range_with_len (a + 1) n)) ≡ Some k → Finds p a (suc n) k
    by rest true t found =
        let e : a ≡ k = cc in
        record { passes = subst (λ x. p x ≡ true) e t; above = omega arith; below = omega arith; first = λ j ge lt. absurd (omega arith) }
    by rest false t found =
        let r : Finds p (a + 1) n k = rest found in
        record {
          passes = r.passes;
          above = omega (arith, r.above);
          below = omega (arith, r.below);
          first = λ j ge lt. elim (cases_eq a j) [ inl e ↦ subst (λ x. p x ≡ false) e t | inr ne ↦ r.first j (omega arith) lt ];
        }

pub find-is : (p : ℕ → Bool) (n a k : ℕ) → Finds p a n k → find p (range_with_len a n) ≡ Some k
find-is p zero a k f = absurd (omega (arith, f.above, f.below))
find-is p (suc n) a k f = by (find-is p n (a + 1) k) (p a) refl
  where
    by : (Finds p (a + 1) n k → find p (range_with_len (a + 1) n) ≡ Some k) → (b : Bool) → p a ≡ b → cond b (Some a) (find p (range_with_len (a + 1) n)) ≡ Some k
    by rest true t =
        elim (cases_eq a k) [
          | inl e ↦ ap (λ (x : ℕ). Some x) e
          | inr ne ↦ (let lt : a < k = omega (arith, f.above) in absurd (both_ways (p a) (f.first a (omega arith) lt) t))
        ]
    by rest false t =
        elim (cases_eq a k) [
          | inl e ↦ absurd (both_ways (p a) t (subst (λ x. p x ≡ true) (sym e) f.passes))
          | inr ne ↦ rest (record {
            passes = f.passes;
            above = omega (arith, f.above);
            below = omega (arith, f.below);
            first = λ j ge lt. f.first j (omega arith) lt;
          })
        ]

pub find-none : (p : ℕ → Bool) (n a : ℕ) → find p (range_with_len a n) ≡ None → (k : ℕ) → a ≤ k → k < a + n → p k ≡ false
find-none p zero a is k ge lt = absurd (omega arith)
find-none p (suc n) a is k ge lt = by (find-none p n (a + 1)) (p a) refl is
  where
    by : (find p (range_with_len (a + 1) n) ≡ None → (j : ℕ) → a + 1 ≤ j → j < (a + 1) + n → p j ≡ false) → (b : Bool) → p a ≡ b → cond b (Some a) (find p (range_with_len (a + 1) n)) ≡ None → p k ≡ false
    by rest true t found = absurd cc
    by rest false t found = elim (cases_eq a k) [ inl e ↦ subst (λ x. p x ≡ false) e t | inr ne ↦ rest found k (omega arith) (omega arith) ]

pub find-none-is : (p : ℕ → Bool) (n a : ℕ) → ((k : ℕ) → a ≤ k → k < a + n → p k ≡ false) → find p (range_with_len a n) ≡ None
find-none-is p zero a all = refl
find-none-is p (suc n) a all =
    ap (λ b. cond b (Some a) (find p (range_with_len (a + 1) n))) (all a (omega arith) (omega arith))
    ∙ find-none-is p n (a + 1) (λ k ge lt. all k (omega arith) (omega arith))

-- tests that agree find the same
pub find-same : (p q : ℕ → Bool) (n a : ℕ) → ((k : ℕ) → a ≤ k → k < a + n → p k ≡ q k) → find p (range_with_len a n) ≡ find q (range_with_len a n)
find-same p q zero a same = refl
find-same p q (suc n) a same =
    ap (λ b. cond b (Some a) (find p (range_with_len (a + 1) n))) (same a (omega arith) (omega arith))
    ∙ ap (λ (o : Option ℕ). cond (q a) (Some a) o) (find-same p q n (a + 1) (λ k ge lt. same k (omega arith) (omega arith)))

-- where one passes, one that isn't greater is found
pub find-upto : (p : ℕ → Bool) (n a k : ℕ) → p k ≡ true → a ≤ k → k < a + n → (e : ℕ) × ((find p (range_with_len a n) ≡ Some e) × (e ≤ k))
find-upto p n a k t ge lt = by (find p (range_with_len a n)) refl
  where
    by : (o : Option ℕ) → find p (range_with_len a n) ≡ o → (e : ℕ) × ((find p (range_with_len a n) ≡ Some e) × (e ≤ k))
    by None is = absurd (both_ways (p k) (find-none p n a is k ge lt) t)
    by (Some e) is = (
      e,
      (
        is,
        elim (cases_lt k e) [
          | inl less ↦ absurd (both_ways (p k) ((find-some p n a e is).first k ge less) t)
          | inr more ↦ more
        ],
      ),
    )

-- one number more
pub find-more : (p : ℕ → Bool) (n a : ℕ) → find p (range_with_len a (suc n)) ≡ option_or (find p (range_with_len a n)) (cond (p (a + n)) (Some (a + n)) None)
find-more p zero a = ap (λ x. cond (p x) (Some x) None) (sym (add-zero a))
find-more p (suc n) a = by (find-more p n (a + 1)) (p a)
  where
    next : (a + 1) + n ≡ a + suc n
    next = omega arith

    by : find p (range_with_len (a + 1) (suc n)) ≡ option_or (find p (range_with_len (a + 1) n)) (cond (p ((a + 1) + n)) (Some ((a + 1) + n)) None)
        → (b : Bool) → cond b (Some a) (find p (range_with_len (a + 1) (suc n))) ≡ option_or (cond b (Some a) (find p (range_with_len (a + 1) n))) (cond (p (a + suc n)) (Some (a + suc n)) None)
    by rest true = refl
    by rest false = rest ∙ ap (λ x. option_or (find p (range_with_len (a + 1) n)) (cond (p x) (Some x) None)) next

-- whether a number is what is found depends on the numbers up to it
pub is_at-found : (p : ℕ → Bool) (n e : ℕ) → e < n → is_at e (find p (range_with_len 0 n)) ≡ is_at e (find p (range_with_len 0 (suc e)))
is_at-found p n e lt = by (find p (range_with_len 0 n)) refl (find p (range_with_len 0 (suc e))) refl
  where
    longer : (j : ℕ) → find p (range_with_len 0 (suc e)) ≡ Some j → find p (range_with_len 0 n) ≡ Some j
    longer j is =
        let f = find-some p (suc e) 0 j is in
        find-is p n 0 j (record { passes = f.passes; above = f.above; below = omega (arith, f.below); first = f.first })

    by : (o : Option ℕ) → find p (range_with_len 0 n) ≡ o → (u : Option ℕ) → find p (range_with_len 0 (suc e)) ≡ u → is_at e o ≡ is_at e u
    by o is (Some j) found = ap (is_at e) (sym is ∙ longer j found)
    by None is None found = refl
    by (Some k) is None found =
        ne_eqb e k (λ same. both_ways (p k) (find-none p (suc e) 0 found k (omega arith) (omega arith)) (find-some p n 0 k is).passes)

-- the less of a number and another one, where there is one
abbrev pub least : ℕ → Option ℕ → ℕ
least x None = x
least x (Some y) = min x y

least-above : (a : ℕ) (p : ℕ → Bool) (n : ℕ) → least a (find p (range_with_len (a + 1) n)) ≡ a
least-above a p n = by (find p (range_with_len (a + 1) n)) refl
  where
    by : (o : Option ℕ) → find p (range_with_len (a + 1) n) ≡ o → least a o ≡ a
    by None is = refl
    by (Some k) is = let f = find-some p n (a + 1) k is in let ge : a + 1 ≤ k = f.above in omega arith

with-here : (a x : ℕ) (pa isx qa qx : Bool) (o u : Option ℕ) → a ≡ x → isx ≡ true → qa ≡ qx → o ≡ u → least a u ≡ a
    → cond ((pa || isx) && qa) (Some a) o ≡ cond qx (Some (least x (cond (pa && qa) (Some a) u))) (cond (pa && qa) (Some a) u)
with-here a x pa false qa qx o u e is same rest low = absurd cc
with-here a x pa true true false o u e is same rest low = absurd cc
with-here a x pa true false true o u e is same rest low = absurd cc
with-here a x true true true true o u e is same rest low = let m : a ≡ min x a = omega arith in ap (λ (n : ℕ). Some n) m
with-here a x false true true true o u e is same rest low = ap (λ (n : ℕ). Some n) (sym low ∙ ap (λ n. least n u) e)
with-here a x true true false false o u e is same rest low = rest
with-here a x false true false false o u e is same rest low = rest

with-there : (a x : ℕ) (pa isx qa qx : Bool) (o u : Option ℕ) → a < x → isx ≡ false → o ≡ cond qx (Some (least x u)) u
    → cond ((pa || isx) && qa) (Some a) o ≡ cond qx (Some (least x (cond (pa && qa) (Some a) u))) (cond (pa && qa) (Some a) u)
with-there a x pa true qa qx o u lt is rest = absurd cc
with-there a x true false true true o u lt is rest = let m : a ≡ min x a = omega arith in ap (λ (n : ℕ). Some n) m
with-there a x true false true false o u lt is rest = refl
with-there a x true false false qx o u lt is rest = rest
with-there a x false false qa qx o u lt is rest = rest

or-false : (b c : Bool) → c ≡ false → (b || c) ≡ b
or-false true c is = refl
or-false false c is = is

-- one number more passes a part of the test
pub find-with : (p q : ℕ → Bool) (x n a : ℕ) → a ≤ x → x < a + n
    → find (λ m. (p m || nat_eq m x) && q m) (range_with_len a n) ≡ cond (q x) (Some (least x (find (λ m. p m && q m) (range_with_len a n)))) (find (λ m. p m && q m) (range_with_len a n))
find-with p q x zero a ge lt = absurd (omega arith)
find-with p q x (suc n) a ge lt =
    elim (cases_eq a x) [
      | inl e ↦ with-here a x (p a) (nat_eq a x) (q a) (q x) (find (λ m. (p m || nat_eq m x) && q m) (range_with_len (a + 1) n)) (find (λ m. p m && q m) (range_with_len (a + 1) n))
          e (eq-eqb a x e) (ap q e)
          (find-same (λ m. (p m || nat_eq m x) && q m) (λ m. p m && q m) n (a + 1) (λ k above below. ap (λ b. b && q k) (or-false (p k) (nat_eq k x) (ne_eqb k x (λ same. omega arith)))))
          (least-above a (λ m. p m && q m) n)
      | inr ne ↦ (let less : a < x = omega arith in
          with-there a x (p a) (nat_eq a x) (q a) (q x) (find (λ m. (p m || nat_eq m x) && q m) (range_with_len (a + 1) n)) (find (λ m. p m && q m) (range_with_len (a + 1) n))
          less (ne_eqb a x ne) (find-with p q x n (a + 1) (omega arith) (omega arith)))
    ]
