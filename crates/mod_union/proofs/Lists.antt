-- Lists by rising number.
use Rattle.std.proofs.Common.{◌≡◌, ◌⊎◌, ◌∙◌, ℕ, zero, suc, ◌+◌, ◌<◌, ◌≤◌, Bool, true, false, List, [], ◌∷◌, ◌++◌, length, get_or, refl, sym, ap, subst, inl, inr, arith}
use Rattle.std.specs.Prelude.{nat_eq, ◌||◌}
use Rattle.std.specs.List.{list_any}
use Rattle.std.proofs.lemmas.Bool.{cases_lt, true≢false, eq-eqb, eqb-true, or_cases, or_left}
use Rattle.class_layout.specs.Placing.{IsIn}
use Rattle.mod_union.specs.Lists.{AreRising, ListsBelow}

module _ {X : Type 0} (key : X → ℕ) where
  -- what a list with one more has
  pub in-more : (xs : List X) (x y : X) → IsIn y (xs ++ x ∷ []) → IsIn y xs ⊎ (x ≡ y)
  in-more [] x y (inl same) = inr same
  in-more [] x y (inr none) = absurd none
  in-more (z ∷ xs) x y (inl same) = inl (inl same)
  in-more (z ∷ xs) x y (inr there) = elim (in-more xs x y there) [ inl h ↦ inl (inr h) | inr e ↦ inr e ]

  pub in-first : (xs : List X) (x y : X) → IsIn y xs → IsIn y (xs ++ x ∷ [])
  in-first [] x y none = absurd none
  in-first (z ∷ xs) x y (inl same) = inl same
  in-first (z ∷ xs) x y (inr there) = inr (in-first xs x y there)

  pub in-last : (xs : List X) (x : X) → IsIn x (xs ++ x ∷ [])
  in-last [] x = inl refl
  in-last (z ∷ xs) x = inr (in-last xs x)

  pub rising-more : (low : ℕ) (xs : List X) (x : X) → AreRising key low xs → ((y : X) → IsIn y xs → key y < key x) → low ≤ key x → AreRising key low (xs ++ x ∷ [])
  rising-more low [] x rising below from = (from, tt)
  rising-more low (y ∷ xs) x rising below from =
      (rising.0, rising-more (key y + 1) xs x rising.1 (λ z there. below z (inr there)) (let here = below y (inl refl) in omega (arith, here)))

  -- each stands from the bound on
  pub rising-from : (low : ℕ) (xs : List X) (y : X) → AreRising key low xs → IsIn y xs → low ≤ key y
  rising-from low [] y rising none = absurd none
  rising-from low (x ∷ xs) y rising (inl same) = subst (λ z. low ≤ key z) same rising.0
  rising-from low (x ∷ xs) y rising (inr there) = let rest = rising-from (key x + 1) xs y rising.1 there in omega (arith, rest, rising.0)

  -- elements by their indices
  pub rising-least : (low : ℕ) (d : X) (xs : List X) (j : ℕ) → AreRising key low xs → j < length xs → low ≤ key (get_or xs j d)
  rising-least low d [] j rising within = absurd (omega arith)
  rising-least low d (x ∷ xs) zero rising within = rising.0
  rising-least low d (x ∷ xs) (suc j) rising within = let more = rising-least (key x + 1) d xs j rising.1 (omega arith) in omega (arith, more, rising.0)

  pub rising-step : (low : ℕ) (d : X) (xs : List X) (i j : ℕ) → AreRising key low xs → i < j → j < length xs → key (get_or xs i d) < key (get_or xs j d)
  rising-step low d [] i j rising before within = absurd (omega arith)
  rising-step low d (x ∷ xs) i zero rising before within = absurd (omega arith)
  rising-step low d (x ∷ xs) zero (suc j) rising before within = let more = rising-least (key x + 1) d xs j rising.1 (omega arith) in omega (arith, more)
  rising-step low d (x ∷ xs) (suc i) (suc j) rising before within = rising-step (key x + 1) d xs i j rising.1 (omega arith) (omega arith)

  -- lists by rising number with the same members are one
  pub rising-one : (low : ℕ) (xs ys : List X) → AreRising key low xs → AreRising key low ys → ((z : X) → IsIn z xs → IsIn z ys) → ((z : X) → IsIn z ys → IsIn z xs) → xs ≡ ys
  rising-one low [] [] f g to from = refl
  rising-one low [] (y ∷ ys) f g to from = absurd (from y (inl refl))
  rising-one low (x ∷ xs) [] f g to from = absurd (to x (inl refl))
  rising-one low (x ∷ xs) (y ∷ ys) f g to from =
      let same : x ≡ y = elim (to x (inl refl)) [
        | inl e ↦ sym e
        | inr later ↦ elim (from y (inl refl)) [
          | inl e ↦ e
          | inr after ↦ absurd (let one = rising-from (key y + 1) ys x g.1 later in let two = rising-from (key x + 1) xs y f.1 after in omega (arith, one, two))
        ]
      ] in
      let next : key x ≡ key y = ap key same in
      let rest : xs ≡ ys = rising-one (key x + 1) xs ys f.1 (subst (λ n. AreRising key (n + 1) ys) (sym next) g.1)
      (λ z there. elim (to z (inr there)) [
        | inl e ↦ absurd (let after = rising-from (key x + 1) xs z f.1 there in let here = ap key e in omega (arith, after, here, next))
        | inr it ↦ it
      ])
      (λ z there. elim (from z (inr there)) [
        | inl e ↦ absurd (let after = rising-from (key y + 1) ys z g.1 there in let here = ap key e in omega (arith, after, here, next))
        | inr it ↦ it
      ]) in
      ap (λ z. z ∷ xs) same ∙ ap (λ zs. y ∷ zs) rest

module _ {X : Type 0} (key : X → ℕ) (P : X → Type 0) where
  pub lists-none : ListsBelow key P 0 []
  lists-none = record { rising = tt; sound = λ x none. absurd none; below = λ x none. absurd none; complete = λ x p low. absurd (omega arith) }

  -- up to a further bound there are no more
  pub lists-wider : (a b : ℕ) (xs : List X) → ListsBelow key P a xs → a ≤ b → ((x : X) → P x → a ≤ key x → key x < b → ⊥) → ListsBelow key P b xs
  lists-wider a b xs h le none = record {
    rising = h.rising;
    sound = h.sound;
    below = λ x there. let less = h.below x there in omega (arith, less);
    complete = λ x p low. elim (cases_lt (key x) a) [ inl before ↦ h.complete x p before | inr behind ↦ absurd (none x p behind low) ];
  }

  -- and there is one more at the bound
  pub lists-more : (xs : List X) (x : X) → ListsBelow key P (key x) xs → P x → ((y : X) → P y → key y ≡ key x → x ≡ y) → ListsBelow key P (key x + 1) (xs ++ x ∷ [])
  lists-more xs x h p one = record {
    rising = rising-more key 0 xs x h.rising h.below (omega arith);
    sound = λ y there. elim (in-more key xs x y there) [ inl before ↦ h.sound y before | inr e ↦ subst P e p ];
    below = λ y there. elim (in-more key xs x y there) [ inl before ↦ (let less = h.below y before in omega (arith, less)) | inr e ↦ (let same = ap key e in omega (arith, same)) ];
    complete = λ y q low. elim (cases_lt (key y) (key x)) [
      | inl before ↦ in-first key xs x y (h.complete y q before)
      | inr behind ↦ subst (λ z. IsIn z (xs ++ x ∷ [])) (one y q (omega arith)) (in-last key xs x)
    ];
  }

-- what holds of one test holds of another that agrees below the bound
pub lists-agree : {X : Type 0} (key : X → ℕ) (P Q : X → Type 0) (bound : ℕ) (xs : List X) → ((x : X) → key x < bound → P x → Q x) → ((x : X) → key x < bound → Q x → P x)
    → ListsBelow key P bound xs → ListsBelow key Q bound xs
lists-agree key P Q bound xs to from h = record {
  rising = h.rising;
  sound = λ x there. to x (h.below x there) (h.sound x there);
  below = h.below;
  complete = λ x q low. h.complete x (from x low q) low;
}

-- a number is a member by test exactly where it is one
pub any-in : (xs : List ℕ) (n : ℕ) → list_any (nat_eq n) xs ≡ true → IsIn n xs
any-in [] n is = absurd (true≢false (sym is))
any-in (x ∷ xs) n is = elim (or_cases (nat_eq n x) (list_any (nat_eq n) xs) is) [ inl here ↦ inl (sym (eqb-true n x here)) | inr there ↦ inr (any-in xs n there) ]

pub in-any : (xs : List ℕ) (n : ℕ) → IsIn n xs → list_any (nat_eq n) xs ≡ true
in-any [] n none = absurd none
in-any (x ∷ xs) n (inl same) = or_left (nat_eq n x) (list_any (nat_eq n) xs) (eq-eqb n x (sym same))
in-any (x ∷ xs) n (inr there) = ap (λ b. nat_eq n x || b) (in-any xs n there) ∙ or-true (nat_eq n x)
  where
    or-true : (b : Bool) → (b || true) ≡ true
    or-true true = refl
    or-true false = refl
