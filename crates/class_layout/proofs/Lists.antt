-- Lists and options: what std has no lemma on.
use Rattle.std.proofs.Common.{◌≡◌, ℕ, suc, zero, ◌+◌, ◌<◌, ◌≤◌, Bool, true, false, cond, not, ◌||◌, ◌⊎◌, true≢false, nat_lt, List, [], ◌∷◌, ◌++◌, Option, None, Some, IfSome, length, slice_get, position, refl, sym, ap, subst, ◌∙◌, inl, inr, arith, length-append}
use Rattle.std.specs.List.{list_any, position_or_len}
use Rattle.std.specs.Option.{option_map}
use Rattle.std.proofs.lemmas.Bool.{cases_lt, cases_Bool, ltb-true, ltb-false, lt-ltb, le-ltb}
use Rattle.std.proofs.lemmas.Option.{slice_get_within, same_Some, none-some}

pub option_map-none : {A B : Type 0} (f : A → B) (o : Option A) → option_map f o ≡ None → o ≡ None
option_map-none f None h = refl
option_map-none f (Some x) h = absurd (none-some (f x) (sym h))

option_map-suc : (o r : Option ℕ) (k : ℕ) → option_map suc o ≡ Some k → ((j : ℕ) → o ≡ Some j → r ≡ Some j) → option_map suc r ≡ Some k
option_map-suc None r k h f = absurd (none-some k h)
option_map-suc (Some j) r k h f = ap (option_map suc) (f j refl) ∙ h

module _ {X : Type 0} where
  -- what an option's clause says of the value in it, and a clause from what holds of that value
  pub at_some : (P : X → Type 0) (o : Option X) (x : X) → o ≡ Some x → IfSome o P → P x
  at_some P o x e h = let Q : Option X → Type 0 = λ r. IfSome r P in subst Q e h

  pub if_some : (P : X → Type 0) (o : Option X) → ((x : X) → o ≡ Some x → P x) → IfSome o P
  if_some P None f = tt
  if_some P (Some x) f = f x refl

  -- an element of the first list, and the one where the second list begins, and the further ones
  pub slice_get-append_left : (xs ys : List X) (k : ℕ) → k < length xs → slice_get (xs ++ ys) k ≡ slice_get xs k
  slice_get-append_left [] ys k h = absurd (omega arith)
  slice_get-append_left (x ∷ xs) ys zero h = refl
  slice_get-append_left (x ∷ xs) ys (suc k) h = slice_get-append_left xs ys k (omega arith)

  pub slice_get-append_right : (xs ys : List X) (k : ℕ) → slice_get (xs ++ ys) (length xs + k) ≡ slice_get ys k
  slice_get-append_right [] ys k = ap (slice_get ys) (omega arith)
  slice_get-append_right (x ∷ xs) ys k =
      let e : suc (length xs) + k ≡ suc (length xs + k) = omega arith in
      ap (slice_get (x ∷ (xs ++ ys))) e ∙ slice_get-append_right xs ys k

  pub slice_get-seam : (xs : List X) (y : X) (ys : List X) → slice_get (xs ++ y ∷ ys) (length xs) ≡ Some y
  slice_get-seam xs y ys =
      let e : length xs ≡ length xs + 0 = omega arith in
      ap (slice_get (xs ++ y ∷ ys)) e ∙ slice_get-append_right xs (y ∷ ys) 0

  -- a list falls into what stands before an element, the element, and the rest
  pub split_at : (xs : List X) (k : ℕ) (x : X) → slice_get xs k ≡ Some x → (front : List X) × (back : List X) × (xs ≡ front ++ x ∷ back) × (length front ≡ k)
  split_at [] k x e = absurd (cc)
  split_at (y ∷ xs) zero x e = let e' : y ≡ x = cc in ([], xs, ap (λ z. z ∷ xs) e', refl)
  split_at (y ∷ xs) (suc k) x e =
      let h = split_at xs k x e in
      (y ∷ h.0, h.1, ap (λ zs. y ∷ zs) h.2, ap suc h.3)

  -- an element of a longer list is one of the list, or the added one
  pub slice_get-push : (xs : List X) (y : X) (k : ℕ) (x : X) → slice_get (xs ++ y ∷ []) k ≡ Some x → ((k < length xs) × (slice_get xs k ≡ Some x)) ⊎ ((k ≡ length xs) × (y ≡ x))
  slice_get-push xs y k x e =
      elim (cases_lt k (length xs)) [
        | inl less ↦ inl (less, sym (slice_get-append_left xs (y ∷ []) k less) ∙ e)
        | inr more ↦
            let within : k < length (xs ++ y ∷ []) = slice_get_within (xs ++ y ∷ []) k x e in
            let same : k ≡ length xs = omega (arith, length-append xs (y ∷ [])) in
            inr (same, same_Some y x (sym (slice_get-seam xs y []) ∙ ap (slice_get (xs ++ y ∷ [])) (sym same) ∙ e))
      ]

  module _ (p : X → Bool) where
    -- how many elements pass a test
    abbrev pub how_many : List X → ℕ
    how_many [] = 0
    how_many (x ∷ xs) = cond (p x) 1 0 + how_many xs

    pub how_many-append : (xs ys : List X) → how_many (xs ++ ys) ≡ how_many xs + how_many ys
    how_many-append [] ys = omega arith
    how_many-append (x ∷ xs) ys = omega (arith, how_many-append xs ys)

    pub how_many-none : (xs : List X) → list_any p xs ≡ false → how_many xs ≡ 0
    how_many-none [] h = refl
    how_many-none (x ∷ xs) h = by (p x) refl h (how_many-none xs)
      where
        by : (b : Bool) → p x ≡ b → (b || list_any p xs) ≡ false → (list_any p xs ≡ false → how_many xs ≡ 0) → cond (p x) 1 0 + how_many xs ≡ 0
        by true e g rest = absurd (true≢false g)
        by false e g rest = ap (λ b. cond b 1 0 + how_many xs) e ∙ omega (arith, rest g)

    pub none-how_many : (xs : List X) → how_many xs ≡ 0 → list_any p xs ≡ false
    none-how_many [] h = refl
    none-how_many (x ∷ xs) h = by (p x) refl (none-how_many xs)
      where
        by : (b : Bool) → p x ≡ b → (how_many xs ≡ 0 → list_any p xs ≡ false) → (p x || list_any p xs) ≡ false
        by true e rest = let g : 1 + how_many xs ≡ 0 = ap (λ b. cond b 1 0 + how_many xs) (sym e) ∙ h in absurd (omega (arith, g))
        by false e rest =
            let g : 0 + how_many xs ≡ 0 = ap (λ b. cond b 1 0 + how_many xs) (sym e) ∙ h in
            ap (λ b. b || list_any p xs) e ∙ rest (omega (arith, g))

    -- `position` on a first element that passes, or that does not
    pub position-yes : (x : X) (xs : List X) → p x ≡ true → position p (x ∷ xs) ≡ Some 0
    position-yes x xs e =
        let z : position_or_len p (x ∷ xs) ≡ 0 = ap (λ b. cond (not b) (1 + position_or_len p xs) 0) e in
        ap (λ n. cond (nat_lt n (suc (length xs))) (Some n) None) z ∙ ap (λ b. cond b (Some 0) None) (lt-ltb 0 (suc (length xs)) (omega arith))

    pub position-no : (x : X) (xs : List X) → p x ≡ false → position p (x ∷ xs) ≡ option_map suc (position p xs)
    position-no x xs e =
        let z : position_or_len p (x ∷ xs) ≡ suc (position_or_len p xs) = ap (λ b. cond (not b) (1 + position_or_len p xs) 0) e ∙ omega arith in
        ap (λ n. cond (nat_lt n (suc (length xs))) (Some n) None) z ∙ by (nat_lt (position_or_len p xs) (length xs)) refl
      where
        by : (b : Bool) → nat_lt (position_or_len p xs) (length xs) ≡ b
            → cond (nat_lt (suc (position_or_len p xs)) (suc (length xs))) (Some (suc (position_or_len p xs))) None ≡ option_map suc (position p xs)
        by true h =
            let less : position_or_len p xs < length xs = ltb-true _ _ h in
            ap (λ b. cond b (Some (suc (position_or_len p xs))) None) (lt-ltb (suc (position_or_len p xs)) (suc (length xs)) (omega arith))
            ∙ sym (ap (λ b. option_map suc (cond b (Some (position_or_len p xs)) None)) h)
        by false h =
            let more : length xs ≤ position_or_len p xs = ltb-false _ _ h in
            ap (λ b. cond b (Some (suc (position_or_len p xs))) None) (le-ltb (suc (position_or_len p xs)) (suc (length xs)) (omega arith))
            ∙ sym (ap (λ b. option_map suc (cond b (Some (position_or_len p xs)) None)) h)

    pub position-append_left : (xs ys : List X) (k : ℕ) → position p xs ≡ Some k → position p (xs ++ ys) ≡ Some k
    position-append_left [] ys k h = absurd (none-some k h)
    position-append_left (x ∷ xs) ys k h =
        elim (cases_Bool (p x)) [
          | inl e ↦ position-yes x (xs ++ ys) e ∙ sym (position-yes x xs e) ∙ h
          | inr e ↦
              let f : option_map suc (position p xs) ≡ Some k = sym (position-no x xs e) ∙ h in
              position-no x (xs ++ ys) e ∙ option_map-suc (position p xs) (position p (xs ++ ys)) k f (position-append_left xs ys)
        ]

    -- where no element passes, an added one is the first
    pub position-append_new : (xs : List X) (y : X) (ys : List X) → position p xs ≡ None → p y ≡ true → position p (xs ++ y ∷ ys) ≡ Some (length xs)
    position-append_new [] y ys h e = position-yes y ys e
    position-append_new (x ∷ xs) y ys h e =
        elim (cases_Bool (p x)) [
          | inl yes' ↦ absurd (none-some 0 (sym h ∙ position-yes x xs yes'))
          | inr no' ↦
              let f : position p xs ≡ None = option_map-none suc (position p xs) (sym (position-no x xs no') ∙ h) in
              position-no x (xs ++ y ∷ ys) no' ∙ ap (option_map suc) (position-append_new xs y ys f e)
        ]

    pub how_many-position : (xs : List X) → position p xs ≡ None → how_many xs ≡ 0
    how_many-position [] h = refl
    how_many-position (x ∷ xs) h =
        elim (cases_Bool (p x)) [
          | inl yes' ↦ absurd (none-some 0 (sym h ∙ position-yes x xs yes'))
          | inr no' ↦
              let f : position p xs ≡ None = option_map-none suc (position p xs) (sym (position-no x xs no') ∙ h) in
              ap (λ b. cond b 1 0 + how_many xs) no' ∙ omega (arith, how_many-position xs f)
        ]
