-- Lists: what a filter, a search and a flat map find in their parts.
use Rattle.std.proofs.Common.{◌≡◌, ◌⊎◌, Bool, true, false, cond, List, [], ◌∷◌, ◌++◌, Some, None, map, filter, refl, sym, ap, ◌∙◌, subst, inl, inr}
use Rattle.std.proofs.lemmas.Bool.{cases_Bool}
use Rattle.std.specs.List.{find, flat_map}
use Rattle.class_layout.specs.Placing.{IsIn}
use Rattle.class_layout.proofs.Places.{IsIn-left, IsIn-right}

pub map-map : {X Y Z : Type 0} (f : Y → Z) (g : X → Y) (xs : List X) → map f (map g xs) ≡ map (λ x. f (g x)) xs
map-map f g [] = refl
map-map f g (x ∷ xs) = ap (λ l. f (g x) ∷ l) (map-map f g xs)

pub flat_map-map : {X Y A : Type 0} (f : Y → List A) (g : X → Y) (xs : List X) → flat_map f (map g xs) ≡ flat_map (λ x. f (g x)) xs
flat_map-map f g [] = refl
flat_map-map f g (x ∷ xs) = ap (λ l. f (g x) ++ l) (flat_map-map f g xs)

pub flat_map-none : {X A : Type 0} (f : X → List A) (xs : List X) → ((x : X) → f x ≡ []) → flat_map f xs ≡ []
flat_map-none f [] none = refl
flat_map-none f (x ∷ xs) none = ap (λ l. l ++ flat_map f xs) (none x) ∙ flat_map-none f xs none

module _ {X : Type 0} (p : X → Bool) where
  pub filter-yes : (x : X) (xs : List X) → p x ≡ true → filter p (x ∷ xs) ≡ x ∷ filter p xs
  filter-yes x xs e = ap (λ b. cond b (x ∷ filter p xs) (filter p xs)) e

  pub filter-no : (x : X) (xs : List X) → p x ≡ false → filter p (x ∷ xs) ≡ filter p xs
  filter-no x xs e = ap (λ b. cond b (x ∷ filter p xs) (filter p xs)) e

  pub find-yes : (x : X) (xs : List X) → p x ≡ true → find p (x ∷ xs) ≡ Some x
  find-yes x xs e = ap (λ b. cond b (Some x) (find p xs)) e

  pub find-no : (x : X) (xs : List X) → p x ≡ false → find p (x ∷ xs) ≡ find p xs
  find-no x xs e = ap (λ b. cond b (Some x) (find p xs)) e

  -- what passes first is found
  pub find-first : (xs : List X) (x : X) (ys : List X) → filter p xs ≡ x ∷ ys → find p xs ≡ Some x
  find-first [] x ys h = absurd (cc)
  find-first (y ∷ xs) x ys h =
      elim (cases_Bool (p y)) [
        | inl e ↦
            let g : y ∷ filter p xs ≡ x ∷ ys = sym (filter-yes y xs e) ∙ h in
            let same : y ≡ x = cc in
            find-yes y xs e ∙ ap (λ z. Some z) same
        | inr e ↦ find-no y xs e ∙ find-first xs x ys (sym (filter-no y xs e) ∙ h)
      ]

  -- where nothing passes, nothing is found
  pub find-none : (xs : List X) → filter p xs ≡ [] → find p xs ≡ None
  find-none [] h = refl
  find-none (y ∷ xs) h =
      elim (cases_Bool (p y)) [
        | inl e ↦
            let g : y ∷ filter p xs ≡ [] = sym (filter-yes y xs e) ∙ h in
            absurd (cc)
        | inr e ↦ find-no y xs e ∙ find-none xs (sym (filter-no y xs e) ∙ h)
      ]

  -- what is found in the first list, and what in the second
  pub find-left : (xs ys : List X) (x : X) → find p xs ≡ Some x → find p (xs ++ ys) ≡ Some x
  find-left [] ys x h = absurd (cc)
  find-left (y ∷ xs) ys x h =
      elim (cases_Bool (p y)) [
        | inl e ↦ find-yes y (xs ++ ys) e ∙ sym (find-yes y xs e) ∙ h
        | inr e ↦ find-no y (xs ++ ys) e ∙ find-left xs ys x (sym (find-no y xs e) ∙ h)
      ]

  pub find-right : (xs ys : List X) → find p xs ≡ None → find p (xs ++ ys) ≡ find p ys
  find-right [] ys h = refl
  find-right (y ∷ xs) ys h =
      elim (cases_Bool (p y)) [
        | inl e ↦
            let g : Some y ≡ None = sym (find-yes y xs e) ∙ h in
            absurd (cc)
        | inr e ↦ find-no y (xs ++ ys) e ∙ find-right xs ys (sym (find-no y xs e) ∙ h)
      ]

module _ {X : Type 0} where
  pub in-either : (x : X) (xs ys : List X) → IsIn x (xs ++ ys) → IsIn x xs ⊎ IsIn x ys
  in-either x [] ys h = inr h
  in-either x (y ∷ xs) ys (inl e) = inl (inl e)
  in-either x (y ∷ xs) ys (inr h) = elim (in-either x xs ys h) [ inl a ↦ inl (inr a) | inr b ↦ inr b ]

  pub in-flat : {Y : Type 0} (f : Y → List X) (ys : List Y) (y : Y) (x : X) → IsIn y ys → IsIn x (f y) → IsIn x (flat_map f ys)
  in-flat f [] y x there h = absurd there
  in-flat f (z ∷ ys) y x (inl same) h = IsIn-left x (f z) (flat_map f ys) (subst (λ (z : _). IsIn x (f z)) (sym same) h)
  in-flat f (z ∷ ys) y x (inr there) h = IsIn-right x (f z) (flat_map f ys) (in-flat f ys y x there h)

  pub flat-in : {Y : Type 0} (f : Y → List X) (ys : List Y) (x : X) → IsIn x (flat_map f ys) → (y : Y) × IsIn y ys × IsIn x (f y)
  flat-in f [] x h = absurd h
  flat-in f (y ∷ ys) x h =
      elim (in-either x (f y) (flat_map f ys) h) [
        | inl a ↦ (y, inl refl, a)
        | inr b ↦ let r = flat-in f ys x b in (r.0, inr r.1, r.2)
      ]

  pub in-map : {Y : Type 0} (f : Y → X) (ys : List Y) (x : X) → IsIn x (map f ys) → (y : Y) × IsIn y ys × (f y ≡ x)
  in-map f [] x h = absurd h
  in-map f (y ∷ ys) x (inl e) = (y, inl refl, e)
  in-map f (y ∷ ys) x (inr h) = let r = in-map f ys x h in (r.0, inr r.1, r.2)

  pub map-in : {Y : Type 0} (f : Y → X) (ys : List Y) (y : Y) → IsIn y ys → IsIn (f y) (map f ys)
  map-in f [] y h = absurd h
  map-in f (z ∷ ys) y (inl e) = inl (ap f e)
  map-in f (z ∷ ys) y (inr h) = inr (map-in f ys y h)
