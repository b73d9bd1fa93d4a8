-- What is in a list, in both words for it.
use Rattle.std.proofs.Common.{◌≡◌, ◌∙◌, ℕ, zero, suc, Bool, true, false, cond, List, [], ◌∷◌, map, filter, refl, sym, ap, subst, inl, inr, arith}
use Rattle.std.specs.Prelude.{All}
use Rattle.std.specs.List.{Contains}
use Rattle.class_layout.specs.Placing.{IsIn}
use Rattle.page_tables.specs.declared.address.Addr.{Addr}
use Rattle.live_objects.specs.Live.{addresses}
use Rattle.live_objects.proofs.YoungLemmas.{cons-cases, in-first, in-rest}

pub contains-in : {X : Type 0} (xs : List X) (x : X) → Contains xs x → IsIn x xs
contains-in [] x c = omega (arith, c.1)
contains-in (y ∷ ys) x c = elim (cons-cases y ys x c) [ inl same ↦ inl same | inr later ↦ inr (contains-in ys x later) ]

pub in-contains : {X : Type 0} (xs : List X) (x : X) → IsIn x xs → Contains xs x
in-contains [] x there = absurd there
in-contains (y ∷ ys) x (inl same) = subst (Contains (y ∷ ys)) same (in-first y ys)
in-contains (y ∷ ys) x (inr later) = in-rest y ys x (in-contains ys x later)

-- what holds of each element holds at each index
pub all-from : {X : Type 0} (P : X → Type 0) (xs : List X) → ((x : X) → IsIn x xs → P x) → All P xs
all-from P [] each k d below = absurd (omega (arith, below))
all-from P (x ∷ xs) each zero d below = each x (inl refl)
all-from P (x ∷ xs) each (suc k) d below = all-from P xs (λ y there. each y (inr there)) k d (omega (arith, below))

-- LISTS THAT ARE MAPPED AND FILTERED

pub map-same : {X Y : Type 0} (f g : X → Y) (xs : List X) → ((x : X) → IsIn x xs → f x ≡ g x) → map f xs ≡ map g xs
map-same f g [] same = refl
map-same f g (x ∷ xs) same = ap (λ y. y ∷ map f xs) (same x (inl refl)) ∙ ap (λ ys. g x ∷ ys) (map-same f g xs (λ y there. same y (inr there)))

pub map-twice : {X Y Z : Type 0} (f : Y → Z) (g : X → Y) (xs : List X) → map f (map g xs) ≡ map (λ x. f (g x)) xs
map-twice f g [] = refl
map-twice f g (x ∷ xs) = ap (λ ys. f (g x) ∷ ys) (map-twice f g xs)

-- a filter passes a map and another filter
pub filter-swap : {X : Type 0} (p q : X → Bool) (f : X → X) → ((x : X) → p (f x) ≡ p x) → (xs : List X) → filter p (map f (filter q xs)) ≡ map f (filter q (filter p xs))
filter-swap p q f same [] = refl
filter-swap {X} p q f same (x ∷ xs) = by (p x) refl (q x) refl (filter-swap p q f same xs)
  where
    by : (b : Bool) → p x ≡ b → (c : Bool) → q x ≡ c → filter p (map f (filter q xs)) ≡ map f (filter q (filter p xs))
        → filter p (map f (cond c (x ∷ filter q xs) (filter q xs))) ≡ map f (filter q (cond b (x ∷ filter p xs) (filter p xs)))
    by false is false e rest = rest
    by true is false e rest = rest ∙ sym (ap (λ d. map f (cond d (x ∷ filter q (filter p xs)) (filter q (filter p xs)))) e)
    by true is true e rest =
        ap (λ d. cond d (f x ∷ filter p (map f (filter q xs))) (filter p (map f (filter q xs)))) (same x ∙ is) ∙ ap (λ ys. f x ∷ ys) rest
        ∙ sym (ap (λ d. map f (cond d (x ∷ filter q (filter p xs)) (filter q (filter p xs)))) e)
    by false is true e rest = ap (λ d. cond d (f x ∷ filter p (map f (filter q xs))) (filter p (map f (filter q xs)))) (same x ∙ is) ∙ rest

pub same-addresses : (xs ys : List Addr) → addresses xs ≡ addresses ys → xs ≡ ys
same-addresses [] [] same = refl
same-addresses [] (y ∷ ys) same = cc
same-addresses (x ∷ xs) [] same = cc
same-addresses (x ∷ xs) (y ∷ ys) same =
    let head : x.0 ≡ y.0 = cc in
    let tail : addresses xs ≡ addresses ys = cc in
    ap (λ (n : ℕ). let a : Addr = record { 0 = n } in a ∷ xs) head ∙ ap (λ zs. y ∷ zs) (same-addresses xs ys tail)
