-- Lists that are picked by numbers.
use Rattle.std.proofs.Common.{◌≡◌, ℕ, ◌+◌, ◌<◌, ◌≤◌, Bool, true, false, cond, ◌||◌, inl, inr, List, [], ◌∷◌, ◌++◌, map, filter, nat_eq, refl, ap, ◌∙◌, arith, append-nil}
use Rattle.std.specs.List.{All}
use Rattle.std.proofs.lemmas.Bool.{or_cases, or_from, or_left, or_right, eq-eqb, ne_eqb}
use Rattle.std.proofs.lemmas.List.Elements.{All-head, All-tail, All-weaker, filter-append}
use Rattle.std.proofs.lemmas.List.Folds.{list_any-append}
use Rattle.heap_graph.specs.Reach.{is_among}

-- a number that none of a list is
not_among : (ns : List ℕ) (n : ℕ) → All (λ m. n ≡ m → ⊥) ns → is_among ns n ≡ false
not_among [] n h = refl
not_among (m ∷ ns) n h = or_from (nat_eq n m) (is_among ns n) (ne_eqb n m (All-head (λ m. n ≡ m → ⊥) m ns h)) (not_among ns n (All-tail (λ m. n ≡ m → ⊥) m ns h))

-- a number above all, and one below all
pub not_among_below : (ns : List ℕ) (n : ℕ) → All (λ m. m < n) ns → is_among ns n ≡ false
not_among_below ns n h = not_among ns n (All-weaker (λ m. m < n) (λ m. n ≡ m → ⊥) (λ m lt e. omega arith) ns h)

pub not_among_above : (ns : List ℕ) (n : ℕ) → All (λ m. n + 1 ≤ m) ns → is_among ns n ≡ false
not_among_above ns n h = not_among ns n (All-weaker (λ m. n + 1 ≤ m) (λ m. n ≡ m → ⊥) (λ m le e. omega arith) ns h)

-- the first and the last number of a list are among its numbers
pub among-head : (n : ℕ) (ns : List ℕ) → is_among (n ∷ ns) n ≡ true
among-head n ns = or_left (nat_eq n n) (is_among ns n) (eq-eqb n n refl)

among-last : (ns : List ℕ) (n : ℕ) → is_among (ns ++ n ∷ []) n ≡ true
among-last ns n = list_any-append (nat_eq n) ns (n ∷ []) ∙ or_right (is_among ns n) (is_among (n ∷ []) n) (among-head n [])

-- another number is among them with one more exactly if it was before
among-cons : (m : ℕ) (ns : List ℕ) (k : ℕ) → (k ≡ m → ⊥) → is_among (m ∷ ns) k ≡ is_among ns k
among-cons m ns k other = ap (λ b. b || is_among ns k) (ne_eqb k m other)

among-push : (ns : List ℕ) (m k : ℕ) → (k ≡ m → ⊥) → is_among (ns ++ m ∷ []) k ≡ is_among ns k
among-push ns m k other = list_any-append (nat_eq k) ns (m ∷ []) ∙ ap (λ b. is_among ns k || b) (among-cons m [] k other) ∙ or_none (is_among ns k)
  where
    or_none : (b : Bool) → (b || false) ≡ b
    or_none true = refl
    or_none false = refl

module _ {X : Type 0} where
  -- two tests that agree on a list pick the same of it
  filter_agree_on : (p q : X → Bool) (xs : List X) → All (λ x. p x ≡ q x) xs → filter p xs ≡ filter q xs
  filter_agree_on p q [] h = refl
  filter_agree_on p q (x ∷ xs) h =
      ap (λ b. cond b (x ∷ filter p xs) (filter p xs)) (All-head (λ x. p x ≡ q x) x xs h)
      ∙ ap (λ ys. cond (q x) (x ∷ ys) ys) (filter_agree_on p q xs (All-tail (λ x. p x ≡ q x) x xs h))

  module _ (key : X → ℕ) where
    -- the elements whose numbers are among these
    abbrev pub picked : List ℕ → List X → List X
    picked ns xs = filter (λ x. is_among ns (key x)) xs

    -- one more number picks nothing more of a list in which it isn't
    pub picked-cons : (m : ℕ) (ns : List ℕ) (xs : List X) → All (λ x. m + 1 ≤ key x) xs → picked (m ∷ ns) xs ≡ picked ns xs
    picked-cons m ns xs h =
        filter_agree_on (λ x. is_among (m ∷ ns) (key x)) (λ x. is_among ns (key x)) xs
        (All-weaker (λ x. m + 1 ≤ key x) (λ x. is_among (m ∷ ns) (key x) ≡ is_among ns (key x)) (λ x le. among-cons m ns (key x) (λ e. omega arith)) xs h)

    picked-push : (ns : List ℕ) (m : ℕ) (xs : List X) → All (λ x. key x < m) xs → picked (ns ++ m ∷ []) xs ≡ picked ns xs
    picked-push ns m xs h =
        filter_agree_on (λ x. is_among (ns ++ m ∷ []) (key x)) (λ x. is_among ns (key x)) xs
        (All-weaker (λ x. key x < m) (λ x. is_among (ns ++ m ∷ []) (key x) ≡ is_among ns (key x)) (λ x lt. among-push ns m (key x) (λ e. omega arith)) xs h)

    -- one more element, whose number is picked too
    pub picked_own : (ns : List ℕ) (xs : List X) (x : X) → All (λ y. key y < key x) xs → picked (ns ++ key x ∷ []) (xs ++ x ∷ []) ≡ picked ns xs ++ x ∷ []
    picked_own ns xs x h =
        let more = ns ++ key x ∷ [] in
        filter-append (λ y. is_among more (key y)) xs (x ∷ [])
        ∙ ap (λ ys. ys ++ picked more (x ∷ [])) (picked-push ns (key x) xs h)
        ∙ ap (λ b. picked ns xs ++ cond b (x ∷ []) []) (among-last ns (key x))

    -- one more element, whose number isn't picked
    pub picked_other : (ns : List ℕ) (xs : List X) (x : X) → is_among ns (key x) ≡ false → picked ns (xs ++ x ∷ []) ≡ picked ns xs
    picked_other ns xs x h =
        filter-append (λ y. is_among ns (key y)) xs (x ∷ [])
        ∙ ap (λ b. picked ns xs ++ cond b (x ∷ []) []) h
        ∙ append-nil (picked ns xs)

    -- a number of what a filter keeps is one of the list
    pub among_filtered : (p : X → Bool) (xs : List X) (k : ℕ) → is_among (map key (filter p xs)) k ≡ true → is_among (map key xs) k ≡ true
    among_filtered p [] k h = h
    among_filtered p (x ∷ xs) k h = by (p x) h (among_filtered p xs k)
      where
        by : (b : Bool) → is_among (map key (cond b (x ∷ filter p xs) (filter p xs))) k ≡ true → (is_among (map key (filter p xs)) k ≡ true → is_among (map key xs) k ≡ true)
            → is_among (map key (x ∷ xs)) k ≡ true
        by true h rest =
            elim (or_cases (nat_eq k (key x)) (is_among (map key (filter p xs)) k) h) [
              | inl here ↦ or_left (nat_eq k (key x)) (is_among (map key xs) k) here
              | inr later ↦ or_right (nat_eq k (key x)) (is_among (map key xs) k) (rest later)
            ]
        by false h rest = or_right (nat_eq k (key x)) (is_among (map key xs) k) (rest h)
