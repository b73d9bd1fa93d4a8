-- What is made of each class by its number, and then of the class of arrays of references: each stands once.
use Rattle.std.proofs.Common.{◌≡◌, ℕ, zero, suc, ◌+◌, ◌<◌, ◌⊎◌, Bool, true, false, List, [], ◌∷◌, ◌++◌, Some, length, filter, nat_eq, slice_get, refl, sym, ap, ◌∙◌, inl, inr, arith}
use Rattle.std.proofs.lemmas.Bool.{eq-eqb, ne_eqb}
use Rattle.std.proofs.lemmas.List.Elements.{filter-append}
use Rattle.class_layout.specs.ClassList.{Class}
use Rattle.class_layout.specs.Placing.{IsIn}
use Rattle.dump_shows.specs.Shows.{array_address, class_address}
use Rattle.dump_shows.proofs.ListParts.{filter-no, filter-yes, in-either}

module _ {X : Type 0} (key : X → ℕ) (make : ℕ → Class → X) (key-is : (k : ℕ) (c : Class) → key (make k c) ≡ class_address k) where
  abbrev pub made : ℕ → List Class → List X
  made k [] = []
  made k (c ∷ cs) = make k c ∷ made (k + 1) cs

  pub length-made : (k : ℕ) (cs : List Class) → length (made k cs) ≡ length cs
  length-made k [] = refl
  length-made k (c ∷ cs) = ap suc (length-made (k + 1) cs)

  abbrev pub has_key : ℕ → X → Bool
  has_key id x = nat_eq (key x) id

  not-key : (id k : ℕ) (c : Class) → (class_address k ≡ id → ⊥) → has_key id (make k c) ≡ false
  not-key id k c ne = ap (λ n. nat_eq n id) (key-is k c) ∙ ne_eqb (class_address k) id ne

  past : (k from : ℕ) (cs : List Class) → k < from → filter (has_key (class_address k)) (made from cs) ≡ []
  past k from [] h = refl
  past k from (c ∷ cs) h =
      filter-no (has_key (class_address k)) (make from c) (made (from + 1) cs) (not-key (class_address k) from c (λ e. absurd (omega arith)))
      ∙ past k (from + 1) cs (omega arith)

  -- an identifier that is none of a class's
  none : (id from : ℕ) (cs : List Class) → ((k : ℕ) → class_address k ≡ id → ⊥) → filter (has_key id) (made from cs) ≡ []
  none id from [] ne = refl
  none id from (c ∷ cs) ne = filter-no (has_key id) (make from c) (made (from + 1) cs) (not-key id from c (ne from)) ∙ none id (from + 1) cs ne

  one : (cs : List Class) (from j k : ℕ) (c : Class) → slice_get cs j ≡ Some c → k ≡ from + j → filter (has_key (class_address k)) (made from cs) ≡ make k c ∷ []
  one [] from j k c h e = absurd (cc)
  one (d ∷ cs) from zero k c h e =
      let same : d ≡ c = cc in
      let number : from ≡ k = omega arith in
      let yes' : has_key (class_address k) (make from d) ≡ true = ap (λ n. nat_eq n (class_address k)) (key-is from d) ∙ eq-eqb (class_address from) (class_address k) (ap class_address number) in
      filter-yes (has_key (class_address k)) (make from d) (made (from + 1) cs) yes' ∙ ap (λ l. make from d ∷ l) (past k (from + 1) cs (omega arith))
      ∙ ap (λ n. make n d ∷ []) number ∙ ap (λ (x : Class). make k x ∷ []) same
  one (d ∷ cs) from (suc j) k c h e =
      filter-no (has_key (class_address k)) (make from d) (made (from + 1) cs) (not-key (class_address k) from d (λ z. absurd (omega arith)))
      ∙ one cs (from + 1) j k c h (omega arith)

  in-made : (cs : List Class) (from : ℕ) (x : X) → IsIn x (made from cs) → (k : ℕ) × (k < from + length cs) × (key x ≡ class_address k)
  in-made [] from x there = absurd there
  in-made (c ∷ cs) from x (inl e) = (from, omega arith, ap key (sym e) ∙ key-is from c)
  in-made (c ∷ cs) from x (inr there) = let r = in-made cs (from + 1) x there in (r.0, omega (arith, r.1), r.2)

  module _ (cs : List Class) (last : X) (last-is : key last ≡ array_address) where
    abbrev pub all_made : List X
    all_made = made 0 cs ++ last ∷ []

    pub one-class : (k : ℕ) (c : Class) → slice_get cs k ≡ Some c → filter (has_key (class_address k)) all_made ≡ make k c ∷ []
    one-class k c h =
        let no' : has_key (class_address k) last ≡ false = ap (λ n. nat_eq n (class_address k)) last-is ∙ ne_eqb array_address (class_address k) (λ e. absurd (omega arith)) in
        filter-append (has_key (class_address k)) (made 0 cs) (last ∷ [])
        ∙ ap (λ l. filter (has_key (class_address k)) (made 0 cs) ++ l) (filter-no (has_key (class_address k)) last [] no')
        ∙ ap (λ l. l ++ []) (one cs 0 k k c h (omega arith))

    pub one-array : filter (has_key array_address) all_made ≡ last ∷ []
    one-array =
        let yes' : has_key array_address last ≡ true = ap (λ n. nat_eq n array_address) last-is ∙ eq-eqb array_address array_address refl in
        filter-append (has_key array_address) (made 0 cs) (last ∷ [])
        ∙ ap (λ l. filter (has_key array_address) (made 0 cs) ++ l) (filter-yes (has_key array_address) last [] yes')
        ∙ ap (λ l. l ++ last ∷ []) (none array_address 0 cs (λ k e. absurd (omega arith)))

    pub no-null : filter (has_key 0) all_made ≡ []
    no-null =
        let no' : has_key 0 last ≡ false = ap (λ n. nat_eq n 0) last-is ∙ ne_eqb array_address 0 (λ e. absurd (omega arith)) in
        filter-append (has_key 0) (made 0 cs) (last ∷ [])
        ∙ ap (λ l. filter (has_key 0) (made 0 cs) ++ l) (filter-no (has_key 0) last [] no')
        ∙ ap (λ l. l ++ []) (none 0 0 cs (λ k e. absurd (omega arith)))

    pub only-classes : (x : X) → IsIn x all_made → (key x ≡ array_address) ⊎ ((k : ℕ) × (k < length cs) × (key x ≡ class_address k))
    only-classes x there =
        elim (in-either x (made 0 cs) (last ∷ []) there) [
          | inl a ↦ let r = in-made cs 0 x a in inr (r.0, omega (arith, r.1), r.2)
          | inr b ↦ inl (elim b [ inl e ↦ ap key (sym e) ∙ last-is | inr no' ↦ absurd no' ])
        ]
