-- What two calls of the outside give and gain together.
use Rattle.std.proofs.Common.{◌≡◌, inl, inr, ℕ, ◌≤◌, List, [], ◌++◌, Option, None, Some, refl, sym, ◌∙◌, ap, arith, append_assoc}
use Rattle.std.specs.Option.{option_map}
use Rattle.std.proofs.lemmas.Bool.{cases_lt}
use Rattle.std.proofs.lemmas.List.{append-nil}
use Rattle.ah_outside.specs.Outside.{FaultRose, Gave, Gained}

-- bytes and then more bytes
pub Gave-more : (old : Option (List ℕ)) (xs : List ℕ) (mid : Option (List ℕ)) (ys : List ℕ) (new : Option (List ℕ)) → Gave old xs mid → Gave mid ys new → Gave old (xs ++ ys) new
Gave-more old xs mid ys None a b = a ∙ ap (option_map (λ rest. xs ++ rest)) b
Gave-more old xs mid ys (Some rest) a b =
    let e : (xs ++ ys) ++ rest ≡ xs ++ (ys ++ rest) = append_assoc xs ys rest in
    a ∙ (ap (option_map (λ rest. xs ++ rest)) b ∙ ap Some (sym e))

pub Gained-more : (old : Option (List ℕ)) (xs : List ℕ) (mid : Option (List ℕ)) (ys : List ℕ) (new : Option (List ℕ)) → Gained old xs mid → Gained mid ys new → Gained old (xs ++ ys) new
Gained-more None xs mid ys new a b = b ∙ ap (option_map (λ held. held ++ ys)) a
Gained-more (Some held) xs mid ys new a b =
    let e : (held ++ xs) ++ ys ≡ held ++ (xs ++ ys) = append_assoc held xs ys in
    b ∙ (ap (option_map (λ held. held ++ ys)) a ∙ ap Some e)

-- nothing was given
pub Gave-none : (old : Option (List ℕ)) → Gave old [] old
Gave-none None = refl
Gave-none (Some rest) = refl

-- and nothing was gained
pub Gained-none : (o : Option (List ℕ)) → Gained o [] o
Gained-none None = refl
Gained-none (Some held) = ap Some (sym (append-nil held))

-- a fault in a later part of a call is one of the call
pub FaultRose-earlier : (before mid now : ℕ) → before ≤ mid → mid ≤ now → FaultRose mid now → FaultRose before now
FaultRose-earlier before mid now a b (inl rose) = inl (omega arith)
FaultRose-earlier before mid now a b (inr full) = elim (cases_lt before mid) [ inl lt ↦ inl (omega arith) | inr ge ↦ inr (omega arith) ]
