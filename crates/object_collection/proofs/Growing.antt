-- Lists that grow by numbers that are new to them.
use Rattle.std.proofs.Common.{◌≡◌, ◌⊎◌, ℕ, List, [], ◌∷◌, ◌++◌, nat_eq, refl, sym, subst, inl, inr}
use Rattle.std.specs.List.{Contains, IsDistinct, list_any}
use Rattle.std.proofs.lemmas.Bool.{cases_Bool, eqb-true}
use Rattle.std.proofs.lemmas.Cmp.{nat_eq_equiv}
use Rattle.std.proofs.lemmas.List.Elements.{Contains-append_left, Contains-push, Contains-push_cases}
use Rattle.std.proofs.lemmas.Map.Keys.{IsDistinct-push}
use Rattle.std.proofs.lemmas.Map.Views.{Contains-from_any}
use Rattle.object_collection.specs.Weaks.{Adds}

pub none-twice : IsDistinct nat_eq []
unfolding IsDistinct
none-twice = tt

-- nothing is added
pub adds-none : (these : ℕ → Type 0) (xs : List ℕ) → ((b : ℕ) → these b → ⊥) → Adds these xs xs
adds-none these xs none = record {
  only = λ b. (λ is. inl is, λ is. elim is [ inl was ↦ was | inr more ↦ absurd (none b more) ]);
  once = λ distinct new. distinct;
}

-- the same numbers in other words
pub adds-same : (these those : ℕ → Type 0) (old new : List ℕ) → ((b : ℕ) → these b → those b) → ((b : ℕ) → those b → these b) → Adds these old new → Adds those old new
adds-same these those old new there back adds = record {
  only = λ b. (
    λ is. elim ((adds.only b).0 is) [ inl was ↦ inl was | inr more ↦ inr (there b more) ],
    λ is. elim is [ inl was ↦ (adds.only b).1 (inl was) | inr more ↦ (adds.only b).1 (inr (back b more)) ],
  );
  once = λ distinct fresh. adds.once distinct (λ b more was. fresh b (there b more) was);
}

-- some, and then others
pub adds-both : (these those all : ℕ → Type 0) (old mid new : List ℕ) → ((b : ℕ) → all b → these b ⊎ those b) → ((b : ℕ) → these b → all b) → ((b : ℕ) → those b → all b) → ((b : ℕ) → these b → those b → ⊥)
    → Adds these old mid → Adds those mid new → Adds all old new
adds-both these those all old mid new split first second apart one other = record {
  only = λ b. (
    λ is. elim ((other.only b).0 is) [ inl was ↦ elim ((one.only b).0 was) [ inl before ↦ inl before | inr more ↦ inr (first b more) ] | inr more ↦ inr (second b more) ],
    λ is. elim is [
      | inl was ↦ (other.only b).1 (inl ((one.only b).1 (inl was)))
      | inr more ↦ elim (split b more) [ inl it ↦ (other.only b).1 (inl ((one.only b).1 (inr it))) | inr it ↦ (other.only b).1 (inr it) ]
    ],
  );
  once = λ distinct fresh.
      other.once (one.once distinct (λ b more was. fresh b (first b more) was))
      (λ b more was. elim ((one.only b).0 was) [ inl before ↦ fresh b (second b more) before | inr it ↦ apart b it more ]);
}

-- one number
pub adds-one : (xs : List ℕ) (x : ℕ) → Adds (λ b. x ≡ b) xs (xs ++ x ∷ [])
adds-one xs x = record {
  only = λ b. (
    Contains-push_cases xs x b,
    λ is. elim is [ inl was ↦ Contains-append_left xs (x ∷ []) b was | inr same ↦ subst (Contains (xs ++ x ∷ [])) same (Contains-push xs x) ],
  );
  once = λ distinct fresh. IsDistinct-push nat_eq_equiv xs x distinct (elim (cases_Bool (list_any (nat_eq x) xs)) [
    | inl found ↦ absurd (fresh x refl (Contains-from_any (λ a b same. eqb-true a b same) x xs found))
    | inr none ↦ none
  ]);
}

-- one number more
pub adds-more : (these all : ℕ → Type 0) (old mid : List ℕ) (x : ℕ) → ((b : ℕ) → all b → these b ⊎ (x ≡ b)) → ((b : ℕ) → these b → all b) → all x → (these x → ⊥) → Adds these old mid
    → Adds all old (mid ++ x ∷ [])
adds-more these all old mid x split first here fresh adds =
    adds-both these (λ b. x ≡ b) all old mid (mid ++ x ∷ []) split first (λ b same. subst all same here) (λ b it same. fresh (subst these (sym same) it)) adds (adds-one mid x)
