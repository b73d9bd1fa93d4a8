-- Names and values, value by value.
use Rattle.std.proofs.Common.{◌≡◌, ◌≢◌, ℕ, ◌+◌, ◌<◌, Bool, true, false, cond, nat_eq, List, [], ◌∷◌, ◌++◌, length, get_or, drop, refl, ap, sym, ◌∙◌}
use Rattle.std.specs.Prelude.{is_some, position}
use Rattle.std.specs.List.{flat_map}
use Rattle.std.proofs.lemmas.Bool.{ne_eqb}
use Rattle.std.proofs.lemmas.List.{drop_more}
use Rattle.hprof_convert.specs.Names.{with_name, with_names}

pub with_names-append : (names a b : List ℕ) → with_names names (a ++ b) ≡ with_names (with_names names a) b
with_names-append names [] b = refl
with_names-append names (id ∷ a) b = with_names-append (with_name names id) a b

-- an identifier that is 0, one that has a name, and a new one
pub name-zero : (names : List ℕ) (id : ℕ) → id ≡ 0 → names ≡ with_name names id
name-zero names id zero = ap (with_name names) (sym zero)

pub name-known : (names : List ℕ) (id : ℕ) → is_some (position (nat_eq id) names) ≡ true → names ≡ with_name names id
name-known names id known = both (nat_eq id 0) ∙ sym (ap (λ b. cond (nat_eq id 0) names (cond b names (names ++ id ∷ []))) known)
  where
    both : (b : Bool) → names ≡ cond b names names
    both true = refl
    both false = refl

pub name-new : (names : List ℕ) (id : ℕ) → id ≢ 0 → is_some (position (nat_eq id) names) ≡ false → names ++ id ∷ [] ≡ with_name names id
name-new names id some new =
    sym (ap (λ b. cond b names (cond (is_some (position (nat_eq id) names)) names (names ++ id ∷ []))) (ne_eqb id 0 some)
    ∙ ap (λ b. cond b names (names ++ id ∷ [])) new)

-- two lists of identifiers are named one after another, or three
pub two-named : (names names' a b : List ℕ) → names' ≡ with_names names a → with_names names' b ≡ with_names names (a ++ b)
two-named names names' a b is = ap (λ l. with_names l b) is ∙ sym (with_names-append names a b)

pub three-named : (names names' names'' a b c : List ℕ) → names' ≡ with_names names a → names'' ≡ with_names names' b → with_names names'' c ≡ with_names names (a ++ (b ++ c))
three-named names names' names'' a b c is also = two-named names' names'' b c also ∙ two-named names names' a (b ++ c) is

-- the identifiers of one more element are named
pub each-named : {X : Type 0} (f : X → List ℕ) (xs : List X) (i : ℕ) (d : X) (names names' : List ℕ) → i < length xs → names' ≡ with_names names (f (get_or xs i d))
    → with_names names' (flat_map f (drop (i + 1) xs)) ≡ with_names names (flat_map f (drop i xs))
each-named {X} f xs i d names names' within is =
    ap (λ l. with_names l (flat_map f (drop (i + 1) xs))) is
    ∙ (sym (with_names-append names (f (get_or xs i d)) (flat_map f (drop (i + 1) xs)))
    ∙ ap (λ (l : List X). with_names names (flat_map f l)) (sym (drop_more xs i d within)))
